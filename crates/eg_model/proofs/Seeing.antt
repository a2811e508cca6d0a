-- Level 2 sees each true excess where one track of each pair is sound.
use Rattle.std.proofs.Common.{◌≡◌, ℕ, Bool, ◌+◌, ◌-◌, ◌≤◌, ◌<◌, true, false, List, [], ◌∷◌, refl, sym, subst, ◌∙◌, arith, inl, inr, ◌⊎◌, min, max}
use Rattle.std.proofs.lemmas.Bool.Decides.{nat_tests}
use Rattle.std.specs.Prelude.{if◌then◌else◌, ◌==◌, slice_index}
use Rattle.std.specs.Int.Bits.{xor_zero_r}
use Rattle.std.proofs.lemmas.Bool.{cases_Bool, eq-eqb, ltb-true, lt-ltb}
use Rattle.eg_num.specs.Arithmetic.{estimate}
use Rattle.eg_num.specs.Drive.{DriveRow}
use Rattle.eg_num.proofs.RisingLemmas.{estimate-rises}
use Rattle.eg_torque.specs.Permit.{permitted, drive_permits}
use Rattle.eg_torque.specs.Ramp.{ramped}
use Rattle.eg_torque.specs.declared.ramp.TheConstants.{NO_RAMP}
use Rattle.eg_torque.specs.Excess.{is_excess}
use Rattle.eg_num.specs.Interpolation.{grid_at}
use Rattle.eg_torque.proofs.PermitLemmas.{grid_at-rises}
use Rattle.eg_sensor.specs.Readings.{used_pedal, checked_raise, has_bit}
use Rattle.eg_sensor.specs.Brake.{gated}
use Rattle.eg_sensor.specs.declared.readings.Readings.{Readings}
use Rattle.eg_values.specs.Calibration.{IsAccepted}
use Rattle.eg_answer.specs.Formulas.{permitted_torque, estimated_torque, excess_number}
use Rattle.eg_answer.specs.declared.modules.TheConstants.{PERMITTED}
use Rattle.eg_sensor.specs.declared.tracks.TheConstants.{LOAD_1, LOAD_2}
use Rattle.eg_fault.specs.Effects.{Effects, readings_under}
use Rattle.eg_model.specs.History.{Setting, Tick, Moment}
use Rattle.eg_model.specs.Signals.{tripped, is_limited, no_signals, last_signals, signal}
use Rattle.eg_model.specs.Detection.{torque_bit}
use Rattle.eg_model.specs.Paths.{both_conduct}
use Rattle.eg_model.specs.Moments.{effective_drive, is_braking, sensed_at, readings_at, demand_at, last_limit, limit_at, moment, moments_of}
use Rattle.eg_model.specs.Premises.{AreProper, IsProper}
use Rattle.eg_model.specs.Seeing.{Runs, IsUndisturbed, SeesExcess}
use Rattle.eg_model.proofs.TickLemmas.{Each, moment-exceeds, fields}
use Rattle.eg_model.proofs.BrakeLemmas.{effective-speed, effective-unpressed}
use Rattle.eg_model.proofs.TripLemmas.{Sees, exceeds}

-- the readings, track by track
abbrev lower_pedal : Readings → ℕ
lower_pedal r = min (slice_index r.pedal 0) (1000 - slice_index r.pedal 1)

abbrev higher_load : Readings → ℕ
higher_load r = max (slice_index r.load 0) (slice_index r.load 1)

abbrev raise_of : Readings → ℕ
raise_of r = checked_raise r.raise r.raise_check

-- what was read errs to the safe side of this drive row and of this torque
pub record ErrsSafely (kt : ℕ) (r : Readings) (drive : DriveRow) (torque : ℕ) : Type 0 where
  pub load : torque ≤ estimate kt (higher_load r)
  pub pedal : lower_pedal r ≤ drive.pedal
  pub speed : (slice_index r.speed 0 ≡ drive.speed) ⊎ (slice_index r.speed 1 ≡ drive.speed)
  pub raise : raise_of r ≤ drive.raise

at_most : (a b : ℕ) → (if a + (65535 - b) == 65535 then a else 0) ≤ b
at_most a b = grind (arith, nat_tests)

lower_first : (a b p : ℕ) → a ≡ p → min a b ≤ p
lower_first a b p h = omega arith

lower_second : (a b p : ℕ) → b ≡ 1000 - p → min a (1000 - b) ≤ p
lower_second a b p h = omega arith

-- one sound track of each pair is enough for what was sensed
senses_safely : (s : Setting) (x : Tick) (past : List Moment) → SeesExcess x.effects → IsProper s (both_conduct x.effects past) x.entry →
    ErrsSafely s.cal.rules.kt (sensed_at x.effects x.entry) x.entry.drive x.entry.shown.torque
unfolding sensed_at readings_under
senses_safely s x past sees proper = record {
  load = elim sees.load [
    | inl sound ↦ (let a = sound x.entry.shown.load_1 in let b = proper.engine.load_1 in let c =
        estimate-rises s.cal.rules.kt x.entry.shown.load_1
        (max (x.effects.track LOAD_1 x.entry.shown.load_1) (x.effects.track LOAD_2 x.entry.shown.load_2))
        (omega arith) in omega arith)
    | inr sound ↦ (let a = sound x.entry.shown.load_2 in let b = proper.engine.load_2 in let c =
        estimate-rises s.cal.rules.kt x.entry.shown.load_2
        (max (x.effects.track LOAD_1 x.entry.shown.load_1) (x.effects.track LOAD_2 x.entry.shown.load_2))
        (omega arith) in omega arith)
  ];
  pedal = elim sees.pedal [
    | inl sound ↦ lower_first _ _ _ (sound x.entry.drive.pedal)
    | inr sound ↦ lower_second _ _ _ (sound (1000 - x.entry.drive.pedal))
  ];
  speed = elim sees.speed [
    | inl sound ↦ inl (sound x.entry.drive.speed)
    | inr sound ↦ inr (sound x.entry.drive.speed)
  ];
  raise = at_most (x.effects.raise x.entry.drive.raise) x.entry.drive.raise;
}

-- gated readings err to the safe side of each row of the same speed
gates_safely : (kt torque : ℕ) (r : Readings) (drive other : DriveRow) → other.speed ≡ drive.speed →
    ErrsSafely kt r drive torque → ErrsSafely kt (gated r) other torque
gates_safely kt torque r drive other same safe = record {
  load = safe.load;
  pedal = (let low : 0 ≤ other.pedal = omega arith in low);
  speed = rw same safe.speed;
  raise = (let low : 0 ≤ other.raise = omega arith in low);
}

-- a brake that is pressed is seen, and one that is seen falsely lowers what is read
pub errs_safely : (s : Setting) (x : Tick) (past : List Moment) → SeesExcess x.effects → IsProper s (both_conduct x.effects past) x.entry →
    ErrsSafely s.cal.rules.kt (readings_at s.cal x.effects x.entry) (effective_drive s.cal x.entry.drive) x.entry.shown.torque
unfolding readings_at
errs_safely s x past sees proper = elim (cases_Bool (is_braking s.cal x.effects drive)) [
  | inl is ↦ rw is (gates_safely s.cal.rules.kt x.entry.shown.torque _ drive (effective_drive s.cal drive) (effective-speed s.cal drive) safe)
  | inr is ↦ rw is (subst (λ row. ErrsSafely s.cal.rules.kt (sensed_at x.effects x.entry) row x.entry.shown.torque)
      (sym (effective-unpressed s.cal x.effects drive sees.brake is)) safe)
]
  where
    drive : DriveRow
    drive = x.entry.drive

    safe : ErrsSafely s.cal.rules.kt (sensed_at x.effects x.entry) drive x.entry.shown.torque
    safe = senses_safely s x past sees proper

-- a signal of a module that runs before any trip is its value
pub signal_value : (x : Effects) (past : List Moment) (i before value : ℕ) → Runs x → IsUndisturbed x →
    tripped past ≡ false → signal x past i before value ≡ value
unfolding signal
signal_value x past i before value r u h = rw (r.unflipped, r.ran i, h, u i) (xor_zero_r value)

-- and after a trip it is 0
pub signal_tripped : (x : Effects) (past : List Moment) (i before value : ℕ) → Runs x → tripped past ≡ true →
    signal x past i before value ≡ 0
unfolding signal
signal_tripped x past i before value r h = rw (r.unflipped, r.ran i, h) refl

-- ---- the ramp ----

-- level 2's permitted torque lies at most as high as the true one after these ticks, or it doesn't matter, since there
-- is no ramp
abbrev pub IsLow : Setting → List Moment → Type 0
IsLow s past = (s.cal.rules.fall ≡ NO_RAMP) ⊎ ((last_signals past).permitted ≤ last_limit past)

-- of two numbers down the ramp the one that stood at most as high, and whose demand is at most as high, is the lower
ramped-below : (fall a b c d : ℕ) → (fall ≡ NO_RAMP) ⊎ (a ≤ b) → c ≤ d → ramped fall a c ≤ ramped fall b d
unfolding ramped
ramped-below fall a b c d (inl none) less = rw (eq-eqb fall NO_RAMP none) less
ramped-below fall a b c d (inr low) less = go (fall == NO_RAMP)
  where
    go : (none : Bool) → (if none then c else max c (a - fall)) ≤ (if none then d else max d (b - fall))
    go true = less
    go false = omega arith

module _ (s : Setting) (x : Tick) (past : List Moment) (runs : Runs x.effects)
    (calm : IsUndisturbed x.effects) (untripped : tripped past ≡ false) where
  abbrev pub m : Moment
  m = moment s x.effects x.entry past

  abbrev reads : Readings
  reads = readings_at s.cal x.effects x.entry

  pub actual-is : m.signals.actual ≡ estimate s.cal.rules.kt (higher_load (readings_at s.cal x.effects x.entry))
  unfolding estimated_torque
  actual-is = (fields s x.effects x.entry past).actual ∙ signal_value x.effects past 3 _ _ runs calm untripped

  pub permitted-is : m.signals.permitted
      ≡ ramped s.cal.rules.fall (last_signals past).permitted
      (permitted_torque s.cal.rules (readings_at s.cal x.effects x.entry) m.signals.pedal)
  permitted-is = (fields s x.effects x.entry past).permitted
      ∙ signal_value x.effects past 2 _ _ runs calm untripped

  pub pedal-is : m.signals.pedal ≡ used_pedal (readings_at s.cal x.effects x.entry).pedal (is_limited past)
  pedal-is = (fields s x.effects x.entry past).pedal
      ∙ signal_value x.effects past 1 _ _ runs calm untripped

  pub excess-is : m.signals.excess ≡ excess_number s.cal.rules m.signals.permitted m.signals.actual
  excess-is = (fields s x.effects x.entry past).excess ∙ signal_value x.effects past 4 _ _ runs calm untripped

  pedal-below : m.signals.pedal ≤ lower_pedal reads
  pedal-below = rw pedal-is (grind arith)

  -- the effective drive row
  abbrev effective : DriveRow
  effective = effective_drive s.cal x.entry.drive

  pub permitted-below : IsAccepted s.cal → IsLow s past → ErrsSafely s.cal.rules.kt reads effective x.entry.shown.torque →
      m.signals.permitted ≤ m.limit
  permitted-below accepted low safe =
      rw (permitted-is, limit-is)
      (ramped-below s.cal.rules.fall _ _ _ _ low (below reads safe.pedal safe.speed safe.raise pedal-below))
    where
      limit-is : m.limit ≡ ramped s.cal.rules.fall (last_limit past) (drive_permits s.cal.rules.permit effective)
      limit-is = (fields s x.effects x.entry past).limit ∙ (unfold limit_at demand_at in refl)

      up : (p q v : ℕ) → p ≤ q → grid_at s.cal.rules.permit p v ≤ grid_at s.cal.rules.permit q v
      up = grid_at-rises s.cal.rules.permit accepted.grid accepted.permit

      lower : (a b r p q : ℕ) → r ≤ q → (a ≤ p) ⊎ (b ≤ p) → max (min a b) r ≤ max p q
      lower a b r p q hr hab = omega arith

      below : (r : Readings) → lower_pedal r ≤ effective.pedal →
          (slice_index r.speed 0 ≡ effective.speed) ⊎ (slice_index r.speed 1 ≡ effective.speed) →
          raise_of r ≤ effective.raise → m.signals.pedal ≤ lower_pedal r →
          permitted_torque s.cal.rules r m.signals.pedal ≤ drive_permits s.cal.rules.permit effective
      below r pedal speed raise less = unfold permitted_torque permitted drive_permits in
          lower _ _ _ _ _ raise (at_speed speed)
        where
          at_speed : (slice_index r.speed 0 ≡ effective.speed) ⊎
              (slice_index r.speed 1 ≡ effective.speed) →
              (grid_at s.cal.rules.permit m.signals.pedal
              (slice_index r.speed 0) ≤ grid_at s.cal.rules.permit effective.pedal effective.speed) ⊎
              (grid_at s.cal.rules.permit m.signals.pedal
              (slice_index r.speed 1) ≤ grid_at s.cal.rules.permit effective.pedal effective.speed)
          at_speed (inl same) = inl (rw same (up _ _ _ (omega (arith, less, pedal))))
          at_speed (inr same) = inr (rw same (up _ _ _ (omega (arith, less, pedal))))

  -- true excess shows in the excess word
  pub excess_seen : IsAccepted s.cal → IsLow s past →
      ErrsSafely s.cal.rules.kt (readings_at s.cal x.effects x.entry) (effective_drive s.cal x.entry.drive) x.entry.shown.torque →
      exceeds s m ≡ true → torque_bit m.signals ≡ true
  excess_seen accepted low safe over_now = unfold torque_bit has_bit in rw (excess-is, shows) refl
    where
      over : m.limit + s.cal.rules.threshold < x.entry.shown.torque
      over = ltb-true _ _ (unfold is_excess in sym (moment-exceeds s x.effects x.entry past) ∙ over_now)

      above : m.signals.permitted + s.cal.rules.threshold < m.signals.actual
      above = let a = permitted-below accepted low safe in let b = safe.load in
          rw actual-is (omega (arith, over, a, b))

      shows : excess_number s.cal.rules m.signals.permitted m.signals.actual ≡ 1
      shows = unfold excess_number is_excess in rw (lt-ltb _ _ above) refl

-- where level 2 sees at each tick, its permitted torque lies at most as high as the true one
pub stays_low : (s : Setting) → IsAccepted s.cal → (h : List Tick) → Each (λ x. SeesExcess x.effects) h →
    AreProper s h → (last_signals (moments_of s h)).permitted ≤ last_limit (moments_of s h)
unfolding AreProper Each moments_of last_signals last_limit no_signals
stays_low s accepted [] each proper = omega arith
stays_low s accepted (x ∷ h) each proper = elim (cases_Bool (tripped (moments_of s h))) [
  | inl after ↦ rw ((fields s x.effects x.entry (moments_of s h)).permitted
      ∙ signal_tripped x.effects (moments_of s h) PERMITTED _ _ each.0.runs after) (omega arith)
  | inr before ↦ permitted-below s x (moments_of s h) each.0.runs each.0.undisturbed before accepted
      (inr (stays_low s accepted h each.1 proper.1)) (errs_safely s x (moments_of s h) each.0 proper.0)
]

-- so the torque bit is set at each tick with true excess
pub sees_all : (s : Setting) → IsAccepted s.cal → (h : List Tick) → Each (λ x. SeesExcess x.effects) h →
    AreProper s h → Sees s h
unfolding Sees AreProper Each
sees_all s accepted [] each proper = tt
sees_all s accepted (x ∷ h) each proper = (
  (λ u over. excess_seen s x (moments_of s h) each.0.runs each.0.undisturbed u accepted
      (inr (stays_low s accepted h each.1 proper.1)) (errs_safely s x (moments_of s h) each.0 proper.0) over),
  sees_all s accepted h each.1 proper.1,
)
