-- A tick at which nothing is out of order: what level 2 makes of it before any trip.
use Rattle.std.proofs.Common.{◌≡◌, ℕ, ◌+◌, ◌-◌, ◌≤◌, Bool, true, false, List, [], ◌∷◌, length, refl, sym, ap, ap₂, ◌∙◌, arith, inl, inr, ◌⊎◌, nat_lt, min, max}
use Rattle.std.specs.Prelude.{if◌then◌else◌, ◌==◌, slice_index}
use Rattle.std.proofs.lemmas.Bool.{le-ltb, eq-eqb}
use Rattle.eg_num.specs.Arithmetic.{estimate}
use Rattle.eg_num.specs.Drive.{DriveRow, IsDrive}
use Rattle.eg_num.specs.Interpolation.{grid_at}
use Rattle.eg_torque.specs.Permit.{permitted, drive_permits}
use Rattle.eg_torque.specs.Ramp.{ramped}
use Rattle.eg_torque.specs.declared.ramp.TheConstants.{NO_RAMP}
use Rattle.eg_torque.specs.Excess.{is_excess}
use Rattle.eg_sensor.specs.Readings.{bit, has_bit, used_pedal, sound_readings}
use Rattle.eg_sensor.specs.declared.readings.Readings.{Readings}
use Rattle.eg_answer.specs.Formulas.{permitted_torque, excess_number, disagreeing_pairs}
use Rattle.eg_fault.specs.Effects.{no_effects}
use Rattle.eg_record.specs.Excess.{full_excess}
use Rattle.eg_model.specs.History.{Setting, Entry, Tick, Moment}
use Rattle.eg_model.specs.Signals.{tripped, is_limited, last_signals}
use Rattle.eg_model.specs.Detection.{pedal_bit, plate_bit, load_bit, speed_bit, torque_bit}
use Rattle.eg_model.specs.Paths.{both_conduct}
use Rattle.eg_model.specs.Moments.{effective_drive, readings_at, demand_at, last_limit, limit_at, moment}
use Rattle.eg_model.specs.Rows.{row_of}
use Rattle.eg_model.specs.Premises.{IsProper}
use Rattle.eg_model.specs.Seeing.{Runs, IsUndisturbed}
use Rattle.eg_model.proofs.TickLemmas.{Pair, Pedal, Plate, Load, Speed, bit_of, moment-full_excess, fields}
use Rattle.eg_model.proofs.BrakeLemmas.{effective-speed, effective-within, plain_readings}
use Rattle.eg_model.proofs.Seeing.{signal_value, actual-is, permitted-is, pedal-is, excess-is}

-- a tick at which nothing is out of order
abbrev pub plain : Entry → Tick
plain e = record { effects = no_effects; entry = e }

pub plain_runs : Runs no_effects
unfolding no_effects
plain_runs = record { ran = λ i. refl; unflipped = refl }

pub plain_undisturbed : IsUndisturbed no_effects
unfolding no_effects
plain_undisturbed i = refl

else_of : {A : Type 0} (b : Bool) (y z : A) → b ≡ false → (if b then y else z) ≡ z
else_of b y z e = grind arith

lower_is : (p : ℕ) → p ≤ 1000 → min p (1000 - (1000 - p)) ≡ p
lower_is p l = omega arith

checked_is : (v : ℕ) → v ≤ 10000 → (if v + (65535 - v) == 65535 then v else 0) ≡ v
checked_is v l = rw (eq-eqb (v + (65535 - v)) 65535 (omega arith)) refl

agree : (a b tolerance : ℕ) → a ≡ b → nat_lt tolerance ((a - b) + (b - a)) ≡ false
agree a b tolerance e = le-ltb tolerance ((a - b) + (b - a)) (omega arith)

flag_bit : (b : Bool) → has_bit 1 (bit 1 b) ≡ b
unfolding has_bit
flag_bit true = refl
flag_bit false = refl

-- level 2's permitted torque is the true one after these ticks, or it doesn't matter, since there is no ramp
abbrev pub IsLevel : Setting → List Moment → Type 0
IsLevel s past = (s.cal.rules.fall ≡ NO_RAMP) ⊎ ((last_signals past).permitted ≡ last_limit past)

ramped-same : (fall a b c d : ℕ) → (fall ≡ NO_RAMP) ⊎ (a ≡ b) → c ≡ d → ramped fall a c ≡ ramped fall b d
unfolding ramped
ramped-same fall a b c d (inl none) same = rw (eq-eqb fall NO_RAMP none) same
ramped-same fall a b c d (inr level) same = ap₂ (ramped fall) level same

module _ (s : Setting) (e : Entry) (past : List Moment) (proper : IsProper s (both_conduct no_effects past) e)
    (loads : e.shown.load_2 ≡ e.shown.load_1) (untripped : tripped past ≡ false)
    (unlimited : is_limited past ≡ false) where
  abbrev m : Moment
  m = moment s no_effects e past

  -- the effective drive row, whose numbers are within their limits
  abbrev effective : DriveRow
  effective = effective_drive s.cal e.drive

  within : IsDrive effective
  within = effective-within s.cal e.drive proper.drive

  -- what sound tracks read under it
  abbrev reads : Readings
  reads = sound_readings effective.pedal e.shown.position (e.shown.load_1 ∷ e.shown.load_2 ∷ []) e.drive.speed effective.raise

  pedal-same : m.signals.pedal ≡ effective.pedal
  pedal-same =
      pedal-is s (plain e) past plain_runs plain_undisturbed untripped
      ∙ ap (λ (r : Readings). used_pedal r.pedal (is_limited past)) (plain_readings s.cal e)
      ∙ else_of (is_limited past) 0 _ unlimited ∙ lower_is effective.pedal within.0

  pub allowed-same : IsLevel s past → m.signals.permitted ≡ m.limit
  allowed-same level =
      permitted-is s (plain e) past plain_runs plain_undisturbed untripped
      ∙ ramped-same s.cal.rules.fall _ _ _ _ level
      (ap₂ (permitted_torque s.cal.rules) (plain_readings s.cal e) pedal-same ∙ value) ∙ sym limit-is
    where
      limit-is : m.limit ≡ ramped s.cal.rules.fall (last_limit past) (drive_permits s.cal.rules.permit effective)
      limit-is = (fields s no_effects e past).limit ∙ (unfold limit_at demand_at in refl)

      same : (a b r q : ℕ) → a ≡ b → r ≡ q → max (min a a) r ≡ max b q
      same a b r q e f = omega arith

      value : permitted_torque s.cal.rules reads effective.pedal ≡ drive_permits s.cal.rules.permit effective
      value = unfold permitted_torque permitted drive_permits in
          same _ _ _ _ (ap (grid_at s.cal.rules.permit effective.pedal) (sym (effective-speed s.cal e.drive)))
          (checked_is effective.raise within.2)

  actual-same : m.signals.actual ≡ estimate s.cal.rules.kt e.shown.load_1
  actual-same =
      actual-is s (plain e) past plain_runs plain_undisturbed untripped
      ∙ ap (λ (r : Readings). estimate s.cal.rules.kt (max (slice_index r.load 0) (slice_index r.load 1)))
      (plain_readings s.cal e)
      ∙ ap (estimate s.cal.rules.kt) (higher e.shown.load_1 e.shown.load_2 loads)
    where
      higher : (a b : ℕ) → b ≡ a → max a b ≡ a
      higher a b f = omega arith

  flag : torque_bit m.signals ≡ is_excess m.signals.actual m.signals.permitted s.cal.rules.threshold
  unfolding torque_bit excess_number
  flag = ap (has_bit 1) (excess-is s (plain e) past plain_runs plain_undisturbed untripped)
      ∙ flag_bit (is_excess m.signals.actual m.signals.permitted s.cal.rules.threshold)

  -- the torque bit is the full-efficiency excess
  pub torque_bit-is : IsLevel s past →
      torque_bit m.signals ≡ full_excess s.cal.rules.kt s.cal.rules.threshold (row_of (length past) m)
  torque_bit-is level =
      flag
      ∙ ap₂ (λ a p. is_excess a p s.cal.rules.threshold) actual-same (allowed-same level)
      ∙ sym (moment-full_excess s no_effects e past (length past))

  no_pairs : m.signals.pairs ≡ 0
  no_pairs = (fields s no_effects e past).pairs
      ∙ signal_value no_effects past 5 (last_signals past).pairs
      (disagreeing_pairs s.cal.rules (readings_at s.cal no_effects e)) plain_runs plain_undisturbed untripped
      ∙ ap (disagreeing_pairs s.cal.rules) (plain_readings s.cal e) ∙ none
    where
      none : disagreeing_pairs s.cal.rules reads ≡ 0
      none = unfold disagreeing_pairs in
          rw (
            agree effective.pedal (1000 - (1000 - effective.pedal)) (slice_index s.cal.rules.tolerances 0)
                (falls effective.pedal within.0),
            agree e.shown.position (1000 - (1000 - e.shown.position)) (slice_index s.cal.rules.tolerances 1)
                (falls e.shown.position proper.engine.position),
            agree e.shown.load_1 e.shown.load_2 (slice_index s.cal.rules.tolerances 2) (sym loads),
            agree e.drive.speed e.drive.speed (slice_index s.cal.rules.tolerances 3) refl,
          ) refl
        where
          falls : (p : ℕ) → p ≤ 1000 → p ≡ 1000 - (1000 - p)
          falls p l = omega arith

  -- and the bits of the pairs are good
  pub pair_good : (p : Pair) → bit_of p m.signals ≡ false
  unfolding bit_of pedal_bit plate_bit load_bit speed_bit has_bit
  pair_good Pedal = ap (has_bit 1) no_pairs
  pair_good Plate = ap (has_bit 2) no_pairs
  pair_good Load = ap (has_bit 4) no_pairs
  pair_good Speed = ap (has_bit 8) no_pairs
