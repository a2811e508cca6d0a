-- Ticks of excess and quiet ones, by bits: what is so of them in any setting.
use Rattle.std.proofs.Common.{◌≡◌, ℕ, zero, suc, ◌+◌, ◌-◌, ◌*◌, ◌/◌, ◌≤◌, ◌<◌, Bool, true, false, not, List, ◌∷◌, ◌++◌, All, length, refl, sym, ap, ap₂, ◌∙◌, arith, length-append, min, replicate, subst, take, Some, None, []}
use Rattle.std.specs.Prelude.{if◌then◌else◌, ◌==◌, max}
use Rattle.std.specs.List.{list_all}
use Rattle.std.proofs.lemmas.Bool.{true≢false, and_from, le-ltb}
use Rattle.std.proofs.lemmas.List.{length-replicate, length-map}
use Rattle.std.proofs.lemmas.List.Elements.{All-nil, All-cons, All-head, All-tail, All-append, All-replicate}
use Rattle.std.proofs.Math.Nat.{zero-mul}
use Rattle.eg_num.specs.Arithmetic.{estimate}
use Rattle.eg_num.specs.Drive.{DriveRow}
use Rattle.eg_num.specs.Windows.{WeightParts, is_confirmed}
use Rattle.eg_torque.specs.Ramp.{ramped}
use Rattle.eg_torque.specs.declared.ramp.TheConstants.{NO_RAMP}
use Rattle.eg_torque.specs.Excess.{is_excess}
use Rattle.eg_answer.specs.Times.{feeds_to_confirm, reaction_of}
use Rattle.eg_values.specs.Calibration.{IsAccepted}
use Rattle.eg_fault.specs.Faults.{effects_of, effects}
use Rattle.eg_fault.specs.declared.class.Fault.{Fault}
use Rattle.eg_fault.proofs.ActingLemmas.{before_onset, from_onset}
use Rattle.eg_fault.specs.Effects.{Effects, no_effects}
use Rattle.eg_record.specs.Excess.{true_excess, full_excess}
use Rattle.eg_model.specs.History.{Setting, Tick, Moment}
use Rattle.eg_model.specs.Paths.{both_conduct}
use Rattle.eg_model.specs.Moments.{demand_at, last_limit, limit_at, moment, moment_in, moments_of}
use Rattle.eg_model.specs.Rows.{row_of, rows_of}
use Rattle.eg_model.specs.Premises.{IsProper, AreProper, Follows, is_on_after, true_excesses, full_excesses}
use Rattle.eg_model.specs.SharpCut.{ArePlain}
use Rattle.eg_laws.specs.LeastReaction.{CanExceed, GoesOn, ShowsWord, giving, quiet, exceeding, by_bits}
use Rattle.eg_model.proofs.TickLemmas.{Each, moment-full_excess, fields}
use Rattle.eg_model.proofs.Silence.{TrueRun, run_confirms, period_least, send_within}
use Rattle.eg_model.proofs.LapseRuns.{AllExceed}
use Rattle.eg_model.proofs.LapseWeights.{rounded_up}
use Rattle.eg_model.proofs.SharpCutLaw.{AllGood, full_excesses-cons, cuts_sharply}
use Rattle.eg_laws.proofs.BurstLaws.{unconfirmed_before}
use Rattle.eg_laws.proofs.FewVerdicts.{too_few, quotient_short, quotient_positive, NoneOpens}

-- ---- the bits of excess ----

pub true_bit : (s : Setting) (x : Tick) (past : List Moment) (tick : ℕ) →
    true_excess s.cal.rules.threshold (row_of tick (moment s x.effects x.entry past))
    ≡ is_excess x.entry.shown.torque (limit_at s.cal x.entry.drive past) s.cal.rules.threshold
unfolding true_excess row_of moment moment_in
true_bit s x past tick = refl

pub full_bit : (s : Setting) (x : Tick) (past : List Moment) (tick : ℕ) →
    full_excess s.cal.rules.kt s.cal.rules.threshold (row_of tick (moment s x.effects x.entry past))
    ≡ is_excess (estimate s.cal.rules.kt x.entry.shown.load_1) (limit_at s.cal x.entry.drive past) s.cal.rules.threshold
full_bit s x past tick = moment-full_excess s x.effects x.entry past tick
    ∙ ap (λ limit. is_excess (estimate s.cal.rules.kt x.entry.shown.load_1) limit s.cal.rules.threshold)
    (fields s x.effects x.entry past).limit

pub true_excesses-cons : (s : Setting) (x : Tick) (h : List Tick) →
    true_excesses s (x ∷ h)
    ≡ is_excess x.entry.shown.torque (limit_at s.cal x.entry.drive (moments_of s h)) s.cal.rules.threshold ∷ true_excesses s h
unfolding true_excesses moments_of rows_of
true_excesses-cons s x h = ap (λ b. b ∷ true_excesses s h) (true_bit s x (moments_of s h) _)

-- one tick more of excess
pub more_exceed : (s : Setting) (x : Tick) (h : List Tick) (k m : ℕ) → m ≡ suc k →
    is_excess x.entry.shown.torque (limit_at s.cal x.entry.drive (moments_of s h)) s.cal.rules.threshold ≡ true →
    AllExceed s k h → AllExceed s m (x ∷ h)
more_exceed s x h k m same now before = subst (λ n. AllExceed s n (x ∷ h)) (sym same)
    (subst (λ bits. list_all (λ b. b) (take (suc k) bits) ≡ true) (sym (true_excesses-cons s x h)) (and_from _ _ now before))

pub length-true_excesses : (s : Setting) (h : List Tick) → length (true_excesses s h) ≡ length h
length-true_excesses s [] = unfold true_excesses moments_of rows_of in refl
length-true_excesses s (x ∷ h) = ap length (true_excesses-cons s x h) ∙ ap suc (length-true_excesses s h)

pub no_torque_no_excess : (limit threshold : ℕ) → is_excess 0 limit threshold ≡ false
unfolding is_excess
no_torque_no_excess limit threshold = le-ltb (limit + threshold) 0 (omega arith)

no_load : (kt : ℕ) → estimate kt 0 ≡ 0
no_load kt = ap (λ n. min 65535 ((n + 999) / 1000)) (zero-mul kt)

pub no_load_no_excess : (kt limit threshold : ℕ) → is_excess (estimate kt 0) limit threshold ≡ false
no_load_no_excess kt limit threshold =
    ap (λ torque. is_excess torque limit threshold) (no_load kt) ∙ no_torque_no_excess limit threshold

-- ---- over a constant drive the permitted torque is the demand, with any ramp ----

-- each of these ticks has this drive row
abbrev pub HasDrive : DriveRow → Tick → Type 0
HasDrive drive x = x.entry.drive ≡ drive

ramped-level : (fall before demand : ℕ) → before ≤ demand → ramped fall before demand ≡ demand
unfolding ramped
ramped-level fall before demand low = go (fall == NO_RAMP)
  where
    go : (none : Bool) → (if none then demand else max demand (before - fall)) ≡ demand
    go true = refl
    go false = omega (arith, low)

last_level : (s : Setting) (drive : DriveRow) (h : List Tick) → All (HasDrive drive) h →
    last_limit (moments_of s h) ≤ demand_at s.cal drive
unfolding moments_of last_limit limit_at
last_level s drive [] constant = omega arith
last_level s drive (x ∷ h) constant =
    let before = last_level s drive h (All-tail (HasDrive drive) x h constant) in
    let same = (fields s x.effects x.entry (moments_of s h)).limit
    ∙ ap (λ row. limit_at s.cal row (moments_of s h)) (All-head (HasDrive drive) x h constant)
    ∙ ramped-level s.cal.rules.fall (last_limit (moments_of s h)) (demand_at s.cal drive) before in
    omega (arith, same)

pub level : (s : Setting) (drive : DriveRow) (h : List Tick) → All (HasDrive drive) h →
    limit_at s.cal drive (moments_of s h) ≡ demand_at s.cal drive
unfolding limit_at
level s drive h constant = ramped-level s.cal.rules.fall (last_limit (moments_of s h)) (demand_at s.cal drive)
    (last_level s drive h constant)

-- so after such ticks there is an excess by it where there is one by the demand
pub excess_level : (s : Setting) (drive : DriveRow) (h : List Tick) (torque : ℕ) → All (HasDrive drive) h →
    is_excess torque (demand_at s.cal drive) s.cal.rules.threshold ≡ true →
    is_excess torque (limit_at s.cal drive (moments_of s h)) s.cal.rules.threshold ≡ true
excess_level s drive h torque constant is =
    ap (λ limit. is_excess torque limit s.cal.rules.threshold) (level s drive h constant) ∙ is

-- ---- ticks of a run under one fault ----

-- without a fault nothing is out of order
pub follows_none : (h : List Tick) → ArePlain h → Follows None 0 h
unfolding ArePlain Follows effects
follows_none [] each = tt
follows_none (x ∷ h) each = (each.0.effects, follows_none h each.1)

-- before its onset nothing is out of order
pub follows_plain : (f : Fault) (h : List Tick) → ArePlain h → length h ≤ f.onset → Follows (Some f) 0 h
unfolding ArePlain Follows
follows_plain f [] each short = tt
follows_plain f (x ∷ h) each short = (
  each.0.effects ∙ sym (before_onset f (0 + length h) (omega arith)),
  follows_plain f h each.1 (omega arith),
)

-- and then any number of ticks alike, where the class always does the same
pub follows_alike : (f : Fault) (y : Tick) → ((k : ℕ) → effects_of f.class k ≡ y.effects) → (n : ℕ) (h : List Tick) →
    f.onset ≤ length h → Follows (Some f) 0 h → Follows (Some f) 0 (replicate n y ++ h)
unfolding Follows
follows_alike f y same zero h late follows = follows
follows_alike f y same (suc n) h late follows = (
  sym (from_onset f (0 + length (replicate n y ++ h)) (let size = length-append (replicate n y) h in omega arith) ∙ same _),
  follows_alike f y same n h late follows,
)

-- ---- ticks of excess and quiet ones, with nothing out of order ----

pub all_good : (n : ℕ) → AllGood (replicate n false)
unfolding AllGood
all_good zero = tt
all_good (suc n) = (refl, all_good n)

module _ (s : Setting) (accepted : IsAccepted s.cal) (can : CanExceed s.cal) where
  abbrev torque : WeightParts
  torque = s.cal.rules.torque

  abbrev many : ℕ
  many = feeds_to_confirm torque

  abbrev calm_tick : Tick
  calm_tick = quiet no_effects can.drive

  abbrev excess_tick : Tick
  excess_tick = exceeding s.cal can.drive can.load

  -- these, by their bits
  abbrev ticks : List Bool → List Tick
  ticks bits = by_bits s.cal can.drive can.load bits

  pub up_positive : 0 < torque.up
  up_positive = let a = accepted.torque.0 in omega arith

  pub limit_positive : 0 < torque.limit
  limit_positive = let a = accepted.torque.3 in omega arith

  pub many_positive : 0 < many
  many_positive = unfold feeds_to_confirm in quotient_positive torque.limit torque.up limit_positive up_positive

  -- ---- what is plain, and its excess ----

  pub all_driven : (bits : List Bool) → All (HasDrive can.drive) (ticks bits)
  all_driven [] = All-nil (HasDrive can.drive)
  all_driven (true ∷ bits) = All-cons (HasDrive can.drive) excess_tick (ticks bits) refl (all_driven bits)
  all_driven (false ∷ bits) = All-cons (HasDrive can.drive) calm_tick (ticks bits) refl (all_driven bits)

  -- and any number of further ticks with the same drive row
  pub driven_on : (n : ℕ) (y : Tick) (bits : List Bool) → HasDrive can.drive y →
      All (HasDrive can.drive) (replicate n y ++ ticks bits)
  driven_on n y bits same = All-append (HasDrive can.drive) (replicate n y) (ticks bits)
      (All-replicate (HasDrive can.drive) n y same) (all_driven bits)

  excess_now : (bits : List Bool) →
      is_excess (estimate s.cal.rules.kt can.load) (limit_at s.cal can.drive (moments_of s (ticks bits)))
      s.cal.rules.threshold ≡ true
  excess_now bits = excess_level s can.drive (ticks bits) _ (all_driven bits) can.exceeds

  pub all_bits : (bits : List Bool) → (true_excesses s (ticks bits) ≡ bits) × (full_excesses s (ticks bits) ≡ bits)
  all_bits [] = unfold true_excesses full_excesses moments_of rows_of in (refl, refl)
  all_bits (true ∷ bits) =
      let rest = all_bits bits in (
        true_excesses-cons s excess_tick (ticks bits) ∙ ap₂ (λ b others. b ∷ others) (excess_now bits) rest.0,
        full_excesses-cons s excess_tick (ticks bits)
            ∙ ap₂ (λ b others. b ∷ others) (full_bit s excess_tick _ _ ∙ excess_now bits) rest.1,
      )
  all_bits (false ∷ bits) =
      let rest = all_bits bits in (
        true_excesses-cons s calm_tick (ticks bits) ∙ ap₂ (λ b others. b ∷ others) (no_torque_no_excess _ _) rest.0,
        full_excesses-cons s calm_tick (ticks bits)
            ∙ ap₂ (λ b others. b ∷ others) (full_bit s calm_tick _ _ ∙ no_load_no_excess s.cal.rules.kt _ _) rest.1,
      )

  pub all_exceed : (j : ℕ) (before : List Bool) → AllExceed s j (ticks (replicate j true ++ before))
  all_exceed zero before = refl
  all_exceed (suc j) before = more_exceed s excess_tick (ticks (replicate j true ++ before)) j (suc j) refl
      (excess_now (replicate j true ++ before)) (all_exceed j before)

  pub all_plain : (bits : List Bool) → ArePlain (ticks bits)
  unfolding ArePlain
  all_plain [] = tt
  all_plain (true ∷ bits) = (record { effects = refl; loads = refl }, all_plain bits)
  all_plain (false ∷ bits) = (record { effects = refl; loads = refl }, all_plain bits)

  -- ---- some of excess over quiet ones: it isn't confirmed before the last ----

  pub unconfirmed : (j quiets : ℕ) → j < many → is_confirmed torque (replicate j true ++ replicate quiets false) ≡ false
  unconfirmed j quiets less = too_few torque (replicate j true) (replicate quiets false) limit_positive (all_good quiets)
      (rw (length-replicate j true) (quotient_short torque.limit torque.up j limit_positive up_positive
      (unfold feeds_to_confirm in less)))

  true_run : (j : ℕ) (before : List Bool) → TrueRun j (replicate j true ++ before)
  unfolding TrueRun
  true_run zero before = tt
  true_run (suc j) before = (refl, true_run j before)

  pub confirmed : (before : List Bool) → is_confirmed torque (replicate many true ++ before) ≡ true
  confirmed before = run_confirms torque many (replicate many true ++ before) limit_positive
      (unfold feeds_to_confirm in rounded_up torque.limit torque.up up_positive) (true_run many before)

  -- ---- the history is one in which the engine keeps its laws ----

  pub quiet_proper : (x : Effects) (past : List Moment) → IsProper s (both_conduct x past) (giving can.drive 0 0)
  quiet_proper x past = record {
    drive = can.within;
    engine = record { position = omega arith; load_1 = omega arith; load_2 = omega arith };
    no_torque = λ off. refl;
  }

  pub loaded_proper : (x : Effects) (past : List Moment) → both_conduct x past ≡ true → IsProper s (both_conduct x past) excess_tick.entry
  loaded_proper x past on = record {
    drive = can.within;
    engine = record { position = omega arith; load_1 = omega arith; load_2 = omega arith };
    no_torque = λ off. absurd (true≢false (sym on ∙ off));
  }

  -- no drive row of it resets the unit, and its loads are words
  pub all_go_on : (bits : List Bool) → All GoesOn (ticks bits)
  all_go_on [] = All-nil GoesOn
  all_go_on (true ∷ bits) = All-cons GoesOn excess_tick (ticks bits) can.goes_on (all_go_on bits)
  all_go_on (false ∷ bits) = All-cons GoesOn calm_tick (ticks bits) can.goes_on (all_go_on bits)

  pub all_words : (bits : List Bool) → All ShowsWord (ticks bits)
  all_words [] = All-nil ShowsWord
  all_words (true ∷ bits) = All-cons ShowsWord excess_tick (ticks bits) (can.is_word, can.is_word) (all_words bits)
  all_words (false ∷ bits) = All-cons ShowsWord calm_tick (ticks bits) (omega arith, omega arith) (all_words bits)

  -- until the excess is confirmed the stages are on
  on_until : (bits : List Bool) → is_confirmed torque bits ≡ false → AreProper s (ticks bits) →
      both_conduct no_effects (moments_of s (ticks bits)) ≡ true
  unfolding is_on_after
  on_until bits none proper =
      sym ((fields s no_effects excess_tick.entry (moments_of s (ticks bits))).on)
      ∙ cuts_sharply s accepted (ticks bits) (all_plain bits) proper excess_tick refl
      ∙ ap not (ap (is_confirmed torque) (all_bits bits).1 ∙ none)

  proper_next : (b : Bool) (bits : List Bool) → is_confirmed torque bits ≡ false → AreProper s (ticks bits) → AreProper s (ticks (b ∷ bits))
  unfolding AreProper
  proper_next true bits none proper = (loaded_proper no_effects _ (on_until bits none proper), proper)
  proper_next false bits none proper = (quiet_proper no_effects _, proper)

  -- it is proper up to the tick by which the excess is confirmed
  pub all_proper : (bits : List Bool) → is_confirmed torque bits ≡ false → AreProper s (ticks bits)
  all_proper [] none = unfold AreProper in tt
  all_proper (b ∷ bits) none = let before = unconfirmed_before torque b bits none in proper_next b bits before (all_proper bits before)

  pub proper_to : (b : Bool) (bits : List Bool) → is_confirmed torque bits ≡ false → AreProper s (ticks (b ∷ bits))
  proper_to b bits none = proper_next b bits none (all_proper bits none)

  -- ---- sizes ----

  pub size : (bits : List Bool) → length (ticks bits) ≡ length bits
  size bits = length-map bits (λ bad. if bad then excess_tick else calm_tick)

  pub size_over : (j quiets : ℕ) → length (replicate j true ++ replicate quiets false) ≡ j + quiets
  size_over j quiets = length-append (replicate j true) (replicate quiets false)
      ∙ ap₂ (λ a b. a + b) (length-replicate j true) (length-replicate quiets false)

  pub period_positive : 0 < s.cal.times.period
  period_positive = period_least s.cal.times accepted.times

  abbrev confirm : ℕ
  confirm = feeds_to_confirm s.cal.times.weights

  pub confirm_positive : 0 < confirm
  confirm_positive = unfold feeds_to_confirm in quotient_positive s.cal.times.weights.limit s.cal.times.weights.up
      (let a = accepted.answers.3 in omega arith) (let a = accepted.answers.0 in omega arith)

  pub reaction_is : reaction_of s.cal.times + s.cal.times.send + 1 ≡ (confirm + 1) * s.cal.times.period
  reaction_is = unfold reaction_of in
      law confirm s.cal.times.period s.cal.times.send (send_within s.cal.times accepted.times)
    where
      law : (n period send : ℕ) → send < period → (n + 1) * period - send - 1 + send + 1 ≡ (n + 1) * period
      law n period send within = grind arith

  -- ---- and none of them orders path 2 open ----

  pub ticks_shut : (bits : List Bool) → NoneOpens (ticks bits)
  unfolding Each
  ticks_shut [] = tt
  ticks_shut (true ∷ bits) = (unfold no_effects in refl, ticks_shut bits)
  ticks_shut (false ∷ bits) = (unfold no_effects in refl, ticks_shut bits)
