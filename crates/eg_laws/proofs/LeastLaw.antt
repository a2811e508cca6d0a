-- R is the least number that can stand in the reaction theorem: the history that shows it.
use Rattle.std.proofs.Common.{◌≡◌, ℕ, zero, suc, ◌+◌, ◌-◌, ◌*◌, ◌≤◌, ◌<◌, Bool, true, false, ◌&&◌, List, [], ◌∷◌, ◌++◌, All, refl, sym, ap, ◌∙◌, arith, inl, inr, ◌⊎◌, subst, replicate}
use Rattle.std.proofs.lemmas.Bool.{cases_Bool, cases_lt, true≢false, lt-ltb, ltb-true}
use Rattle.std.proofs.lemmas.List.{length-replicate}
use Rattle.std.proofs.lemmas.List.Elements.{All-head, All-tail}
use Rattle.std.proofs.Math.Nat.{div-mul-le_self}
use Rattle.eg_num.specs.Arithmetic.{estimate}
use Rattle.eg_num.specs.Drive.{DriveRow}
use Rattle.eg_num.specs.Windows.{WeightParts, is_confirmed, is_first}
use Rattle.eg_num.proofs.FirstIndexLemmas.{is_first_from}
use Rattle.eg_torque.specs.Permit.{drive_permits}
use Rattle.eg_torque.specs.Excess.{is_excess}
use Rattle.eg_answer.specs.Times.{feeds_to_confirm, reaction_of, periods_to_confirm}
use Rattle.eg_values.specs.Calibration.{CalibrationParts, IsAccepted}
use Rattle.eg_fault.specs.Faults.{effects_of, IsListed, IsValidClass, is_lapse}
use Rattle.eg_fault.specs.declared.class.Class.TheVariants.{Path1Closed}
use Rattle.eg_model.specs.History.{Setting, Entry, Tick}
use Rattle.eg_model.specs.Moments.{effective_drive, demand_at, limit_at, moments_of}
use Rattle.eg_model.specs.Rows.{rows_of}
use Rattle.eg_model.specs.Premises.{AreProper, is_on_after, true_excesses, IsExcessConfirmed}
use Rattle.eg_model.specs.Reaction.{ReactsBy}
use Rattle.eg_laws.specs.LeastReaction.{CanExceed, ShowsWord, NeedsCanExceed, giving, last_excess, by_bits, until_confirmed, closed_setting, quiet_after, IsStillOn, StaysOnSoLong, ReactionIsLeast}
use Rattle.eg_model.proofs.TickLemmas.{fields}
use Rattle.eg_model.proofs.Silence.{send_within}
use Rattle.eg_model.proofs.LapseWeights.{rounded_up}
use Rattle.eg_model.proofs.SpanRows.{proper-end}
use Rattle.eg_model.proofs.SharpCutLaw.{AllGood}
use Rattle.eg_laws.proofs.PeakLaws.{ramped-least}
use Rattle.eg_laws.proofs.FewVerdicts.{never, quotient_short}
use Rattle.eg_laws.proofs.LateExcess.{MayFollow, IsLate, reaction_long, goes_on_after, words_after, follows_on, on_after, after_proper}
use Rattle.eg_laws.proofs.ExcessTicks.{true_excesses-cons, many_positive, all_bits, unconfirmed, confirmed, quiet_proper, size_over, period_positive, up_positive, limit_positive}

-- ---- a condition without which no excess is confirmed ----

more_exceeds : (torque most least limit threshold : ℕ) → torque ≤ most → least ≤ limit → is_excess torque limit threshold ≡ true →
    is_excess most least threshold ≡ true
unfolding is_excess
more_exceeds torque most least limit threshold le low e =
    let less = ltb-true (limit + threshold) torque e in lt-ltb (least + threshold) most (omega arith)

-- what a drive row demands doesn't depend on whether the unit is reset
without_reset : (cal : CalibrationParts) (drive : DriveRow) → demand_at cal (record drive { reset = false }) ≡ demand_at cal drive
unfolding demand_at effective_drive drive_permits
without_reset cal drive = elim (cases_Bool (cal.brake && drive.brake)) [ inl on ↦ rw on refl | inr off ↦ rw off refl ]

none_or_some : (s : Setting) (h : List Tick) → AreProper s h → All ShowsWord h → AllGood (true_excesses s h) ⊎ CanExceed s.cal
unfolding AreProper limit_at
none_or_some s [] proper words = inl (unfold true_excesses moments_of rows_of AllGood in tt)
none_or_some s (x ∷ h) proper words = go _ refl (none_or_some s h proper.1 (All-tail ShowsWord x h words))
  where
    go : (b : Bool) → is_excess x.entry.shown.torque (limit_at s.cal x.entry.drive (moments_of s h)) s.cal.rules.threshold ≡ b →
        AllGood (true_excesses s h) ⊎ CanExceed s.cal → AllGood (true_excesses s (x ∷ h)) ⊎ CanExceed s.cal
    go true is others = inr (record {
      drive = record x.entry.drive { reset = false };
      within = proper.0.drive;
      goes_on = refl;
      load = x.entry.shown.load_1;
      is_word = (All-head ShowsWord x h words).0;
      exceeds = ap (λ limit. is_excess (estimate s.cal.rules.kt x.entry.shown.load_1) limit s.cal.rules.threshold)
          (without_reset s.cal x.entry.drive) ∙ more_exceeds _ _ _ _ _ proper.0.engine.load_1
          (ramped-least s.cal.rules.fall _ (demand_at s.cal x.entry.drive)) is;
    })
    go false is (inr can) = inr can
    go false is (inl good) = inl (subst AllGood (sym (true_excesses-cons s x h)) (unfold AllGood in (is, good)))

pub needs_can_exceed : NeedsCanExceed
needs_can_exceed s accepted h proper words confirmed = elim (none_or_some s h proper words) [
  | inl good ↦ absurd (let none = never s.cal.rules.torque (true_excesses s h)
      (let l = accepted.torque.3 in omega arith) good in
      true≢false (sym confirmed ∙ none))
  | inr can ↦ can
]

-- ---- the history: as few ticks of excess as confirm it, over quiet ones ----

module _ (cal : CalibrationParts) (accepted : IsAccepted cal) (can : CanExceed cal) where
  abbrev s : Setting
  s = closed_setting cal

  abbrev torque : WeightParts
  torque = cal.rules.torque

  -- how many ticks of excess there are, how many quiet ones before them, and in which period the last comes
  abbrev many : ℕ
  many = feeds_to_confirm torque

  abbrev first_quiet : ℕ
  first_quiet = last_excess cal + 1 - many

  abbrev p : ℕ
  p = periods_to_confirm torque cal.times

  -- there is room for all ticks of excess
  pub room : many ≤ p * cal.times.period
  room = unfold periods_to_confirm in rounded_up many cal.times.period (period_positive s accepted can)

  pub last_is : last_excess cal ≡ p * cal.times.period + cal.times.send + 1
  last_is = unfold last_excess in omega arith

  some : 0 < many
  some = many_positive s accepted can

  many_within : many ≤ 10000
  many_within = go many refl
    where
      less : (n : ℕ) → suc n ≡ many → n < many
      less n is = omega arith

      go : (n : ℕ) → n ≡ many → n ≤ 10000
      go zero is = omega arith
      go (suc n) is =
          let low : n * torque.up < torque.limit =
          quotient_short torque.limit torque.up n (limit_positive s accepted can) (up_positive s accepted can) (unfold feeds_to_confirm in less n is) in
          let most = accepted.torque.4 in below n torque.up torque.limit (up_positive s accepted can) low most
        where
          below : (n u l : ℕ) → 0 < u → n * u < l → l ≤ 10000 → suc n ≤ 10000
          below n u l some low most = grind arith

  pub onset_within : last_excess cal + 1 ≤ 19999
  onset_within =
      let whole : p * cal.times.period ≤ many + (cal.times.period - 1) =
      (unfold periods_to_confirm in div-mul-le_self (many + (cal.times.period - 1)) cal.times.period) in
      let most = many_within in let last = last_is in
      let a = accepted.times.longest in let b = send_within cal.times accepted.times in omega arith

  pub listed : IsListed s.fault
  listed = unfold IsListed IsValidClass is_lapse in ((onset_within, tt), refl)

  -- the bits before the last tick of excess
  abbrev pub latest_bits : List Bool
  latest_bits = replicate (many - 1) true ++ replicate first_quiet false

  pub many_is : suc (many - 1) ≡ many
  many_is = let a = some in omega arith

  pub latest_is : by_bits cal can.drive can.load (true ∷ latest_bits) ≡ until_confirmed cal can.drive can.load
  latest_is = ap (λ k. by_bits cal can.drive can.load (replicate k true ++ replicate first_quiet false)) many_is

  pub latest : IsLate cal latest_bits p (last_excess cal + 1)
  latest = record {
    quiet = unconfirmed s accepted can (many - 1) first_quiet (let a = some in omega arith);
    now = subst (λ k. is_confirmed torque (replicate k true ++ replicate first_quiet false) ≡ true) (sym many_is)
        (confirmed s accepted can (replicate first_quiet false));
    size = size_over s accepted can (many - 1) first_quiet
        ∙ (let a = room in let b = last_is in let c = some in omega arith);
    next = (let long = size_over s accepted can (many - 1) first_quiet in let a = room in let b = last_is in let c = some in
        omega (arith, long, a, b, c));
  }

  -- ---- quiet ticks after it ----

  abbrev until : List Tick
  until = by_bits cal can.drive can.load (true ∷ latest_bits)

  abbrev quiet_entry : Entry
  quiet_entry = giving can.drive 0 0

  quiet_may : MayFollow s quiet_entry
  quiet_may = record {
    goes_on = can.goes_on;
    words = (omega arith, omega arith);
    proper = λ x past on. quiet_proper s accepted can x past;
  }

  long : 2 ≤ reaction_of cal.times
  long = reaction_long cal accepted can latest_bits p (last_excess cal + 1) latest

  stays : IsStillOn s until (replicate (reaction_of cal.times - 2) (quiet_after can.drive))
      (quiet_after can.drive) (reaction_of cal.times - 1)
  unfolding is_on_after
  stays = record {
    follows = follows_on cal accepted can latest_bits p _ latest quiet_entry quiet_may (suc (reaction_of cal.times - 2));
    proper = after_proper cal accepted can latest_bits p _ latest quiet_entry quiet_may (suc (reaction_of cal.times - 2)) (let l = long in omega arith);
    goes_on = goes_on_after cal accepted can latest_bits p _ latest quiet_entry quiet_may (suc (reaction_of cal.times - 2));
    words = words_after cal accepted can latest_bits p _ latest quiet_entry quiet_may (suc (reaction_of cal.times - 2));
    first = ap (is_first torque) (all_bits s accepted can (true ∷ latest_bits)).0 ∙ is_first_from torque true latest_bits latest.now latest.quiet;
    comes = ap (λ n. n + 1) (length-replicate (reaction_of cal.times - 2) (quiet_after can.drive))
        ∙ (let l = long in omega arith);
    on = (fields s (effects_of Path1Closed 0) quiet_entry _).on
        ∙ on_after cal accepted can latest_bits p _ latest quiet_entry quiet_may (reaction_of cal.times - 2) (let l = long in omega arith);
  }

  -- a smaller number would have the stages off where they are on
  least : (n : ℕ) → ReactsBy cal n → reaction_of cal.times ≤ n
  least n reacts = elim (cases_lt n (reaction_of cal.times)) [
    | inl before ↦ absurd (let off = reacts s refl listed 0 until confirmed_now
        (replicate (reaction_of cal.times - 2) (quiet_after can.drive)) (quiet_after can.drive) stays.follows (proper-end s (quiet_after can.drive ∷ []) _ stays.proper)
        (let comes = stays.comes in omega arith) in
        true≢false (sym stays.on ∙ off))
    | inr from ↦ from
  ]
    where
      confirmed_now : IsExcessConfirmed s until
      confirmed_now = ap (is_confirmed torque) (all_bits s accepted can (true ∷ latest_bits)).0 ∙ latest.now

pub stays_on_so_long : StaysOnSoLong
stays_on_so_long cal accepted can = (
  listed cal accepted can,
  subst (λ h. IsStillOn (closed_setting cal) h (replicate (reaction_of cal.times - 2) (quiet_after can.drive)) (quiet_after can.drive)
      (reaction_of cal.times - 1)) (latest_is cal accepted can) (stays cal accepted can),
)

pub reaction_is_least : ReactionIsLeast
reaction_is_least cal accepted can n reacts = omega (arith, least cal accepted can n reacts)
