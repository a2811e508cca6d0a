-- No smaller numbers bound the stretches of excess: the histories that show it.
use Rattle.std.proofs.Common.{◌≡◌, ℕ, zero, suc, ◌+◌, ◌-◌, ◌≤◌, ◌<◌, Bool, true, false, List, ◌∷◌, ◌++◌, length, replicate, None, refl, sym, ap, ap₂, ◌∙◌, subst, arith, length-append, append_assoc}
use Rattle.std.specs.Prelude.{if◌then◌else◌}
use Rattle.std.proofs.lemmas.List.{length-replicate, length-map, map-append}
use Rattle.eg_fault.specs.Effects.{no_effects}
use Rattle.eg_num.specs.Arithmetic.{estimate}
use Rattle.eg_answer.specs.Times.{feeds_to_confirm, reaction_of}
use Rattle.eg_values.specs.Calibration.{CalibrationParts, IsAccepted}
use Rattle.eg_fault.specs.Effects.{no_effects}
use Rattle.eg_fault.specs.Faults.{IsListed}
use Rattle.eg_model.specs.History.{Setting, Entry, Tick}
use Rattle.eg_model.specs.Premises.{AreProper, Follows}
use Rattle.eg_model.specs.Reaction.{is_at_once}
use Rattle.eg_model.specs.Lapses.{Exceeds}
use Rattle.eg_laws.specs.LeastReaction.{CanExceed, giving, quiet, exceeding, last_excess, by_bits, closed_setting}
use Rattle.eg_laws.specs.LeastLapse.{Lasts}
use Rattle.eg_values.specs.Excess.{ticks_to_confirm, longest_stretch}
use Rattle.eg_laws.specs.Stretches.{IsStretch, exceeding_after, faultless_setting, ExcessLasts, ExcessLastsUntilConfirmed, StretchIsLeast, StretchAtOnceIsLeast}
use Rattle.eg_model.proofs.LapseRuns.{AllExceed}
use Rattle.eg_laws.proofs.StretchLaws.{at_once_always}
use Rattle.eg_laws.proofs.ExcessTicks.{follows_none, more_exceed, excess_level, driven_on, all_plain, all_exceed, all_go_on, all_words, proper_to, many_positive, size, size_over}
use Rattle.eg_laws.proofs.LateExcess.{MayFollow, loaded_may, reaction_long, size_whole, goes_on_after, words_after, follows_on, after_proper}
use Rattle.eg_laws.proofs.LeastLaw.{room, last_is, listed, many_is, latest, latest_bits, latest_is}

-- such a history gives a stretch
stretch_from : (s : Setting) (h : List Tick) (n : ℕ) (stretch before : List Tick) → Lasts s h n → h ≡ stretch ++ before →
    n ≡ length stretch → IsStretch s 0 stretch before
stretch_from s h n stretch before lasts whole same = record {
  follows = subst (Follows s.fault 0) whole lasts.follows;
  proper = subst (AreProper s) whole lasts.proper;
  exceeds = subst (λ k. Exceeds s k (stretch ++ before)) same (subst (Exceeds s n) whole lasts.exceeds);
}

module _ (cal : CalibrationParts) (accepted : IsAccepted cal) (can : CanExceed cal) where
  abbrev many : ℕ
  many = feeds_to_confirm cal.rules.torque

  abbrev first_quiet : ℕ
  first_quiet = last_excess cal + 1 - many

  abbrev bits : List Bool
  bits = latest_bits cal accepted can

  abbrev base : List Tick
  base = by_bits cal can.drive can.load (true ∷ bits)

  -- ---- path 1 is held closed after the excess is confirmed ----

  abbrev s : Setting
  s = closed_setting cal

  abbrev loaded : Entry
  loaded = giving can.drive can.load (estimate cal.rules.kt can.load)

  may : MayFollow s loaded
  may = loaded_may s accepted can

  abbrev after : ℕ → List Tick
  after n = replicate n (exceeding_after cal can.drive can.load)

  some : 0 < many
  some = many_positive s accepted can

  exceeds : (n m : ℕ) → m ≡ n + many → AllExceed s m (after n ++ base)
  exceeds zero m is =
      let same : suc (many - 1) ≡ m = (let a = some in omega (arith, is, a)) in
      subst (λ k. AllExceed s k base) same (all_exceed s accepted can (suc (many - 1)) (replicate first_quiet false))
  exceeds (suc n) m is = more_exceed s (exceeding_after cal can.drive can.load) (after n ++ base) (n + many) m (omega (arith, is))
      (excess_level s can.drive (after n ++ base) _
      (driven_on s accepted can n (exceeding_after cal can.drive can.load) (true ∷ bits) refl) can.exceeds)
      (exceeds n (n + many) refl)

  long : 2 ≤ reaction_of cal.times
  long = reaction_long cal accepted can bits _ _ (latest cal accepted can)

  longest_is : longest_stretch cal ≡ reaction_of cal.times - 1 + many
  longest_is = unfold longest_stretch ticks_to_confirm in
      let a = some in let b = long in omega (arith, a, b)

  fits : many ≤ last_excess cal
  fits = let a = room cal accepted can in let b = last_is cal accepted can in omega (arith, a, b)

  lasts : Lasts s (after (reaction_of cal.times - 1) ++ base) (longest_stretch cal)
  lasts = record {
    follows = follows_on cal accepted can bits _ _ (latest cal accepted can) loaded may (reaction_of cal.times - 1);
    proper = after_proper cal accepted can bits _ _ (latest cal accepted can) loaded may (reaction_of cal.times - 1)
        (let b = long in omega (arith, b));
    goes_on = goes_on_after cal accepted can bits _ _ (latest cal accepted can) loaded may (reaction_of cal.times - 1);
    words = words_after cal accepted can bits _ _ (latest cal accepted can) loaded may (reaction_of cal.times - 1);
    exceeds = record {
      within = (let a = size_whole cal accepted can bits _ _ (latest cal accepted can) loaded may (reaction_of cal.times - 1) in
          let b = longest_is in let c = fits in omega (arith, a, b, c));
      each = exceeds (reaction_of cal.times - 1) (longest_stretch cal) longest_is;
    };
  }

  -- ---- without a fault ----

  faultless : Lasts (faultless_setting cal) base (ticks_to_confirm cal)
  unfolding ticks_to_confirm
  faultless = record {
    follows = follows_none base (all_plain (faultless_setting cal) accepted can (true ∷ bits));
    proper = proper_to (faultless_setting cal) accepted can true bits (latest cal accepted can).quiet;
    goes_on = all_go_on (faultless_setting cal) accepted can (true ∷ bits);
    words = all_words (faultless_setting cal) accepted can (true ∷ bits);
    exceeds = record {
      within = (let a = size (faultless_setting cal) accepted can (true ∷ bits) in
          let b = size_over (faultless_setting cal) accepted can (many - 1) first_quiet in let c = some in omega (arith, a, b, c));
      each = subst (λ k. AllExceed (faultless_setting cal) k base) (many_is cal accepted can)
          (all_exceed (faultless_setting cal) accepted can (suc (many - 1)) (replicate first_quiet false));
    };
  }

  -- ---- the ticks with excess, and the quiet ones before them ----

  abbrev excess : List Tick
  excess = by_bits cal can.drive can.load (replicate (suc (many - 1)) true)

  abbrev quiets : List Tick
  quiets = by_bits cal can.drive can.load (replicate first_quiet false)

  parts : base ≡ excess ++ quiets
  parts = map-append (λ bad. if bad then exceeding cal can.drive can.load else quiet no_effects can.drive) (replicate (suc (many - 1)) true) (replicate first_quiet false)

  size_excess : length excess ≡ many
  size_excess = length-map (replicate (suc (many - 1)) true) _ ∙ length-replicate (suc (many - 1)) true ∙ many_is cal accepted can

pub excess_lasts : ExcessLasts
excess_lasts cal accepted can = (
  listed cal accepted can,
  subst (λ h. Lasts (closed_setting cal) (after cal accepted can (reaction_of cal.times - 1) ++ h) (longest_stretch cal))
      (latest_is cal accepted can) (lasts cal accepted can),
)

pub excess_lasts_until_confirmed : ExcessLastsUntilConfirmed
excess_lasts_until_confirmed cal accepted can = subst (λ h. Lasts (faultless_setting cal) h (ticks_to_confirm cal))
    (latest_is cal accepted can) (faultless cal accepted can)

pub stretch_is_least : StretchIsLeast
stretch_is_least cal accepted can longest bound = subst (λ n. n ≤ longest) (sym same)
    (bound (s cal accepted can) refl (listed cal accepted can) 0 stretch (quiets cal accepted can)
    (stretch_from (s cal accepted can) _ (longest_stretch cal) stretch (quiets cal accepted can) (lasts cal accepted can)
    (ap (λ h. more ++ h) (parts cal accepted can) ∙ sym (append_assoc more (excess cal accepted can) (quiets cal accepted can))) same))
  where
    more : List Tick
    more = after cal accepted can (reaction_of cal.times - 1)

    stretch : List Tick
    stretch = more ++ excess cal accepted can

    same : longest_stretch cal ≡ length stretch
    same = longest_is cal accepted can ∙ sym (length-append more (excess cal accepted can)
        ∙ ap₂ (λ a b. a + b) (length-replicate (reaction_of cal.times - 1) (exceeding_after cal can.drive can.load))
        (size_excess cal accepted can))

pub stretch_at_once_is_least : StretchAtOnceIsLeast
stretch_at_once_is_least cal accepted can longest bound = subst (λ n. n ≤ longest) (sym same)
    (bound (faultless_setting cal) refl (unfold IsListed in tt) 0 (excess cal accepted can) (quiets cal accepted can)
    (at_once_always None (λ tick. unfold is_at_once in refl) _ _ _)
    (stretch_from (faultless_setting cal) _ (ticks_to_confirm cal) (excess cal accepted can) (quiets cal accepted can)
    (faultless cal accepted can) (parts cal accepted can) same))
  where
    same : ticks_to_confirm cal ≡ length (excess cal accepted can)
    same = unfold ticks_to_confirm in sym (size_excess cal accepted can)
