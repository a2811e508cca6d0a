-- Where no wrong verdict is taken beyond those that confirm in a row, the longest stretch under lapses is that of listed
-- faults, and the history of `LeastLapseLaw` has it.
use Rattle.std.proofs.Common.{inl, inr, ◌≡◌, ℕ, zero, suc, ◌+◌, ◌-◌, ◌*◌, ◌/◌, ◌≤◌, ◌<◌, refl, sym, ap, ◌∙◌, subst, arith, min}
use Rattle.std.proofs.Math.Nat.{div-mul-le_self}
use Rattle.std.proofs.lemmas.Nat.{le-div}
use Rattle.eg_num.specs.Windows.{WeightParts, AreWeights}
use Rattle.eg_answer.specs.Times.{feeds_to_confirm, reaction_of, rights_between, most_wrong, further_ticks, longest_missed_of}
use Rattle.eg_values.specs.Calibration.{CalibrationParts, IsAccepted}
use Rattle.eg_values.specs.Excess.{ticks_to_confirm, longest_stretch, longest_missed}
use Rattle.eg_values.specs.Reference.{reference_parts}
use Rattle.eg_laws.specs.LeastReaction.{CanExceed}
use Rattle.eg_laws.specs.LeastLapse.{least_lapse_bound, lapse_setting, Lasts}
use Rattle.eg_laws.specs.LeastMissed.{NoneFurther, MissedIsListed, MissedExcessLasts, MissedBoundIsLeast}
use Rattle.eg_laws.proofs.ExcessTicks.{many_positive}
use Rattle.eg_laws.proofs.LeastLapseLaw.{excess_lasts_so_long, lapse_bound_is_least}
use Rattle.eg_laws.proofs.WrongVerdicts.{most_in_row}

module _ (w : WeightParts) (are : AreWeights w) where
  single_most : feeds_to_confirm w ≡ 1 → (rights : ℕ) → most_wrong w rights ≤ feeds_to_confirm w
  unfolding most_wrong
  single_most single rights = rw single (law rights)
    where
      law : (rights : ℕ) → min ((w.limit - 1 + rights * w.down) / w.up + 1) (1 + rights * (1 - 1)) ≤ 1
      law rights = omega arith

  untaken_most : w.down ≡ 0 → (rights : ℕ) → most_wrong w rights ≤ feeds_to_confirm w
  unfolding most_wrong feeds_to_confirm
  untaken_most none rights = rw none
      (law w.limit w.up rights _ (let a = are.0 in omega (arith, a)) (let a = are.3 in omega (arith, a)))
    where
      least : (a b c : ℕ) → a ≤ c → min a b ≤ c
      least a b c l = omega (arith, l)

      law : (limit up rights other : ℕ) → 0 < up → 0 < limit →
          min ((limit - 1 + rights * 0) / up + 1) other ≤ (limit + (up - 1)) / up
      law limit up rights other some one = least _ other _ (le-div ((limit - 1 + rights * 0) / up + 1) (limit + (up - 1)) up some
          (next ((limit - 1 + rights * 0) / up) (div-mul-le_self (limit - 1 + rights * 0) up)))
        where
          next : (q : ℕ) → q * up ≤ limit - 1 + rights * 0 → (q + 1) * up ≤ limit + (up - 1)
          next q l = omega (arith, l, some, one)

module _ (cal : CalibrationParts) (accepted : IsAccepted cal) where
  no_rights : ticks_to_confirm cal ≤ cal.times.period + 1 → rights_between cal.rules.torque cal.times ≡ 0
  unfolding rights_between ticks_to_confirm
  no_rights short = law (feeds_to_confirm cal.rules.torque) cal.times.period short accepted.times.shortest
    where
      law : (d p : ℕ) → d ≤ p + 1 → 2 ≤ p → (d - 2) / p ≡ 0
      law d p l some = none ((d - 2) / p) p (let q = div-mul-le_self (d - 2) p in omega (arith, q, l, some))
        where
          none : (q p : ℕ) → q * p < p → q ≡ 0
          none zero p less = refl
          none (suc q) p less = absurd (omega (arith, less))

  few : NoneFurther cal →
      most_wrong cal.times.weights (rights_between cal.rules.torque cal.times) ≤ feeds_to_confirm cal.times.weights
  few (inl single) = single_most cal.times.weights accepted.answers single (rights_between cal.rules.torque cal.times)
  few (inr (inl none)) = untaken_most cal.times.weights accepted.answers none (rights_between cal.rules.torque cal.times)
  few (inr (inr short)) = subst (λ r. most_wrong cal.times.weights r ≤ feeds_to_confirm cal.times.weights) (sym (no_rights short))
      (most_in_row cal.times.weights accepted.answers)

  listed : NoneFurther cal → longest_missed cal ≡ longest_stretch cal
  unfolding longest_missed longest_missed_of further_ticks longest_stretch ticks_to_confirm
  listed none = law (most_wrong cal.times.weights (rights_between cal.rules.torque cal.times)) (feeds_to_confirm cal.times.weights)
      cal.times.period (feeds_to_confirm cal.rules.torque - 1 + reaction_of cal.times) (few none)
    where
      law : (most many period rest : ℕ) → most ≤ many → rest + ((most - many) * period - 1) ≡ rest
      law most many period rest l = ap (λ n. rest + (n * period - 1)) (let z : most - many ≡ 0 = omega (arith, l) in z) ∙ nothing period
        where
          nothing : (period : ℕ) → rest + (0 * period - 1) ≡ rest
          nothing period = omega arith

  bound_is : CanExceed cal → NoneFurther cal → least_lapse_bound cal ≡ longest_missed cal + 1
  unfolding least_lapse_bound longest_stretch ticks_to_confirm
  bound_is can none =
      let same = listed none in
      let some : 0 < feeds_to_confirm cal.rules.torque = many_positive (lapse_setting cal) accepted can in
      omega (arith, same, some)

pub missed_is_listed : MissedIsListed
missed_is_listed cal accepted none = listed cal accepted none

pub missed_excess_lasts : MissedExcessLasts
missed_excess_lasts cal accepted none can = subst (Lasts (lapse_setting cal) _)
    (let e = bound_is cal accepted can none in omega (arith, e)) (excess_lasts_so_long cal accepted can).1

pub missed_bound_is_least : MissedBoundIsLeast
missed_bound_is_least cal accepted none can longest stay =
    let least = lapse_bound_is_least cal accepted can (longest + 1) stay in
    let e = bound_is cal accepted can none in omega (arith, least, e)

pub reference_missed : longest_missed reference_parts ≡ 38
unfolding longest_missed longest_missed_of further_ticks most_wrong rights_between reaction_of feeds_to_confirm
reference_missed = refl
