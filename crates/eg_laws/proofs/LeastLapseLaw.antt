-- R and as many ticks as confirm is the least bound under lapses: the history that shows it.
use Rattle.std.proofs.Common.{◌≡◌, ℕ, zero, suc, ◌+◌, ◌-◌, ◌*◌, ◌≤◌, ◌<◌, ◌%◌, Bool, true, false, not, ◌||◌, ◌&&◌, List, [], ◌∷◌, ◌++◌, length, replicate, refl, sym, ap, ap₂, ◌∙◌, subst, arith, length-append}
use Rattle.std.specs.Prelude.{◌==◌}
use Rattle.std.proofs.lemmas.Bool.{or_from}
use Rattle.std.proofs.lemmas.List.{length-replicate}
use Rattle.std.proofs.lemmas.List.Elements.{All-cons, All-nil, All-append, All-replicate}
use Rattle.eg_num.specs.Windows.{WeightParts, is_confirmed}
use Rattle.eg_answer.specs.Times.{feeds_to_confirm, reaction_of, periods_to_confirm}
use Rattle.eg_values.specs.Calibration.{CalibrationParts, IsAccepted}
use Rattle.eg_fault.specs.Effects.{no_effects}
use Rattle.eg_fault.specs.Faults.{effects_of, is_left_out, IsValidClass, IsNoneOrValid}
use Rattle.eg_model.specs.History.{Setting, Tick}
use Rattle.eg_model.specs.Signals.{tripped}
use Rattle.eg_model.specs.Paths.{latch2, path1_at, path2_at, both_conduct}
use Rattle.eg_model.specs.Moments.{moments_of}
use Rattle.eg_model.specs.Premises.{AreProper}
use Rattle.eg_laws.specs.LeastReaction.{CanExceed, GoesOn, ShowsWord}
use Rattle.eg_laws.specs.LeastLapse.{least_lapse_bound, lapse_onset, missing_all, lapse_setting, before_lapse, missed_excess, Lasts, ExcessLastsSoLong, LapseBoundIsLeast}
use Rattle.eg_model.proofs.TickLemmas.{Each, tripped-cons}
use Rattle.eg_model.proofs.Silence.{AreRegular}
use Rattle.eg_model.proofs.SharpCutLaw.{Calm, calm_until, latch1_shut}
use Rattle.eg_laws.proofs.FewVerdicts.{NoneOpens, HasFew, few_of_calm, few_on, still_shut}
use Rattle.eg_model.proofs.LapseRuns.{AllOrNone, trip_out, AllExceed}
use Rattle.eg_laws.proofs.LeastLaw.{room, last_is, onset_within}
use Rattle.eg_laws.proofs.ExcessTicks.{follows_plain, follows_alike, ticks_shut, many_positive, all_bits, all_plain, unconfirmed, loaded_proper, all_go_on, all_words, all_proper, size, size_over, period_positive, reaction_is, more_exceed, excess_level, driven_on, all_exceed}

-- ---- a tick that level 2 misses ----

missed_out : AllOrNone (effects_of missing_all 0)
unfolding effects_of no_effects is_left_out
missed_out = record {
  runs = false;
  ran = λ i. refl;
  unflipped = refl;
  undisturbed = λ i. refl;
  sound = λ i v. refl;
  regular = record { sends = refl; judged = refl };
  obeys = λ path. refl;
}

always_out : (k : ℕ) → is_left_out (0 ∷ []) 1 k ≡ true
unfolding is_left_out
always_out k = ap (λ n. (0 == n) || false) (one k)
  where
    one : (k : ℕ) → k % 1 ≡ 0
    one k = omega arith

same_always : (k : ℕ) → effects_of missing_all k ≡ effects_of missing_all 0
unfolding effects_of
same_always k = ap (λ out. record no_effects { ran = λ i. not out }) (always_out k ∙ sym (always_out 0))

-- ---- the history ----

module _ (cal : CalibrationParts) (accepted : IsAccepted cal) (can : CanExceed cal) where
  abbrev s : Setting
  s = lapse_setting cal

  abbrev torque : WeightParts
  torque = cal.rules.torque

  abbrev many : ℕ
  many = feeds_to_confirm torque

  abbrev first_quiet : ℕ
  first_quiet = lapse_onset cal + 1 - many

  abbrev bits : List Bool
  bits = replicate (many - 1) true ++ replicate first_quiet false

  abbrev base : List Tick
  base = before_lapse cal can.drive can.load

  abbrev miss : Tick
  miss = missed_excess cal can.drive can.load

  abbrev whole : ℕ → List Tick
  whole n = replicate n miss ++ base

  -- the number of the period after whose send tick the lapse begins
  abbrev p : ℕ
  p = periods_to_confirm torque cal.times

  onset_is : lapse_onset cal ≡ p * cal.times.period + cal.times.send + 1
  onset_is = last_is cal accepted can

  some : 0 < many
  some = many_positive s accepted can

  less : many - 1 < many
  less = let a = some in omega arith

  size_base : length base ≡ lapse_onset cal
  size_base = size s accepted can bits ∙ size_over s accepted can (many - 1) first_quiet
      ∙ (let a = some in let b = room cal accepted can in let c = onset_is in omega arith)

  size_whole : (n : ℕ) → length (whole n) ≡ n + lapse_onset cal
  size_whole n = length-append (replicate n miss) base ∙ ap₂ (λ a b. a + b) (length-replicate n miss) size_base

  none : is_confirmed torque bits ≡ false
  none = unconfirmed s accepted can (many - 1) first_quiet less

  calm : Calm s base
  calm = calm_until s accepted base (all_plain s accepted can bits) (all_proper s accepted can bits none)
      (ap (is_confirmed torque) (all_bits s accepted can bits).1 ∙ none)

  untripped : (n : ℕ) → tripped (moments_of s (whole n)) ≡ false
  unfolding moments_of missed_out
  untripped zero = calm.untouched.untripped
  untripped (suc n) = tripped-cons _ (moments_of s (whole n))
      ∙ or_from _ _ (trip_out s miss (moments_of s (whole n)) missed_out refl) (untripped n)

  regular : (n : ℕ) → AreRegular (replicate n miss)
  unfolding Each
  regular zero = tt
  regular (suc n) = (missed_out.regular, regular n)

  none_opens : (n : ℕ) → NoneOpens (whole n)
  unfolding Each
  none_opens zero = ticks_shut s accepted can bits
  none_opens (suc n) = (unfold effects_of no_effects in refl, none_opens n)

  few : (n : ℕ) → HasFew s (p + 1) (whole n)
  few n = few_on s accepted.times (p + 1) (replicate n miss) base (regular n)
      (let a = size_base in let b = onset_is in omega arith) (few_of_calm s (p + 1) base calm)

  shut : (n : ℕ) → n < reaction_of cal.times → latch2 (moments_of s (whole n)) ≡ false
  shut n early = still_shut s (period_positive s accepted can) (let a = accepted.answers.0 in omega arith)
      (let a = accepted.answers.3 in omega arith) (p + 1) (whole n) (few n) (none_opens n)
      (law (length (whole n)) n (reaction_of cal.times) p (feeds_to_confirm cal.times.weights) cal.times.period cal.times.send
      (reaction_is s accepted can) (size_whole n ∙ ap (λ k. n + k) onset_is) early)
    where
      law : (l n r q c period send : ℕ) → r + send + 1 ≡ (c + 1) * period → l ≡ n + (q * period + send + 1) →
          n < r → l < (q + 1 + c) * period
      law l n r q c period send is long early = grind arith

  on : (n : ℕ) → n < reaction_of cal.times → both_conduct (effects_of missing_all 0) (moments_of s (whole n)) ≡ true
  unfolding both_conduct path1_at path2_at effects_of no_effects
  on n early = ap₂ (λ a b. not a && not b) (latch1_shut s (whole n) (untripped n)) (shut n early)

  proper : (n : ℕ) → n ≤ reaction_of cal.times → AreProper s (whole n)
  unfolding AreProper
  proper zero within = all_proper s accepted can bits none
  proper (suc n) within =
      (loaded_proper s accepted can (effects_of missing_all 0) _ (on n (omega arith)), proper n (omega arith))

  exceeds : (n m : ℕ) → m ≡ n + (many - 1) → AllExceed s m (whole n)
  exceeds zero m is = subst (λ k. AllExceed s k base) (let e = is in omega arith) (all_exceed s accepted can (many - 1) (replicate first_quiet false))
  exceeds (suc n) m is =
      more_exceed s miss (whole n) (n + (many - 1)) m (omega arith)
      (excess_level s can.drive (whole n) _ (driven_on s accepted can n miss bits refl) can.exceeds)
      (exceeds n (n + (many - 1)) refl)

  bound_is : least_lapse_bound cal ≡ reaction_of cal.times + many
  bound_is = unfold least_lapse_bound in omega arith

  lasts : Lasts s (whole (reaction_of cal.times)) (least_lapse_bound cal - 1)
  lasts = record {
    follows = follows_alike (record { onset = lapse_onset cal; class = missing_all }) miss same_always (reaction_of cal.times) base
        (let a = size_base in omega arith)
        (follows_plain (record { onset = lapse_onset cal; class = missing_all }) base
        (all_plain s accepted can bits) (let a = size_base in omega arith));
    proper = proper (reaction_of cal.times) (omega arith);
    goes_on = All-append GoesOn (replicate (reaction_of cal.times) miss) base
        (All-replicate GoesOn (reaction_of cal.times) miss can.goes_on) (all_go_on s accepted can bits);
    words = All-append ShowsWord (replicate (reaction_of cal.times) miss) base
        (All-replicate ShowsWord (reaction_of cal.times) miss (can.is_word, can.is_word))
        (all_words s accepted can bits);
    exceeds = record {
      within = (let a = size_whole (reaction_of cal.times) in let b = bound_is in let c = onset_is in let d = room cal accepted can in omega arith);
      each = exceeds (reaction_of cal.times) (least_lapse_bound cal - 1)
          (let a = bound_is in let b = some in omega arith);
    };
  }

  valid : IsNoneOrValid s.fault
  unfolding IsNoneOrValid IsValidClass
  valid = (
    (let a = onset_within cal accepted can in omega arith),
    (
      (omega arith, omega arith),
      All-cons (λ k. k ≤ 19999) 0 [] (omega arith) (All-nil (λ k. k ≤ 19999)),
      (λ k l. absurd (omega arith)),
      omega arith,
    ),
  )

pub excess_lasts_so_long : ExcessLastsSoLong
excess_lasts_so_long cal accepted can = (valid cal accepted can, lasts cal accepted can)

pub lapse_bound_is_least : LapseBoundIsLeast
lapse_bound_is_least cal accepted can bound stay =
    let these = lasts cal accepted can in
    let below : least_lapse_bound cal - 1 < bound =
    stay (lapse_setting cal) refl (record { onset = lapse_onset cal; after = 0 ∷ []; every = 1; is = refl }) 0 _
    these.follows these.proper (least_lapse_bound cal - 1) these.exceeds in
    omega arith
