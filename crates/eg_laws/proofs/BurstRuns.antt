-- So many of n ticks can have excess: the histories that show it. The densest feeds that aren't confirmed come before as
-- many bad ones as stay unconfirmed, and one more.
use Rattle.std.proofs.Common.{◌≡◌, ℕ, zero, suc, ◌+◌, ◌-◌, ◌*◌, ◌≤◌, ◌<◌, Bool, true, false, ◌||◌, nat_le, List, [], ◌∷◌, ◌++◌, length, take, replicate, refl, sym, ap, ap₂, ◌∙◌, subst, arith, inl, inr, length-append, append_assoc, min}
use Rattle.std.proofs.Math.Seq.{take-append_seam, take-append-add}
use Rattle.std.proofs.lemmas.Bool.{cases_Bool, true≢false}
use Rattle.std.proofs.lemmas.List.{length-replicate}
use Rattle.eg_num.specs.Arithmetic.{estimate, quotient_up}
use Rattle.eg_num.specs.Windows.{WeightParts, is_confirmed, greatest}
use Rattle.eg_num.proofs.CounterLemmas.{greatest-nil, greatest-bad, greatest-good, is_reached-greatest}
use Rattle.eg_answer.specs.Times.{feeds_to_confirm, reaction_of}
use Rattle.eg_values.specs.Calibration.{CalibrationParts, IsAccepted}
use Rattle.eg_fault.specs.Faults.{IsListed, IsValidClass, is_lapse}
use Rattle.eg_model.specs.History.{Setting, Entry, Tick}
use Rattle.eg_model.specs.Premises.{true_excesses}
use Rattle.eg_laws.specs.LeastReaction.{CanExceed, giving, by_bits, closed_from}
use Rattle.eg_laws.specs.Stretches.{exceeding_after, faultless_setting}
use Rattle.eg_laws.specs.Bursts.{most_bad, bad_in, densest}
use Rattle.eg_laws.specs.FaultyBursts.{HasExcesses, burst_onset, BurstsLast, BurstsLastUntilConfirmed}
use Rattle.eg_model.proofs.LapseWeights.{rounded_up}
use Rattle.eg_model.proofs.SharpCutLaw.{greatest-AllGood}
use Rattle.eg_laws.proofs.BurstLaws.{bad_in-cons, so_many_can_be_bad}
use Rattle.eg_laws.proofs.FewVerdicts.{never}
use Rattle.eg_laws.proofs.ExcessTicks.{all_good, follows_none, true_excesses-cons, excess_level, driven_on, all_bits, all_plain, confirmed, all_go_on, all_words, proper_to, size, period_positive}
use Rattle.eg_laws.proofs.LateExcess.{MayFollow, IsLate, loaded_may, reaction_long, size_whole, goes_on_after, words_after, follows_on, after_proper}

-- ---- bits ----

module _ (w : WeightParts) (some : 1 ≤ w.limit) where
  -- good ones before the first change nothing
  greatest-over : (bits : List Bool) (n : ℕ) → greatest w (bits ++ replicate n false) ≡ greatest w bits
  greatest-over [] n = greatest-AllGood w (replicate n false) (all_good n) ∙ sym (greatest-nil w)
  greatest-over (true ∷ bits) n = greatest-bad w (bits ++ replicate n false)
      ∙ ap (λ g. g + w.up) (greatest-over bits n) ∙ sym (greatest-bad w bits)
  greatest-over (false ∷ bits) n = greatest-good w (bits ++ replicate n false)
      ∙ ap (λ g. g - w.down) (greatest-over bits n) ∙ sym (greatest-good w bits)

  confirmed-over : (bits : List Bool) (n : ℕ) → is_confirmed w (bits ++ replicate n false) ≡ is_confirmed w bits
  unfolding is_confirmed
  confirmed-over [] n = never w (replicate n false) (omega (arith, some)) (all_good n)
  confirmed-over (b ∷ bits) n = ap₂ (λ x y. x || y)
      (is_reached-greatest w (b ∷ bits ++ replicate n false) some ∙ ap (nat_le w.limit) (greatest-over (b ∷ bits) n)
      ∙ sym (is_reached-greatest w (b ∷ bits) some))
      (confirmed-over bits n)

-- as many bad ones as stay unconfirmed after these bits, fewer than n
record Reach (w : WeightParts) (bits : List Bool) (n : ℕ) : Type 0 where
  more : ℕ
  within : more < n
  quiet : is_confirmed w (replicate more true ++ bits) ≡ false
  now : is_confirmed w (true ∷ (replicate more true ++ bits)) ≡ true

reach : (w : WeightParts) (bits : List Bool) (n : ℕ) → is_confirmed w bits ≡ false → is_confirmed w (replicate n true ++ bits) ≡ true →
    Reach w bits n
reach w bits zero none all = absurd (true≢false (sym all ∙ none))
reach w bits (suc n) none all = elim (cases_Bool (is_confirmed w (replicate n true ++ bits))) [
  | inl before ↦ (let r = reach w bits n none before in
      record { more = r.more; within = (let a = r.within in omega (arith, a)); quiet = r.quiet; now = r.now })
  | inr quiet ↦ record { more = n; within = omega arith; quiet = quiet; now = all }
]

bad_in-more : (b : Bool) (bits : List Bool) → bad_in (b ∷ bits) ≤ suc (bad_in bits)
bad_in-more true bits = let e = bad_in-cons true bits in omega (arith, e)
bad_in-more false bits = let e = bad_in-cons false bits in omega (arith, e)

bad_in-take : (n : ℕ) (bits : List Bool) → bad_in (take (suc n) bits) ≤ suc (bad_in (take n bits))
bad_in-take n [] = go n
  where
    go : (n : ℕ) → bad_in (take (suc n) []) ≤ suc (bad_in (take n []))
    go zero = omega arith
    go (suc n) = omega arith
bad_in-take zero (b ∷ bits) = bad_in-more b []
bad_in-take (suc n) (true ∷ bits) = let rest = bad_in-take n bits in
    let a = bad_in-cons true (take (suc n) bits) in let c = bad_in-cons true (take n bits) in omega (arith, rest, a, c)
bad_in-take (suc n) (false ∷ bits) = let rest = bad_in-take n bits in
    let a = bad_in-cons false (take (suc n) bits) in let c = bad_in-cons false (take n bits) in omega (arith, rest, a, c)

-- where bad ones follow, no fewer of the last are bad
bad_in-moved : (k : ℕ) (bits before : List Bool) → bad_in bits ≤ bad_in (take (length bits) (replicate k true ++ (bits ++ before)))
bad_in-moved zero bits before = let same = ap bad_in (take-append_seam bits before) in omega (arith, same)
bad_in-moved (suc k) [] before = omega arith
bad_in-moved (suc k) (b ∷ bits) before =
    let all = replicate k true ++ (b ∷ bits ++ before) in
    let rest = bad_in-moved k (b ∷ bits) before in
    let less = bad_in-take (length bits) all in
    let one = bad_in-cons true (take (length bits) all) in
    omega (arith, rest, less, one)

-- bad ones at the end
bad_in-run : (n : ℕ) (bits : List Bool) → bad_in (replicate n true ++ bits) ≡ n + bad_in bits
bad_in-run zero bits = omega arith
bad_in-run (suc n) bits = bad_in-cons true (replicate n true ++ bits) ∙ (let rest = bad_in-run n bits in omega (arith, rest))

length-densest : (w : WeightParts) (n : ℕ) → length (densest w n) ≡ n
unfolding densest
length-densest w zero = refl
length-densest w (suc n) = ap suc (length-densest w n)

-- ---- the history ----

module _ (cal : CalibrationParts) (accepted : IsAccepted cal) (can : CanExceed cal)
    (fits : cal.rules.torque.up + cal.rules.torque.down ≤ cal.rules.torque.limit) (n : ℕ) where
  abbrev torque : WeightParts
  torque = cal.rules.torque

  abbrev many : ℕ
  many = feeds_to_confirm torque

  abbrev dense : List Bool
  dense = densest torque n

  facts : (is_confirmed torque dense ≡ false) × (bad_in dense ≡ min n (most_bad torque n))
  facts = so_many_can_be_bad torque accepted.torque fits n

  reached : Reach torque dense many
  reached = reach torque dense many facts.0 (confirmed (faultless_setting cal) accepted can dense)

  abbrev periods : ℕ
  periods = quotient_up (many + n) cal.times.period

  -- the quiet ticks before
  abbrev quiets : ℕ
  quiets = periods * cal.times.period + cal.times.send + 1 - (reached.more + n)

  abbrev bits : List Bool
  bits = replicate reached.more true ++ (dense ++ replicate quiets false)

  size_bits : length bits ≡ periods * cal.times.period + cal.times.send + 1
  size_bits = omega (
    arith,
    length-append (replicate reached.more true) (dense ++ replicate quiets false),
    length-append dense (replicate quiets false),
    length-replicate reached.more true,
    length-replicate quiets false,
    length-densest torque n,
    reached.within,
    rounded_up (many + n) cal.times.period (period_positive (faultless_setting cal) accepted can),
  )

  over : (front : List Bool) → is_confirmed torque ((front ++ dense) ++ replicate quiets false) ≡ is_confirmed torque (front ++ dense)
  over front = confirmed-over torque accepted.torque.3 (front ++ dense) quiets

  late : IsLate cal bits periods (burst_onset cal n)
  late = record {
    quiet = ap (is_confirmed torque) (sym (append_assoc (replicate reached.more true) dense (replicate quiets false)))
        ∙ over (replicate reached.more true) ∙ reached.quiet;
    now = ap (is_confirmed torque) (sym (append_assoc (true ∷ replicate reached.more true) dense (replicate quiets false)))
        ∙ over (true ∷ replicate reached.more true) ∙ reached.now;
    size = size_bits;
    next = unfold burst_onset in (let a = size_bits in omega (arith, a));
  }

  -- of the last n ticks before the last of excess so many have it
  dense_bad : min n (most_bad torque n) ≤ bad_in (take n bits)
  dense_bad =
      let moved = bad_in-moved reached.more dense (replicate quiets false) in
      let same = facts.1 in
      let long = ap (λ k. bad_in (take k bits)) (length-densest torque n) in
      omega (arith, moved, same, long)

  -- and so many of those that end later
  later_bad : (k all : ℕ) → all ≡ k + suc n →
      min all (most_bad torque n + suc k) ≤ bad_in (take all (replicate k true ++ (true ∷ bits)))
  later_bad k all is = subst (λ m. min all (most_bad torque n + suc k) ≤ bad_in (take m (replicate k true ++ (true ∷ bits)))) (sym sizes)
      (subst (λ l. min all (most_bad torque n + suc k) ≤ bad_in l) (sym (take-append-add (replicate k true) (true ∷ bits) (suc n)))
      (let a = bad_in-run k (true ∷ take n bits) in let b = bad_in-cons true (take n bits) in let c = dense_bad in omega (arith, a, b, c, is)))
    where
      sizes : all ≡ length (replicate k true) + suc n
      sizes = is ∙ ap (λ m. m + suc n) (sym (length-replicate k true))

  -- ---- without a fault ----

  faultless : (all : ℕ) → all ≡ suc n → HasExcesses (faultless_setting cal) all (min all (most_bad torque n + 1))
  faultless all is = record {
    listed = unfold IsListed in tt;
    h = by_bits cal can.drive can.load (true ∷ bits);
    follows = follows_none _ (all_plain (faultless_setting cal) accepted can (true ∷ bits));
    proper = proper_to (faultless_setting cal) accepted can true bits late.quiet;
    goes_on = all_go_on (faultless_setting cal) accepted can (true ∷ bits);
    words = all_words (faultless_setting cal) accepted can (true ∷ bits);
    within = (let a = size (faultless_setting cal) accepted can (true ∷ bits) in let b = size_bits in
        let c = rounded_up (many + n) cal.times.period (period_positive (faultless_setting cal) accepted can) in omega (arith, a, b, c, is));
    excesses = subst (λ l. min all (most_bad torque n + 1) ≤ bad_in (take all l))
        (sym (all_bits (faultless_setting cal) accepted can (true ∷ bits)).0) (later_bad 0 all (omega (arith, is)));
  }

  -- ---- path 1 is held closed from the next tick on ----

  module _ (room : burst_onset cal n ≤ 19999) where
    abbrev s : Setting
    s = closed_from (burst_onset cal n) cal

    abbrev loaded : Entry
    loaded = giving can.drive can.load (estimate cal.rules.kt can.load)

    may : MayFollow s loaded
    may = loaded_may s accepted can

    abbrev whole : ℕ → List Tick
    whole k = replicate k (exceeding_after cal can.drive can.load) ++ by_bits cal can.drive can.load (true ∷ bits)

    whole_bits : (k : ℕ) → true_excesses s (whole k) ≡ replicate k true ++ (true ∷ bits)
    whole_bits zero = (all_bits s accepted can (true ∷ bits)).0
    whole_bits (suc k) = true_excesses-cons s (exceeding_after cal can.drive can.load) (whole k)
        ∙ ap₂ (λ b l. b ∷ l) (excess_level s can.drive (whole k) _
        (driven_on s accepted can k (exceeding_after cal can.drive can.load) (true ∷ bits) refl) can.exceeds) (whole_bits k)

    long : 2 ≤ reaction_of cal.times
    long = reaction_long cal accepted can bits periods _ late

    lasts : (all : ℕ) → all ≡ reaction_of cal.times + n → HasExcesses s all (min all (most_bad torque n + reaction_of cal.times))
    lasts all is = record {
      listed = unfold IsListed IsValidClass is_lapse in ((room, tt), refl);
      h = whole (reaction_of cal.times - 1);
      follows = follows_on cal accepted can bits periods _ late loaded may (reaction_of cal.times - 1);
      proper = after_proper cal accepted can bits periods _ late loaded may (reaction_of cal.times - 1) (let l = long in omega (arith, l));
      goes_on = goes_on_after cal accepted can bits periods _ late loaded may (reaction_of cal.times - 1);
      words = words_after cal accepted can bits periods _ late loaded may (reaction_of cal.times - 1);
      within = (let a = size_whole cal accepted can bits periods _ late loaded may (reaction_of cal.times - 1) in let b = size_bits in
          let c = late.next in let d = rounded_up (many + n) cal.times.period (period_positive s accepted can) in
          let l = long in omega (arith, a, b, c, d, l, is));
      excesses = subst (λ l. min all (most_bad torque n + reaction_of cal.times) ≤ bad_in (take all l))
          (sym (whole_bits (reaction_of cal.times - 1)))
          (let bad = later_bad (reaction_of cal.times - 1) all (let l = long in omega (arith, is, l)) in
          let l = long in omega (arith, bad, l));
    }

pub bursts_last : BurstsLast
bursts_last cal accepted can fits n least room = lasts cal accepted can fits (n - reaction_of cal.times) room n (omega (arith, least))

pub bursts_last_until_confirmed : BurstsLastUntilConfirmed
bursts_last_until_confirmed cal accepted can fits n least = faultless cal accepted can fits (n - 1) n (omega (arith, least))
