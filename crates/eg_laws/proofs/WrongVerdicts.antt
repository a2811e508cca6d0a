-- How many verdicts of a list that isn't confirmed are wrong, if so many are right.
use Rattle.std.proofs.Common.{inl, inr, ◌≡◌, ℕ, zero, suc, ◌+◌, ◌-◌, ◌*◌, ◌/◌, ◌≤◌, ◌<◌, Bool, true, false, not, List, [], ◌∷◌, length, take, refl, ◌∙◌, sym, subst, arith, min}
use Rattle.std.specs.List.{count_by}
use Rattle.std.proofs.Math.Nat.{div-mul-le_self}
use Rattle.std.proofs.lemmas.Nat.{le-div}
use Rattle.std.proofs.lemmas.List.{length-take-le}
use Rattle.std.proofs.lemmas.Bool.{cases_lt, true≢false, or_parts}
use Rattle.eg_num.specs.Windows.{WeightParts, AreWeights, is_confirmed, weight}
use Rattle.eg_num.proofs.CounterLemmas.{greatest_below}
use Rattle.eg_answer.specs.Times.{feeds_to_confirm, most_wrong}
use Rattle.eg_model.proofs.Silence.{TrueRun, enough_weight, longer_run, run_confirms}
use Rattle.eg_model.proofs.LapseRuns.{count-cons}
use Rattle.eg_model.proofs.LapseWeights.{count-both, weight_below}
use Rattle.eg_laws.proofs.FewVerdicts.{quotient_positive}

-- The newest k bits: the newest `run` of all are wrong, and before them each right one has fewer wrong ones in a row
-- than confirm.
record Runs (w : WeightParts) (k : ℕ) (bits : List Bool) : Type 0 where
  run : ℕ
  wrong : TrueRun run bits
  few : count_by (λ b. b) (take k bits) ≤ run + count_by not (take k bits) * (feeds_to_confirm w - 1)

unconfirmed_before : (w : WeightParts) (b : Bool) (bits : List Bool) → is_confirmed w (b ∷ bits) ≡ false → is_confirmed w bits ≡ false
unfolding is_confirmed
unconfirmed_before w b bits none = (or_parts _ _ none).1

module _ (w : WeightParts) (are : AreWeights w) where
  abbrev many : ℕ
  many = feeds_to_confirm w

  some : 0 < many
  some = unfold feeds_to_confirm in quotient_positive w.limit w.up (let a = are.3 in omega (arith, a)) (let a = are.0 in omega (arith, a))

  -- fewer in a row are wrong than confirm
  run_short : (n : ℕ) (bits : List Bool) → TrueRun n bits → is_confirmed w bits ≡ false → n < many
  run_short n bits run none = elim (cases_lt n many) [
    | inl less ↦ less
    | inr enough ↦ absurd (true≢false (sym (run_confirms w many bits (let a = are.3 in omega (arith, a))
        (enough_weight w (let a = are.0 in omega (arith, a))) (longer_run many n bits enough run)) ∙ none))
  ]

  runs : (k : ℕ) (bits : List Bool) → is_confirmed w bits ≡ false → Runs w k bits
  unfolding TrueRun
  runs zero bits none = record { run = 0; wrong = tt; few = omega arith }
  runs (suc k) [] none = record { run = 0; wrong = tt; few = omega arith }
  runs (suc k) (true ∷ bits) none =
      let r = runs k bits (unconfirmed_before w true bits none) in
      record {
        run = suc r.run;
        wrong = (refl, r.wrong);
        few = rw (count-cons (λ b. b) true (take k bits), count-cons not true (take k bits)) (omega (arith, r.few));
      }
  runs (suc k) (false ∷ bits) none =
      let before = unconfirmed_before w false bits none in
      let r = runs k bits before in
      record {
        run = 0;
        wrong = tt;
        few = rw (count-cons (λ b. b) false (take k bits), count-cons not false (take k bits))
            (one_more _ _ r.run (many - 1) (let l = run_short r.run bits r.wrong before in omega (arith, l)) r.few);
      }
    where
      one_more : (bad good run most : ℕ) → run ≤ most → bad ≤ run + good * most → bad ≤ 0 + suc good * most
      one_more bad good run most l f = omega (arith, l, f)

  scaled : (a b d : ℕ) → a ≤ b → a * d ≤ b * d
  scaled a b d l = grind arith

  -- so with one more there are at most as many as the bound says for so many right ones
  pub few_wrong : (k : ℕ) (bits : List Bool) → k ≤ length bits → is_confirmed w bits ≡ false → (rights : ℕ) →
      count_by not (take k bits) ≤ rights → k + 1 ≤ most_wrong w rights + count_by not (take k bits)
  unfolding most_wrong weight
  few_wrong k bits within none rights fewer = law first second
    where
      bad : ℕ
      bad = count_by (λ b. b) (take k bits)

      good : ℕ
      good = count_by not (take k bits)

      sum : bad + good ≡ k
      sum = count-both (take k bits) ∙ length-take-le k bits within

      below : weight w (take k bits) < w.limit
      below = let a = weight_below w k bits in let b = greatest_below w bits (let l = are.3 in omega (arith, l)) none in omega (arith, a, b)

      weighs : bad * w.up ≤ w.limit - 1 + rights * w.down
      weighs = go below (scaled good rights w.down fewer)
        where
          go : weight w (take k bits) < w.limit → good * w.down ≤ rights * w.down → bad * w.up ≤ w.limit - 1 + rights * w.down
          go l m = omega (arith, l, m)

      first : bad + 1 ≤ (w.limit - 1 + rights * w.down) / w.up + 1
      first = let q = le-div bad (w.limit - 1 + rights * w.down) w.up (let a = are.0 in omega (arith, a)) weighs in omega (arith, q)

      second : bad + 1 ≤ many + rights * (many - 1)
      second =
          let r = runs k bits none in
          let short = run_short r.run bits r.wrong none in
          let m = scaled good rights (many - 1) fewer in
          omega (arith, r.few, short, m)

      law : bad + 1 ≤ (w.limit - 1 + rights * w.down) / w.up + 1 → bad + 1 ≤ many + rights * (many - 1) →
          k + 1 ≤ min ((w.limit - 1 + rights * w.down) / w.up + 1) (many + rights * (many - 1)) + good
      law a b = omega (arith, a, b, sum)

  -- in a row fewer are wrong than confirm
  pub most_in_row : most_wrong w 0 ≤ many
  unfolding most_wrong
  most_in_row = omega arith

  pub many_within : (rights : ℕ) → many ≤ most_wrong w rights
  unfolding most_wrong feeds_to_confirm
  many_within rights = law (w.limit - 1 + rights * w.down) (rights * ((w.limit + (w.up - 1)) / w.up - 1)) ((w.limit + (w.up - 1)) / w.up)
      (le-div ((w.limit + (w.up - 1)) / w.up - 1) (w.limit - 1 + rights * w.down) w.up (let a = are.0 in omega (arith, a))
      (lower ((w.limit + (w.up - 1)) / w.up) w.up (w.limit - 1) (rights * w.down) (let d = div-mul-le_self (w.limit + (w.up - 1)) w.up in let l = are.3 in omega (arith, d, l))
      (let a = are.0 in omega (arith, a)) (omega arith)))
    where
      lower : (q up below taken : ℕ) → q * up ≤ suc below + (up - 1) → 1 ≤ up → 0 ≤ below → (q - 1) * up ≤ below + taken
      lower zero up below taken l some none = omega (arith, l)
      lower (suc q) up below taken l some none =
          let same : suc q - 1 ≡ q = omega arith in subst (λ k. k * up ≤ below + taken) (sym same) (omega (arith, l, some))

      law : (over more q : ℕ) → q - 1 ≤ over / w.up → q ≤ min (over / w.up + 1) (q + more)
      law over more q l = omega (arith, l)
