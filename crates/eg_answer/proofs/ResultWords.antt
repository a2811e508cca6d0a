-- The results of a row are words of 16 bits where the values of the permit table are.
use Rattle.std.proofs.Common.{◌≡◌, ℕ, suc, ◌+◌, ◌-◌, ◌*◌, ◌≤◌, ◌<◌, inl, inr, Bool, true, false, nat_le, List, [], ◌∷◌, length, refl, arith, slice_index}
use Rattle.std.specs.Prelude.{if◌then◌else◌, ◌==◌, All, min, max}
use Rattle.std.proofs.lemmas.Bool.{cases_lt, leb-true, leb-false, eqb-true}
use Rattle.std.proofs.lemmas.List.{get_or_past}
use Rattle.std.proofs.lemmas.List.Elements.{All-cons, All-nil}
use Rattle.std.proofs.Math.Nat.{div-le_of_le-mul}
use Rattle.eg_num.specs.Interpolation.{Grid, lerp, value_at, cell, grid_at, row_at}
use Rattle.eg_torque.specs.Permit.{permitted}
use Rattle.eg_torque.specs.Excess.{is_excess}
use Rattle.eg_sensor.specs.Readings.{checked_raise, bit, disagrees, falling_pair, rising_pair}
use Rattle.eg_answer.proofs.FoldLemmas.{Word}
use Rattle.eg_answer.specs.Formulas.{permitted_torque, estimated_torque, excess_number, disagreeing_pairs}
use Rattle.eg_answer.specs.Answers.{pedal_result, permitted_result, estimate_result, excess_result, pairs_result, results_of}
use Rattle.eg_answer.specs.declared.rules.Rules.{Rules}
use Rattle.eg_answer.specs.declared.rules.TestRow.{TestRow}

-- between two points the value lies at most as high as they do
lerp-at_most : (x0 y0 x1 y1 x most : ℕ) → x0 ≤ x → x ≤ x1 → y0 ≤ most → y1 ≤ most → lerp x0 y0 x1 y1 x ≤ most
lerp-at_most x0 y0 x1 y1 x most from to h0 h1 = div-le_of_le-mul (x1 - x0) (sums y0 y1 (x1 - x) (x - x0) (x1 - x0) h0 h1 (omega arith))
  where
    sums : (a b u v w : ℕ) → a ≤ most → b ≤ most → w ≡ u + v → a * u + b * v ≤ w * most
    sums a b u v w l m e = rw e (grind arith)

choice : (most a b c : ℕ) (p q : Bool) → (p ≡ true → a ≤ most) → (p ≡ false → q ≡ true → b ≤ most) → (q ≡ false → c ≤ most) → (if p then a else if q then b else c) ≤ most
choice most a b c true q h k l = h refl
choice most a b c false true h k l = k refl refl
choice most a b c false false h k l = l refl

value_at-at_most : (points : List ℕ) (value : ℕ → ℕ) (x most : ℕ) → ((i : ℕ) → value i ≤ most) → value_at points value x ≤ most
unfolding value_at
value_at-at_most [] value x most h = omega arith
value_at-at_most (x0 ∷ []) value x most h = h 0
value_at-at_most (x0 ∷ x1 ∷ xs) value x most h =
    choice most (value 0) (lerp x0 (value 0) x1 (value 1) x) (value_at (x1 ∷ xs) (λ i. value (suc i)) x) (nat_le x x0) (nat_le x x1)
    (λ p. h 0)
    (λ p q. let above = leb-false x x0 p in lerp-at_most x0 (value 0) x1 (value 1) x most (omega arith) (leb-true x x1 q) (h 0) (h 1))
    (λ q. value_at-at_most (x1 ∷ xs) (λ i. value (suc i)) x most (λ i. h (suc i)))

-- a value at any place, also past the end
any_value : (values : List ℕ) → All Word values → (k : ℕ) → slice_index values k ≤ 65535
any_value values words k = elim (cases_lt k (length values)) [
  | inl within ↦ (let word = words k 0 within in omega arith)
  | inr past ↦ (let e : slice_index values k ≡ 0 = get_or_past values k 0 past in omega arith)
]

grid-word : (g : Grid) → All Word g.values → (pedal speed : ℕ) → grid_at g pedal speed ≤ 65535
grid-word g words pedal speed =
    value_at-at_most g.rows (row_at g speed) pedal 65535 (λ i. value_at-at_most g.columns (cell g i) speed 65535 (λ j. any_value g.values words (i * length g.columns + j)))

raise-word : (value check : ℕ) → checked_raise value check ≤ 65535
raise-word value check = cases (value + check == 65535) refl
  where
    cases : (b : Bool) → (value + check == 65535) ≡ b → (if b then value else 0) ≤ 65535
    cases true e = let sum = eqb-true (value + check) 65535 e in omega arith
    cases false e = omega arith

most_of : (a b c : ℕ) → a ≤ 65535 → c ≤ 65535 → max (min a b) c < 65536
most_of a b c h k = omega arith

permitted-word : (rules : Rules) (row : TestRow) → All Word rules.permit.values → permitted_result rules row < 65536
unfolding permitted_result permitted_torque permitted
permitted-word rules row words =
    most_of _ _ _ (grid-word rules.permit words row.used (slice_index row.readings.speed 0)) (raise-word row.readings.raise row.readings.raise_check)

pedal-word : (row : TestRow) → pedal_result row < 65536
unfolding pedal_result
pedal-word row = least (slice_index row.readings.pedal 0) (slice_index row.readings.pedal 1)
  where
    least : (a b : ℕ) → min a (1000 - b) < 65536
    least a b = omega arith

estimate-word : (rules : Rules) (row : TestRow) → estimate_result rules row < 65536
unfolding estimate_result estimated_torque
estimate-word rules row = least _
  where
    least : (a : ℕ) → min 65535 a < 65536
    least a = omega arith

bit-word : (size : ℕ) (b : Bool) → bit size b ≤ size
bit-word size true = omega arith
bit-word size false = omega arith

excess-word : (rules : Rules) (row : TestRow) → excess_result rules row < 65536
unfolding excess_result excess_number
excess-word rules row = let one = bit-word 1 (is_excess row.estimate row.allowed rules.threshold) in omega arith

pairs-word : (rules : Rules) (row : TestRow) → pairs_result rules row < 65536
unfolding pairs_result disagreeing_pairs
pairs-word rules row = sum (disagrees (falling_pair row.readings.pedal) (slice_index rules.tolerances 0)) (disagrees (falling_pair row.readings.plate) (slice_index rules.tolerances 1))
    (disagrees (rising_pair row.readings.load) (slice_index rules.tolerances 2)) (disagrees (rising_pair row.readings.speed) (slice_index rules.tolerances 3))
  where
    sum : (a b c d : Bool) → bit 1 a + bit 2 b + bit 4 c + bit 8 d < 65536
    sum a b c d = let e = bit-word 1 a in let f = bit-word 2 b in let g = bit-word 4 c in let h = bit-word 8 d in omega arith

five_words : (a b c d e : ℕ) → Word a → Word b → Word c → Word d → Word e → All Word (a ∷ b ∷ c ∷ d ∷ e ∷ [])
five_words a b c d e ha hb hc hd he =
    All-cons Word a (b ∷ c ∷ d ∷ e ∷ []) ha (All-cons Word b (c ∷ d ∷ e ∷ []) hb (All-cons Word c (d ∷ e ∷ []) hc (All-cons Word d (e ∷ []) hd (All-cons Word e [] he (All-nil Word)))))

pub results-words : (rules : Rules) (row : TestRow) → All Word rules.permit.values → All Word (results_of rules row)
unfolding results_of
results-words rules row words =
    five_words _ _ _ _ _ (pedal-word row) (permitted-word rules row words) (estimate-word rules row) (excess-word rules row) (pairs-word rules row)
