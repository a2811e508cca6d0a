-- The fold of a seed and of results (C31), and the law that it is one-to-one in each single result.
use Rattle.std.specs.Prelude.{◌≡◌, ℕ, ◌<◌, ◌^◌, List, length, All, fold, slice_set, bit_xor}
use Rattle.std.specs.Int.{w16, rotate_left}

-- one result more
unfoldable pub mixed : ℕ → ℕ → ℕ
mixed bits result = bit_xor (rotate_left w16 bits 3) result

-- the fold of a seed and results, the first result first
unfoldable pub fold_of : ℕ → List ℕ → ℕ
fold_of seed results = fold mixed seed results

-- For a seed and results of 16 bits, however many: if only the result at one place may be a or b, equal folds
-- show that a is b. So results that differ in exactly one place have different folds.
abbrev pub FoldLaw : Type 0
FoldLaw = (seed : ℕ) (results : List ℕ) (index a b : ℕ) →
    seed < 2 ^ 16 → All (λ result. result < 2 ^ 16) results → a < 2 ^ 16 → b < 2 ^ 16 →
    index < length results →
    fold_of seed (slice_set results index a) ≡ fold_of seed (slice_set results index b) → a ≡ b
