-- The words of a memory after a store.
use Rattle.std.proofs.Common.{◌≡◌, ◌∙◌, ℕ, ◌<◌, ◌^◌, List, length, slice_index, slice_set, inl, inr, arith, replicate, refl, zero, suc, lit<}
use Rattle.std.proofs.lemmas.List.{length-set, get_or-set_same, get_or-set_other}
use Rattle.std.proofs.lemmas.Bool.{cases_eq}
use Rattle.eg_guard.specs.Memory.{AreWords}

-- each word is of 16 bits after a store of one
small-set : (words : List ℕ) (address word k : ℕ) → AreWords words → address < 4096 → word < 2 ^ 16
    → slice_index (slice_set words address word) k < 2 ^ 16
small-set words address word k are within fits =
    elim (cases_eq k address) [
      | inl here ↦ let inside : address < length words = omega (arith, are.count) in
          rw (here, get_or-set_same) fits
      | inr other ↦ rw get_or-set_other (are.small k)
    ]

-- a store of a word of 16 bits leaves 4,096 words of 16 bits
pub AreWords-set : (words : List ℕ) (address word : ℕ) → AreWords words → address < 4096 → word < 2 ^ 16
    → AreWords (slice_set words address word)
AreWords-set words address word are within fits = record {
  count = length-set words address word ∙ are.count;
  small = λ k. small-set words address word k are within fits;
}

-- a list of zeros shows 0 at each place, and past its end
zeros-index : (count k : ℕ) → slice_index (replicate count 0) k ≡ 0
zeros-index zero k = refl
zeros-index (suc count) zero = refl
zeros-index (suc count) (suc k) = zeros-index count k

-- a list of zeros is a list of words of 16 bits
zeros-small : (count k : ℕ) → slice_index (replicate count 0) k < 2 ^ 16
zeros-small count k = rw zeros-index (lit< tt)

-- 4,096 words of 0 are words
pub zeros_are_words : AreWords (replicate 4096 0)
zeros_are_words = record { count = refl; small = zeros-small 4096 }
