-- What stores make of level 2's words, by their numbers, and what they leave alone. What is stored is said by
-- the definitions of the modules (`Modules.antt`), which have the words by their names, as public contracts
-- do.
use Rattle.std.specs.Prelude.{◌≡◌, ℕ, ◌+◌, ◌-◌, Bool, ◌==◌, if◌then◌else◌, List, [], ◌∷◌, ◌++◌, take}
use Rattle.eg_answer.specs.declared.words.TheConstants.{MIRRORED_WORDS}

-- a store of one word
unfoldable pub put : ℕ → ℕ → (ℕ → ℕ) → ℕ → ℕ
put number value word k = if k == number then value else word k

-- ---- stores in their order ----

-- one store: the number of a word, from 16 on of a complement, and what is put there
pub record Store : Type 0 where
  pub number : ℕ
  pub value : ℕ

unfoldable pub store : ℕ → ℕ → Store
store number value = record { number = number; value = value }

-- the store of a word, and that of its complement
unfoldable pub both : ℕ → ℕ → List Store
both number value = store number value ∷ store (number + MIRRORED_WORDS) (65535 - value) ∷ []

-- these two where a test is true, else none
unfoldable pub both_where : Bool → ℕ → ℕ → List Store
both_where test number value = if test then both number value else []

-- the words after these stores, one after another
unfoldable pub after_stores : List Store → (ℕ → ℕ) → ℕ → ℕ
after_stores [] word = word
after_stores (one ∷ rest) word = after_stores rest (put one.number one.value word)

-- These stores were made up to some point, in their order, and no other.
pub record AreFirst (stores : List Store) (before after : ℕ → ℕ) : Type 0 where
  pub count : ℕ
  pub made : after ≡ after_stores (take count stores) before

-- the stores of words of these values, with their complements, from this number on
unfoldable pub both_from : ℕ → List ℕ → List Store
both_from number [] = []
both_from number (value ∷ values) = both number value ++ both_from (number + 1) values
