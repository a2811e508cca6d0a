-- What `asm` makes of a source (F25 to F27): its words, or the first refusal.
use Rattle.std.specs.Prelude.{◌≡◌, ◌≢◌, ℕ, ◌+◌, ◌<◌, ◌≤◌, List, [], ◌++◌, length, Some, None, Result, Ok, Err}
use Rattle.eg_input.specs.declared.image.TheConstants.{MOST_WORDS}
use Rattle.eg_asm.specs.declared.fault.AsmFault.{AsmFault}
use Rattle.eg_asm.specs.declared.fault.AsmFault.TheVariants as fault
use Rattle.eg_asm.specs.Grammar.{Item, IsLineOf, IsTextOf}
use Rattle.eg_asm.specs.Words.{size, word_count, item_words, first_fault}

-- F25, F26: the source has no fault, and these words
pub record IsSourceOf (source words : List ℕ) : Type 0 where
  pub items : List Item
  pub text : IsTextOf source items
  pub most : word_count items ≤ MOST_WORDS
  pub sound : first_fault items ≡ None
  pub words_are : words ≡ item_words items

-- the text goes on, and its next line isn't the line of an item that may come
pub record GoesWrong (may_come : Item → Type 0) (text : List ℕ) : Type 0 where
  pub more : text ≢ []
  pub wrong : (line rest : List ℕ) (item : Item) → text ≡ line ++ rest → IsLineOf line item
      → may_come item → ⊥

-- F27, Line
pub record HasBadLineAt (source : List ℕ) (number : ℕ) : Type 0 where
  pub good : List Item
  pub front : List ℕ
  pub rest : List ℕ
  pub parts : source ≡ front ++ rest
  pub text : IsTextOf front good
  pub few : word_count good < MOST_WORDS
  pub bad : GoesWrong (λ item. Unit {0}) rest
  pub at : number ≡ length good + 1

-- F27, Long
pub record IsTooLong (source : List ℕ) : Type 0 where
  pub good : List Item
  pub front : List ℕ
  pub rest : List ℕ
  pub parts : source ≡ front ++ rest
  pub text : IsTextOf front good
  pub full : word_count good ≡ MOST_WORDS
  pub bad : GoesWrong (λ item. size item ≡ 0) rest

-- F27, Label
pub record HasBadLabelAt (source : List ℕ) (number : ℕ) : Type 0 where
  pub items : List Item
  pub text : IsTextOf source items
  pub most : word_count items ≤ MOST_WORDS
  pub at : first_fault items ≡ Some number

-- F25, F27, if memory doesn't run out
abbrev pub Assembles : List ℕ → Result (List ℕ) AsmFault → Type 0
Assembles source (Ok words) = IsSourceOf source words
Assembles source (Err fault.Memory) = ⊥
Assembles source (Err (fault.Line number)) = HasBadLineAt source number
Assembles source (Err (fault.Label number)) = HasBadLabelAt source number
Assembles source (Err fault.Long) = IsTooLong source
