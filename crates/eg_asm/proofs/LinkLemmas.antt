-- How the words of what is kept are found, one after the other.
use Rattle.std.proofs.Common.{◌≡◌, refl, ℕ, ◌+◌, ◌<◌, ◌≤◌, List, [], ◌∷◌, length, drop, get_or, Some, None}
use Rattle.std.proofs.lemmas.List.{drop_all, drop_more}
use Rattle.eg_asm.specs.Words.{Labels}
use Rattle.eg_asm.specs.Inner.Encodings.{Encoded}
use Rattle.eg_asm.specs.Inner.Linking.{completed, unresolved, completed_words}

-- an instruction that has a word
pub link-more : (labels : Labels) (address : ℕ) (is : List (ℕ × Encoded)) (i : ℕ × Encoded) (word : ℕ) → address < length is → get_or is address i ≡ i → Some word ≡ completed labels address i.1
    → (unresolved labels (address + 1) (drop (address + 1) is) ≡ unresolved labels address (drop address is))
    × (word ∷ completed_words labels (address + 1) (drop (address + 1) is) ≡ completed_words labels address (drop address is))
unfolding unresolved completed_words
link-more labels address is i word room here has = rw (drop_more is address i room, here, ← has) (refl, refl)

-- an instruction that has no word
pub link-bad : (labels : Labels) (address : ℕ) (is : List (ℕ × Encoded)) (i : ℕ × Encoded) → address < length is → get_or is address i ≡ i → None ≡ completed labels address i.1
    → unresolved labels address (drop address is) ≡ Some i.0
unfolding unresolved
link-bad labels address is i room here none = rw (drop_more is address i room, here, ← none) refl

-- no instruction is left
pub link-end : (labels : Labels) (address : ℕ) (is : List (ℕ × Encoded)) → length is ≤ address → (unresolved labels address (drop address is) ≡ None) × (completed_words labels address (drop address is) ≡ [])
unfolding unresolved completed_words
link-end labels address is end = rw (drop_all address is end) (refl, refl)
