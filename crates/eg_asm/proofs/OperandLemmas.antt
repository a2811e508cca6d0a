-- How the operands of an instruction are read, one after the other.
use Rattle.std.proofs.Common.{◌≡◌, refl, ℕ, ◌+◌, ◌<◌, ◌≤◌, List, ◌∷◌, length, drop, get_or, true, Option, Some, None, arith, inl, inr}
use Rattle.std.specs.Prelude.{nat_lt, option_map, is_some}
use Rattle.std.specs.List.{before_first, position_or_len}
use Rattle.std.specs.Str.{byte}
use Rattle.std.proofs.lemmas.Bool.Decides.{nat_tests}
use Rattle.std.proofs.lemmas.List.{drop_all, drop_more, take_all}
use Rattle.std.proofs.lemmas.List.Splits.{slice_split_first, slice_split_none}
use Rattle.std.proofs.lemmas.List.Sums.{fails_before_first}
use Rattle.std.proofs.lemmas.Bool.{cases_Bool}
use Rattle.eg_asm.specs.declared.operand.Operand.{Operand}
use Rattle.eg_asm.specs.Grammar.{Value}
use Rattle.eg_asm.specs.Inner.Encodings.{Encoded, with_operand, with_operands}
use Rattle.eg_asm.specs.Reading.{is_byte, behind_first, texts_in, value_of, values_of, value_before}

-- the text of the first operand, and the texts of the others
pub texts_in-some : (text : List ℕ) → texts_in (Some text) ≡ before_first (is_byte (byte ",")) text ∷ texts_in (behind_first (byte ",") text)
unfolding texts_in behind_first
texts_in-some text = elim (cases_Bool (nat_lt (position_or_len (is_byte 44) text) (length text))) [
  | inl inside ↦ rw inside (slice_split_first (is_byte 44) text 0 (grind (arith, nat_tests)))
  | inr past ↦ (let long : length text ≤ position_or_len (is_byte 44) text = grind (arith, nat_tests) in
      rw (past, take_all (position_or_len (is_byte 44) text) text long) (slice_split_none (is_byte 44) text (λ k d low. fails_before_first (is_byte 44) text k d (omega arith))))
]

-- an operand that was read
operand-more : (kept next : Encoded) (operand : Operand) (operands : List Operand) (text : List ℕ)
    → Some next ≡ option_map (with_operand kept operand) (value_of operand (before_first (is_byte (byte ",")) text))
    → option_map (with_operands next operands) (values_of operands (texts_in (behind_first (byte ",") text)))
    ≡ option_map (with_operands kept (operand ∷ operands)) (values_of (operand ∷ operands) (texts_in (Some text)))
unfolding values_of with_operands
operand-more kept next operand operands text is = rw (texts_in-some text) (at (value_of operand (before_first (is_byte 44) text)) (values_of operands (texts_in (behind_first 44 text))) is)
  where
    at : (v : Option Value) (vs : Option (List Value)) → Some next ≡ option_map (with_operand kept operand) v
        → option_map (with_operands next operands) vs ≡ option_map (with_operands kept (operand ∷ operands)) (value_before v vs)
    at None vs is = absurd cc
    at (Some v) None is = refl
    at (Some v) (Some vs) is = let same : next ≡ with_operand kept operand v = cc in rw same refl

-- an operand that wasn't
operand-bad : (kept : Encoded) (operand : Operand) (operands : List Operand) (text : List ℕ)
    → None ≡ option_map (with_operand kept operand) (value_of operand (before_first (is_byte (byte ",")) text))
    → values_of (operand ∷ operands) (texts_in (Some text)) ≡ None
unfolding values_of
operand-bad kept operand operands text is = rw (texts_in-some text) (at (value_of operand (before_first (is_byte 44) text)) is)
  where
    at : (v : Option Value) → None ≡ option_map (with_operand kept operand) v → value_before v (values_of operands (texts_in (behind_first 44 text))) ≡ None
    at None is = refl
    at (Some v) is = absurd cc

-- ---- what the operands from a place on add ----

-- what these operands add, where this is left of the text
unfoldable pub added_from : Encoded → List Operand → ℕ → Option (List ℕ) → Option Encoded
added_from kept operands i rest = option_map (with_operands kept (drop i operands)) (values_of (drop i operands) (texts_in rest))

-- one that was read
pub added-more : (kept next : Encoded) (operands : List Operand) (i : ℕ) (d : Operand) (text : List ℕ) → i < length operands
    → Some next ≡ option_map (with_operand kept (get_or operands i d)) (value_of (get_or operands i d) (before_first (is_byte (byte ",")) text))
    → added_from next operands (i + 1) (behind_first (byte ",") text) ≡ added_from kept operands i (Some text)
unfolding added_from
added-more kept next operands i d text room is = rw (drop_more operands i d room) (operand-more kept next (get_or operands i d) (drop (i + 1) operands) text is)

-- one that wasn't
pub added-bad : (kept : Encoded) (operands : List Operand) (i : ℕ) (d : Operand) (text : List ℕ) → i < length operands
    → None ≡ option_map (with_operand kept (get_or operands i d)) (value_of (get_or operands i d) (before_first (is_byte (byte ",")) text))
    → added_from kept operands i (Some text) ≡ None
unfolding added_from
added-bad kept operands i d text room is = rw (drop_more operands i d room, operand-bad kept (get_or operands i d) (drop (i + 1) operands) text is) refl

-- an operand for which no text is left
pub added-missing : (kept : Encoded) (operands : List Operand) (i : ℕ) (d : Operand) → i < length operands → added_from kept operands i None ≡ None
unfolding added_from values_of texts_in
added-missing kept operands i d room = rw (drop_more operands i d room) refl

-- a text for which no operand is left
pub added-past : (kept : Encoded) (operands : List Operand) (i : ℕ) (rest : Option (List ℕ)) → length operands ≤ i → is_some rest ≡ true → added_from kept operands i rest ≡ None
unfolding added_from values_of
added-past kept operands i (Some text) end more = rw (drop_all i operands end, texts_in-some text) refl
added-past kept operands i None end more = absurd cc

-- neither an operand nor a text is left
pub added-all : (kept : Encoded) (operands : List Operand) (i : ℕ) → length operands ≤ i → added_from kept operands i None ≡ Some kept
unfolding added_from values_of texts_in with_operands
added-all kept operands i end = rw (drop_all i operands end) refl
