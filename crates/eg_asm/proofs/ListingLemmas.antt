-- What stands in a word in the places of operands.
use Rattle.std.proofs.Common.{◌≡◌, ◌∙◌, sym, ap, refl, ℕ, ◌+◌, ◌-◌, ◌*◌, ◌<◌, ◌≤◌, pos, negsuc, ◌-ℤ◌, List, [], ◌∷◌, ◌++◌, length, take, drop, get_or, map, Bool, true, false, cond, Option, Some, option_map, arith, append_assoc, add-one}
use Rattle.std.specs.Prelude.{nat_lt, nat_le, ◌==◌}
use Rattle.std.specs.List.{list_all, join_with_byte}
use Rattle.std.proofs.lemmas.List.{drop_all, drop_more, map-append}
use Rattle.std.proofs.Math.Seq.{take-suc}
use Rattle.std.proofs.lemmas.List.Sums.{AllPass-from_list_all}
use Rattle.std.proofs.lemmas.Bool.Decides.{nat_tests}
use Rattle.std.proofs.lemmas.Int.{ints}
use Rattle.std.proofs.lemmas.Bool.{and_parts}
use Rattle.eg_word.specs.Instructions.{signed}
use Rattle.eg_asm.specs.declared.operand.Operand.{Operand}
use Rattle.eg_asm.specs.declared.operand.Operand.TheVariants as operand
use Rattle.eg_asm.specs.Grammar.{Value, text_of_value, text_of_values}
use Rattle.eg_asm.specs.Numerals.{numeral, integer}
use Rattle.eg_asm.specs.Inner.Usable.{is_usable, are_usable}
use Rattle.eg_asm.specs.Words.{Labels, complement_of, distance_to, field_of, fields_of}
use Rattle.eg_asm.specs.Listings.{value_in}
use Rattle.eg_asm.proofs.LinkLaws.{add-more}

-- a number read as two's complement is written as it
pub complement-signed : (reach n : ℕ) → n < 2 * reach → complement_of reach (signed reach n) ≡ Some n
unfolding signed complement_of
complement-signed reach n small = at (nat_lt n reach) refl
  where
    at : (b : Bool) → nat_lt n reach ≡ b → complement_of reach (cond b (pos n) (pos n -ℤ pos (2 * reach))) ≡ Some n
    at true low = rw low refl
    at false high =
        let least : reach ≤ n = grind (arith, nat_tests) in
        let below : pos n -ℤ pos (2 * reach) ≡ negsuc (2 * reach - n - 1) = omega (arith, ints) in
        let inside : nat_lt (2 * reach - n - 1) reach ≡ true = grind (arith, nat_tests) in
        let back : 2 * reach - (2 * reach - n - 1 + 1) ≡ n = omega arith in
        rw (below, inside, back) refl

-- what stands in a word is what is added to it, whatever labels there are
pub field-listed : (labels : Labels) (place word : ℕ) (o : Operand) → field_of labels place o (value_in word o) ≡ field_of [] 0 o (value_in word o)
unfolding field_of value_in distance_to
field-listed labels place word (operand.Register weight) = refl
field-listed labels place word (operand.Number most) = refl
field-listed labels place word (operand.Target reach) = refl

-- ---- operands, one after the other ----

pub usable-at : (operands : List Operand) (i : ℕ) (d : Operand) → are_usable operands ≡ true → i < length operands → is_usable (get_or operands i d) ≡ true
usable-at operands i d h room = AllPass-from_list_all is_usable operands (and_parts (nat_le (length operands) 3) (list_all is_usable operands) h).1 i d room

-- what those from a place on add
abbrev pub listed_from : ℕ → ℕ → List Operand → Option ℕ
listed_from word i operands = fields_of [] 0 (drop i operands) (map (value_in word) (drop i operands))

pub listed-more : (word made n i : ℕ) (operands : List Operand) (d : Operand) → i < length operands
    → Some n ≡ field_of [] 0 (get_or operands i d) (value_in word (get_or operands i d))
    → option_map (λ fields. made + n + fields) (listed_from word (i + 1) operands) ≡ option_map (λ fields. made + fields) (listed_from word i operands)
unfolding fields_of
listed-more word made n i operands d room is =
    add-more made n (listed_from word (i + 1) operands) ∙ rw (drop_more operands i d room, ← is) refl

pub listed-end : (word made i : ℕ) (operands : List Operand) → length operands ≤ i → option_map (λ fields. made + fields) (listed_from word i operands) ≡ Some made
unfolding fields_of
listed-end word made i operands end = let same : made + 0 ≡ made = omega arith in rw (drop_all i operands end, same) refl

-- ---- what is written ----

-- a number read as two's complement, by where it lies
pub signed-low : (reach n : ℕ) → n < reach → integer (signed reach n) ≡ numeral n
unfolding signed integer
signed-low reach n low = let inside : nat_lt n reach ≡ true = grind (arith, nat_tests) in rw inside refl

pub signed-high : (reach n : ℕ) → reach ≤ n → n < 2 * reach → integer (signed reach n) ≡ 45 ∷ numeral (2 * reach - n)
unfolding signed integer
signed-high reach n high small =
    let outside : nat_lt n reach ≡ false = grind (arith, nat_tests) in
    let below : pos n -ℤ pos (2 * reach) ≡ negsuc (2 * reach - n - 1) = omega (arith, ints) in
    let same : 2 * reach - n - 1 + 1 ≡ 2 * reach - n = omega arith in
    rw (outside, below, same) refl

-- a value more behind others
joined-more : (text : List ℕ) (texts : List (List ℕ)) (last : List ℕ) → join_with_byte 44 ((text ∷ texts) ++ last ∷ []) ≡ join_with_byte 44 (text ∷ texts) ++ 44 ∷ last
joined-more text [] last = refl
joined-more text (next ∷ texts) last =
    ap (λ (l : List ℕ). text ++ 44 ∷ l) (joined-more next texts last) ∙ sym (append_assoc text (44 ∷ join_with_byte 44 (next ∷ texts)) (44 ∷ last))

pub text_of_values-more : (values : List Value) (value : Value)
    → text_of_values (values ++ value ∷ []) ≡ text_of_values values ++ cond (length values == 0) 32 44 ∷ text_of_value value
unfolding text_of_values
text_of_values-more [] value = refl
text_of_values-more (first ∷ values) value =
    let some : (length (first ∷ values) == 0) ≡ false = grind (arith, nat_tests) in
    rw some (ap (λ (ts : List (List ℕ)). 32 ∷ join_with_byte 44 ts) (map-append text_of_value (first ∷ values) (value ∷ []))
    ∙ ap (λ (l : List ℕ). 32 ∷ l) (joined-more (text_of_value first) (map text_of_value values) (text_of_value value)))

-- the values of the operands up to a place, and one more
pub listed-one : (word i : ℕ) (operands : List Operand) (d : Operand) → i < length operands
    → map (value_in word) (take (i + 1) operands) ≡ map (value_in word) (take i operands) ++ value_in word (get_or operands i d) ∷ []
listed-one word i operands d room = rw (add-one i, take-suc operands i d room) (map-append (value_in word) (take i operands) (get_or operands i d ∷ []))
