-- No comma is in the own keys of a class.
use Rattle.std.proofs.Common.{◌≡◌, ◌∙◌, ℕ, suc, ◌+◌, ◌%◌, ◌≤◌, ◌<◌, ◌==◌, Bool, true, false, not, ◌&&◌, List, [], ◌∷◌, ◌++◌, All, map, refl, ap, arith, pos, negsuc}
use Rattle.std.specs.Prelude.{ℤ, codes, decimal}
use Rattle.std.specs.Fmt.{signed_decimal}
use Rattle.std.specs.List.{AllByRecursion, concat}
use Rattle.std.proofs.Math.Nat.{mod-lt}
use Rattle.std.proofs.lemmas.Bool.{and_from, ne_eqb}
use Rattle.std.proofs.lemmas.Fmt.{decimal_by_steps}
use Rattle.std.proofs.lemmas.List.Elements.{All-head, All-tail}
use Rattle.std.proofs.lemmas.List.Folds.{list_all-append}
use Rattle.eg_fault.specs.declared.key.FaultKey.{FaultKey}
use Rattle.eg_fault.specs.declared.key.FaultKey.TheVariants.{Track}
use Rattle.eg_fault.specs.Faults.{IsOffset}
use Rattle.eg_fault.specs.Names.{key_text, Held, held, number_item, number_items, truth_item, truth_items, item_text, items_text}
use Rattle.eg_fault.specs.Names as it
use Rattle.eg_fault.proofs.ClassLemmas.{IsSmall, held-small}
use Rattle.eg_table.specs.Laws.{has_no_comma, KeysHaveNoComma}

abbrev Plain : List ℕ → Type 0
Plain text = has_no_comma text ≡ true

both : (xs ys : List ℕ) → Plain xs → Plain ys → Plain (xs ++ ys)
unfolding has_no_comma
both xs ys first second = list_all-append (λ byte. not (byte == 44)) xs ys ∙ and_from _ _ first second

digit : (k : ℕ) → k < 10 → Plain ((48 + k) ∷ [])
unfolding has_no_comma
digit k small = ap (λ b. not b && true) (ne_eqb (48 + k) 44 (λ same. omega (arith, same)))

number : (n : ℕ) → n ≤ 65535 → Plain (decimal n)
number n small = decimal_by_steps (λ k digits. Plain digits) (λ k below. digit k below)
    (λ k digits some rest. both digits ((48 + k % 10) ∷ []) rest (digit (k % 10) (mod-lt k (omega arith)))) n (omega (arith, small))

-- words before a number, and a number
named : (words : List ℕ) (n : ℕ) → Plain words → n ≤ 65535 → Plain (words ++ decimal n)
named words n plain small = both words (decimal n) plain (number n small)

numbers : (ns : List ℕ) → All (λ n. n ≤ 65535) ns → Plain (number_items ns)
unfolding number_items number_item
numbers [] all = unfold has_no_comma in refl
numbers (n ∷ ns) all = both (codes " " ++ decimal n) (concat (map number_item ns))
    (named (codes " ") n (unfold has_no_comma in refl) (All-head (λ m. m ≤ 65535) n ns all))
    (numbers ns (All-tail (λ m. m ≤ 65535) n ns all))

truth : (b : Bool) → Plain (truth_item b)
unfolding truth_item has_no_comma
truth true = refl
truth false = refl

truths : (bs : List Bool) → Plain (truth_items bs)
unfolding truth_items
truths [] = unfold has_no_comma in refl
truths (b ∷ bs) = both (truth_item b) (concat (map truth_item bs)) (truth b) (truths bs)

signed : (add : ℤ) → IsOffset add → Plain (signed_decimal add)
signed (pos more) offset = number more offset.1
signed (negsuc less) offset =
    both (45 ∷ []) (decimal (suc less)) (unfold has_no_comma in refl)
    (number (suc less) (let most = offset.1 in omega (arith, most)))

-- ---- keys with what they hold ----

key : (key : FaultKey) → Plain (key_text key)
unfolding has_no_comma
key Track = refl
key _ = refl

-- with a blank behind
blank : (text : List ℕ) → Plain text → Plain (text ++ codes " ")
blank text plain = both text (codes " ") plain (unfold has_no_comma in refl)

item : (item : FaultKey × Held) → IsSmall item → Plain (item_text item)
item (k, it.number n) small = named (key_text k ++ codes " ") n (blank (key_text k) (key k)) small
item (k, it.shift add) small = both (key_text k ++ codes " ") (signed_decimal add) (blank (key_text k) (key k)) (signed add small)
item (k, it.numbers ns) small = both (key_text k) (number_items ns) (key k) (numbers ns small)
item (k, it.truths bs) small = both (key_text k) (truth_items bs) (key k) (truths bs)

items : (held : List (FaultKey × Held)) → AllByRecursion IsSmall held → Plain (items_text held)
unfolding items_text
items [] small = unfold has_no_comma in refl
items (one ∷ []) small = item one small.0
items (one ∷ next ∷ more) small =
    both (item_text one ++ codes " ") (items_text (next ∷ more)) (blank (item_text one) (item one small.0)) (items (next ∷ more) small.1)

pub keys_have_no_comma : KeysHaveNoComma
keys_have_no_comma class valid = items (held class) (held-small class valid)
