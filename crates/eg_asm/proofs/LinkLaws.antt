-- The words and faults of items are those of what is kept of them.
use Rattle.std.proofs.Common.{◌≡◌, ◌∙◌, sym, ap, refl, ℕ, ◌+◌, ◌*◌, ◌≤◌, ℤ, pos, negsuc, List, [], ◌∷◌, ◌++◌, length, Bool, true, false, Option, Some, None, arith, length-append, inl, inr}
use Rattle.std.specs.Prelude.{◌&&◌, nat_le, not, option_map, option_and_then}
use Rattle.std.specs.List.{AllByRecursion, AllZip, cons_option, list_all}
use Rattle.std.proofs.lemmas.Bool.Decides.{nat_tests}
use Rattle.std.proofs.lemmas.Bool.{and_parts, cases_Bool, not-true}
use Rattle.eg_asm.specs.declared.operand.Operand.{Operand}
use Rattle.eg_asm.specs.declared.operand.Operand.TheVariants as operand
use Rattle.eg_asm.specs.Forms.{Form, forms, form_named}
use Rattle.eg_asm.specs.Grammar.{Value, Register, Number, Name, Distance, Fits, Item, Nothing, Comment, Label, Instruction, IsItem}
use Rattle.eg_asm.specs.Words.{Labels, size, word_count, labels_of, address_of, complement_of, distance_to, field_of, added, fields_of, word_with, word_of, word_at, words_from, item_words, is_sound, fault_behind, first_fault}
use Rattle.eg_asm.specs.Inner.Encodings.{Encoded, capped, capped_target, with_operand, with_operands, encoded, Told, told}
use Rattle.eg_asm.specs.Inner.Encodings as tells
use Rattle.eg_asm.specs.Inner.Kept.{numbered, instructions_from, is_repeat, repeat_behind}
use Rattle.eg_asm.specs.Inner.Linking.{jump_field, completed, unresolved, completed_words, earlier, words_unless, linked_kept}
use Rattle.eg_asm.specs.Reading.{linked}
use Rattle.eg_asm.proofs.FormLemmas.{each_form}
use Rattle.eg_asm.proofs.KeepsLemmas.{word_count-one}
use Rattle.eg_asm.proofs.LineLaws.{instruction-form}
use Rattle.eg_asm.proofs.ToldLemmas.{told-form}

-- ---- targets ----

-- a distance past the cap is out of every range
complement-capped : (reach : ℕ) (d : ℤ) → reach ≤ 65535 → complement_of reach (capped d) ≡ complement_of reach d
unfolding complement_of capped
complement-capped reach (pos n) small = grind (arith, nat_tests)
complement-capped reach (negsuc n) small = grind (arith, nat_tests)

-- what a target adds
target-field : (labels : Labels) (address reach : ℕ) (value : Value) → reach ≤ 65535 → Fits (operand.Target reach) value
    → option_and_then (complement_of reach) (distance_to labels address (capped_target value)) ≡ field_of labels address (operand.Target reach) value
unfolding distance_to capped_target field_of Fits
target-field labels address reach (Name name) small fits = refl
target-field labels address reach (Distance d) small fits = complement-capped reach d small
target-field labels address reach (Register n) small fits = absurd fits
target-field labels address reach (Number n) small fits = absurd fits

-- ---- forms ----

abbrev is_target : Operand → Bool
is_target (operand.Target reach) = true
is_target (operand.Register weight) = false
is_target (operand.Number most) = false

-- no operand but the last is a target
abbrev last_target : List Operand → Bool
last_target [] = true
last_target (o ∷ []) = true
last_target (o ∷ p ∷ operands) = not (is_target o) && last_target (p ∷ operands)

abbrev is_near : Operand → Bool
is_near (operand.Target reach) = nat_le reach 65535
is_near (operand.Register weight) = true
is_near (operand.Number most) = true

shaped : list_all (λ f. last_target f.operands && list_all is_near f.operands) forms ≡ true
unfolding forms
shaped = refl

-- ---- words ----

-- a word to which what is added was added already
pub add-more : (word n : ℕ) (o : Option ℕ) → option_map (λ field. word + n + field) o ≡ option_map (λ field. word + field) (added (Some n) o)
add-more word n None = refl
add-more word n (Some m) = let same : word + n + m ≡ word + (n + m) = omega arith in rw same refl

added-zero : (o : Option ℕ) → o ≡ added o (Some 0)
added-zero None = refl
added-zero (Some n) = let same : n + 0 ≡ n = omega arith in rw same refl

-- what an operand adds that isn't a target
pub record AddsPlain (labels : Labels) (address word : ℕ) (o : Operand) (value : Value) : Type 0 where
  n : ℕ
  field : field_of labels address o value ≡ Some n
  kept : with_operand (record { word = word; jump = None }) o value ≡ record { word = word + n; jump = None }

plain : (labels : Labels) (address word : ℕ) (o : Operand) (value : Value) → is_target o ≡ false → Fits o value → AddsPlain labels address word o value
unfolding field_of with_operand Fits
plain labels address word (operand.Register weight) (Register n) other fits = record { n = n * weight; field = refl; kept = refl }
plain labels address word (operand.Number most) (Number n) other fits = record { n = n; field = refl; kept = refl }
plain labels address word (operand.Target reach) value other fits = absurd cc
plain labels address word _ _ other fits = absurd fits

-- what a target adds that stands alone
alone : (labels : Labels) (address word : ℕ) (o : Operand) (value : Value) → is_target o ≡ true → is_near o ≡ true → Fits o value
    → completed labels address (with_operand (record { word = word; jump = None }) o value) ≡ option_map (λ field. word + field) (added (field_of labels address o value) (Some 0))
unfolding completed jump_field with_operand
alone labels address word (operand.Register weight) value target near fits = absurd cc
alone labels address word (operand.Number most) value target near fits = absurd cc
alone labels address word (operand.Target reach) value target near fits =
    let small : reach ≤ 65535 = grind (arith, nat_tests) in
    ap (option_map (λ field. word + field)) (target-field labels address reach value small fits ∙ added-zero (field_of labels address (operand.Target reach) value))

-- one operand more
one-operand : (labels : Labels) (address word : ℕ) (o : Operand) (operands : List Operand) (value : Value) (values : List Value) → is_target o ≡ false → Fits o value
    → ((word : ℕ) → completed labels address (with_operands (record { word = word; jump = None }) operands values)
    ≡ option_map (λ field. word + field) (fields_of labels address operands values))
    → completed labels address (with_operands (record { word = word; jump = None }) (o ∷ operands) (value ∷ values))
    ≡ option_map (λ field. word + field) (fields_of labels address (o ∷ operands) (value ∷ values))
unfolding with_operands fields_of
one-operand labels address word o operands value values other fits more =
    let p = plain labels address word o value other fits in
    ap (λ e. completed labels address (with_operands e operands values)) p.kept ∙ more (word + p.n) ∙ add-more word p.n (fields_of labels address operands values)
    ∙ ap (λ field. option_map (λ field. word + field) (added field (fields_of labels address operands values))) (sym p.field)

-- the word of what is kept of operands
completed-operands : (labels : Labels) (operands : List Operand) (values : List Value) → last_target operands ≡ true
    → list_all is_near operands ≡ true → AllZip Fits operands values
    → (address word : ℕ) → completed labels address (with_operands (record { word = word; jump = None }) operands values)
    ≡ option_map (λ field. word + field) (fields_of labels address operands values)
unfolding completed jump_field with_operands fields_of
completed-operands labels [] [] last near fit address word = refl
completed-operands labels [] (value ∷ values) last near fit address word = absurd fit
completed-operands labels (o ∷ operands) [] last near fit address word = absurd fit
completed-operands labels (o ∷ []) (value ∷ []) last near fit address word = elim (cases_Bool (is_target o)) [
  | inl target ↦ alone labels address word o value target (and_parts (is_near o) true near).0 fit.0
  | inr other ↦ one-operand labels address word o [] value [] other fit.0 (λ word. refl)
]
completed-operands labels (o ∷ []) (value ∷ more ∷ values) last near fit address word = absurd fit.1
completed-operands labels (o ∷ p ∷ operands) (value ∷ values) last near fit address word =
    let lasts = and_parts (not (is_target o)) (last_target (p ∷ operands)) last in
    let nears = and_parts (is_near o) (list_all is_near (p ∷ operands)) near in
    one-operand labels address word o (p ∷ operands) value values (not-true (is_target o) lasts.0) fit.0
    (completed-operands labels (p ∷ operands) values lasts.1 nears.1 fit.1 address)

-- the word of what is kept of an instruction
pub completed-word : (labels : Labels) (address : ℕ) (mnemonic : List ℕ) (values : List Value) (f : Form) → form_named mnemonic ≡ Some f → AllZip Fits f.operands values
    → completed labels address (encoded f values) ≡ word_of labels address mnemonic values
unfolding word_of word_with
completed-word labels address mnemonic values f named fit =
    let h = and_parts (last_target f.operands) (list_all is_near f.operands) (each_form (λ f. last_target f.operands && list_all is_near f.operands) shaped mnemonic f named) in
    rw named (completed-operands labels f.operands values h.0 h.1 fit address f.base)

-- ---- places ----

-- the number, where there is one, is at least this one
abbrev From : ℕ → Option ℕ → Type 0
From least o = (address : ℕ) → o ≡ Some address → least ≤ address

numbered-line : (line : ℕ) (t : Told) (l : ℕ) (e : Encoded) → numbered line t ≡ Some (l, e) → l ≡ line
unfolding numbered
numbered-line line tells.Nothing l e is = absurd cc
numbered-line line (tells.Label name) l e is = absurd cc
numbered-line line (tells.Instruction other) l e is = let same : (line, other) ≡ (l, e) = cc in sym (ap (λ (p : ℕ × Encoded). p.0) same)

unresolved-from : (labels : Labels) (address line : ℕ) (items : List Item) → From line (unresolved labels address (instructions_from line items))
unfolding instructions_from unresolved
unresolved-from labels address line [] found is = absurd cc
unresolved-from labels address line (item ∷ items) found is = at (numbered line (told item)) refl (λ address. unresolved-from labels address (line + 1) items found) is
  where
    at : (o : Option (ℕ × Encoded)) → numbered line (told item) ≡ o → ((address : ℕ) → unresolved labels address (instructions_from (line + 1) items) ≡ Some found → line + 1 ≤ found)
        → unresolved labels address (cons_option o (instructions_from (line + 1) items)) ≡ Some found → line ≤ found
    at None none more is = let later = more address is in omega arith
    at (Some (l, e)) some more is = grind (arith, numbered-line line (told item) l e some, more (address + 1))

repeat_behind-from : (before items : List Item) → From (length before + 1) (repeat_behind before items)
unfolding repeat_behind
repeat_behind-from before [] found is = absurd cc
repeat_behind-from before (item ∷ items) found is = grind (arith, length-append before (item ∷ []), repeat_behind-from (before ++ item ∷ []) items found)

-- the lower of a place and later ones
earlier-left : (address : ℕ) (o : Option ℕ) → From (address + 1) o → earlier (Some address) o ≡ Some address
unfolding earlier
earlier-left address None h = refl
earlier-left address (Some other) h = grind (arith, h other refl)

earlier-right : (address : ℕ) (o : Option ℕ) → From (address + 1) o → earlier o (Some address) ≡ Some address
unfolding earlier
earlier-right address None h = refl
earlier-right address (Some other) h = grind (arith, h other refl)

-- ---- faults ----

-- the first line at fault among items behind others is the first one at fault in what is kept of them
abbrev SameFault : Labels → List Item → List Item → Type 0
SameFault labels before items =
    fault_behind labels before items ≡ earlier (unresolved labels (word_count before) (instructions_from (length before + 1) items)) (repeat_behind before items)

-- an item without fault, which isn't a repeated label
fault-sound : (labels : Labels) (before : List Item) (item : Item) (items : List Item) → is_sound labels before item ≡ true → is_repeat before item ≡ false
    → unresolved labels (word_count before) (cons_option (numbered (length before + 1) (told item)) (instructions_from (length before + 1 + 1) items))
    ≡ unresolved labels (word_count before + size item) (instructions_from (length before + 1 + 1) items)
    → SameFault labels (before ++ item ∷ []) items → SameFault labels before (item ∷ items)
unfolding fault_behind instructions_from repeat_behind
fault-sound labels before item items sound single same h =
    let long : length (before ++ item ∷ []) + 1 ≡ length before + 1 + 1 = omega (arith, length-append before (item ∷ [])) in
    rw (sound, single, same) (h ∙ rw (word_count-one before item, long) refl)

-- what an instruction tells, and its word
pub record IsKept (labels : Labels) (mnemonic : List ℕ) (values : List Value) : Type 0 where
  e : Encoded
  tells_it : told (Instruction mnemonic values) ≡ tells.Instruction e
  word : (address : ℕ) → completed labels address e ≡ word_of labels address mnemonic values

kept : (labels : Labels) (mnemonic : List ℕ) (values : List Value) → IsItem (Instruction mnemonic values) → IsKept labels mnemonic values
kept labels mnemonic values may =
    let h = instruction-form mnemonic values may in
    record {
      e = encoded h.0 values;
      tells_it = told-form mnemonic values h.0 h.1;
      word = λ address. completed-word labels address mnemonic values h.0 h.1 h.2;
    }

-- a label that is repeated
repeated-label : (labels : Labels) (before : List Item) (name : List ℕ) (items : List Item) (address : ℕ)
    → address_of (labels_of before) name ≡ Some address → SameFault labels before (Label name ∷ items)
unfolding fault_behind instructions_from repeat_behind is_sound is_repeat told numbered
repeated-label labels before name items address some =
    rw some (sym (earlier-right (length before + 1) (unresolved labels (word_count before) (instructions_from (length before + 1 + 1) items))
    (unresolved-from labels (word_count before) (length before + 1 + 1) items)))

-- an instruction without a word
wordless : (labels : Labels) (before : List Item) (mnemonic : List ℕ) (values : List Value) (items : List Item) (k : IsKept labels mnemonic values)
    → word_of labels (word_count before) mnemonic values ≡ None → SameFault labels before (Instruction mnemonic values ∷ items)
unfolding fault_behind instructions_from repeat_behind is_sound is_repeat numbered unresolved
wordless labels before mnemonic values items k none =
    let e_none : completed labels (word_count before) k.e ≡ None = k.word (word_count before) ∙ none in
    rw (none, k.tells_it, e_none) (sym (earlier-left (length before + 1) (repeat_behind (before ++ Instruction mnemonic values ∷ []) items)
    (later (before ++ Instruction mnemonic values ∷ []) (length-append before (Instruction mnemonic values ∷ [])))))
  where
    later : (front : List Item) → length front ≡ length before + 1 → From (length before + 1 + 1) (repeat_behind front items)
    later front long found is = let least = repeat_behind-from front items found is in omega arith

-- an instruction that has one
worded : (labels : Labels) (before : List Item) (e : Encoded) (mnemonic : List ℕ) (values : List Value) (items : List Item) (word : ℕ)
    → told (Instruction mnemonic values) ≡ tells.Instruction e → completed labels (word_count before) e ≡ Some word
    → unresolved labels (word_count before) (cons_option (numbered (length before + 1) (told (Instruction mnemonic values))) (instructions_from (length before + 1 + 1) items))
    ≡ unresolved labels (word_count before + 1) (instructions_from (length before + 1 + 1) items)
unfolding unresolved numbered
worded labels before e mnemonic values items word is some = rw (is, some) refl

-- an item that has none
stays : (labels : Labels) (before items : List Item)
    → unresolved labels (word_count before) (instructions_from (length before + 1 + 1) items) ≡ unresolved labels (word_count before + 0) (instructions_from (length before + 1 + 1) items)
stays labels before items = ap (λ n. unresolved labels n (instructions_from (length before + 1 + 1) items)) (omega arith)

-- one item, where what is said of those behind it is known
fault-item : (labels : Labels) (before : List Item) (item : Item) (items : List Item) → IsItem item → SameFault labels (before ++ item ∷ []) items
    → SameFault labels before (item ∷ items)
unfolding is_sound is_repeat told numbered size
fault-item labels before Nothing items may h = fault-sound labels before Nothing items refl refl (stays labels before items) h
fault-item labels before (Comment bytes) items may h = fault-sound labels before (Comment bytes) items refl refl (stays labels before items) h
fault-item labels before (Label name) items may h = at (address_of (labels_of before) name) refl
  where
    at : (o : Option ℕ) → address_of (labels_of before) name ≡ o → SameFault labels before (Label name ∷ items)
    at None none = fault-sound labels before (Label name) items (rw none refl) (rw none refl) (stays labels before items) h
    at (Some address) some = repeated-label labels before name items address some
fault-item labels before (Instruction mnemonic values) items may h = at (word_of labels (word_count before) mnemonic values) refl
  where
    k : IsKept labels mnemonic values
    k = kept labels mnemonic values may

    at : (o : Option ℕ) → word_of labels (word_count before) mnemonic values ≡ o → SameFault labels before (Instruction mnemonic values ∷ items)
    at None none = wordless labels before mnemonic values items k none
    at (Some word) some =
        fault-sound labels before (Instruction mnemonic values) items (rw some refl) refl
        (worded labels before k.e mnemonic values items word k.tells_it (k.word (word_count before) ∙ some)) h

-- items that may be said
pub same_fault : (labels : Labels) (before items : List Item) → AllByRecursion IsItem items → SameFault labels before items
unfolding fault_behind instructions_from repeat_behind unresolved earlier
same_fault labels before [] may = refl
same_fault labels before (item ∷ items) may = fault-item labels before item items may.0 (same_fault labels (before ++ item ∷ []) items may.1)

-- ---- words ----

kept_word : (labels : Labels) (address line : ℕ) (mnemonic : List ℕ) (values : List Value) (items : List Item) → IsKept labels mnemonic values
    → words_from labels (address + 1) items ≡ completed_words labels (address + 1) (instructions_from (line + 1) items)
    → cons_option (word_of labels address mnemonic values) (words_from labels (address + 1) items)
    ≡ completed_words labels address (cons_option (numbered line (told (Instruction mnemonic values))) (instructions_from (line + 1) items))
unfolding numbered completed_words
kept_word labels address line mnemonic values items k h = rw (k.tells_it, k.word address, h) refl

same_word : (labels : Labels) (address line : ℕ) (item : Item) (items : List Item) → IsItem item
    → words_from labels (address + size item) items ≡ completed_words labels (address + size item) (instructions_from (line + 1) items)
    → cons_option (word_at labels address item) (words_from labels (address + size item) items)
    ≡ completed_words labels address (cons_option (numbered line (told item)) (instructions_from (line + 1) items))
unfolding word_at told numbered size completed_words
same_word labels address line Nothing items may h = let same : address + 0 ≡ address = omega arith in h ∙ rw same refl
same_word labels address line (Comment bytes) items may h = let same : address + 0 ≡ address = omega arith in h ∙ rw same refl
same_word labels address line (Label name) items may h = let same : address + 0 ≡ address = omega arith in h ∙ rw same refl
same_word labels address line (Instruction mnemonic values) items may h = kept_word labels address line mnemonic values items (kept labels mnemonic values may) h

pub same_words : (labels : Labels) (address line : ℕ) (items : List Item) → AllByRecursion IsItem items
    → words_from labels address items ≡ completed_words labels address (instructions_from line items)
unfolding words_from instructions_from completed_words
same_words labels address line [] may = refl
same_words labels address line (item ∷ items) may = same_word labels address line item items may.0 (same_words labels (address + size item) (line + 1) items may.1)

-- ---- the answer ----

linked_is : (items : List Item) (o : Option ℕ) → words_unless (item_words items) o ≡ linked items o
unfolding words_unless linked
linked_is items None = refl
linked_is items (Some address) = refl

pub same_answer : (items : List Item) → AllByRecursion IsItem items
    → linked_kept (labels_of items) (instructions_from 1 items) (repeat_behind [] items) ≡ linked items (first_fault items)
unfolding linked_kept word_count
same_answer items may =
    let fault = same_fault (labels_of items) [] items may in
    ap (λ (words : List ℕ). words_unless words (earlier (unresolved (labels_of items) 0 (instructions_from 1 items)) (repeat_behind [] items)))
    (sym (same_words (labels_of items) 0 1 items may))
    ∙ ap (words_unless (item_words items)) (sym fault) ∙ linked_is items (first_fault items)
