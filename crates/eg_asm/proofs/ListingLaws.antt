-- What words are written as is a source of these words, and short.
use Rattle.std.proofs.Common.{◌≡◌, ◌∙◌, sym, ap, refl, ℕ, suc, ◌+◌, ◌/◌, ◌%◌, ◌<◌, ◌≤◌, List, [], ◌∷◌, ◌++◌, length, map, get_or, Bool, true, false, cond, Option, Some, None, arith, lit<, mod-lt, mod-eq_of_lt, inl, inr}
use Rattle.std.specs.Prelude.{◌==◌, find, unwrap_or, is_some, All, Result, Ok}
use Rattle.std.specs.List.{AllByRecursion, AllZip, flat_map}
use Rattle.std.specs.Option.{option_map_or}
use Rattle.std.proofs.lemmas.Bool.Decides.{nat_tests}
use Rattle.std.proofs.lemmas.List.{get_or_past}
use Rattle.std.proofs.lemmas.Bool.{cases_lt}
use Rattle.eg_asm.specs.declared.operand.Operand.{Operand}
use Rattle.eg_asm.specs.declared.operand.Operand.TheVariants as operand
use Rattle.eg_asm.specs.Forms.{Form, forms, word_form, form_named}
use Rattle.eg_asm.specs.Grammar.{Fits, Item, IsItem, line_of}
use Rattle.eg_asm.specs.Words.{Labels, size, word_count, labels_of, field_of, fields_of, word_with, word_of, word_at, words_from, is_sound, fault_behind}
use Rattle.eg_asm.specs.Listings.{value_in, values_in, is_of, form_of, item_of, source_text}
use Rattle.eg_asm.specs.declared.fault.AsmFault.{AsmFault}
use Rattle.eg_asm.specs.Sources.{IsSourceOf, Assembles}
use Rattle.eg_asm.proofs.FormLemmas.{find-passes}
use Rattle.eg_asm.proofs.ListingLemmas.{field-listed}
use Rattle.eg_asm.proofs.SourceLaws.{assembled-then}

-- ---- the form of a word ----

-- the one that is found has a property that all have
pub find-all_of : {X : Type 0} (P : X → Type 0) (p : X → Bool) (xs : List X) (x : X) → AllByRecursion P xs → find p xs ≡ Some x → P x
find-all_of P p [] x all is = absurd cc
find-all_of P p (y ∷ ys) x all is = at (p y) is (find-all_of P p ys x all.1)
  where
    at : (b : Bool) → cond b (Some y) (find p ys) ≡ Some x → (find p ys ≡ Some x → P x) → P x
    at true is more = let same : y ≡ x = cc in rw (← same) all.0
    at false is more = more is

-- each form is found by its name
own_names : AllByRecursion (λ f. form_named f.mnemonic ≡ Some f) forms
unfolding forms form_named
own_names = (refl, (refl, (refl, (refl, (refl, (refl, (refl, (refl, (refl, (refl, (refl, (refl, (refl, (refl, (refl, (refl, (refl, (refl, tt))))))))))))))))))

word_named : form_named word_form.mnemonic ≡ Some word_form
unfolding forms form_named
word_named = refl

-- the form of a word is found by its name
pub form_of-named : (word : ℕ) → form_named (form_of word).mnemonic ≡ Some (form_of word)
unfolding form_of
form_of-named word = at (find (is_of word) forms) refl
  where
    at : (o : Option Form) → find (is_of word) forms ≡ o → form_named (unwrap_or o word_form).mnemonic ≡ Some (unwrap_or o word_form)
    at None is = word_named
    at (Some f) is = find-all_of (λ f. form_named f.mnemonic ≡ Some f) (is_of word) forms f own_names is

-- any word is of the last form
word-last : (word : ℕ) → word < 65536 → word_with [] 0 word_form (values_in word word_form) ≡ Some word
unfolding word_with fields_of field_of value_in
word-last word small = let same : word % 65536 ≡ word = mod-eq_of_lt small in let sum : 0 + (word + 0) ≡ word = omega arith in rw (same, sum) refl

-- the word of the form of a word is that word
pub form_of-word : (word : ℕ) → word < 65536 → word_with [] 0 (form_of word) (values_in word (form_of word)) ≡ Some word
unfolding form_of is_of
form_of-word word small = at (find (is_of word) forms) refl
  where
    made : (f : Form) (o : Option ℕ) → word_with [] 0 f (values_in word f) ≡ o → option_map_or (λ made. made == word) o false ≡ true → o ≡ Some word
    made f None is same = absurd cc
    made f (Some n) is same = let equal : n ≡ word = grind (arith, nat_tests) in ap (λ m. Some m) equal

    at : (o : Option Form) → find (is_of word) forms ≡ o → word_with [] 0 (unwrap_or o word_form) (values_in word (unwrap_or o word_form)) ≡ Some word
    at None is = word-last word small
    at (Some f) is = made f (word_with [] 0 f (values_in word f)) refl (find-passes (is_of word) forms f is)

-- ---- items ----

-- what stands in a word fits
values-fit : (word : ℕ) (operands : List Operand) → AllZip Fits operands (map (value_in word) operands)
unfolding Fits value_in
values-fit word [] = tt
values-fit word (operand.Register weight ∷ operands) = (mod-lt (word / weight) (lit< tt), values-fit word operands)
values-fit word (operand.Number most ∷ operands) = (let some : 0 < most + 1 = omega arith in let small = mod-lt word some in omega arith, values-fit word operands)
values-fit word (operand.Target reach ∷ operands) = (tt, values-fit word operands)

pub item_of-may : (word : ℕ) → IsItem (item_of word)
unfolding IsItem item_of
item_of-may word = rw (form_of-named word) (values-fit word (form_of word).operands)

-- its word is the word, whatever labels there are
fields-listed : (labels : Labels) (place word : ℕ) (operands : List Operand) → fields_of labels place operands (map (value_in word) operands) ≡ fields_of [] 0 operands (map (value_in word) operands)
unfolding fields_of
fields-listed labels place word [] = refl
fields-listed labels place word (o ∷ operands) = rw (field-listed labels place word o, fields-listed labels place word operands) refl

pub item_of-word : (labels : Labels) (place word : ℕ) → word < 65536 → word_at labels place (item_of word) ≡ Some word
unfolding word_at word_of word_with item_of
item_of-word labels place word small = rw (form_of-named word, fields-listed labels place word (form_of word).operands) (form_of-word word small)

-- ---- sources ----

-- the words are those that a word of 16 bits can be
abbrev pub AreWords : List ℕ → Type 0
AreWords words = (i : ℕ) → get_or words i 0 < 65536

text-of : (words : List ℕ) → source_text words ≡ flat_map line_of (map item_of words)
text-of [] = refl
text-of (word ∷ words) = ap (λ (l : List ℕ). line_of (item_of word) ++ l) (text-of words)

all-may : (words : List ℕ) → AllByRecursion IsItem (map item_of words)
all-may [] = tt
all-may (word ∷ words) = (item_of-may word, all-may words)

count-of : (words : List ℕ) → word_count (map item_of words) ≡ length words
unfolding word_count size item_of
count-of [] = refl
count-of (word ∷ words) = omega (arith, count-of words)

words-of : (labels : Labels) (place : ℕ) (words : List ℕ) → AreWords words → words_from labels place (map item_of words) ≡ words
unfolding words_from
words-of labels place [] small = refl
words-of labels place (word ∷ words) small = rw (item_of-word labels place word (small 0)) (ap (λ (ws : List ℕ). word ∷ ws) (words-of labels (place + size (item_of word)) words (λ i. small (suc i))))

sound-of : (labels : Labels) (before : List Item) (word : ℕ) → word < 65536 → is_sound labels before (item_of word) ≡ true
unfolding is_sound item_of word_at
sound-of labels before word small = ap is_some (item_of-word labels (word_count before) word small)

no-fault : (labels : Labels) (before : List Item) (words : List ℕ) → AreWords words → fault_behind labels before (map item_of words) ≡ None
unfolding fault_behind
no-fault labels before [] small = refl
no-fault labels before (word ∷ words) small = rw (sound-of labels before word (small 0)) (no-fault labels (before ++ item_of word ∷ []) words (λ i. small (suc i)))

-- what words are written as is a source of these words
pub source-law : (words : List ℕ) → AreWords words → length words ≤ 1024 → IsSourceOf (source_text words) words
source-law words small few = record {
  items = map item_of words;
  text = record { may = all-may words; written = text-of words };
  most = omega (arith, count-of words);
  sound = no-fault (labels_of (map item_of words)) [] words small;
  words_are = sym (words-of (labels_of (map item_of words)) 0 words small);
}

-- so these words are its answer
words-are : (words : List ℕ) → All (λ word. word < 65536) words → AreWords words
words-are words small i = elim (cases_lt i (length words)) [
  | inl inside ↦ small i 0 inside
  | inr past ↦ (let default = get_or_past words i 0 past in omega arith)
]

pub back-law : (words : List ℕ) (answer : Result (List ℕ) AsmFault) → All (λ word. word < 65536) words → length words ≤ 1024 → Assembles (source_text words) answer → answer ≡ Ok words
back-law words answer small few h =
    sym (assembled-then (source_text words) answer h) ∙ assembled-then (source_text words) (Ok words) (source-law words (words-are words small) few)
