-- What is kept of one item more.
use Rattle.std.proofs.Common.{◌≡◌, ◌∙◌, sym, ap, refl, subst, ℕ, ◌+◌, List, [], ◌∷◌, ◌++◌, length, true, false, cond, Option, Some, None, arith, append-nil, append_assoc, length-append}
use Rattle.std.specs.Prelude.{is_some, IsSome}
use Rattle.std.specs.List.{cons_option}
use Rattle.std.specs.Option.{option_map_or, option_or}
use Rattle.std.specs.Str.{bytes_eq}
use Rattle.std.proofs.lemmas.Slice.Eq.{bytes_eq-Decides}
use Rattle.eg_asm.specs.Forms.{Form, form_named}
use Rattle.eg_asm.specs.Grammar.{Value, Item, Nothing, Comment, Label, Instruction}
use Rattle.eg_asm.specs.Words.{Labels, size, word_count, labels_from, labels_of, address_of}
use Rattle.eg_asm.specs.Inner.Encodings.{Encoded, told, encoded}
use Rattle.eg_asm.specs.Inner.Encodings as tells
use Rattle.eg_asm.specs.Inner.Kept.{numbered, instructions_from, is_repeat, repeat_behind, Keeps, HasForm}

-- ---- one item more at the end ----

-- how many words they are
pub word_count-append : (items more : List Item) → word_count (items ++ more) ≡ word_count items + word_count more
unfolding word_count
word_count-append [] more = omega arith
word_count-append (item ∷ items) more = omega (arith, word_count-append items more)

pub word_count-one : (items : List Item) (item : Item) → word_count (items ++ item ∷ []) ≡ word_count items + size item
unfolding word_count
word_count-one items item = word_count-append items (item ∷ []) ∙ omega arith

-- the labels
labels_from-append : (place : ℕ) (items more : List Item) → labels_from place (items ++ more) ≡ labels_from place items ++ labels_from (place + word_count items) more
unfolding labels_from word_count size
labels_from-append place [] more = let same : place + 0 ≡ place = omega arith in rw same refl
labels_from-append place (Nothing ∷ items) more =
    let h = labels_from-append (place + 0) items more in let same : place + 0 + word_count items ≡ place + (0 + word_count items) = omega arith in h ∙ rw same refl
labels_from-append place (Comment bytes ∷ items) more =
    let h = labels_from-append (place + 0) items more in let same : place + 0 + word_count items ≡ place + (0 + word_count items) = omega arith in h ∙ rw same refl
labels_from-append place (Label name ∷ items) more =
    let h = labels_from-append place items more in let same : place + (0 + word_count items) ≡ place + word_count items = omega arith in
    rw same (ap (λ (ls : Labels). (name, place) ∷ ls) h)
labels_from-append place (Instruction mnemonic values ∷ items) more =
    let h = labels_from-append (place + 1) items more in let same : place + 1 + word_count items ≡ place + (1 + word_count items) = omega arith in h ∙ rw same refl

-- the instructions
instructions_from-append : (place : ℕ) (items more : List Item)
    → instructions_from place (items ++ more) ≡ instructions_from place items ++ instructions_from (place + length items) more
unfolding instructions_from
instructions_from-append place [] more = let same : place + 0 ≡ place = omega arith in rw same refl
instructions_from-append place (item ∷ items) more =
    let same : place + 1 + length items ≡ place + length (item ∷ items) = omega arith in
    ap (cons_option (numbered place (told item))) (instructions_from-append (place + 1) items more ∙ rw same refl)
    ∙ moved (numbered place (told item)) (instructions_from (place + 1) items)
  where
    moved : (o : Option (ℕ × Encoded)) (front : List (ℕ × Encoded))
        → cons_option o (front ++ instructions_from (place + length (item ∷ items)) more) ≡ cons_option o front ++ instructions_from (place + length (item ∷ items)) more
    moved None front = refl
    moved (Some i) front = refl

pub instructions_from-one : (items : List Item) (item : Item)
    → instructions_from 1 (items ++ item ∷ []) ≡ instructions_from 1 items ++ cons_option (numbered (length items + 1) (told item)) []
unfolding instructions_from
instructions_from-one items item = let same : 1 + length items ≡ length items + 1 = omega arith in instructions_from-append 1 items (item ∷ []) ∙ rw same refl

-- the first label that is repeated
repeat_behind-append : (before items : List Item) (item : Item) → repeat_behind before (items ++ item ∷ [])
    ≡ option_or (repeat_behind before items) (cond (is_repeat (before ++ items) item) (Some (length (before ++ items) + 1)) None)
unfolding repeat_behind
repeat_behind-append before [] item = rw (append-nil before) refl
repeat_behind-append before (first ∷ items) item =
    grind (arith, repeat_behind-append (before ++ first ∷ []) items item, append_assoc before (first ∷ []) items)

pub repeat-one : (items : List Item) (item : Item)
    → repeat_behind [] (items ++ item ∷ []) ≡ option_or (repeat_behind [] items) (cond (is_repeat items item) (Some (length items + 1)) None)
repeat-one items item = repeat_behind-append [] items item

-- the place of a label
lookup-append : (name : List ℕ) (xs ys : Labels) → address_of (xs ++ ys) name ≡ option_or (address_of xs name) (address_of ys name)
lookup-append name [] ys = refl
lookup-append name (x ∷ xs) ys = grind (arith, lookup-append name xs ys)

pub labels-one : (items : List Item) (item : Item) (name : List ℕ)
    → address_of (labels_of (items ++ item ∷ [])) name ≡ option_or (address_of (labels_of items) name) (address_of (labels_from (word_count items) (item ∷ [])) name)
labels-one items item name =
    let same : 0 + word_count items ≡ word_count items = omega arith in
    ap (λ (ls : Labels). address_of ls name) (labels_from-append 0 items (item ∷ []) ∙ rw same refl)
    ∙ lookup-append name (labels_of items) (labels_from (word_count items) (item ∷ []))

-- ---- what is kept ----

option_or-none : (o : Option ℕ) → o ≡ option_or o None
option_or-none None = refl
option_or-none (Some n) = refl

-- nothing is kept of no item
pub keeps-start : {K : Type 0} (name_of : K → List ℕ) (place : K → Option ℕ) → ((key : K) → place key ≡ None) → Keeps name_of [] [] place None
unfolding instructions_from word_count repeat_behind labels_from
keeps-start name_of place none = record { all = refl; count = refl; labels = none; repeat = refl }

-- what an item adds
keeps-more : {K : Type 0} (name_of : K → List ℕ) (items : List Item) (item : Item) (instructions : List (ℕ × Encoded)) (place now : K → Option ℕ) (repeated later : Option ℕ)
    → length (cons_option (numbered (length items + 1) (told item)) []) ≡ size item
    → ((key : K) → now key ≡ option_or (place key) (address_of (labels_from (word_count items) (item ∷ [])) (name_of key)))
    → later ≡ option_or repeated (cond (is_repeat items item) (Some (length items + 1)) None)
    → Keeps name_of items instructions place repeated
    → Keeps name_of (items ++ item ∷ []) (instructions ++ cons_option (numbered (length items + 1) (told item)) []) now later
keeps-more name_of items item instructions place now repeated later sized found again k = record {
  all = ap (λ (is : List (ℕ × Encoded)). is ++ cons_option (numbered (length items + 1) (told item)) []) k.all ∙ sym (instructions_from-one items item);
  count = (let counted = k.count in omega (arith, length-append instructions (cons_option (numbered (length items + 1) (told item)) []), sized, word_count-one items item));
  labels = λ key. found key ∙ ap (λ o. option_or o (address_of (labels_from (word_count items) (item ∷ [])) (name_of key))) (k.labels key)
      ∙ sym (labels-one items item (name_of key));
  repeat = again ∙ ap (λ o. option_or o (cond (is_repeat items item) (Some (length items + 1)) None)) k.repeat ∙ sym (repeat-one items item);
}

-- an instruction of a form tells one
tells_one : (mnemonic : List ℕ) (values : List Value) → HasForm (Instruction mnemonic values) → (e : Encoded) × (told (Instruction mnemonic values) ≡ tells.Instruction e)
unfolding told HasForm
tells_one mnemonic values has = at (form_named mnemonic) has
  where
    at : (o : Option Form) → IsSome o → (e : Encoded) × (option_map_or (λ form. tells.Instruction (encoded form values)) o tells.Nothing ≡ tells.Instruction e)
    at None has = absurd cc
    at (Some f) has = (encoded f values, refl)

-- an item that tells nothing
pub keeps-nothing : {K : Type 0} (name_of : K → List ℕ) (items : List Item) (item : Item) (instructions : List (ℕ × Encoded)) (place : K → Option ℕ) (repeated : Option ℕ)
    → HasForm item → told item ≡ tells.Nothing → Keeps name_of items instructions place repeated → Keeps name_of (items ++ item ∷ []) instructions place repeated
unfolding told numbered size labels_from is_repeat
keeps-nothing name_of items item instructions place repeated has is k = at item has is
  where
    Same : List Item → List (ℕ × Encoded) → Type 0
    Same all is = Keeps name_of all is place repeated

    at : (item : Item) → HasForm item → told item ≡ tells.Nothing → Keeps name_of (items ++ item ∷ []) instructions place repeated
    at Nothing has is =
        subst (Same (items ++ Nothing ∷ [])) (append-nil instructions)
        (keeps-more name_of items Nothing instructions place place repeated repeated refl (λ key. option_or-none (place key)) (option_or-none repeated) k)
    at (Comment bytes) has is =
        subst (Same (items ++ Comment bytes ∷ [])) (append-nil instructions)
        (keeps-more name_of items (Comment bytes) instructions place place repeated repeated refl (λ key. option_or-none (place key)) (option_or-none repeated) k)
    at (Label name) has is = absurd cc
    at (Instruction mnemonic values) has is = absurd (let one = tells_one mnemonic values has in let clash : tells.Nothing ≡ tells.Instruction one.0 = sym is ∙ one.1 in cc)

-- the label that an item tells
label-of : (item : Item) (name : List ℕ) → HasForm item → told item ≡ tells.Label name → item ≡ Label name
unfolding told
label-of Nothing name has is = absurd cc
label-of (Comment bytes) name has is = absurd cc
label-of (Label other) name has is = let same : other ≡ name = cc in ap Label same
label-of (Instruction mnemonic values) name has is = absurd (let one = tells_one mnemonic values has in let clash : tells.Label name ≡ tells.Instruction one.0 = sym is ∙ one.1 in cc)

-- a label that stands before it
keeps-again_label : {K : Type 0} (name_of : K → List ℕ) (items : List Item) (instructions : List (ℕ × Encoded)) (place : K → Option ℕ) (repeated : Option ℕ) (key : K)
    → is_some (place key) ≡ true → Keeps name_of items instructions place repeated
    → Keeps name_of (items ++ Label (name_of key) ∷ []) instructions place (option_or repeated (Some (length items + 1)))
unfolding told numbered size labels_from is_repeat
keeps-again_label {K = K} name_of items instructions place repeated key some k =
    let there : is_some (address_of (labels_of items) (name_of key)) ≡ true = ap is_some (sym (k.labels key)) ∙ some in
    let P : List (ℕ × Encoded) → Type 0 = λ is. Keeps name_of (items ++ Label (name_of key) ∷ []) is place (option_or repeated (Some (length items + 1))) in
    subst P (append-nil instructions)
    (keeps-more name_of items (Label (name_of key)) instructions place place repeated (option_or repeated (Some (length items + 1))) refl
    (λ other. here (name_of other) (place other) (k.labels other) there) (rw there refl) k)
  where
    here : (a : List ℕ) (o : Option ℕ) → o ≡ address_of (labels_of items) a → is_some (address_of (labels_of items) (name_of key)) ≡ true
        → o ≡ option_or o (cond (bytes_eq a (name_of key)) (Some (word_count items)) None)
    here a (Some n) is there = refl
    here a None is there = grind (arith, (bytes_eq-Decides a (name_of key)).0)

-- a label that doesn't
keeps-new_label : {K : Type 0} (name_of : K → List ℕ) (items : List Item) (instructions : List (ℕ × Encoded)) (place now : K → Option ℕ) (repeated : Option ℕ) (key : K)
    → is_some (place key) ≡ false → ((other : K) → now other ≡ cond (bytes_eq (name_of key) (name_of other)) (Some (word_count items)) (place other))
    → Keeps name_of items instructions place repeated → Keeps name_of (items ++ Label (name_of key) ∷ []) instructions now repeated
unfolding told numbered size labels_from is_repeat
keeps-new_label {K = K} name_of items instructions place now repeated key none put k =
    let absent : is_some (address_of (labels_of items) (name_of key)) ≡ false = ap is_some (sym (k.labels key)) ∙ none in
    let P : List (ℕ × Encoded) → Type 0 = λ is. Keeps name_of (items ++ Label (name_of key) ∷ []) is now repeated in
    subst P (append-nil instructions)
    (keeps-more name_of items (Label (name_of key)) instructions place now repeated repeated refl
    (λ other. put other ∙ here (name_of key) (name_of other) (place other) (k.labels other) absent) (rw absent (option_or-none repeated)) k)
  where
    here : (a b : List ℕ) (o : Option ℕ) → o ≡ address_of (labels_of items) b → is_some (address_of (labels_of items) a) ≡ false
        → cond (bytes_eq a b) (Some (word_count items)) o ≡ option_or o (cond (bytes_eq b a) (Some (word_count items)) None)
    here a b None is absent = grind (arith, bytes_eq-Decides a b, bytes_eq-Decides b a)
    here a b (Some n) is absent = grind (arith, (bytes_eq-Decides a b).0)

-- items that tell these labels
pub keeps-again : {K : Type 0} (name_of : K → List ℕ) (items : List Item) (item : Item) (instructions : List (ℕ × Encoded)) (place : K → Option ℕ) (repeated : Option ℕ) (key : K)
    → HasForm item → told item ≡ tells.Label (name_of key) → is_some (place key) ≡ true → Keeps name_of items instructions place repeated
    → Keeps name_of (items ++ item ∷ []) instructions place (option_or repeated (Some (length items + 1)))
keeps-again name_of items item instructions place repeated key has is some k =
    rw (label-of item (name_of key) has is) (keeps-again_label name_of items instructions place repeated key some k)

pub keeps-new : {K : Type 0} (name_of : K → List ℕ) (items : List Item) (item : Item) (instructions : List (ℕ × Encoded)) (place now : K → Option ℕ) (repeated : Option ℕ) (key : K)
    → HasForm item → told item ≡ tells.Label (name_of key) → is_some (place key) ≡ false
    → ((other : K) → now other ≡ cond (bytes_eq (name_of key) (name_of other)) (Some (length instructions)) (place other))
    → Keeps name_of items instructions place repeated → Keeps name_of (items ++ item ∷ []) instructions now repeated
keeps-new {K = K} name_of items item instructions place now repeated key has is none put k =
    let there = λ (other : K). put other ∙ ap (λ n. cond (bytes_eq (name_of key) (name_of other)) (Some n) (place other)) k.count in
    rw (label-of item (name_of key) has is) (keeps-new_label name_of items instructions place now repeated key none there k)

-- an instruction
pub keeps-instruction : {K : Type 0} (name_of : K → List ℕ) (items : List Item) (item : Item) (e : Encoded) (instructions : List (ℕ × Encoded))
    (place : K → Option ℕ) (repeated : Option ℕ)
    → HasForm item → told item ≡ tells.Instruction e → Keeps name_of items instructions place repeated
    → Keeps name_of (items ++ item ∷ []) (instructions ++ (length items + 1, e) ∷ []) place repeated
unfolding told HasForm numbered size labels_from is_repeat
keeps-instruction name_of items Nothing e instructions place repeated has is k = absurd cc
keeps-instruction name_of items (Comment bytes) e instructions place repeated has is k = absurd cc
keeps-instruction name_of items (Label name) e instructions place repeated has is k = absurd cc
keeps-instruction name_of items (Instruction mnemonic values) e instructions place repeated has is k =
    let one : cons_option (numbered (length items + 1) (told (Instruction mnemonic values))) [] ≡ (length items + 1, e) ∷ [] = rw is refl in
    let P : List (ℕ × Encoded) → Type 0 = λ is. Keeps name_of (items ++ Instruction mnemonic values ∷ []) (instructions ++ is) place repeated in
    subst P one
    (keeps-more name_of items (Instruction mnemonic values) instructions place place repeated repeated (ap length one)
    (λ key. option_or-none (place key)) (option_or-none repeated) k)
