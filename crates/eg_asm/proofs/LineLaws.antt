-- Reading a line undoes writing it.
use Rattle.std.proofs.Common.{◌≡◌, ◌∙◌, sym, ap, refl, ℕ, ◌+◌, pos, negsuc, List, [], ◌∷◌, ◌++◌, length, map, Bool, true, false, Option, Some, None, arith, append-nil, ◌⊎◌, inl, inr}
use Rattle.std.specs.Prelude.{All, IsSomeAnd, ◌&&◌, ◌||◌, ◌==◌, nat_le, option_map}
use Rattle.std.specs.Char.{is_ascii_digit, is_ascii_lowercase}
use Rattle.std.specs.List.{AllZip, list_all, before_first, join_with_byte}
use Rattle.std.proofs.lemmas.Bool.Decides.{nat_tests}
use Rattle.std.proofs.lemmas.List.Elements.{All-nil, All-cons, All-tail}
use Rattle.std.proofs.lemmas.List.Splits.{join_with_byte-slice_split, length-slice_split}
use Rattle.std.proofs.lemmas.Bool.{and_parts, cases_Bool}
use Rattle.std.proofs.lemmas.Option.{same_Some, cond_some, option_and_then_some}
use Rattle.eg_asm.specs.declared.operand.Operand.{Operand}
use Rattle.eg_asm.specs.declared.operand.Operand.TheVariants as operand
use Rattle.eg_asm.specs.Forms.{Form, forms, form_named}
use Rattle.eg_asm.specs.Numerals.{numeral, integer, is_name}
use Rattle.eg_asm.specs.Grammar.{Value, Register, Number, Name, Distance, Item, Nothing, Comment, Label, Instruction, Fits, IsItem, text_of_value, text_of_values, text_of}
use Rattle.eg_asm.specs.Reading.{is_byte, behind_first, before_last_byte, texts_in, value_of, value_before, values_of, instruction_in, labelled, item_of_text, item_in}
use Rattle.eg_asm.proofs.FormLemmas.{each_form, form_named-mnemonic, option_map_some}
use Rattle.eg_asm.proofs.NumeralLaws.{numeral-digits}
use Rattle.eg_asm.proofs.TextLaws.{Lacks, lacks_parts, lacks-append, cut-there, cut-nowhere, cut-back, cut-back_none, split-joined, before_last-there, before_last-back, before_last-nowhere}
use Rattle.eg_asm.proofs.ValueLaws.{value_of-written, value_of-back}

-- ---- the bytes of operands and names ----

-- a byte that operands and names have
abbrev is_plain : ℕ → Bool
is_plain b = is_ascii_lowercase b || (is_ascii_digit b || b == 45)

-- what each byte passes, each byte passes that is told of less
weaker : (p q : ℕ → Bool) → ((b : ℕ) → p b ≡ true → q b ≡ true) → (text : List ℕ) → list_all p text ≡ true → list_all q text ≡ true
weaker p q more [] h = refl
weaker p q more (b ∷ bs) h = grind (arith, more b, weaker p q more bs)

letter_plain : (b : ℕ) → is_ascii_lowercase b ≡ true → is_plain b ≡ true
letter_plain b h = rw h refl

digit_plain : (b : ℕ) → is_ascii_digit b ≡ true → is_plain b ≡ true
digit_plain b h = grind arith

-- the texts of operands and names lack every other byte
lacks-plain : (c : ℕ) → is_plain c ≡ false → (text : List ℕ) → list_all is_plain text ≡ true → Lacks c text
lacks-plain c other [] h = refl
lacks-plain c other (b ∷ bs) h = grind (arith, nat_tests, lacks-plain c other bs)

numeral-plain : (n : ℕ) → list_all is_plain (numeral n) ≡ true
numeral-plain n = weaker is_ascii_digit is_plain digit_plain (numeral n) (numeral-digits n)

name-letters : (name : List ℕ) → is_name name ≡ true → list_all is_ascii_lowercase name ≡ true
unfolding is_name
name-letters name h = grind arith

name-plain : (name : List ℕ) → is_name name ≡ true → list_all is_plain name ≡ true
name-plain name h = weaker is_ascii_lowercase is_plain letter_plain name (name-letters name h)

value-plain : (o : Operand) (value : Value) → Fits o value → list_all is_plain (text_of_value value) ≡ true
unfolding text_of_value Fits integer
value-plain o (Register n) fits = numeral-plain n
value-plain o (Number n) fits = numeral-plain n
value-plain (operand.Target reach) (Name name) fits = name-plain name fits
value-plain (operand.Register weight) (Name name) fits = absurd fits
value-plain (operand.Number most) (Name name) fits = absurd fits
value-plain o (Distance (pos n)) fits = numeral-plain n
value-plain o (Distance (negsuc n)) fits = numeral-plain (n + 1)

-- ---- operands ----

-- values that fit are read from their texts
pub values_of-written : (operands : List Operand) (values : List Value) → AllZip Fits operands values → values_of operands (map text_of_value values) ≡ Some values
unfolding values_of
values_of-written [] [] fit = refl
values_of-written [] (value ∷ values) fit = absurd fit
values_of-written (operand ∷ operands) [] fit = absurd fit
values_of-written (operand ∷ operands) (value ∷ values) fit = rw (value_of-written operand value fit.0, values_of-written operands values fit.1) refl

-- values that are read fit, and the texts are theirs
value_before-some : {P : Type 0} (first : Option Value) (rest : Option (List Value)) (values : List Value) → value_before first rest ≡ Some values
    → ((v : Value) (vs : List Value) → first ≡ Some v → rest ≡ Some vs → v ∷ vs ≡ values → P) → P
value_before-some None rest values is then = absurd cc
value_before-some (Some v) None values is then = absurd cc
value_before-some (Some v) (Some vs) values is then = then v vs refl refl (same_Some (v ∷ vs) values is)

-- values that are read fit, and the texts are theirs
pub values_of-back : (operands : List Operand) (texts : List (List ℕ)) (values : List Value) → values_of operands texts ≡ Some values
    → AllZip Fits operands values × (texts ≡ map text_of_value values)
unfolding values_of
values_of-back [] [] values is = rw (← same_Some [] values is) (tt, refl)
values_of-back [] (text ∷ texts) values is = absurd cc
values_of-back (operand ∷ operands) [] values is = absurd cc
values_of-back (operand ∷ operands) (text ∷ texts) values is =
    value_before-some (value_of operand text) (values_of operands texts) values is (λ v vs first_is rest_is same.
    let first = value_of-back operand text v first_is in
    let rest = values_of-back operands texts vs rest_is in
    rw (← same) ((first.0, rest.0), rw (← first.1, ← rest.1) refl))

-- the texts of values lack commas
-- the texts of values lack each byte that no operand has
texts-lack : (c : ℕ) → is_plain c ≡ false → (operands : List Operand) (values : List Value) → AllZip Fits operands values → All (Lacks c) (map text_of_value values)
texts-lack c other [] [] fit = All-nil (Lacks c)
texts-lack c other [] (value ∷ values) fit = absurd fit
texts-lack c other (operand ∷ operands) [] fit = absurd fit
texts-lack c other (operand ∷ operands) (value ∷ values) fit =
    All-cons (Lacks c) (text_of_value value) (map text_of_value values)
    (lacks-plain c other (text_of_value value) (value-plain operand value fit.0)) (texts-lack c other operands values fit.1)

-- the texts of values lack each byte that no operand has, but a comma
joined-lack : (c : ℕ) → Lacks c (44 ∷ []) → (texts : List (List ℕ)) → All (Lacks c) texts → Lacks c (join_with_byte 44 texts)
joined-lack c comma [] h = refl
joined-lack c comma (text ∷ []) h = h 0 [] (omega arith)
joined-lack c comma (text ∷ next ∷ texts) h =
    lacks-append c text (44 ∷ join_with_byte 44 (next ∷ texts)) (h 0 [] (omega arith))
    (lacks-append c (44 ∷ []) (join_with_byte 44 (next ∷ texts)) comma (joined-lack c comma (next ∷ texts) (All-tail (Lacks c) text (next ∷ texts) h)))

-- ---- instructions ----

-- the name of a form is letters, and at least one
letters : list_all (λ f. nat_le 1 (length f.mnemonic) && list_all is_ascii_lowercase f.mnemonic) forms ≡ true
unfolding forms
letters = refl

mnemonic-letters : (mnemonic : List ℕ) (f : Form) → form_named mnemonic ≡ Some f → (nat_le 1 (length mnemonic) && list_all is_ascii_lowercase mnemonic) ≡ true
mnemonic-letters mnemonic f is =
    let all = each_form (λ f. nat_le 1 (length f.mnemonic) && list_all is_ascii_lowercase f.mnemonic) letters mnemonic f is in
    ap (λ (m : List ℕ). nat_le 1 (length m) && list_all is_ascii_lowercase m) (sym (form_named-mnemonic mnemonic f is)) ∙ all

mnemonic-plain : (mnemonic : List ℕ) (f : Form) → form_named mnemonic ≡ Some f → list_all is_plain mnemonic ≡ true
mnemonic-plain mnemonic f is =
    weaker is_ascii_lowercase is_plain letter_plain mnemonic
    (and_parts (nat_le 1 (length mnemonic)) (list_all is_ascii_lowercase mnemonic) (mnemonic-letters mnemonic f is)).1

-- the text of an instruction of this form
pub instruction_in-written : (mnemonic : List ℕ) (f : Form) (values : List Value) → form_named mnemonic ≡ Some f → AllZip Fits f.operands values
    → instruction_in (mnemonic ++ text_of_values values) ≡ Some (Instruction mnemonic values)
unfolding instruction_in text_of_values texts_in
instruction_in-written mnemonic f [] named fit =
    let cut = cut-nowhere 32 mnemonic (lacks-plain 32 refl mnemonic (mnemonic-plain mnemonic f named)) in
    let read : values_of f.operands [] ≡ Some [] = values_of-written f.operands [] fit in
    rw (append-nil mnemonic, cut.0, cut.1, named, read, form_named-mnemonic mnemonic f named) refl
instruction_in-written mnemonic f (value ∷ values) named fit =
    let cut = cut-there 32 mnemonic (join_with_byte 44 (map text_of_value (value ∷ values))) (lacks-plain 32 refl mnemonic (mnemonic-plain mnemonic f named)) in
    let split = split-joined 44 (text_of_value value) (map text_of_value values) (texts-lack 44 refl f.operands (value ∷ values) fit) in
    rw (cut.0, cut.1, named, split, values_of-written f.operands (value ∷ values) fit, form_named-mnemonic mnemonic f named) refl

-- a text that is an instruction
pub record IsInstruction (text : List ℕ) (item : Item) : Type 0 where
  pub mnemonic : List ℕ
  pub form : Form
  pub values : List Value
  pub named : form_named mnemonic ≡ Some form
  pub fit : AllZip Fits form.operands values
  pub is : item ≡ Instruction mnemonic values
  pub written : text ≡ mnemonic ++ text_of_values values

-- the texts of values, behind a space where there are any
texts-back : (text : List ℕ) (values : List Value) → texts_in (behind_first 32 text) ≡ map text_of_value values → text ≡ before_first (is_byte 32) text ++ text_of_values values
unfolding texts_in text_of_values
texts-back text values is = at (behind_first 32 text) refl values is
  where
    at : (o : Option (List ℕ)) → behind_first 32 text ≡ o → (values : List Value) → texts_in o ≡ map text_of_value values
        → text ≡ before_first (is_byte 32) text ++ text_of_values values
    at None none [] is = sym (cut-back_none 32 text none) ∙ sym (append-nil (before_first (is_byte 32) text))
    at None none (value ∷ values) is = absurd cc
    at (Some rest) some [] is = let long = ap length is in absurd (omega (arith, length-slice_split (is_byte 44) rest))
    at (Some rest) some (value ∷ values) is =
        let joined : rest ≡ join_with_byte 44 (map text_of_value (value ∷ values)) = sym (join_with_byte-slice_split 44 rest) ∙ ap (join_with_byte 44) is in
        cut-back 32 text rest some ∙ rw (← joined) refl

pub instruction_in-back : (text : List ℕ) (item : Item) → instruction_in text ≡ Some item → IsInstruction text item
unfolding instruction_in
instruction_in-back text item is =
    let name = before_first (is_byte 32) text in
    let texts = texts_in (behind_first 32 text) in
    option_and_then_some (λ form. option_map (Instruction form.mnemonic) (values_of form.operands texts)) (form_named name) item is (λ f named read.
    let h = option_map_some (Instruction f.mnemonic) (values_of f.operands texts) item read in
    let back = values_of-back f.operands texts h.0 h.1 in
    record {
      mnemonic = name;
      form = f;
      values = h.0;
      named = named;
      fit = back.0;
      is = sym h.2 ∙ ap (λ (m : List ℕ). Instruction m h.0) (form_named-mnemonic name f named);
      written = texts-back text h.0 back.1;
    })

-- ---- items ----

-- the form and what fits it, of an instruction that may be said
pub instruction-form : (mnemonic : List ℕ) (values : List Value) → IsItem (Instruction mnemonic values)
    → (f : Form) × (form_named mnemonic ≡ Some f) × AllZip Fits f.operands values
unfolding IsItem
instruction-form mnemonic values may = at (form_named mnemonic) refl may
  where
    at : (o : Option Form) → form_named mnemonic ≡ o → IsSomeAnd o (λ form. AllZip Fits form.operands values)
        → (f : Form) × (form_named mnemonic ≡ Some f) × AllZip Fits f.operands values
    at None named may = absurd may
    at (Some f) named may = (f, named, may)

-- the text of an instruction lacks each byte that no operand has, but spaces and commas
instruction-lacks : (c : ℕ) → is_plain c ≡ false → Lacks c (32 ∷ []) → Lacks c (44 ∷ []) → (mnemonic : List ℕ) (values : List Value)
    → (f : Form) × (form_named mnemonic ≡ Some f) × AllZip Fits f.operands values → Lacks c (mnemonic ++ text_of_values values)
unfolding text_of_values
instruction-lacks c other space comma mnemonic [] (f, named, fit) = rw (append-nil mnemonic) (lacks-plain c other mnemonic (mnemonic-plain mnemonic f named))
instruction-lacks c other space comma mnemonic (value ∷ values) (f, named, fit) =
    let joined = join_with_byte 44 (map text_of_value (value ∷ values)) in
    lacks-append c mnemonic (32 ∷ joined) (lacks-plain c other mnemonic (mnemonic-plain mnemonic f named))
    (lacks-append c (32 ∷ []) joined space (joined-lack c comma (map text_of_value (value ∷ values)) (texts-lack c other f.operands (value ∷ values) fit)))

-- no text has a line feed
pub text_of-feed : (item : Item) → IsItem item → Lacks 10 (text_of item)
unfolding text_of IsItem
text_of-feed Nothing may = refl
text_of-feed (Comment bytes) may = may
text_of-feed (Label name) may = lacks-append 10 name (58 ∷ []) (lacks-plain 10 refl name (name-plain name may)) refl
text_of-feed (Instruction mnemonic values) may = instruction-lacks 10 refl refl refl mnemonic values (instruction-form mnemonic values may)

-- a text that begins with letters is a label or an instruction
letters-text : (front rest : List ℕ) → (nat_le 1 (length front) && list_all is_ascii_lowercase front) ≡ true
    → item_of_text (front ++ rest) ≡ labelled (front ++ rest) (before_last_byte 58 (front ++ rest))
unfolding item_of_text
letters-text [] rest h = absurd cc
letters-text (b ∷ front) rest h = let letter : (b == 59) ≡ false = grind (arith, nat_tests) in rw letter refl

name-some : (name : List ℕ) → is_name name ≡ true → (nat_le 1 (length name) && list_all is_ascii_lowercase name) ≡ true
unfolding is_name
name-some name h = grind arith

-- the text that is written of an item is read as that item
pub item_of_text-written : (item : Item) → IsItem item → item_of_text (text_of item) ≡ Some item
unfolding text_of IsItem item_of_text labelled
item_of_text-written Nothing may = refl
item_of_text-written (Comment bytes) may = refl
item_of_text-written (Label name) may = letters-text name (58 ∷ []) (name-some name may) ∙ rw (before_last-there 58 name, may) refl
item_of_text-written (Instruction mnemonic values) may =
    let h = instruction-form mnemonic values may in
    letters-text mnemonic (text_of_values values) (mnemonic-letters mnemonic h.0 h.1)
    ∙ rw (before_last-nowhere 58 (mnemonic ++ text_of_values values) (instruction-lacks 58 refl refl refl mnemonic values h))
    (instruction_in-written mnemonic h.0 values h.1 h.2)

-- an item that is read may be said, and the text is what is written of it
-- An item that is read may be said, but that a comment may have a line feed, and the text is what is written of it.
said-by_text : (text : List ℕ) (item : Item) → item_of_text text ≡ Some item → (IsItem item ⊎ ((bytes : List ℕ) × (item ≡ Comment bytes))) × (text ≡ text_of item)
unfolding item_of_text text_of IsItem labelled
said-by_text [] item is = rw (← same_Some Nothing item is) (inl tt, refl)
said-by_text (b ∷ bs) item is = elim (cases_Bool (b == 59)) [
  | inl semicolon ↦ (let first : b ≡ 59 = grind (arith, nat_tests) in
      rw (← same_Some (Comment bs) item (rw semicolon at is)) (inr (bs, refl), rw first refl))
  | inr else ↦ other (before_last_byte 58 (b ∷ bs)) refl (rw else at is)
]
  where
    other : (o : Option (List ℕ)) → before_last_byte 58 (b ∷ bs) ≡ o → labelled (b ∷ bs) o ≡ Some item
        → (IsItem item ⊎ ((bytes : List ℕ) × (item ≡ Comment bytes))) × (b ∷ bs ≡ text_of item)
    other (Some name) last is =
        let may = cond_some (is_name name) (Label name) item is in
        rw (← may.1) (inl may.0, before_last-back 58 (b ∷ bs) name last)
    other None last is = let h = instruction_in-back (b ∷ bs) item is in rw h.is (inl (rw h.named h.fit), h.written)

-- an item that is read may be said, and the text is what is written of it
pub item_of_text-back : (text : List ℕ) (item : Item) → Lacks 10 text → item_of_text text ≡ Some item → IsItem item × (text ≡ text_of item)
item_of_text-back text item feed is = let h = said-by_text text item is in (
  elim h.0 [
    | inl may ↦ may
    | inr comment ↦ rw comment.1 (unfold IsItem in unfold text_of in (lacks_parts 10 (59 ∷ []) comment.0 (rw (h.1, comment.1) at feed)).1)
  ],
  h.1,
)

-- ---- instructions that are read ----

-- an instruction that a line says is
pub said-form : (line : List ℕ) (mnemonic : List ℕ) (values : List Value) → item_in line ≡ Some (Instruction mnemonic values) → (f : Form) × (form_named mnemonic ≡ Some f)
unfolding item_in
said-form line mnemonic values is =
    option_and_then_some item_of_text (before_last_byte 10 line) (Instruction mnemonic values) is (λ text last said.
    elim (said-by_text text (Instruction mnemonic values) said).0 [
      | inl may ↦ (let h = instruction-form mnemonic values may in (h.0, h.1))
      | inr comment ↦ absurd (let same = comment.1 in cc)
    ])
