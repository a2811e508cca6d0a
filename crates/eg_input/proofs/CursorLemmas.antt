-- The field before the first of some bytes, and what it says.
use Rattle.std.proofs.Common.{◌≡◌, ◌≢◌, ◌∙◌, sym, ap, refl, subst, ℕ, ◌+◌, ◌<◌, ◌≤◌, List, [], ◌∷◌, ◌++◌, length, take, drop, get_or, Bool, true, false, arith, Option, Some, None, Bor}
use Rattle.std.specs.Prelude.{◌==◌, All, option_map, position, IfSome}
use Rattle.std.specs.Char.{is_ascii_digit}
use Rattle.std.specs.List.{list_all}
use Rattle.std.proofs.lemmas.Bool.Decides.{nat_tests}
use Rattle.std.proofs.lemmas.List.Quantifiers.{position-Some}
use Rattle.std.proofs.lemmas.List.Sums.{position_or_len_is}
use Rattle.std.proofs.lemmas.List.{take-append-drop, drop_more, get_or-take, length-take}
use Rattle.std.proofs.lemmas.List.Elements.{All-nil, All-cons}
use Rattle.eg_input.specs.Fields.{number_of, truth_of, found_now, first_field, first_said}
use Rattle.eg_input.specs.Inner.Plain.{BeginsWithField}
use Rattle.eg_input.proofs.FieldLemmas.{number_of-le}

-- whether a byte is the one that ends a field
abbrev pub ends : ℕ → ℕ → Bool
ends ending byte = byte == ending

-- these bytes have none that ends a field
abbrev pub Without : ℕ → List ℕ → Type 0
Without ending = All (λ b. ends ending b ≡ false)

digits-without : (ending : ℕ) → is_ascii_digit ending ≡ false → (front : List ℕ) → list_all is_ascii_digit front ≡ true → Without ending front
digits-without ending other [] e = All-nil (λ b. ends ending b ≡ false)
digits-without ending other (b ∷ rest) e =
    All-cons (λ b. ends ending b ≡ false) b rest (grind (arith, nat_tests)) (digits-without ending other rest (grind arith))

-- a field that writes a number has none
pub number-without : (ending most : ℕ) (field : List ℕ) (number : ℕ) → is_ascii_digit ending ≡ false → number_of most field ≡ Some number → Without ending field
unfolding number_of
number-without ending most field number other is = digits-without ending other field (grind (arith, nat_tests))

-- the first of these bytes is here
pub position-at : (ending : ℕ) (text : List ℕ) (place : ℕ) → place < length text → ends ending (get_or text place 0) ≡ true
    → ((k : ℕ) → k < place → ends ending (get_or text k 0) ≡ false) → position (ends ending) text ≡ Some place
position-at ending text place room here none =
    let at = position_or_len_is (ends ending) text place 0 (omega arith) none (λ within. here) in
    rw at grind (arith, nat_tests)

-- where there is none, nothing is said first
pub said-none : {X : Type 0} (ending : ℕ) (says : List ℕ → Option X) (text : List ℕ) → None ≡ position (ends ending) text → None ≡ first_said ending says text
unfolding first_said first_field
said-none ending says text is = rw (sym is) refl

pub said-at : {X : Type 0} (ending : ℕ) (says : List ℕ → Option X) (text : List ℕ) (place : ℕ) (o : Option X) → Some place ≡ position (ends ending) text → o ≡ says (take place text)
    → option_map (λ x. (x, drop (place + 1) text)) o ≡ first_said ending says text
unfolding first_said first_field
said-at ending says text place None is said = rw (sym is, sym said) refl
said-at ending says text place (Some x) is said = rw (sym is, sym said) refl

-- a number before such a byte is what is said first
pub number-said : (ending most : ℕ) (text : List ℕ) (place : ℕ) (found : Option (ℕ × Bor (List ℕ))) → is_ascii_digit ending ≡ false → place < length text
    → ends ending (get_or text place 0) ≡ true → found_now found ≡ option_map (λ number. (number, drop (place + 1) text)) (number_of most (take place text))
    → IfSome found (λ f. found_now (Some f) ≡ first_said ending (number_of most) text)
number-said ending most text place None other room here is = tt
number-said ending most text place (Some f) other room here is = at (number_of most (take place text)) refl
  where
    at : (number : Option ℕ) → number_of most (take place text) ≡ number → found_now (Some f) ≡ first_said ending (number_of most) text
    at None e = absurd (let never : Some (f.0, f.1.now) ≡ None = is ∙ rw e refl in cc)
    at (Some number) e =
        let none = number-without ending most (take place text) number other e in
        is ∙ said-at ending (number_of most) text place (number_of most (take place text)) (sym (position-at ending text place room here (λ k lt. before none k lt))) refl
      where
        before : Without ending (take place text) → (k : ℕ) → k < place → ends ending (get_or text k 0) ≡ false
        before none k lt = subst (λ b. ends ending b ≡ false) (get_or-take place text k 0 lt) (none k 0 (omega (arith, length-take place text)))

-- what is said first stands before the first of these bytes, with the rest behind it
pub said-begins : {X : Type 0} (ending : ℕ) (says : List ℕ → Option X) (text : List ℕ) (x : X) (rest : List ℕ) → first_said ending says text ≡ Some (x, rest)
    → BeginsWithField says ending text x rest
unfolding first_said first_field
said-begins {X} ending says text x rest said = at (position (ends ending) text) refl
  where
    behind : (place : ℕ) → (place < length text) × (ends ending (get_or text place 0) ≡ true) → (o : Option X) → says (take place text) ≡ o
        → option_map {U = X × List ℕ} (λ x. (x, drop (place + 1) text)) o ≡ Some (x, rest) → BeginsWithField says ending text x rest
    behind place here None e is = absurd (let never : None ≡ Some (x, rest) = is in cc)
    behind place here (Some y) e is =
        let pair : ◌≡◌ {A = X × List ℕ} (y, drop (place + 1) text) (x, rest) = cc in
        let byte : get_or text place 0 ≡ ending = grind (arith, here.1, nat_tests) in
        record {
          field = take place text;
          parts =
              sym (take-append-drop place text)
              ∙ ap (λ (l : List ℕ). take place text ++ l) (drop_more text place 0 here.0 ∙ rw (byte, ap (λ (f : X × List ℕ). f.1) pair) refl);
          written = e ∙ ap Some (ap (λ (f : X × List ℕ). f.0) pair);
        }

    at : (place : Option ℕ) → position (ends ending) text ≡ place → BeginsWithField says ending text x rest
    at None is = absurd (let never : None ≡ Some (x, rest) = said-none ending says text (sym is) ∙ said in cc)
    at (Some place) is =
        let found = position-Some (ends ending) text place 0 is in
        behind place (found.0, found.1) (says (take place text)) refl (said-at ending says text place (says (take place text)) (sym is) refl ∙ said)

pub found-begins : {X : Type 0} (ending : ℕ) (says : List ℕ → Option X) (text : List ℕ) (found : Option (X × Bor (List ℕ))) → found_now found ≡ first_said ending says text
    → IfSome found (λ f. BeginsWithField says ending text f.0 f.1.now)
found-begins ending says text None is = tt
found-begins ending says text (Some f) is = said-begins ending says text f.0 f.1.now (sym is)

pub begins-limit : (ending most : ℕ) (text : List ℕ) (found : Option (ℕ × Bor (List ℕ))) → IfSome found (λ f. BeginsWithField (number_of most) ending text f.0 f.1.now) → IfSome found (λ f. f.0 ≤ most)
begins-limit ending most text None b = tt
begins-limit ending most text (Some f) b = number_of-le most b.field f.0 b.written

-- ---- one digit ----

-- a field of another length says nothing true or false
other_says-none : (field : List ℕ) → length field ≢ 1 → truth_of field ≡ None
unfolding truth_of
other_says-none [] other = refl
other_says-none (a ∷ []) other = absurd (other refl)
other_says-none (a ∷ b ∷ rest) other = grind (arith, nat_tests)

-- where the second byte doesn't end a field, or there is none, no digit is said first
pub no_digit : (ending : ℕ) (text : List ℕ) → (1 < length text → ends ending (get_or text 1 0) ≡ false) → None ≡ first_said ending truth_of text
no_digit ending text other = at (position (ends ending) text) refl
  where
    at : (place : Option ℕ) → position (ends ending) text ≡ place → None ≡ first_said ending truth_of text
    at None e = said-none ending truth_of text (sym e)
    at (Some place) e =
        let found = position-Some (ends ending) text place 0 e in
        said-at ending truth_of text place None (sym e) (sym (other_says-none (take place text) (λ one.
        let second : place ≡ 1 = omega (arith, one, found.0, length-take place text) in
        let here : ends ending (get_or text 1 0) ≡ true = subst (λ k. ends ending (get_or text k 0) ≡ true) second found.1 in
        let no : ends ending (get_or text 1 0) ≡ false = other (subst (λ k. k < length text) second found.0) in
        absurd cc)))

-- a byte that is no digit says nothing true or false
byte_says-none : (ending : ℕ) (text : List ℕ) → is_ascii_digit ending ≡ false → 0 < length text → ends ending (get_or text 0 0) ≡ true → truth_of (take 1 text) ≡ None
unfolding truth_of
byte_says-none ending [] other room here = absurd (omega arith)
byte_says-none ending (a ∷ text) other room here = grind (arith, nat_tests)

-- where it does, what the first byte says is said
pub digit-first : (ending : ℕ) (text : List ℕ) (o : Option Bool) → is_ascii_digit ending ≡ false → 1 < length text → ends ending (get_or text 1 0) ≡ true
    → o ≡ truth_of (take 1 text) → option_map (λ x. (x, drop 2 text)) o ≡ first_said ending truth_of text
digit-first ending text o other room here says = by (ends ending (get_or text 0 0)) refl
  where
    only : ends ending (get_or text 0 0) ≡ false → (k : ℕ) → k < 1 → ends ending (get_or text k 0) ≡ false
    only otherwise k lt = (let first : k ≡ 0 = omega arith in subst (λ n. ends ending (get_or text n 0) ≡ false) (sym first) otherwise)

    by : (b : Bool) → ends ending (get_or text 0 0) ≡ b → option_map {U = Bool × List ℕ} (λ x. (x, drop 2 text)) o ≡ first_said ending truth_of text
    by false otherwise = said-at ending truth_of text 1 o (sym (position-at ending text 1 room here (only otherwise))) says
    by true first =
        ap (option_map {U = Bool × List ℕ} (λ x. (x, drop 2 text))) (says ∙ byte_says-none ending text other (omega arith) first)
        ∙ said-at ending truth_of text 0 None (sym (position-at ending text 0 (omega arith) first (λ k lt. absurd (omega arith)))) (sym (other_says-none (take 0 text) (λ one. omega arith)))
