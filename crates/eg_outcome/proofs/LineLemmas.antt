-- Lines that are made and put one after another.
use Rattle.std.proofs.Common.{◌≡◌, ◌∙◌, refl, sym, ap, subst, List, ℕ, suc, [], ◌∷◌, ◌++◌, ◌+◌, ◌<◌, map, take, drop, get_or, length, append-nil, append_assoc, length-append, ◌≤◌, arith, Bool, true}
use Rattle.std.specs.List.{concat}
use Rattle.std.proofs.lemmas.List.{map-append, nil_from_length}
use Rattle.std.proofs.lemmas.List.Folds.{concat-append}
use Rattle.std.specs.Prelude.{◌==◌}
use Rattle.std.proofs.lemmas.Bool.{eqb-true}
use Rattle.eg_base.specs.Outside.{ShownSink, Rose, Appends}
use Rattle.eg_outcome.specs.Changes.{change}
use Rattle.eg_outcome.specs.Outcomes.{LineEnds}
use Rattle.eg_outcome.specs.declared.outcome.Outcome.{Outcome}
use Rattle.eg_outcome.specs.declared.outcome.Outcome.TheVariants as outcome
use Rattle.eg_base.proofs.AppendLemmas.{Appends-nil, Appends-append, AppendsPrefix-append, concat-cut, concat-take_more}

-- ---- lines that are made ----

-- one line more
pub concat-more : {X : Type 0} (f : X → List ℕ) (xs ys : List X) (x : X) → ys ≡ xs ++ x ∷ [] →
    concat (map f ys) ≡ concat (map f xs) ++ f x
concat-more f xs ys x is = ap (λ l. concat (map f l)) is ∙ ap concat (map-append f xs (x ∷ []))
    ∙ concat-append (map f xs) (f x ∷ []) ∙ ap (λ t. concat (map f xs) ++ t) (append-nil (f x))

-- the text of one item more
pub concat-front : {X : Type 0} (f : X → List ℕ) (xs : List X) (i : ℕ) (x : X) → i < length xs → x ≡ get_or xs i x →
    concat (map f (take (i + 1) xs)) ≡ concat (map f (take i xs)) ++ f x
concat-front f xs i x below is = concat-take_more f xs i x below
    ∙ ap (λ y. concat (map f (take i xs)) ++ f y) (sym is)

-- the texts up to an item, its own, and those behind it
pub concat-at : {X : Type 0} (f : X → List ℕ) (xs : List X) (i : ℕ) (x : X) → i < length xs → x ≡ get_or xs i x →
    concat (map f xs) ≡ (concat (map f (take i xs)) ++ f x) ++ concat (map f (drop (suc i) xs))
concat-at f xs i x below is = concat-cut f xs i x below
    ∙ ap (λ y. (concat (map f (take i xs)) ++ f y) ++ concat (map f (drop (suc i) xs))) (sym is)

-- ---- lines that are put ----

-- a line is refused after whole ones: a prefix of all lines was put
pub LineEnds-within : (before mid now : ShownSink) (whole line rest : List ℕ) (o : Outcome) → (o ≡ outcome.Done → ⊥) →
    Appends before mid whole → mid.faults ≡ before.faults → LineEnds line (change mid now) o → LineEnds ((whole ++ line) ++ rest) (change before now) o
LineEnds-within before mid now whole line rest outcome.Done refused put same ends = absurd (refused refl)
LineEnds-within before mid now whole line rest outcome.WriteFault refused put same ends =
    (AppendsPrefix-append before mid now whole line rest put ends.0, subst (λ n. Rose n now.faults) same ends.1)
LineEnds-within before mid now whole line rest outcome.Memory refused put same ends =
    (AppendsPrefix-append before mid now whole line rest put ends.0, ends.1 ∙ same)
LineEnds-within before mid now whole line rest outcome.Usage refused put same ends = ends
LineEnds-within before mid now whole line rest (outcome.ReadFault file) refused put same ends = ends
LineEnds-within before mid now whole line rest (outcome.Refused why) refused put same ends = ends

-- the first `count` lines were put whole, and no fault was met
pub record HasPut {X : Type 0} (text : X → List ℕ) (lines : List X) (count : ℕ) (before now : ShownSink) : Type 0 where
  pub put : Appends before now (concat (map text (take count lines)))
  pub faults : now.faults ≡ before.faults

-- the next one is put too,
pub HasPut-more : {X : Type 0} (text : X → List ℕ) (lines : List X) (i : ℕ) (line : X) (before mid now : ShownSink) →
    i < length lines → line ≡ get_or lines i line → HasPut text lines i before mid →
    LineEnds (text line) (change mid now) outcome.Done → HasPut text lines (i + 1) before now
HasPut-more text lines i line before mid now below is so_far ends = record {
  put = rw (concat-front text lines i line below is)
      (Appends-append before mid now (concat (map text (take i lines))) (text line) so_far.put ends.0);
  faults = ends.1 ∙ so_far.faults;
}

-- or it is refused: a prefix of all lines was put
pub HasPut-refused : {X : Type 0} (text : X → List ℕ) (lines : List X) (i : ℕ) (line : X) (before mid now : ShownSink) (o : Outcome) →
    i < length lines → line ≡ get_or lines i line → HasPut text lines i before mid →
    (o ≡ outcome.Done → ⊥) → LineEnds (text line) (change mid now) o → LineEnds (concat (map text lines)) (change before now) o
HasPut-refused text lines i line before mid now o below is so_far refused ends =
    subst (λ all. LineEnds all (change before now) o) (sym (concat-at text lines i line below is))
    (LineEnds-within before mid now (concat (map text (take i lines))) (text line) (concat (map text (drop (suc i) lines))) o
    refused so_far.put so_far.faults ends)

-- ---- a text that is put line by line ----

-- what stands before the rest of a text was put, and no fault was met
pub record HasPutFront (text rest : List ℕ) (before now : ShownSink) : Type 0 where
  pub front : List ℕ
  pub parts : text ≡ front ++ rest
  pub put : Appends before now front
  pub faults : now.faults ≡ before.faults

-- at the begin nothing was put
pub HasPutFront-nothing : (text rest : List ℕ) (shown : ShownSink) → rest ≡ text → HasPutFront text rest shown shown
HasPutFront-nothing text rest shown is = record { front = []; parts = sym is; put = Appends-nil shown; faults = refl }

-- the next line is put too,
pub HasPutFront-more : (text rest line after : List ℕ) (before mid now : ShownSink) → HasPutFront text rest before mid →
    rest ≡ line ++ after → LineEnds line (change mid now) outcome.Done → HasPutFront text after before now
HasPutFront-more text rest line after before mid now so_far is ends = record {
  front = so_far.front ++ line;
  parts = so_far.parts ∙ ap (λ l. so_far.front ++ l) is ∙ sym (append_assoc so_far.front line after);
  put = Appends-append before mid now so_far.front line so_far.put ends.0;
  faults = ends.1 ∙ so_far.faults;
}

-- or it is refused,
pub HasPutFront-refused : (text rest line after : List ℕ) (before mid now : ShownSink) (o : Outcome) → HasPutFront text rest before mid →
    rest ≡ line ++ after → (o ≡ outcome.Done → ⊥) → LineEnds line (change mid now) o → LineEnds text (change before now) o
HasPutFront-refused text rest line after before mid now o so_far is refused ends =
    subst (λ all. LineEnds all (change before now) o) (sym (so_far.parts ∙ ap (λ l. so_far.front ++ l) is ∙ sym (append_assoc so_far.front line after)))
    (LineEnds-within before mid now so_far.front line after o refused so_far.put so_far.faults ends)

-- or none is left
pub HasPutFront-whole : (text rest : List ℕ) (before now : ShownSink) → HasPutFront text rest before now → rest ≡ [] →
    LineEnds text (change before now) outcome.Done
HasPutFront-whole text rest before now so_far none =
    (subst (Appends before now) (sym (so_far.parts ∙ ap (λ l. so_far.front ++ l) none ∙ append-nil so_far.front)) so_far.put, so_far.faults)

-- a line that is some bytes leaves fewer
pub shorter : (rest line after : List ℕ) → rest ≡ line ++ after → 1 ≤ length line → length after < length rest
shorter rest line after is some = let long = ap length is ∙ length-append line after in omega arith

-- a text that is empty has no bytes
pub nothing_left : (rest : List ℕ) (empty : Bool) → empty ≡ (length rest == 0) → empty ≡ true → rest ≡ []
nothing_left rest empty is so = nil_from_length rest (eqb-true (length rest) 0 (sym is ∙ so))
