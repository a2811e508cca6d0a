-- The spans of a run by its rows: the span of the last row, parts of a span, and rows that are all of one span.
use Rattle.std.proofs.Common.{◌≡◌, ◌∙◌, ◌++◌, ◌∷◌, [], inl, inr, List, Bool, true, false, refl, sym, ap, append_assoc}
use Rattle.std.specs.Prelude.{if◌then◌else◌}
use Rattle.std.specs.List.{All}
use Rattle.std.proofs.lemmas.Bool.{cases_Bool}
use Rattle.std.proofs.lemmas.List.{append-nil}
use Rattle.std.proofs.lemmas.List.Elements.{All-nil, All-cons, All-head, All-tail}
use Rattle.eg_record.specs.declared.row.Row.{Row}
use Rattle.eg_record.specs.Spans.{this_span, IsSpan, IsDriveSpan, IsTestSpan}

-- ---- the span of the last row ----

pub this_span-nil : this_span [] ≡ []
unfolding this_span
this_span-nil = refl

-- a span begins at a fresh row, and goes on at any other
pub this_span-fresh : (row : Row) (before : List Row) → row.fresh ≡ true → this_span (row ∷ before) ≡ row ∷ []
unfolding this_span
this_span-fresh row before fresh = ap (λ (b : Bool). row ∷ (if b then [] else this_span before)) fresh

pub this_span-goes_on : (row : Row) (before : List Row) → row.fresh ≡ false → this_span (row ∷ before) ≡ row ∷ this_span before
unfolding this_span
this_span-goes_on row before goes_on = ap (λ (b : Bool). row ∷ (if b then [] else this_span before)) goes_on

-- it goes back to the last fresh row, whatever stands before that
pub this_span-append : (later : List Row) (first : Row) (older : List Row) → first.fresh ≡ true → All (λ row. row.fresh ≡ false) later →
    this_span (later ++ (first ∷ older)) ≡ later ++ first ∷ []
this_span-append [] first older begins goes_on = this_span-fresh first older begins
this_span-append (row ∷ later) first older begins goes_on =
    this_span-goes_on row (later ++ (first ∷ older)) (All-head (λ r. r.fresh ≡ false) row later goes_on)
    ∙ ap (λ rows. row ∷ rows) (this_span-append later first older begins (All-tail (λ r. r.fresh ≡ false) row later goes_on))

-- behind any older rows a span is the span of its last row
pub this_span-span : (span older : List Row) → IsSpan span → this_span (span ++ older) ≡ span
this_span-span span older is =
    ap (λ rows. this_span (rows ++ older)) is.is
    ∙ ap this_span (append_assoc is.later (is.first ∷ []) older)
    ∙ this_span-append is.later is.first older is.begins is.goes_on
    ∙ sym is.is

-- the rows of a span are all of one span
pub this_span-whole : (rows : List Row) → IsSpan rows → this_span rows ≡ rows
this_span-whole rows is = ap this_span (sym (append-nil rows)) ∙ this_span-span rows [] is

-- ---- spans and their parts ----

-- a span has a row
pub span-not_nil : IsSpan [] → ⊥
span-not_nil is = nothing is.later is.first is.is
  where
    nothing : (later : List Row) (first : Row) → [] ≡ later ++ first ∷ [] → ⊥
    nothing [] first e = absurd cc
    nothing (row ∷ later) first e = absurd cc

-- it begins with a fresh row, and goes on by one that isn't
pub span-begins : (row : Row) → row.fresh ≡ true → IsSpan (row ∷ [])
span-begins row fresh = record { later = []; first = row; is = refl; begins = fresh; goes_on = All-nil (λ r. r.fresh ≡ false) }

pub span-goes_on : (row : Row) (span : List Row) → row.fresh ≡ false → IsSpan span → IsSpan (row ∷ span)
span-goes_on row span goes_on is = record {
  later = row ∷ is.later;
  first = is.first;
  is = ap (λ rows. row ∷ rows) is.is;
  begins = is.begins;
  goes_on = All-cons (λ r. r.fresh ≡ false) row is.later goes_on is.goes_on;
}

tail : (r s : Row) (xs ys : List Row) → r ∷ xs ≡ s ∷ ys → xs ≡ ys
tail r s xs ys same = cc

-- a drive span and a test span begin and go on as any span
pub drive_span-begins : (row : Row) → row.fresh ≡ true → row.testing ≡ false → IsDriveSpan (row ∷ [])
unfolding span-begins
drive_span-begins row fresh drives = record { span = span-begins row fresh; drives = drives }

pub drive_span-goes_on : (row : Row) (span : List Row) → row.fresh ≡ false → IsDriveSpan span → IsDriveSpan (row ∷ span)
unfolding span-goes_on
drive_span-goes_on row span goes_on drive = record { span = span-goes_on row span goes_on drive.span; drives = drive.drives }

pub test_span-begins : (row : Row) → row.fresh ≡ true → row.testing ≡ true → IsTestSpan (row ∷ [])
unfolding span-begins
test_span-begins row fresh tests = record { span = span-begins row fresh; tests = tests }

pub test_span-goes_on : (row : Row) (span : List Row) → row.fresh ≡ false → IsTestSpan span → IsTestSpan (row ∷ span)
unfolding span-goes_on
test_span-goes_on row span goes_on test = record { span = span-goes_on row span goes_on test.span; tests = test.tests }

-- ---- each span of a run ----

-- ---- rows that are all of one span ----

-- and then of the rows up to any earlier one too
one_span-tail : (row : Row) (rows : List Row) → this_span (row ∷ rows) ≡ row ∷ rows → this_span rows ≡ rows
one_span-tail row rows same = elim (cases_Bool row.fresh) [
  | inl fresh ↦ (let none : [] ≡ rows = tail row row [] rows (sym (this_span-fresh row rows fresh) ∙ same) in
      ap this_span (sym none) ∙ this_span-nil ∙ none)
  | inr goes_on ↦ tail row row (this_span rows) rows (sym (this_span-goes_on row rows goes_on) ∙ same)
]

pub one_span-part : (newer rows : List Row) → this_span (newer ++ rows) ≡ newer ++ rows → this_span rows ≡ rows
one_span-part [] rows same = same
one_span-part (row ∷ newer) rows same = one_span-part newer rows (one_span-tail row (newer ++ rows) same)
