-- Drive spans and test spans of rows (C40). A span begins at a fresh row and ends before the next fresh one.
use Rattle.std.specs.Prelude.{◌≡◌, ℕ, true, false, List, [], ◌∷◌, ◌++◌, length, if◌then◌else◌}
use Rattle.std.specs.List.{All}
use Rattle.eg_record.specs.declared.row.Row.{Row}

-- of these rows, those of the last one's span
unfoldable pub this_span : List Row → List Row
this_span [] = []
this_span (row ∷ before) = row ∷ (if row.fresh then [] else this_span before)

-- These rows are a span, or its part up to some tick: the earliest is fresh, and no other is.
pub record IsSpan (rows : List Row) : Type 0 where
  pub later : List Row
  pub first : Row
  pub is : rows ≡ later ++ first ∷ []
  pub begins : first.fresh ≡ true
  pub goes_on : All (λ row. row.fresh ≡ false) later

-- it is a drive span: no test is running at its first row (of the others nothing is asked)
pub record IsDriveSpan (rows : List Row) : Type 0 where
  pub span : IsSpan rows
  pub drives : span.first.testing ≡ false

-- it is a test span: a test is running at its first row
pub record IsTestSpan (rows : List Row) : Type 0 where
  pub span : IsSpan rows
  pub tests : span.first.testing ≡ true

-- P holds of each drive span of these rows, or of its part up to any tick, and of the tick at which it begins
abbrev pub EachDriveSpan : (ℕ → List Row → Type 0) → List Row → Type 0
EachDriveSpan P rows =
    (newer span older : List Row) → rows ≡ newer ++ (span ++ older) → IsDriveSpan span → P (length older) span

-- and likewise of each test span
abbrev pub EachTestSpan : (ℕ → List Row → Type 0) → List Row → Type 0
EachTestSpan P rows =
    (newer span older : List Row) → rows ≡ newer ++ (span ++ older) → IsTestSpan span → P (length older) span

-- this row at the end of the last of these spans
unfoldable pub in_last : Row → List (List Row) → List (List Row)
in_last row [] = (row ∷ []) ∷ []
in_last row (span ∷ earlier) = (row ∷ span) ∷ earlier

-- the spans of these rows, the last one first
unfoldable pub spans_of : List Row → List (List Row)
spans_of [] = []
spans_of (row ∷ before) = if row.fresh then (row ∷ []) ∷ spans_of before else in_last row (spans_of before)
