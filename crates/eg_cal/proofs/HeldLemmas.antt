-- A key has no fault exactly if it holds what it may.
use Rattle.std.proofs.Common.{◌≡◌, ◌↔◌, ℕ, ◌≤◌, true, length, List, [], ◌∷◌, ◌++◌, All, Option, Some, None, IsSome, refl, ap, ap₂, ◌∙◌}
use Rattle.std.proofs.lemmas.List.Elements.{All-nil, All-cons, All-head, All-tail}
use Rattle.toml.specs.Data.{Data, array, Members, Items, no_items, item}
use Rattle.eg_toml.specs.Values.{◌>>=◌}
use Rattle.eg_toml.specs.Arrays.{count, append_read, all_read, items_in, numbers_in, rows_in, is_rising}
use Rattle.eg_toml.specs.Refusals.{unless_some}
use Rattle.eg_toml.specs.Held.{HoldsValue, natural, items_of, array_of, AreMany}
use Rattle.eg_toml.proofs.RefusalLemmas.{if-none}
use Rattle.eg_toml.proofs.RangeLemmas.{bind-some}
use Rattle.eg_toml.proofs.RisingLemmas.{rising-true, true-rising}
use Rattle.eg_toml.proofs.HeldLemmas.{unless_some-none, written-read, not_refused, truth-exact, number-exact, numbers-exact, items_in-is, items-held, items_of-count}
use Rattle.eg_cal.specs.declared.key.CalKey.{CalKey}
use Rattle.eg_cal.specs.declared.key.CalFault.{CalFault}
use Rattle.eg_cal.specs.Keys.{Content, number, truth, axis, values, grid, questions, nothing}
use Rattle.eg_cal.specs.Contents.{value_of, point_count, read_questions}
use Rattle.eg_cal.specs.Checks.{axis_fault, content_fault}
use Rattle.eg_cal.specs.Held.{IsAxisArray, IsRowArray, Holds}

-- ---- axes

axis_fault-none : (key : CalKey) (o : Option (List ℕ)) → axis_fault key o ≡ None → (points : List ℕ) × ((o ≡ Some points) × (is_rising points ≡ true))
axis_fault-none key None e = absurd (cc)
axis_fault-none key (Some points) e = (points, (refl, if-none (is_rising points) _ e))

axis-held : (high : ℕ) (key : CalKey) (o : Option Data) → axis_fault key (o >>= numbers_in 2 16 high) ≡ None → IsAxisArray high o
axis-held high key o e =
    let read = axis_fault-none key (o >>= numbers_in 2 16 high) e in
    let found = bind-some o (numbers_in 2 16 high) read.0 read.1.0 in
    let exact = numbers-exact 2 16 high in
    let many = exact.keeps found.0 read.0 found.1.1 in
    record {
      value = read.0;
      is = found.1.0 ∙ ap Some (exact.is found.0 read.0 found.1.1);
      keeps = ((many.from, many.to, true-rising read.0 read.1.1), many.each);
    }

held-axis : (high : ℕ) (key : CalKey) (o : Option Data) → IsAxisArray high o → axis_fault key (o >>= numbers_in 2 16 high) ≡ None
held-axis high key o h =
    let (is_axis, within) = h.keeps in
    let many : HoldsValue (array_of natural) (AreMany 2 16 (λ n. n ≤ high)) o =
    record { value = h.value; is = h.is; keeps = record { from = is_axis.0; to = is_axis.1; each = within } } in
    ap (axis_fault key) (written-read (numbers-exact 2 16 high) o many) ∙ rw (rising-true h.value is_axis.2) refl

-- ---- arrays of rows

row-step : (a b : Option (List ℕ)) (xs : List ℕ) → append_read a b ≡ Some xs → (row : List ℕ) × ((rest : List ℕ) × ((a ≡ Some row) × (b ≡ Some rest)))
row-step None b xs e = absurd (cc)
row-step (Some row) None xs e = absurd (cc)
row-step (Some row) (Some rest) xs e = (row, (rest, (refl, refl)))

-- a row of so many numbers
abbrev IsRow : ℕ → ℕ → List ℕ → Type 0
IsRow wide high row = AreMany wide wide (λ n. n ≤ high) row

all_rows-are : (wide high : ℕ) (ds : Items) (xs : List ℕ) → all_read (numbers_in wide wide high) ds ≡ Some xs
    → (rows : List (List ℕ)) × ((ds ≡ items_of (array_of natural) rows) × All (IsRow wide high) rows)
all_rows-are wide high no_items xs e = ([], (refl, All-nil (IsRow wide high)))
all_rows-are wide high (item d ds) xs e =
    let step = row-step (numbers_in wide wide high d) (all_read (numbers_in wide wide high) ds) xs e in
    let exact = numbers-exact wide wide high in
    let more = all_rows-are wide high ds step.1.0 step.1.1.1 in
    (step.0 ∷ more.0, (ap₂ item (exact.is d step.0 step.1.1.0) more.1.0, All-cons (IsRow wide high) step.0 more.0 (exact.keeps d step.0 step.1.1.0) more.1.1))

all_rows-read : (wide high : ℕ) (rows : List (List ℕ)) → All (IsRow wide high) rows
    → (xs : List ℕ) × (all_read (numbers_in wide wide high) (items_of (array_of natural) rows) ≡ Some xs)
all_rows-read wide high [] all = ([], refl)
all_rows-read wide high (row ∷ rows) all =
    let more = all_rows-read wide high rows (All-tail (IsRow wide high) row rows all) in
    let exact = numbers-exact wide wide high in
    (row ++ more.0, ap₂ append_read (exact.reads row (All-head (IsRow wide high) row rows all)) more.1)

grid-held : (tall wide high : ℕ) (f : CalFault) (o : Option Data) → unless_some f (o >>= rows_in tall wide high) ≡ None → IsRowArray tall wide high o
grid-held tall wide high f o e =
    let read = unless_some-none f (o >>= rows_in tall wide high) e in
    let found = bind-some o (rows_in tall wide high) read.0 read.1 in
    let parts = bind-some (items_in tall tall found.0) (all_read (numbers_in wide wide high)) read.0 found.1.1 in
    let got = items_in-is tall tall found.0 parts.0 parts.1.0 in
    let rows = all_rows-are wide high parts.0 read.0 parts.1.1 in
    let many : count parts.0 ≡ length rows.0 = ap count rows.1.0 ∙ items_of-count (array_of natural) rows.0 in
    record {
      value = rows.0;
      is = found.1.0 ∙ ap Some (got.0 ∙ ap array rows.1.0);
      keeps = record { from = rw many at got.1.0; to = rw many at got.1.1; each = rows.1.1 };
    }

held-grid : (tall wide high : ℕ) (f : CalFault) (o : Option Data) → IsRowArray tall wide high o → unless_some f (o >>= rows_in tall wide high) ≡ None
held-grid tall wide high f o h =
    let rows = all_rows-read wide high h.value h.keeps.each in
    let items = items-held tall tall (items_of (array_of natural) h.value) (length h.value) (items_of-count (array_of natural) h.value) h.keeps.from h.keeps.to in
    let read : (o >>= rows_in tall wide high) ≡ Some rows.0 =
    ap (λ p. p >>= rows_in tall wide high) h.is ∙ ap (λ p. p >>= all_read (numbers_in wide wide high)) items ∙ rows.1 in
    ap (unless_some f) read

-- ---- contents

some-held : {X : Type 0} (f : CalFault) (o : Option X) → unless_some f o ≡ None → IsSome o
some-held f None e = absurd (cc)
some-held f (Some x) e = refl

held-some : {X : Type 0} (f : CalFault) (o : Option X) → IsSome o → unless_some f o ≡ None
held-some f None h = absurd (cc)
held-some f (Some x) h = refl

-- a key has no fault exactly if it holds its content
pub content-held : (content : Content) (ms : Members) (key : CalKey) → (content_fault content ms key ≡ None) ↔ Holds content ms key
content-held (number low high) ms key = not_refused (number-exact low high) _ (value_of ms key)
content-held truth ms key = not_refused truth-exact _ (value_of ms key)
content-held (axis high) ms key = (axis-held high key (value_of ms key), held-axis high key (value_of ms key))
content-held (values along high) ms key = not_refused (numbers-exact (point_count ms along) (point_count ms along) high) _ (value_of ms key)
content-held (grid down across high) ms key =
    (grid-held (point_count ms down) (point_count ms across) high _ (value_of ms key), held-grid (point_count ms down) (point_count ms across) high _ (value_of ms key))
content-held questions ms key = (some-held _ (read_questions ms key), held-some _ (read_questions ms key))
content-held nothing ms key = (λ e. tt, λ h. refl)
