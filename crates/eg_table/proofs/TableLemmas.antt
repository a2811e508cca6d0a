-- The table of a sweep, run by run: which row a run goes into, and what the rows add up to.
use Rattle.std.proofs.Common.{◌≡◌, ◌∙◌, refl, sym, ap, ap₂, ℕ, ◌+◌, ◌==◌, ◌<◌, Bool, true, false, List, [], ◌∷◌, ◌++◌, All, map, length, get_or, set, Some, None, arith}
use Rattle.std.specs.Prelude.{Option, is_none, option_map, count_by, replicate, if◌then◌else◌}
use Rattle.std.specs.List.{filter, sum, sum_by}
use Rattle.std.proofs.lemmas.List.{length-map, length-append, map-append, append-nil}
use Rattle.std.proofs.lemmas.List.Elements.{All-map, filter-append}
use Rattle.std.proofs.lemmas.List.Sums.{sum_by-cons, sum-map, length-filter, count_by-le-length}
use Rattle.eg_fault.specs.declared.class.Class.{Class}
use Rattle.eg_fault.specs.declared.class.Class.TheVariants.{Script}
use Rattle.eg_fault.specs.declared.class.Fault.{Fault}
use Rattle.eg_fault.specs.declared.class_name.TheConstants.{CLASSES}
use Rattle.eg_fault.specs.declared.class_name.ClassName.{ClassName}
use Rattle.eg_fault.specs.declared.class_name.ClassName.TheVariants as name
use Rattle.eg_fault.specs.Names.{name_of, class_index, classes}
use Rattle.eg_record.specs.declared.facts.Facts.{Facts}
use Rattle.eg_record.specs.declared.watch.Watch.{Watch}
use Rattle.eg_record.specs.declared.watch.Watch.TheVariants.{Mirror}
use Rattle.eg_record.specs.Detection.{watches, rank, is_watch}
use Rattle.eg_table.specs.declared.sweep_row.SweepRow.{SweepRow}
use Rattle.eg_table.specs.Sweep.{facts_under, is_found_first, row_of, class_rows}

-- ---- one run more ----

-- the facts of the runs of a class, with one run more
unfoldable grown : ClassName → Fault × Facts → List Facts → List Facts
grown class run facts = if class_index (name_of run.0.class) == class_index class then facts ++ run.1 ∷ [] else facts

facts_under-more : (class : ClassName) (runs : List (Fault × Facts)) (run : Fault × Facts) →
    facts_under class (runs ++ run ∷ []) ≡ grown class run (facts_under class runs)
unfolding facts_under grown
facts_under-more class runs run = ap (map told) (filter-append of_class runs (run ∷ []))
    ∙ map-append told (filter of_class runs) (filter of_class (run ∷ [])) ∙ last (of_class run)
  where
    of_class : Fault × Facts → Bool
    of_class run = class_index (name_of run.0.class) == class_index class

    told : Fault × Facts → Facts
    told run = run.1

    earlier : List Facts
    earlier = map told (filter of_class runs)

    last : (b : Bool) → earlier ++ map told (if b then run ∷ [] else []) ≡ (if b then earlier ++ run.1 ∷ [] else earlier)
    last true = refl
    last false = append-nil earlier

-- all rows, where the run more is in the row of its class
grown_rows : Fault × Facts → List (Fault × Facts) → List SweepRow
grown_rows run runs = map (λ class. row_of (grown class run (facts_under class runs))) classes

rows-grown : (runs : List (Fault × Facts)) (run : Fault × Facts) → class_rows (runs ++ run ∷ []) ≡ grown_rows run runs
unfolding class_rows grown_rows
rows-grown runs run = λ i. map (λ class. row_of (facts_under-more class runs run i)) classes

grown-set : (class : Class) (onset : ℕ) (facts : Facts) (runs : List (Fault × Facts)) →
    grown_rows (record { onset = onset; class = class }, facts) runs
    ≡ set (class_rows runs) (class_index (name_of class)) (row_of (facts_under (name_of class) runs ++ facts ∷ []))
unfolding grown_rows grown class_rows class_index name_of facts_under
grown-set (Script track values) onset facts runs = refl
grown-set _ onset facts runs = refl

rows-more : (runs : List (Fault × Facts)) (fault : Fault) (facts : Facts) →
    class_rows (runs ++ (fault, facts) ∷ []) ≡ set (class_rows runs) (class_index (name_of fault.class)) (row_of (facts_under (name_of fault.class) runs ++ facts ∷ []))
rows-more runs fault facts = rows-grown runs (fault, facts) ∙ grown-set fault.class fault.onset facts runs

-- the row of a class
row-at : (class : ClassName) (runs : List (Fault × Facts)) (d : SweepRow) →
    get_or (class_rows runs) (class_index class) d ≡ row_of (facts_under class runs)
unfolding class_rows class_index facts_under
row-at name.Script runs d = refl
row-at _ runs d = refl

pub row_at : (rows : List SweepRow) (place : ℕ) (fault : Fault) (runs : List (Fault × Facts)) (d : SweepRow) →
    rows ≡ class_rows runs → place ≡ class_index (name_of fault.class) → get_or rows place d ≡ row_of (facts_under (name_of fault.class) runs)
row_at rows place fault runs d are is = ap₂ (λ rows place. get_or rows place d) are is ∙ row-at (name_of fault.class) runs d

-- the row of a fault's class, with one run more in it
pub rows-set : (rows : List SweepRow) (place : ℕ) (fault : Fault) (runs : List (Fault × Facts)) (facts : Facts) (row : SweepRow) →
    rows ≡ class_rows runs → place ≡ class_index (name_of fault.class) → row ≡ row_of (facts_under (name_of fault.class) runs ++ facts ∷ []) → set rows place row ≡ class_rows (runs ++ (fault, facts) ∷ [])
rows-set rows place fault runs facts row are is row_is = ap₂ (λ rows place. set rows place row) are is
    ∙ ap (set (class_rows runs) (class_index (name_of fault.class))) row_is ∙ sym (rows-more runs fault facts)

-- the rows of no runs
pub rows-none : (row : SweepRow) → row ≡ row_of [] → replicate CLASSES row ≡ class_rows []
rows-none row is = ap (replicate CLASSES) is ∙ none
  where
    none : replicate CLASSES (row_of []) ≡ class_rows []
    none = unfold class_rows facts_under in refl

-- ---- sums ----

sum_by-map : {X Y : Type 0} (f : Y → ℕ) (g : X → Y) (xs : List X) → sum_by f (map g xs) ≡ sum_by (λ x. f (g x)) xs
sum_by-map f g [] = refl
sum_by-map f g (x ∷ xs) = sum_by-cons f (g x) (map g xs) ∙ ap (λ n. f (g x) + n) (sum_by-map f g xs) ∙ sym (sum_by-cons (λ y. f (g y)) x xs)

-- where one thing more is counted by several tests, the counts grow by how many tests it passes
counts-cons : {A X : Type 0} (passes : A → X → Bool) (tests : List A) (x : X) (xs : List X) →
    sum_by (λ a. count_by (passes a) (x ∷ xs)) tests ≡ sum_by (λ a. count_by (passes a) xs) tests + count_by (λ a. passes a x) tests
counts-cons passes [] x xs = refl
counts-cons passes (a ∷ tests) x xs =
    let both = sum_by-cons (λ a. count_by (passes a) (x ∷ xs)) a tests in
    let before = sum_by-cons (λ a. count_by (passes a) xs) a tests in
    let passed = sum_by-cons (λ a. if passes a x then 1 else 0) a tests in
    let here = sum_by-cons (λ y. if passes a y then 1 else 0) x xs in
    let others = counts-cons passes tests x xs in
    omega (arith, both, before, passed, here, others)

-- ---- each run is in one row ----

length-facts_under : (class : ClassName) (runs : List (Fault × Facts)) →
    length (facts_under class runs) ≡ count_by (λ run. class_index (name_of run.0.class) == class_index class) runs
unfolding facts_under
length-facts_under class runs = length-map (filter (λ run. class_index (name_of run.0.class) == class_index class) runs) (λ run. run.1)
    ∙ length-filter (λ run. class_index (name_of run.0.class) == class_index class) runs

-- the runs of a class, before all of them are gone through, are fewer than all
pub fewer_under : (class : ClassName) (runs rest all : List (Fault × Facts)) (run : Fault × Facts) →
    runs ++ run ∷ rest ≡ all → length (facts_under class runs) < length all
fewer_under class runs rest all run are =
    let under = length-facts_under class runs in
    let most = count_by-le-length (λ (run : Fault × Facts). class_index (name_of run.0.class) == class_index class) runs in
    let both = length-append runs (run ∷ rest) in
    let whole = ap length are in
    omega (arith, under, most, both, whole)

one_class : (class : ClassName) → count_by (λ other. class_index class == class_index other) classes ≡ 1
unfolding class_index
one_class name.Script = refl
one_class _ = refl

each_in_one : (runs : List (Fault × Facts)) →
    sum_by (λ class. count_by (λ run. class_index (name_of run.0.class) == class_index class) runs) classes ≡ length runs
each_in_one [] = refl
each_in_one (run ∷ runs) =
    let more = counts-cons (λ class run. class_index (name_of run.0.class) == class_index class) classes run runs in
    let one = one_class (name_of run.0.class) in
    let before = each_in_one runs in
    omega (arith, more, one, before)

pub runs-sum : (runs : List (Fault × Facts)) → sum_by (λ row. row.runs) (class_rows runs) ≡ length runs
unfolding class_rows row_of
runs-sum runs = sum_by-map (λ row. row.runs) (λ class. row_of (facts_under class runs)) classes
    ∙ (λ i. sum_by (λ class. length-facts_under class runs i) classes) ∙ each_in_one runs

-- ---- in a row each run is counted once ----

one_watch : (first : Option (Watch × ℕ)) →
    count_by (λ watch. is_watch watch (option_map (λ detection. detection.0) first)) watches + (if is_none first then 1 else 0) ≡ 1
unfolding is_watch rank
one_watch None = refl
one_watch (Some (Mirror, tick)) = refl
one_watch (Some (_, tick)) = refl

each_once : (facts : List Facts) →
    count_by (λ facts. is_none facts.first) facts + sum_by (λ watch. count_by (is_found_first watch) facts) watches ≡ length facts
each_once [] = refl
each_once (one ∷ facts) =
    let none = sum_by-cons (λ (facts : Facts). if is_none facts.first then 1 else 0) one facts in
    let more = counts-cons is_found_first watches one facts in
    let here : count_by (λ watch. is_found_first watch one) watches + (if is_none one.first then 1 else 0) ≡ 1 = unfold is_found_first in one_watch one.first in
    let before = each_once facts in
    omega (arith, none, more, here, before)

row-sum : (facts : List Facts) → (row_of facts).none + sum (row_of facts).by_watch ≡ (row_of facts).runs
unfolding row_of
row-sum facts = ap (λ n. count_by (λ facts. is_none facts.first) facts + n)
    (sum-map (λ watch. count_by (is_found_first watch) facts) watches) ∙ each_once facts

pub rows-sums : (runs : List (Fault × Facts)) → All (λ row. row.none + sum row.by_watch ≡ row.runs) (class_rows runs)
unfolding class_rows
rows-sums runs = All-map (λ row. row.none + sum row.by_watch ≡ row.runs) (λ class. row_of (facts_under class runs)) classes
    (λ k d below. row-sum (facts_under (get_or classes k d) runs))
