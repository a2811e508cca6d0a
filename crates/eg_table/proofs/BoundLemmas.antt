-- Where each run under a listed fault reacts in time, so do all rows but that of lapses.
use Rattle.std.proofs.Common.{◌≡◌, refl, sym, subst, ℕ, ◌==◌, ◌≤◌, ◌<◌, Bool, false, List, [], ◌∷◌, All, map, take, Some, arith}
use Rattle.std.specs.Prelude.{IfSome}
use Rattle.std.specs.List.{filter, zip}
use Rattle.std.proofs.lemmas.Bool.{eqb-true}
use Rattle.std.proofs.lemmas.List.Elements.{All-nil, All-cons, All-head, All-tail, All-map, All-filter, filter_passes}
use Rattle.eg_fault.specs.declared.class.Class.{Class}
use Rattle.eg_fault.specs.declared.class.Class.TheVariants.{Lapse}
use Rattle.eg_fault.specs.declared.class.Fault.{Fault}
use Rattle.eg_fault.specs.declared.class_name.ClassName.{ClassName}
use Rattle.eg_fault.specs.declared.class_name.ClassName.TheVariants as name
use Rattle.eg_fault.specs.Faults.{IsListed, is_lapse}
use Rattle.eg_fault.specs.Names.{name_of, class_index, classes}
use Rattle.eg_record.specs.declared.facts.Facts.{Facts}
use Rattle.eg_record.specs.Facts.{reaction_in}
use Rattle.eg_table.specs.declared.sweep_row.SweepRow.{SweepRow}
use Rattle.eg_table.specs.Grid.{swept_faults}
use Rattle.eg_table.specs.Sweep.{facts_under, row_of, class_rows, table_of, greatest_listed}
use Rattle.eg_table.specs.SweepLaws.{ReactsIn, IsBounded}
use Rattle.eg_table.proofs.GreatestLemmas.{greatest-within}
use Rattle.eg_table.proofs.ListedLemmas.{swept_listed}

-- a class that stands before the last isn't a lapse
no_lapse : (class : Class) → class_index (name_of class) < (class_index name.Lapse) → is_lapse class ≡ false
unfolding name_of class_index is_lapse
no_lapse (Lapse after every) early = absurd (omega arith)
no_lapse _ early = refl

-- ---- the runs of a class ----

-- what holds of the facts of each run under a fault of a class holds of the facts that its row is of
under_all : (P : Facts → Type 0) (class : ClassName) (runs : List (Fault × Facts)) →
    All (λ run. class_index (name_of run.0.class) ≡ class_index class → P run.1) runs → All P (facts_under class runs)
unfolding facts_under
under_all P class runs each = All-map P (λ run. run.1) (filter of_class runs)
    (λ k d below. All-filter of_class Each runs each k d below (eqb-true _ _ (filter_passes of_class runs k d below)))
  where
    of_class : Fault × Facts → Bool
    of_class run = class_index (name_of run.0.class) == class_index class

    Each : Fault × Facts → Type 0
    Each run = class_index (name_of run.0.class) ≡ class_index class → P run.1

-- runs whose facts come from their faults
zip_all : (P : Fault × Facts → Type 0) (facts : Fault → Facts) (faults : List Fault) →
    All (λ fault. P (fault, facts fault)) faults → All P (zip faults (map facts faults))
zip_all P facts [] each = All-nil P
zip_all P facts (fault ∷ faults) each = All-cons P (fault, facts fault) (zip faults (map facts faults))
    (All-head (λ fault. P (fault, facts fault)) fault faults each)
    (zip_all P facts faults (All-tail (λ fault. P (fault, facts fault)) fault faults each))

-- ---- the rows ----

row-within : (bound : ℕ) (facts : List Facts) → All (ReactsIn bound) facts → IfSome (row_of facts).reaction (λ n. n ≤ bound)
unfolding row_of
row-within bound facts each = greatest-within reaction_in facts bound each

Within : ℕ → SweepRow → Type 0
Within bound row = IfSome row.reaction (λ n. n ≤ bound)

-- the rows before the last are those of the classes before the last
earlier_rows : (runs : List (Fault × Facts)) → take (class_index name.Lapse) (class_rows runs) ≡ map (λ class. row_of (facts_under class runs)) (take (class_index name.Lapse) classes)
unfolding class_rows class_index
earlier_rows runs = refl

earlier_classes : All (λ class. class_index class < (class_index name.Lapse)) (take (class_index name.Lapse) classes)
unfolding class_index
earlier_classes = search (arith, All-cons, All-nil) depth 40

rows-within : (bound : ℕ) (runs : List (Fault × Facts)) →
    All (λ run. is_lapse run.0.class ≡ false → ReactsIn bound run.1) runs → All (Within bound) (take (class_index name.Lapse) (class_rows runs))
unfolding Within
rows-within bound runs each = subst (All (λ row. IfSome row.reaction (λ n. n ≤ bound))) (sym (earlier_rows runs))
    (All-map (λ row. IfSome row.reaction (λ n. n ≤ bound)) (λ class. row_of (facts_under class runs)) (take (class_index name.Lapse) classes)
    (λ k d below. row-within bound _ (under_all (ReactsIn bound) _ runs
    (λ j run within same. each j run within (no_lapse _ (subst (λ n. n < (class_index name.Lapse)) (sym same) (earlier_classes k d below)))))))

pub table_bounded : (ticks step bound : ℕ) (facts : Fault → Facts) → ticks ≤ 20000 → 1 ≤ step →
    All (λ fault. IsListed (Some fault) → ReactsIn bound (facts fault)) (swept_faults ticks step) →
    IsBounded bound (table_of (swept_faults ticks step) (map facts (swept_faults ticks step)))
unfolding table_of greatest_listed Within
table_bounded ticks step bound facts most some react =
    let faults = swept_faults ticks step in
    let runs = zip faults (map facts faults) in
    let each : All (λ (run : Fault × Facts). is_lapse run.0.class ≡ false → ReactsIn bound run.1) runs =
    zip_all (λ run. is_lapse run.0.class ≡ false → ReactsIn bound run.1) facts faults
    (λ k d below other. react k d below ((swept_listed ticks step most some k d below).1 other)) in
    let rows = rows-within bound runs each in
    record {
      each = rows;
      greatest = greatest-within (λ row. row.reaction) (take (class_index name.Lapse) (class_rows runs)) bound rows;
    }
