-- In the table of a sweep the greatest reaction under each class but lapses is at most the bound, and each
-- fault of its grid begins within the run. Which faults are valid, and which are listed ones, is said here
-- too.
use Rattle.std.specs.Prelude.{◌≡◌, ◌↔◌, ℕ, ◌%◌, ◌≤◌, ◌<◌, false, List, All, map, take, IfSome, Some}
use Rattle.std.specs.List.{Contains}
use Rattle.eg_fault.specs.declared.class.Fault.{Fault}
use Rattle.eg_fault.specs.declared.class_name.ClassName.TheVariants.{Lapse}
use Rattle.eg_fault.specs.Names.{name_of, class_index, classes}
use Rattle.eg_fault.specs.Faults.{IsValid, IsListed, is_lapse}
use Rattle.eg_record.specs.declared.facts.Facts.{Facts}
use Rattle.eg_record.specs.Facts.{reaction_in}
use Rattle.eg_table.specs.declared.sweep_row.SweepRow.{SweepRow}
use Rattle.eg_table.specs.Grid.{swept_classes, onsets, swept_faults}
use Rattle.eg_table.specs.Sweep.{table_of, greatest_listed}

-- ---- the grid ----

-- the onsets are the multiples of `step` below `ticks`
abbrev pub OnsetsLaw : Type 0
OnsetsLaw =
    (ticks step : ℕ) → 1 ≤ step → (n : ℕ) → Contains (onsets ticks step) n ↔ ((n < ticks) × (n % step ≡ 0))

-- each fault of a grid begins within the run
abbrev pub OnsetsAreWithin : Type 0
OnsetsAreWithin =
    (ticks step : ℕ) → 1 ≤ step → All (λ fault. fault.onset < ticks) (swept_faults ticks step)

-- each fault is valid, where the run has at most 20,000 ticks
abbrev pub SweptAreValid : Type 0
SweptAreValid =
    (ticks step : ℕ) → ticks ≤ 20000 → 1 ≤ step → All IsValid (swept_faults ticks step)

-- and each fault but the lapses is a listed one
abbrev pub SweptAreListed : Type 0
SweptAreListed =
    (ticks step : ℕ) → ticks ≤ 20000 → 1 ≤ step →
    All (λ fault. IsListed (Some fault) ↔ (is_lapse fault.class ≡ false)) (swept_faults ticks step)

-- and they come in the order of the classes
abbrev pub SweptInOrder : Type 0
SweptInOrder = map name_of swept_classes ≡ classes

-- ---- the table ----

-- the reaction of a run with these facts, if it has one, takes at most `bound` ticks
abbrev pub ReactsIn : (bound : ℕ) → Facts → Type 0
ReactsIn bound facts = IfSome (reaction_in facts) (λ n. n ≤ bound)

-- in each row but that of lapses the greatest reaction is at most `bound`, and so is that in the last line
pub record IsBounded (bound : ℕ) (rows : List SweepRow) : Type 0 where
  pub each : All (λ row. IfSome row.reaction (λ n. n ≤ bound)) (take (class_index Lapse) rows)
  pub greatest : IfSome (greatest_listed rows) (λ n. n ≤ bound)

-- the law: a table is bounded where each run under a listed fault is, wherever the facts of runs come from
abbrev pub ReactionsAreBounded : Type 0
ReactionsAreBounded =
    (ticks step bound : ℕ) (told : Fault → Facts) → ticks ≤ 20000 → 1 ≤ step →
    All (λ fault. IsListed (Some fault) → ReactsIn bound (told fault)) (swept_faults ticks step) →
    IsBounded bound (table_of (swept_faults ticks step) (map told (swept_faults ticks step)))
