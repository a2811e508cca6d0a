use Rattle.std.proofs.Common.{◌≡◌, take}
use Rattle.std.specs.List.{flat_map}
use Rattle.eg_fault.specs.Names.{classes, swept}
use Rattle.eg_table.specs.Grid.{faults_of, onsets}
use Rattle.eg_table.proofs.grid.faults_of_grid.Given as goal

-- the faults of the first classes
abbrev pub invariant-loop-class : goal.invariant-loop-class
invariant-loop-class l =
    l.faults.items ≡ flat_map (λ name. faults_of (onsets l.ticks l.step) (swept name)) (take l.class-index classes)
