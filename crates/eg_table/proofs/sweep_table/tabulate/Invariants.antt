use Rattle.std.proofs.Common.{◌≡◌, List, ◌++◌}
use Rattle.std.specs.List.{zip}
use Rattle.std.specs.Iterator.Adapters.{zip_first, zip_second}
use Rattle.std.specs.Slice.Iter.{iter_rest}
use Rattle.eg_fault.specs.declared.class.Fault.{Fault}
use Rattle.eg_record.specs.declared.facts.Facts.{Facts}
use Rattle.eg_table.specs.Sweep.{class_rows}
use Rattle.eg_table.proofs.sweep_table.tabulate.Given as goal

-- the rows are those of some runs, and with the runs that are left behind them these are all
abbrev pub invariant-loop-fault : goal.invariant-loop-fault
invariant-loop-fault l = (runs : List (Fault × Facts)) × (l.rows ≡ class_rows runs)
    × (runs ++ zip (iter_rest (zip_first l.fault-iterator)) (iter_rest (zip_second l.fault-iterator)) ≡ zip l.faults l.facts)
