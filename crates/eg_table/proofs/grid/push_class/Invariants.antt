use Rattle.std.proofs.Common.{◌≡◌, ◌++◌}
use Rattle.eg_table.specs.Grid.{faults_of}
use Rattle.eg_table.proofs.GridLemmas.{multiples}
use Rattle.eg_table.proofs.grid.push_class.Given as goal

-- the faults at the first onsets stand behind those before
abbrev pub invariant-loop-i : goal.invariant-loop-i
invariant-loop-i l = l.faults.items ≡ l.fn.faults.items ++ faults_of (multiples l.step l.i) l.class
