use Rattle.std.proofs.Common.{◌≡◌, ◌+◌, ◌++◌, length}
use Rattle.eg_outcome.specs.Runs.{run_named}
use Rattle.eg_outcome.proofs.named.plan_among.Given as goal

-- none of the runs so far has the name
abbrev pub invariant-loop-plan : goal.invariant-loop-plan
invariant-loop-plan l = record {
  parts : l.fn.plans ≡ l.yielded ++ l.plan-iterator.rest.items;
  number : l.number ≡ length l.yielded + 1;
  left : run_named l.fn.name 1 l.fn.plans ≡ run_named l.fn.name l.number l.plan-iterator.rest.items;
}
