use Rattle.std.proofs.Common.{◌≡◌, All, ◌+◌, ◌≤◌, ◌++◌, length}
use Rattle.eg_base.specs.Outside.{ShownStore}
use Rattle.eg_plan.specs.Playable.{IsPlayable}
use Rattle.eg_outcome.specs.Changes.{change}
use Rattle.eg_outcome.proofs.InputsLemmas.{Goes}
use Rattle.eg_outcome.proofs.inputs.inputs_for.Given as goal

-- the runs so far were read, and whatever comes of the rest comes of all runs behind them
abbrev pub invariant-loop-plan : goal.invariant-loop-plan
invariant-loop-plan g l = record {
  parts : l.fn.plans ≡ l.yielded ++ l.plan-iterator.rest.items;
  run : l.run ≡ length l.yielded + 1;
  sum : l.sum ≤ 1000000;
  shown : g.S.Store.shows l.store ≡ g.S.Store.shows l.fn.store;
  playable : All IsPlayable l.inputs.items;
  goes : (later : ShownStore) → Goes (change (g.S.Store.shows l.fn.store) later) l.run l.sum l.yielded l.inputs.items;
}
