use Rattle.std.proofs.Common.{◌≡◌, ◌+◌, ◌++◌, [], drop, vec_len}
use Rattle.toml.specs.View.{items_view}
use Rattle.eg_plan.specs.Campaign.{runs_of, runs_refusal}
use Rattle.eg_plan.specs.Inner.Names.{AreNamesOf}
use Rattle.eg_plan.proofs.reader.runs_in.Given as goal

abbrev pub invariant-loop-item : goal.invariant-loop-item
invariant-loop-item l = record {
  refusal : runs_refusal 1 [] (items_view l.items) ≡ runs_refusal (l.item-index + 1) l.runs.items (items_view (drop l.item-index l.items));
  so_far : runs_of (items_view l.items) ≡ l.runs.items ++ runs_of (items_view (drop l.item-index l.items));
  as_many : vec_len l.runs ≡ l.item-index;
  names : AreNamesOf l.runs.items l.names;
}
