use Rattle.std.proofs.Common.{◌≡◌, ◌+◌, length, drop}
use Rattle.toml.specs.Data.{as_bool}
use Rattle.toml.specs.View.{items_view}
use Rattle.eg_toml.specs.Arrays.{all_read, one}
use Rattle.eg_toml.proofs.ReadLemmas.{with_found}
use Rattle.eg_plan.proofs.contents.push_truths.Given as goal

abbrev pub invariant-loop-item : goal.invariant-loop-item
invariant-loop-item l = record {
  so_far : with_found l.initial.found.items (all_read (one as_bool) (items_view l.items))
      ≡ with_found l.found.items (all_read (one as_bool) (items_view (drop l.item-index l.items)));
  as_many : length l.found.items ≡ length l.initial.found.items + l.item-index;
}
