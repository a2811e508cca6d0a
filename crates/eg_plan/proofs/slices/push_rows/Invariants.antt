use Rattle.std.proofs.Common.{◌≡◌, ◌+◌, length, drop}
use Rattle.eg_plan.specs.Contents.{slice_row}
use Rattle.toml.specs.View.{items_view}
use Rattle.eg_toml.specs.Arrays.{all_read, one}
use Rattle.eg_toml.proofs.ReadLemmas.{with_found}
use Rattle.eg_plan.proofs.slices.push_rows.Given as goal

abbrev pub invariant-loop-item : goal.invariant-loop-item
invariant-loop-item l = record {
  so_far : with_found l.initial.found.items (all_read (one slice_row) (items_view l.items))
      ≡ with_found l.found.items (all_read (one slice_row) (items_view (drop l.item-index l.items)));
  as_many : length l.found.items ≡ length l.initial.found.items + l.item-index;
}
