use Rattle.std.proofs.Common.{◌≡◌, ◌+◌, ◌*◌, length, drop}
use Rattle.toml.specs.View.{items_view}
use Rattle.eg_toml.specs.Arrays.{all_read, numbers_in}
use Rattle.eg_toml.proofs.ReadLemmas.{with_found}
use Rattle.eg_toml.proofs.arrays.push_rows.Given as goal

abbrev pub invariant-loop-row : goal.invariant-loop-row
invariant-loop-row l = record {
  so_far : with_found l.initial.found.items (all_read (numbers_in l.wide l.wide l.high) (items_view l.rows)) ≡ with_found l.found.items (all_read (numbers_in l.wide l.wide l.high) (items_view (drop l.row-index l.rows)));
  as_many : length l.found.items ≡ length l.initial.found.items + l.row-index * l.wide;
}
