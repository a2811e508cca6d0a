use Rattle.std.proofs.Common.{refl}
use Rattle.toml.specs.View.{view}
use Rattle.eg_toml.proofs.ReadLemmas.{all_read-append, array_in-some, row_count}
use Rattle.eg_toml.proofs.arrays.push_rows.Goals as goal

pub loop-row-preserved : goal.loop-row-preserved
loop-row-preserved c = record {
  so_far = all_read-append _ _ _ _ _ _ _ _ c.loop-row-test.true c.row-item.is (array_in-some c.args.wide c.args.wide _ (view c.row-item.result) _ c.in-Some.ensures.items) c.if-not-push_numbers.ensures.read c.loop-row.invariant.so_far;
  as_many = row_count _ _ _ _ _ _ c.loop-row.invariant.as_many (c.if-not-push_numbers.ensures.count refl) c.in-Some.ensures.count.0 c.in-Some.ensures.count.1;
}
