use Rattle.std.proofs.Common.{◌∙◌}
use Rattle.toml.specs.View.{view}
use Rattle.eg_toml.proofs.ReadLemmas.{array_in-some, read-some}
use Rattle.eg_toml.proofs.RangeLemmas.{rows_in-within}
use Rattle.eg_toml.proofs.arrays.rows_in.Goals as goal

pub returns-clause-within : goal.returns-clause-within
returns-clause-within c =
    rows_in-within c.args.tall c.args.wide c.args.high (view c.args.value.now) _
    (array_in-some c.args.tall c.args.tall _ (view c.args.value.now) _ c.in_ok-rows.ensures.items ∙ read-some _ _ _ c.new-numbers.ensures c.if-not-push_rows.ensures.read)
