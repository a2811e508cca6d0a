use Rattle.std.proofs.Common.{◌∙◌}
use Rattle.toml.specs.View.{view}
use Rattle.eg_toml.proofs.ReadLemmas.{array_in-some, read-some}
use Rattle.eg_toml.proofs.RangeLemmas.{numbers_in-within}
use Rattle.eg_toml.proofs.arrays.numbers_in.Goals as goal

pub returns-clause-within : goal.returns-clause-within
returns-clause-within c =
    numbers_in-within c.args.least c.args.most c.args.high (view c.args.value.now) _
    (array_in-some c.args.least c.args.most _ (view c.args.value.now) _ c.in_ok-items.ensures.items ∙ read-some _ _ _ c.new-numbers.ensures c.if-not-push_numbers.ensures.read)
