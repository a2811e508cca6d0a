use Rattle.eg_level2.proofs.MakesLemmas.{none_where, all_where}
use Rattle.eg_level2.proofs.words.keep_where.Goals as goal

pub returns-then-not-test : goal.returns-then-not-test
returns-then-not-test g c = none_where c.args.number c.args.value c.if-not-test.true

pub returns : goal.returns
returns g c = all_where c.args.number c.args.value c.if-not-test.false c.keep.ensures
