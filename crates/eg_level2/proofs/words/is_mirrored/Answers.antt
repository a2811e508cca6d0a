use Rattle.eg_level2.specs.Words.{word_at}
use Rattle.eg_level2.proofs.StoreLemmas.{compared-more, compared_all}
use Rattle.eg_level2.proofs.words.is_mirrored.Goals as goal

pub loop-number-preserved : goal.loop-number-preserved
loop-number-preserved g c = compared-more (word_at (g.M.Guarded.shows c.args.memory.now).words) c.loop-number.number _ _ c.loop-number.same c.loop-number.invariant c.word.ensures c.word-in-loop-number.ensures c.word-in-loop-number.type_inv

pub returns : goal.returns
returns g c = compared_all (g.M.Guarded.shows c.args.memory.now).words c.loop-number.same c.loop-number.number c.loop-number-test.false c.loop-number.auto.number-end c.loop-number.invariant
