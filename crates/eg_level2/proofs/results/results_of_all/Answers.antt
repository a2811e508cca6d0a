use Rattle.std.proofs.Common.{◌∙◌, ◌<◌, ◌+◌, ap, subst}
use Rattle.eg_level2.proofs.ResultLemmas.{kept-more, kept-all}
use Rattle.eg_level2.proofs.results.results_of_all.Goals as goal

pub loop-i-preserved : goal.loop-i-preserved
loop-i-preserved c = record {
  items = kept-more c.args.rules.now c.args.questions.now c.loop-i.all.items _ c.loop-i.i c.of.result c.row.result.now c.loop-i.invariant.items c.push.ensures.items c.of.ensures c.row.ensures
      (subst (λ n. c.loop-i.i < n) c.len-i-end.ensures.length c.loop-i-test.true);
  count = c.push.ensures.len ∙ ap (λ n. n + 1) c.loop-i.invariant.count;
}

pub returns : goal.returns
returns c = kept-all c.args.rules.now c.args.questions.now c.loop-i.all.items c.loop-i.i c.len-i-end.result c.loop-i.invariant.items c.len-i-end.ensures.length c.loop-i-test.false c.loop-i.auto.i-end
