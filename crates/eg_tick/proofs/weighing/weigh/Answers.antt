use Rattle.std.proofs.Common.{◌+◌}
use Rattle.eg_tick.proofs.WeighLemmas.{weighs_on, rests, is_set, is_unset}
use Rattle.eg_tick.proofs.weighing.weigh.Goals as goal

pub returns-then-this-ne0 : goal.returns-then-this-ne0
returns-then-this-ne0 g c r t row at stands =
    weighs_on _ g.E.BenchedEngine.bench g.E.BenchedEngine.come_to r t c.args.row.now c.args.controller.now c.counters.result _ _
    (is_set g.row.WEIGHED c.if-this-ne0.true) row at c.counters.ensures c.feed.ensures stands

pub returns-else-this-ne0 : goal.returns-else-this-ne0
returns-else-this-ne0 g c r t row at stands = rests _ g.E.BenchedEngine.bench r t (t + 1) _ (is_unset g.row.WEIGHED c.if-this-ne0.false) stands
