use Rattle.std.proofs.Common.{length}
use Rattle.eg_model.specs.Records.{rows_to}
use Rattle.eg_tick.specs.Margins.{weighed_to}
use Rattle.eg_tick.proofs.FactLaws.{told, tallied}
use Rattle.eg_campaign.proofs.checkpoints.told_so_far.Goals as goal

pub returns : goal.returns
returns g c = λ weighed r is.
    let bench = g.E.BenchedEngine.bench in
    let rows = rows_to bench r (length r.drive) in
    told weighed bench g.E.BenchedEngine.come_to r c.args.played.now.controller _ is.at
    (tallied weighed bench r (length r.drive) c.args.played.now.tally _ _ is.weights is.threshold
    (c.facts.ensures.facts rows is.tally) (c.reactions.ensures.reactions rows is.tally)
    (c.margins.ensures (weighed_to weighed bench r (length r.drive)) is.margins) c.trap.ensures.trap)
