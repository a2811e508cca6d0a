use Rattle.std.proofs.Common.{◌≡◌, ◌∙◌, sym, ap, not, ◌==◌}
use Rattle.eg_record.specs.declared.row.Row.{Row}
use Rattle.eg_model.specs.Records.{row_at}
use Rattle.eg_model.proofs.RecordTicks.{row_tick}
use Rattle.eg_campaign.specs.declared.checkpoints.Played.{Played}
use Rattle.eg_campaign.proofs.CheckpointLemmas.{drive_is, played_next, made_next}
use Rattle.eg_campaign.proofs.checkpoints.play_row.Goals as goal

pub feed-requires-clause-tick : goal.feed-requires-clause-tick
feed-requires-clause-tick g c =
    let (r, goes, played) = c.requires.run in
    let drive = drive_is c.args.input.now r _ c.args.tick _ goes c.as_slice.ensures c.requires.within c.index-as_slice-tick.is in
    let is : c.bench_row-row.result ≡ row_at g.E.BenchedEngine.bench r c.args.tick = c.bench_row-row.ensures.row r goes.plan drive played.at in
    ap (λ (row : Row). row.tick) is ∙ row_tick g.E.BenchedEngine.bench r c.args.tick ∙ sym played.fed

pub returns-clause-made : goal.returns-clause-made
returns-clause-made g c = λ r from was goes made.
    let weighed = not (g.row.WEIGHED == 0) in
    let bench = g.E.BenchedEngine.bench in
    let come_to = g.E.BenchedEngine.come_to in
    let row = c.bench_row-row in
    let drive = drive_is c.args.input.now r _ c.args.tick _ goes c.as_slice.ensures c.requires.within c.index-as_slice-tick.is in
    let is : row.result ≡ row_at bench r c.args.tick = row.ensures.row r goes.plan drive made.to.at in
    let at = row.ensures.at r goes.plan drive made.to.at in
    let new : Played _ _ = record { controller = row.new.controller; tally = c.feed.new.self; margins = c.weigh.new.tally } in
    made_next weighed bench come_to r from c.args.tick c.args.played.now new was c.args.steps.now row.new.steps row.result made is
    (played_next weighed bench come_to r c.args.tick c.args.played.now new row.result made.to is at row.ensures.ticks
    c.feed.ensures.threshold c.feed.ensures.weights c.feed.ensures.ticks c.feed.ensures.stands (c.weigh.ensures r c.args.tick is at))
    row.ensures.count row.ensures.weight
