use Rattle.std.proofs.Common.{ap, Err}
use Rattle.eg_outcome.specs.Changes.{change, change_of}
use Rattle.eg_play.proofs.HeadlineLemmas.{keeps_headline}
use Rattle.eg_play.proofs.PlayLemmas.{recorded, put_failed, ran_out}
use Rattle.eg_play.proofs.report.put_record.Goals as goal

pub returns-in-Ok : goal.returns-in-Ok
returns-in-Ok g c =
    let a = c.args in
    recorded a.calibration.now a.input.now (change_of g.K.Sink.shows a.out.now c.record_into.new.out) (change a.steps.now c.record_into.new.steps)
    c.in-Ok.ensures.whole c.in-Ok.ensures.no_fault c.in-Ok.ensures.counted
    (keeps_headline a.calibration.now c.rules-rules.ensures.accepted a.input.now c.requires)

pub returns-in-Err-Put : goal.returns-in-Err-Put
returns-in-Err-Put g c =
    let a = c.args in
    put_failed a.calibration.now a.input.now (change_of g.K.Sink.shows a.out.now c.record_into.new.out) (change a.steps.now c.record_into.new.steps)
    c.in-Err-Put.ensures.stopped (c.in-Err-Put.ensures.cause (ap (λ e. Err e) c.in-Err-Put.field-0-is))
    (keeps_headline a.calibration.now c.rules-rules.ensures.accepted a.input.now c.requires)

pub returns-in-Err-Memory : goal.returns-in-Err-Memory
returns-in-Err-Memory g c =
    let a = c.args in
    ran_out a.calibration.now a.input.now (change_of g.K.Sink.shows a.out.now c.record_into.new.out) (change a.steps.now c.record_into.new.steps)
    c.in-Err-Memory.ensures.stopped (c.in-Err-Memory.ensures.memory (ap (λ e. Err e) c.in-Err-Memory.field-0-is))
    (keeps_headline a.calibration.now c.rules-rules.ensures.accepted a.input.now c.requires)
