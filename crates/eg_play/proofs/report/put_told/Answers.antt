use Rattle.eg_outcome.specs.Changes.{change, change_of}
use Rattle.eg_play.proofs.HeadlineLemmas.{tells}
use Rattle.eg_play.proofs.report.put_told.Goals as goal

pub returns-in-Report : goal.returns-in-Report
returns-in-Report g c =
    let a = c.args in
    rw c.in-Report.is (tells _ a.calibration.now c.rules-rules.ensures.accepted a.inputs.now c.requires
    (change_of g.K.Sink.shows a.out.now c.put_report.new.out) (change a.steps.now c.put_report.new.steps) c.put_report.result
    c.put_report.ensures.written c.put_report.ensures.ticked)

pub returns-in-Rows : goal.returns-in-Rows
returns-in-Rows g c =
    let a = c.args in
    rw c.in-Rows.is (tells _ a.calibration.now c.rules-rules.ensures.accepted a.inputs.now c.requires
    (change_of g.K.Sink.shows a.out.now c.put_rows.new.out) (change a.steps.now c.put_rows.new.steps) c.put_rows.result
    c.put_rows.ensures.written c.put_rows.ensures.ticked)
