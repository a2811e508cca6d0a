use Rattle.eg_outcome.specs.Changes.{change}
use Rattle.eg_outcome.specs.Lines.{end_of}
use Rattle.eg_stream.specs.Recordings.{replay_work, RecordingEnds}
use Rattle.eg_stream.proofs.StreamLemmas.{handed_on}
use Rattle.eg_stream.proofs.MeasuringLemmas.{findings-put, put-puts}
use Rattle.eg_stream.proofs.measuring.put_replay.Goals as goal

pub returns-in_err-findings-clause-ends : goal.returns-in_err-findings-clause-ends
returns-in_err-findings-clause-ends g c =
    let lines = g.L.Lines.shows in
    let out = g.K.Sink.shows in
    handed_on c.from_residual.result c.in_err-findings.field-0.0
    (λ result. RecordingEnds (replay_work c.args.calibration.now) (change (lines c.args.lines.now) (lines c.find.new.lines)) (change (out c.args.out.now) (out c.args.out.now)) (end_of result))
    c.from_residual.ensures.1 (c.in_err-findings.ensures (out c.args.out.now))

pub returns-clause-ends : goal.returns-clause-ends
returns-clause-ends g c = findings-put c.args.calibration.now _ _ c.in_ok-findings.findings c.put_findings.result c.in_ok-findings.ensures c.put_findings.ensures

pub returns-clause-nothing_put : goal.returns-clause-nothing_put
returns-clause-nothing_put g c =
    let out = g.K.Sink.shows in
    λ nothing. absurd (put-puts _ (change (out c.args.out.now) (out c.put_findings.new.out)) c.put_findings.result c.put_findings.ensures nothing)
