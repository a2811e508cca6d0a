use Rattle.std.proofs.Common.{◌≡◌, ◌==◌, ◌∙◌, ◌+◌, refl, sym, subst, ap, [], ◌∷◌, List, arith, rules, Option, None, Ok}
use Rattle.std.proofs.lemmas.Bool.{eqb-true, eqb-false}
use Rattle.std.proofs.lemmas.Grind.{common_steps}
use Rattle.eg_outcome.specs.Changes.{change}
use Rattle.eg_outcome.specs.Lines.{end_of}
use Rattle.eg_input.specs.declared.columns.Columns.{Columns}
use Rattle.eg_input.specs.declared.recorded.Recorded.{Recorded}
use Rattle.eg_replay.specs.Replay.{told_after}
use Rattle.eg_stream.specs.Recordings.{signals_in, signals_so_far, signals_work, RecordingEnds}
use Rattle.eg_stream.specs.Inner.Reading.{RecordingGoesOn}
use Rattle.eg_stream.proofs.StreamLemmas.{handed_on}
use Rattle.eg_stream.proofs.MeasuringLemmas.{HasRead, ends-at_begin, header-refused, read-first, header-written, ends-in_turn, read-more, row-written, row-refused, stops-early, by_ticks, ends-empty, signals-ends}
use Rattle.eg_stream.proofs.measuring.put_signals.Goals as goal

pub returns-in_err-recording : goal.returns-in_err-recording
returns-in_err-recording g c =
    let lines = g.L.Lines.shows in
    let began = lines c.args.lines.now in
    let had = g.K.Sink.shows c.args.out.now in
    let cal = c.args.calibration.now in
    handed_on c.from_residual.result c.in_err-recording.field-0.0
    (λ result. RecordingEnds (signals_work cal) (change began (lines c.begin.new.lines)) (change had had) (end_of result))
    c.from_residual.ensures.1 (ends-at_begin (signals_so_far cal) (signals_in cal) _ _ _ _ refl c.in_err-recording.ensures)

pub returns-in_err-put_or_end : goal.returns-in_err-put_or_end
returns-in_err-put_or_end g c =
    let lines = g.L.Lines.shows in
    let began = lines c.args.lines.now in
    let out = g.K.Sink.shows in
    let had = out c.args.out.now in
    handed_on c.from_residual-in_err-put_or_end.result c.in_err-put_or_end.field-0.0
    (λ result. RecordingEnds (signals_work c.args.calibration.now) (change began (lines c.begin.new.lines)) (change had (out c.put_or_end.new.out)) (end_of result))
    c.from_residual-in_err-put_or_end.ensures.1
    (header-refused c.args.calibration.now c.in_ok-recording.recording c.as_bytes.result.now _ _ _ _ (search rules) c.in_ok-recording.ensures c.in_err-put_or_end.ensures.put)

pub loop-tick-init : goal.loop-tick-init
loop-tick-init g c =
    let lines = g.L.Lines.shows in
    let began = lines c.args.lines.now in
    let out = g.K.Sink.shows in
    let had = out c.args.out.now in
    let cal = c.args.calibration.now in (
      [],
      read-first (signals_so_far cal) (signals_in cal) cal c.in_ok-recording.recording c.new-replay.result began (lines c.begin.new.lines)
          c.in_ok-recording.ensures c.new-replay.ensures.cal c.new-replay.ensures.stands,
      header-written cal c.as_bytes.result.now had (out c.put_or_end.new.out) (search rules) c.in_ok-put_or_end.ensures.put,
    )

pub returns-in_err-recorded : goal.returns-in_err-recorded
returns-in_err-recorded g c =
    let lines = g.L.Lines.shows in
    let began = lines c.args.lines.now in
    let before = lines c.loop-tick.lines in
    let next = lines c.next.new.lines in
    let out = g.K.Sink.shows in
    let had = out c.args.out.now in
    let cal = c.args.calibration.now in
    let so_far = c.loop-tick.invariant in
    handed_on c.from_residual-in_err-recorded.result c.in_err-recorded.field-0.0
    (λ result. RecordingEnds (signals_work cal) (change began next) (change had (out c.loop-tick.out)) (end_of result))
    c.from_residual-in_err-recorded.ensures.1
    (ends-in_turn (signals_so_far cal) (signals_in cal) cal c.loop-tick.recording.columns so_far.0 c.loop-tick.tick c.loop-tick.replay
    began before next _ c.in_err-recorded.field-0.0 so_far.1 so_far.2 c.in_err-recorded.ensures.next)

pub returns-in_default : goal.returns-in_default
returns-in_default g c =
    let lines = g.L.Lines.shows in
    let began = lines c.args.lines.now in
    let before = lines c.loop-tick.lines in
    let next = lines c.next.new.lines in
    let out = g.K.Sink.shows in
    let had = out c.args.out.now in
    let cal = c.args.calibration.now in
    let so_far = c.loop-tick.invariant in
    let columns = c.loop-tick.recording.columns in
    let none : c.in_ok-recorded.field-0 ≡ None = grind (arith, common_steps) in
    let ends = subst (λ (o : Option Recorded). RecordingGoesOn columns c.loop-tick.tick (change before next) (Ok o)) none c.in_ok-recorded.ensures.next in
    by_ticks
    (λ result. RecordingEnds (signals_work cal) (change began next) (change had (out c.loop-tick.out)) (end_of result))
    c.unless_empty.result (c.loop-tick.tick == 0) tt c.unless_empty.ensures
    (λ is. ends-empty (signals_so_far cal) (signals_in cal) cal columns so_far.0 c.loop-tick.tick c.loop-tick.replay _ _ _ _ so_far.1 ends so_far.2 (eqb-true c.loop-tick.tick 0 is))
    (λ is. signals-ends cal columns so_far.0 c.loop-tick.tick c.loop-tick.replay _ _ _ _ so_far.1 ends so_far.2
    (let other = eqb-false c.loop-tick.tick 0 is in omega (arith, other)))

pub returns-in_err-put_row : goal.returns-in_err-put_row
returns-in_err-put_row g c =
    let lines = g.L.Lines.shows in
    let began = lines c.args.lines.now in
    let before = lines c.loop-tick.lines in
    let next = lines c.next.new.lines in
    let out = g.K.Sink.shows in
    let had = out c.args.out.now in
    let cal = c.args.calibration.now in
    let columns = c.loop-tick.recording.columns in
    let so_far = c.loop-tick.invariant in
    let r : Recorded = c.in-Some.recorded in
    let came = subst (λ (o : Option Recorded). RecordingGoesOn columns c.loop-tick.tick (change before next) (Ok o)) c.in-Some.is c.in_ok-recorded.ensures.next in
    let read = read-more (signals_so_far cal) (signals_in cal) cal columns so_far.0 c.loop-tick.tick c.loop-tick.replay c.feed.new.self began before next r
    so_far.1 came c.feed.ensures.cal (c.feed.ensures.stands so_far.0 so_far.1.stands) in
    let told = c.feed.ensures.told so_far.0 so_far.1.stands ∙ ap (λ by. told_after by r so_far.0) so_far.1.by_cal in
    handed_on c.from_residual-in_err-put_row.result c.in_err-put_row.field-0.0
    (λ result. RecordingEnds (signals_work cal) (change began next) (change had (out c.put_row.new.out)) (end_of result))
    c.from_residual-in_err-put_row.ensures.1
    (row-refused cal columns so_far.0 r c.loop-tick.tick _ c.feed.result c.feed.new.self _ had (out c.loop-tick.out) (out c.put_row.new.out) c.in_err-put_row.field-0.0
    read so_far.2 so_far.1.long told c.in_err-put_row.ensures)

pub loop-tick-preserved : goal.loop-tick-preserved
loop-tick-preserved g c =
    let lines = g.L.Lines.shows in
    let began = lines c.args.lines.now in
    let before = lines c.loop-tick.lines in
    let next = lines c.next.new.lines in
    let out = g.K.Sink.shows in
    let had = out c.args.out.now in
    let cal = c.args.calibration.now in
    let columns = c.loop-tick.recording.columns in
    let so_far = c.loop-tick.invariant in
    let r : Recorded = c.in-Some.recorded in
    let came = subst (λ (o : Option Recorded). RecordingGoesOn columns c.loop-tick.tick (change before next) (Ok o)) c.in-Some.is c.in_ok-recorded.ensures.next in
    let read = read-more (signals_so_far cal) (signals_in cal) cal columns so_far.0 c.loop-tick.tick c.loop-tick.replay c.feed.new.self began before next r
    so_far.1 came c.feed.ensures.cal (c.feed.ensures.stands so_far.0 so_far.1.stands) in
    let told = c.feed.ensures.told so_far.0 so_far.1.stands ∙ ap (λ by. told_after by r so_far.0) so_far.1.by_cal in (
      r ∷ so_far.0,
      subst (λ (named : Columns). HasRead (signals_so_far cal) (signals_in cal) cal named (r ∷ so_far.0) (c.loop-tick.tick + 1) c.feed.new.self (change began next))
          (sym c.next.ensures.columns) read,
      row-written cal so_far.0 r c.loop-tick.tick c.feed.result had (out c.loop-tick.out) (out c.put_row.new.out) so_far.2 so_far.1.long told c.in_ok-put_row.ensures,
    )

pub returns : goal.returns
returns g c =
    let cal = c.args.calibration.now in
    let so_far = c.loop-tick.invariant in
    stops-early (signals_so_far cal) (signals_in cal) cal c.loop-tick.recording.columns so_far.0 c.loop-tick.tick c.loop-tick.replay _ _ so_far.1 so_far.2
