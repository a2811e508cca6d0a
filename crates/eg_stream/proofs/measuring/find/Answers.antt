use Rattle.std.proofs.Common.{◌≡◌, ◌==◌, ◌∙◌, ◌+◌, refl, sym, subst, ap, ℕ, [], ◌∷◌, List, arith, Option, None, Ok}
use Rattle.std.proofs.lemmas.Bool.{eqb-true, eqb-false}
use Rattle.std.proofs.lemmas.Grind.{common_steps}
use Rattle.eg_outcome.specs.Changes.{change}
use Rattle.eg_input.specs.declared.columns.Columns.{Columns}
use Rattle.eg_input.specs.declared.recorded.Recorded.{Recorded}
use Rattle.eg_replay.specs.declared.tick_signals.TickSignals.{TickSignals}
use Rattle.eg_replay.specs.Tallies.{IsTallyOf}
use Rattle.eg_replay.specs.Replay.{replayed, told_of, told_after}
use Rattle.eg_stream.specs.Recordings.{Measured, replay_in}
use Rattle.eg_stream.specs.Inner.Reading.{FindingsCome, RecordingGoesOn}
use Rattle.eg_stream.proofs.StreamLemmas.{handed_on, none-written}
use Rattle.eg_stream.proofs.MeasuringLemmas.{HasRead, ends-at_begin, read-first, ends-in_turn, read-more, stops-early, by_ticks, ends-empty, findings-come, told-none, told-more}
use Rattle.eg_stream.proofs.measuring.find.Goals as goal

-- nothing is written while lines still come
abbrev nothing : Option Measured → List ℕ
nothing state = []

pub returns-in_err-recording : goal.returns-in_err-recording
returns-in_err-recording g c =
    let lines = g.L.Lines.shows in
    let cal = c.args.calibration.now in
    handed_on c.from_residual.result c.in_err-recording.field-0.0
    (FindingsCome cal (change (lines c.args.lines.now) (lines c.begin.new.lines)))
    c.from_residual.ensures.1
    (λ out. ends-at_begin nothing (replay_in cal) (lines c.args.lines.now) (lines c.begin.new.lines) out c.in_err-recording.field-0.0 refl c.in_err-recording.ensures)

pub loop-tick-init : goal.loop-tick-init
loop-tick-init g c =
    let lines = g.L.Lines.shows in
    let cal = c.args.calibration.now in
    record {
      ticks = c.new-tally.ensures.ticks;
      read = (
        [],
        read-first nothing (replay_in cal) cal c.in_ok-recording.recording c.new-replay.result (lines c.args.lines.now) (lines c.begin.new.lines)
            c.in_ok-recording.ensures c.new-replay.ensures.cal c.new-replay.ensures.stands,
        subst (IsTallyOf c.new-tally.result) (sym (told-none cal)) c.new-tally.ensures.stands,
      );
    }

pub returns-in_err-recorded : goal.returns-in_err-recorded
returns-in_err-recorded g c =
    let lines = g.L.Lines.shows in
    let cal = c.args.calibration.now in
    let so_far = c.loop-tick.invariant.read in
    handed_on c.from_residual-in_err-recorded.result c.in_err-recorded.field-0.0
    (FindingsCome cal (change (lines c.args.lines.now) (lines c.next.new.lines)))
    c.from_residual-in_err-recorded.ensures.1
    (λ out. ends-in_turn nothing (replay_in cal) cal c.loop-tick.recording.columns so_far.0 c.loop-tick.tick c.loop-tick.replay
    (lines c.args.lines.now) (lines c.loop-tick.lines) (lines c.next.new.lines) (change out out) c.in_err-recorded.field-0.0 so_far.1
    (none-written out) c.in_err-recorded.ensures.next)

pub returns-in_default : goal.returns-in_default
returns-in_default g c =
    let lines = g.L.Lines.shows in
    let began = lines c.args.lines.now in
    let before = lines c.loop-tick.lines in
    let next = lines c.next.new.lines in
    let cal = c.args.calibration.now in
    let columns = c.loop-tick.recording.columns in
    let so_far = c.loop-tick.invariant.read in
    let none : c.in_ok-recorded.field-0 ≡ None = grind (arith, common_steps) in
    let ends = subst (λ (o : Option Recorded). RecordingGoesOn columns c.loop-tick.tick (change before next) (Ok o)) none c.in_ok-recorded.ensures.next in
    by_ticks (FindingsCome cal (change began next))
    c.unless_empty.result (c.loop-tick.tick == 0) c.findings.result c.unless_empty.ensures
    (λ is out. ends-empty nothing (replay_in cal) cal columns so_far.0 c.loop-tick.tick c.loop-tick.replay began before next
    (change out out) so_far.1 ends (none-written out) (eqb-true c.loop-tick.tick 0 is))
    (λ is. findings-come cal columns so_far.0 c.loop-tick.tick c.loop-tick.replay began before next
    c.findings.result so_far.1 ends (let other = eqb-false c.loop-tick.tick 0 is in omega (arith, other)) (c.findings.ensures.findings (told_of cal (replayed cal so_far.0)) so_far.2))

pub loop-tick-preserved : goal.loop-tick-preserved
loop-tick-preserved g c =
    let lines = g.L.Lines.shows in
    let began = lines c.args.lines.now in
    let before = lines c.loop-tick.lines in
    let next = lines c.next.new.lines in
    let cal = c.args.calibration.now in
    let columns = c.loop-tick.recording.columns in
    let so_far = c.loop-tick.invariant.read in
    let r : Recorded = c.in-Some.recorded in
    let all : List Recorded = r ∷ so_far.0 in
    let came = subst (λ (o : Option Recorded). RecordingGoesOn columns c.loop-tick.tick (change before next) (Ok o)) c.in-Some.is c.in_ok-recorded.ensures.next in
    let read = read-more nothing (replay_in cal) cal columns so_far.0 c.loop-tick.tick c.loop-tick.replay c.feed.new.self began before next r
    so_far.1 came c.feed.ensures.cal (c.feed.ensures.stands so_far.0 so_far.1.stands) in
    let told = c.feed.ensures.told so_far.0 so_far.1.stands ∙ ap (λ by. told_after by r so_far.0) so_far.1.by_cal in
    record {
      ticks = c.feed-in-loop-tick.ensures.ticks ∙ ap (λ n. n + 1) c.loop-tick.invariant.ticks;
      read = (
        all,
        subst (λ (named : Columns). HasRead nothing (replay_in cal) cal named all (c.loop-tick.tick + 1) c.feed.new.self (change began next))
            (sym c.next.ensures.columns) read,
        subst (IsTallyOf c.feed-in-loop-tick.new.self)
            (ap (λ (t : TickSignals). t ∷ told_of cal (replayed cal so_far.0)) told ∙ sym (told-more cal r so_far.0))
            (c.feed-in-loop-tick.ensures.stands (told_of cal (replayed cal so_far.0)) so_far.2),
      );
    }

pub returns : goal.returns
returns g c =
    let lines = g.L.Lines.shows in
    let cal = c.args.calibration.now in
    let so_far = c.loop-tick.invariant.read in
    λ out. stops-early nothing (replay_in cal) cal c.loop-tick.recording.columns so_far.0 c.loop-tick.tick c.loop-tick.replay
    (change (lines c.args.lines.now) (lines c.loop-tick.lines)) (change out out) so_far.1 (none-written out)
