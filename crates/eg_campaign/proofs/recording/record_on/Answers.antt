use Rattle.std.proofs.Common.{rules, ◌≡◌, ◌∙◌, refl, sym, subst, ◌<◌, length, arith}
use Rattle.eg_model.specs.Bench.{Run, drive_at}
use Rattle.eg_tick.specs.Run.{IsAt}
use Rattle.eg_base.proofs.ResultLemmas.{at_err}
use Rattle.eg_tick.proofs.RunLemmas.{drive-at}
use Rattle.eg_campaign.specs.Plays.{run_with}
use Rattle.eg_campaign.proofs.PlayLemmas.{same_run}
use Rattle.eg_campaign.proofs.RecordLemmas.{has_header, has_more, all_written, all_counted, stopped_at_header, stopped_at_line}
use Rattle.eg_campaign.proofs.recording.record_on.Goals as goal

pub returns-in_err-put_whole : goal.returns-in_err-put_whole
returns-in_err-put_whole g c =
    let shows = g.K.Sink.shows in
    let bench = g.E.BenchedEngine.bench in
    record {
      whole = search rules;
      no_fault = search rules;
      counted = search rules;
      stopped = at_err c.from_residual.result
          (stopped_at_header bench (run_with c.args.calibration.now c.args.input.now).run (shows c.args.out.now)
          (shows c.put_whole.new.out) c.args.steps.now c.as_bytes.result.now
          (c.as_bytes.ensures.value ∙ c.record_header.ensures) c.in_err-put_whole.ensures.prefix c.count_none.ensures);
      cause = search rules;
      memory = search rules;
      sure = search rules;
      stays_sure = search rules;
    }

pub loop-tick-init : goal.loop-tick-init
loop-tick-init g c =
    let shows = g.K.Sink.shows in
    let bench = g.E.BenchedEngine.bench in
    record {
      ticks = c.bench_controller-controller.ensures.ticks;
      sure = c.bench_controller-controller.ensures.sure;
      at = subst (λ (r : Run). IsAt bench g.E.BenchedEngine.come_to r 0 c.bench_controller-controller.result)
          (same_run _ _ _ _ _ _ _ _ _ _ refl c.as_slice-image.ensures c.as_ref-fault.ensures.value refl refl)
          (c.bench_controller-controller.ensures.at c.args.input.now.plan.slices c.args.input.now.drive);
      written = has_header bench (run_with c.args.calibration.now c.args.input.now).run (shows c.args.out.now)
          (shows c.put_whole.new.out) c.args.steps.now c.as_bytes.result.now
          (c.as_bytes.ensures.value ∙ c.record_header.ensures) c.in_ok-put_whole.ensures.ok c.in_ok-put_whole.ensures.no_fault
          c.in_ok-put_whole.ensures.stays_sure c.count_none.ensures;
    }

pub returns-in_err-put_row : goal.returns-in_err-put_row
returns-in_err-put_row g c =
    let shows = g.K.Sink.shows in
    let bench = g.E.BenchedEngine.bench in
    let r : Run = (run_with c.args.calibration.now c.args.input.now).run in
    let drive : drive_at r c.loop-tick.tick ≡ c.index-drive-tick.result =
    drive-at r c.as_slice-drive.result.now c.loop-tick.tick _ (sym c.as_slice-drive.ensures) c.loop-tick-test.true c.index-drive-tick.is in
    let within : c.loop-tick.tick < length c.args.input.now.drive = subst (λ d. c.loop-tick.tick < length d) c.as_slice-drive.ensures c.loop-tick-test.true in
    record {
      whole = search rules;
      no_fault = search rules;
      counted = search rules;
      stopped = at_err c.from_residual-in_err-put_row.result
          (stopped_at_line bench r c.loop-tick.tick (shows c.args.out.now) (shows c.loop-tick.out) (shows c.put_row.new.out)
          c.args.steps.now c.loop-tick.steps c.bench_row-row.new.steps c.bench_row-row.result within (c.bench_row-row.ensures.row r refl drive c.loop-tick.invariant.at)
          c.loop-tick.invariant.written c.in_err-put_row.ensures.prefix c.bench_row-row.ensures.count c.bench_row-row.ensures.weight);
      cause = search rules;
      memory = search rules;
      sure = search rules;
      stays_sure = search rules;
    }

pub loop-tick-preserved : goal.loop-tick-preserved
loop-tick-preserved g c =
    let shows = g.K.Sink.shows in
    let bench = g.E.BenchedEngine.bench in
    let r : Run = (run_with c.args.calibration.now c.args.input.now).run in
    let drive : drive_at r c.loop-tick.tick ≡ c.index-drive-tick.result =
    drive-at r c.as_slice-drive.result.now c.loop-tick.tick _ (sym c.as_slice-drive.ensures) c.loop-tick-test.true c.index-drive-tick.is in
    record {
      ticks = c.bench_row-row.ensures.ticks;
      sure = c.bench_row-row.ensures.stays_sure;
      at = c.bench_row-row.ensures.at r refl drive c.loop-tick.invariant.at;
      written = has_more bench r c.loop-tick.tick (shows c.args.out.now) (shows c.loop-tick.out)
          (shows c.put_row.new.out) c.args.steps.now c.loop-tick.steps c.bench_row-row.new.steps
          c.bench_row-row.result (c.bench_row-row.ensures.row r refl drive c.loop-tick.invariant.at) c.loop-tick.invariant.written
          c.in_ok-put_row.ensures.ok c.in_ok-put_row.ensures.no_fault c.in_ok-put_row.ensures.stays_sure c.bench_row-row.ensures.count c.bench_row-row.ensures.weight;
    }

pub returns : goal.returns
returns g c =
    let shows = g.K.Sink.shows in
    let bench = g.E.BenchedEngine.bench in
    let end : c.loop-tick.tick ≡ length c.as_slice-drive.result.now = omega (arith, c.loop-tick-test.false, c.loop-tick.auto.tick-end) in
    let all : c.loop-tick.tick ≡ length c.args.input.now.drive = subst (λ d. c.loop-tick.tick ≡ length d) c.as_slice-drive.ensures end in
    record {
      whole = all_written bench (run_with c.args.calibration.now c.args.input.now).run c.loop-tick.tick (shows c.args.out.now)
          (shows c.loop-tick.out) c.args.steps.now c.loop-tick.steps
          all c.loop-tick.invariant.written;
      no_fault = c.loop-tick.invariant.written.faults;
      counted = all_counted bench (run_with c.args.calibration.now c.args.input.now).run c.loop-tick.tick (shows c.args.out.now)
          (shows c.loop-tick.out) c.args.steps.now c.loop-tick.steps
          all c.loop-tick.invariant.written;
      stopped = tt;
      cause = search rules;
      memory = search rules;
      sure = search rules;
      stays_sure = c.loop-tick.invariant.written.sure;
    }
