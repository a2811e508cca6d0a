use Rattle.std.proofs.Common.{◌≡◌, ◌∙◌, sym, ap, subst, ◌+◌, ◌<◌, length, not, arith}
use Rattle.std.specs.Prelude.{◌==◌}
use Rattle.eg_answer.specs.declared.rules.Rules.{Rules}
use Rattle.eg_record.specs.declared.row.Row.{Row}
use Rattle.eg_record.specs.Tallies.{IsTallyOf}
use Rattle.eg_record.specs.Margins.{IsMarginTallyOf}
use Rattle.eg_model.specs.Bench.{drive_at}
use Rattle.eg_model.specs.Records.{row_at, rows_to}
use Rattle.eg_model.proofs.RecordTicks.{no_rows, row_tick, record_rows-is}
use Rattle.eg_tick.specs.Run.{IsAt}
use Rattle.eg_tick.specs.Margins.{weighed_to}
use Rattle.eg_tick.proofs.RunLemmas.{counted, counted-none, drive-at}
use Rattle.eg_tick.proofs.FactLaws.{told, told_to, tallied, counted-next, rows-next}
use Rattle.eg_tick.proofs.CountLemmas.{counts_record}
use Rattle.eg_tick.proofs.WeighLemmas.{none_weighed}
use Rattle.eg_soak.proofs.run.facts_by.Goals as goal

pub loop-tick-init : goal.loop-tick-init
loop-tick-init g c =
    let bench = g.E.BenchedEngine.bench in
    record {
      ticks = c.requires.none;
      sure = c.requires.sure;
      fed = c.new-tally.ensures.ticks;
      threshold = c.new-tally.ensures.threshold;
      weights = c.new-tally.ensures.weights;
      made = λ r plan drive at. (
        at,
        subst (IsTallyOf c.new-tally.result) (sym (no_rows bench r)) c.new-tally.ensures.stands,
        subst (IsMarginTallyOf c.new-margins.result) (sym (none_weighed (not (g.row.WEIGHED == 0)) bench r)) c.new-margins.ensures,
        counted-none c.args.steps.now (rows_to bench r 0) (no_rows bench r)
            (let e = c.count.ensures in let l = c.count.type_inv in subst (λ n. n < 18446744073709551616) e l)
            (let e = c.sum.ensures in let l = c.sum.type_inv in subst (λ n. n < 18446744073709551616) e l),
      );
    }

pub feed-requires-clause-tick : goal.feed-requires-clause-tick
feed-requires-clause-tick g c =
    let (r, plan, drive, begins) = c.requires.run in
    let (at, stands, weighs, counts) = c.loop-tick.invariant.made r plan drive begins in
    let row = c.bench_row-row.ensures.row r plan (drive-at r c.args.drive.now c.loop-tick.tick _ drive c.loop-tick-test.true c.index-drive-tick.is) at in
    ap (λ (row : Row). row.tick) row ∙ row_tick g.E.BenchedEngine.bench r c.loop-tick.tick ∙ sym c.loop-tick.invariant.fed

pub feed-requires-clause-fewer : goal.feed-requires-clause-fewer
feed-requires-clause-fewer g c = omega (arith, c.loop-tick.invariant.fed, c.loop-tick-test.true, c.requires.most)

pub loop-tick-preserved : goal.loop-tick-preserved
loop-tick-preserved g c =
    let bench = g.E.BenchedEngine.bench in
    record {
      ticks = c.bench_row-row.ensures.ticks;
      sure = c.bench_row-row.ensures.stays_sure;
      fed = c.feed.ensures.ticks ∙ ap (λ n. n + 1) c.loop-tick.invariant.fed;
      threshold = c.feed.ensures.threshold ∙ c.loop-tick.invariant.threshold;
      weights = c.feed.ensures.weights ∙ c.loop-tick.invariant.weights;
      made = λ r plan drive begins.
          let (at, stands, weighs, counts) = c.loop-tick.invariant.made r plan drive begins in
          let driven : drive_at r c.loop-tick.tick ≡ c.index-drive-tick.result =
          drive-at r c.args.drive.now c.loop-tick.tick _ drive c.loop-tick-test.true c.index-drive-tick.is in
          let row : c.bench_row-row.result ≡ row_at bench r c.loop-tick.tick = c.bench_row-row.ensures.row r plan driven at in
          let more = rows-next bench r c.loop-tick.tick c.bench_row-row.result row in
          let next = c.bench_row-row.ensures.at r plan driven at in (
            next,
            subst (IsTallyOf c.feed.new.self) more (c.feed.ensures.stands (rows_to bench r c.loop-tick.tick) stands),
            c.weigh.ensures r c.loop-tick.tick row next weighs,
            counted-next c.args.steps.now c.loop-tick.steps c.bench_row-row.new.steps c.loop-tick.tick (rows_to bench r c.loop-tick.tick) c.bench_row-row.result
                counts c.bench_row-row.ensures.count c.bench_row-row.ensures.weight
                ∙ ap (counted c.args.steps.now (c.loop-tick.tick + 1)) more,
          );
    }

pub returns-clause-told : goal.returns-clause-told
returns-clause-told g c = λ r plan drive rules begins.
    let weighed = not (g.row.WEIGHED == 0) in
    let bench = g.E.BenchedEngine.bench in
    let come_to = g.E.BenchedEngine.come_to in
    let all : c.loop-tick.tick ≡ length c.args.drive.now = omega (arith, c.loop-tick-test.false, c.loop-tick.auto.tick-end) in
    let end : c.loop-tick.tick ≡ length r.drive = all ∙ ap length (sym drive) in
    let (at, stands, weighs, counts) = c.loop-tick.invariant.made r plan drive begins in
    told weighed bench come_to r c.loop-tick.controller _ (subst (λ n. IsAt bench come_to r n c.loop-tick.controller) end at)
    (tallied weighed bench r c.loop-tick.tick c.loop-tick.tally _ _
    (c.loop-tick.invariant.weights ∙ ap (λ (x : Rules). x.torque) (sym rules))
    (c.loop-tick.invariant.threshold ∙ ap (λ (x : Rules). x.threshold) (sym rules))
    (c.facts.ensures.facts (rows_to bench r c.loop-tick.tick) stands)
    (c.reactions.ensures.reactions (rows_to bench r c.loop-tick.tick) stands)
    (c.margins.ensures (weighed_to weighed bench r c.loop-tick.tick) weighs) c.trap.ensures.trap
    ∙ ap (λ n. told_to weighed bench r n c.loop-tick.controller.kept.trap) end)

pub returns-clause-counted : goal.returns-clause-counted
returns-clause-counted g c = λ r plan drive begins.
    let bench = g.E.BenchedEngine.bench in
    let end : c.loop-tick.tick ≡ length r.drive = omega (arith, c.loop-tick-test.false, c.loop-tick.auto.tick-end) ∙ ap length (sym drive) in
    let (at, stands, weighs, counts) = c.loop-tick.invariant.made r plan drive begins in
    counts_record bench r c.args.steps.now c.loop-tick.steps (counts
    ∙ ap (λ n. counted c.args.steps.now n (rows_to bench r n)) end
    ∙ ap (counted c.args.steps.now (length r.drive)) (sym (record_rows-is bench r)))
