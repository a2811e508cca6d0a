use Rattle.std.proofs.Common.{◌≡◌, ◌∙◌, sym, ap, subst, ◌+◌, ◌<◌, [], ◌∷◌, ◌++◌, length, arith}
use Rattle.std.specs.Prelude.{reverse}
use Rattle.std.proofs.lemmas.Grind.{common_steps}
use Rattle.std.proofs.lemmas.List.{take_all}
use Rattle.eg_model.specs.Engines.{gasoline}
use Rattle.eg_model.specs.Records.{rows_to}
use Rattle.eg_model.specs.Rows.{record_rows}
use Rattle.eg_model.proofs.WholeRecord.{rows-none, rows-suc}
use Rattle.eg_tick.specs.Counting.{count_with}
use Rattle.eg_tick.specs.Benched.{gasoline_of}
use Rattle.eg_tick.specs.Run.{IsAt}
use Rattle.eg_tick.proofs.RunLemmas.{counted, counted-none, counted-more, drive-at}
use Rattle.eg_tick.proofs.CountLemmas.{long, counts_rows}
use Rattle.eg_tick.proofs.run.make_rows.Goals as goal

pub loop-tick-init : goal.loop-tick-init
loop-tick-init c = record {
  ticks = c.requires.none;
  sure = c.requires.sure;
  room = c.in_ok-rows.ensures.capacity;
  len = c.in_ok-rows.ensures.len;
  at = λ r plan drive at. at;
  rows = λ r plan drive at. c.in_ok-rows.ensures.items ∙ rows-none gasoline r;
  counts = counted-none c.args.steps.now c.in_ok-rows.rows.items c.in_ok-rows.ensures.items
      (let e = c.count.ensures in let l = c.count.type_inv in subst (λ n. n < 18446744073709551616) e l)
      (let e = c.sum.ensures in let l = c.sum.type_inv in subst (λ n. n < 18446744073709551616) e l);
}

pub bench_row-row-requires-clause-tick : goal.bench_row-row-requires-clause-tick
bench_row-row-requires-clause-tick c = c.loop-tick.invariant.ticks

pub bench_row-row-requires-clause-fewer : goal.bench_row-row-requires-clause-fewer
bench_row-row-requires-clause-fewer c = omega (arith, c.loop-tick.invariant.ticks, c.loop-tick-test.true, c.requires.most)

pub loop-tick-preserved : goal.loop-tick-preserved
loop-tick-preserved c =
    let pushed : c.loop-tick.rows.items ++ c.bench_row-row.result ∷ [] ≡ c.push.new.self.items = grind (arith, common_steps) in
    record {
      ticks = c.bench_row-row.ensures.ticks;
      sure = c.bench_row-row.ensures.stays_sure;
      room = omega (arith, c.loop-tick.invariant.room, c.push.ensures.capacity);
      len = grind (arith, common_steps);
      at = λ r plan drive at. c.bench_row-row.ensures.at r plan
          (drive-at r c.args.drive.now c.loop-tick.tick _ drive c.loop-tick-test.true c.index-drive-tick.is) (c.loop-tick.invariant.at r plan drive at);
      rows = λ r plan drive at. sym pushed ∙ rows-suc gasoline r c.loop-tick.tick c.loop-tick.rows.items c.bench_row-row.result (c.loop-tick.invariant.rows r plan drive at)
          (c.bench_row-row.ensures.row r plan
          (drive-at r c.args.drive.now c.loop-tick.tick _ drive c.loop-tick-test.true c.index-drive-tick.is) (c.loop-tick.invariant.at r plan drive at));
      counts = counted-more c.args.steps.now c.loop-tick.steps c.bench_row-row.new.steps c.loop-tick.tick c.loop-tick.rows.items c.bench_row-row.result
          c.loop-tick.invariant.counts c.bench_row-row.ensures.count c.bench_row-row.ensures.weight
          ∙ ap (counted c.args.steps.now (c.loop-tick.tick + 1)) pushed;
    }

pub returns-clause-at : goal.returns-clause-at
returns-clause-at c = λ r plan drive at.
    let end : c.loop-tick.tick ≡ length c.args.drive.now = omega (arith, c.loop-tick-test.false, c.loop-tick.auto.tick-end) in
    subst (λ n. IsAt gasoline gasoline_of r n c.loop-tick.controller) end (c.loop-tick.invariant.at r plan drive at)

pub returns-clause-rows : goal.returns-clause-rows
returns-clause-rows c = λ r plan drive at.
    let end : c.loop-tick.tick ≡ length c.args.drive.now = omega (arith, c.loop-tick-test.false, c.loop-tick.auto.tick-end) in
    c.loop-tick.invariant.rows r plan drive at ∙ ap (λ n. reverse (rows_to gasoline r n)) end

pub returns-clause-counted : goal.returns-clause-counted
returns-clause-counted c = λ r plan drive at.
    let end : c.loop-tick.tick ≡ length r.drive = omega (arith, c.loop-tick-test.false, c.loop-tick.auto.tick-end) ∙ ap length (sym drive) in
    let all = reverse (record_rows gasoline r) in
    counts_rows gasoline r c.loop-tick.tick c.args.steps.now c.loop-tick.steps c.loop-tick.rows.items (omega (arith, end)) (c.loop-tick.invariant.rows r plan drive at) c.loop-tick.invariant.counts
    ∙ ap (count_with c.args.steps.now) (take_all c.loop-tick.tick all (omega (arith, end, long gasoline r)))
