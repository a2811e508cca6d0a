use Rattle.std.proofs.Common.{◌≡◌, ◌∙◌, sym, ap, subst, ◌+◌, length, map}
use Rattle.std.specs.List.{sum}
use Rattle.eg_model.specs.EngineRuns.{rows_of_runs}
use Rattle.eg_tick.proofs.CountLemmas.{counted_err, out_behind}
use Rattle.eg_soak.specs.Facts.{drawn_facts}
use Rattle.eg_soak.specs.Soak.{drawn_runs}
use Rattle.eg_soak.specs.declared.summary.SoakSummary.{SoakSummary}
use Rattle.eg_soak.proofs.RunsLemmas.{runs-ticks, runs-front}
use Rattle.eg_soak.proofs.SumLemmas.{NeverStart, sums_up, runs_counted}
use Rattle.eg_soak.proofs.StartLemmas.{drawn_never_start}
use Rattle.eg_soak.proofs.playing.soak.Goals as goal

pub returns-in_err-all-clause-ticks : goal.returns-in_err-all-clause-ticks
returns-in_err-all-clause-ticks c = runs-ticks c.args.runs c.args.seed

pub returns-in_err-all-clause-counted : goal.returns-in_err-all-clause-counted
returns-in_err-all-clause-counted c =
    let seed = c.args.seed in
    let all = rows_of_runs (drawn_runs c.args.runs seed) in
    let (k, few, is) = c.in_err-all.ensures.stopped in
    let (rest, parts) = runs-front k c.args.runs seed few in
    counted_err all c.args.steps.now c.play_all.new.steps c.from_residual.result c.from_residual.ensures.0
    (out_behind c.args.steps.now c.play_all.new.steps (rows_of_runs (drawn_runs k seed)) rest all parts is)

pub returns-clause-runs : goal.returns-clause-runs
returns-clause-runs c = ap (λ (s : SoakSummary). s.runs) c.of.ensures ∙ runs_counted c.deref.result.now
    ∙ ap length c.deref.ensures.value ∙ c.in_ok-all.ensures.length

pub returns-clause-sums : goal.returns-clause-sums
returns-clause-sums c =
    let facts : c.deref.result.now ≡ map drawn_facts (drawn_runs c.args.runs c.args.seed) = c.deref.ensures.value ∙ c.in_ok-all.ensures.facts in
    ap (λ (s : SoakSummary). s.none + sum s.by_watch) c.of.ensures
    ∙ sums_up c.deref.result.now (subst NeverStart (sym facts) (drawn_never_start c.args.runs c.args.seed))
    ∙ ap length c.deref.ensures.value ∙ c.in_ok-all.ensures.length

pub returns-clause-ticks : goal.returns-clause-ticks
returns-clause-ticks c = runs-ticks c.args.runs c.args.seed
