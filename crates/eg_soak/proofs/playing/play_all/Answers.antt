use Rattle.std.proofs.Common.{◌≡◌, ◌∙◌, sym, ap, ap₂, subst, ◌+◌, ◌<◌, ◌≤◌, [], ◌∷◌, ◌++◌, length, arith}
use Rattle.std.proofs.lemmas.Grind.{common_steps}
use Rattle.std.proofs.lemmas.List.{length-map}
use Rattle.eg_base.proofs.ResultLemmas.{at_err}
use Rattle.eg_model.specs.EngineRuns.{rows_of_runs}
use Rattle.eg_tick.proofs.CountLemmas.{counts_none}
use Rattle.eg_soak.specs.Facts.{drawn_facts}
use Rattle.eg_soak.specs.Soak.{drawn_runs}
use Rattle.eg_soak.proofs.RunsLemmas.{state_of, state-next, facts-next, counts-next, runs-length}
use Rattle.eg_soak.proofs.playing.play_all.Goals as goal

pub loop-done-init : goal.loop-done-init
unfolding state_of drawn_runs rows_of_runs
loop-done-init c = record {
  state = c.new-generator.ensures;
  told = c.new-all.ensures.items;
  counts = counts_none c.args.steps.now
      (let e = c.count.ensures in let l = c.count.type_inv in subst (λ n. n < 18446744073709551616) e l)
      (let e = c.sum.ensures in let l = c.sum.type_inv in subst (λ n. n < 18446744073709551616) e l);
}

pub returns-in_err-drawn-clause-stopped : goal.returns-in_err-drawn-clause-stopped
returns-in_err-drawn-clause-stopped c = at_err c.from_residual.result
    (c.loop-done._done, (let test = c.loop-done-test.true in omega (arith, test)), c.loop-done.invariant.counts)

pub returns-in_err-push-clause-stopped : goal.returns-in_err-push-clause-stopped
returns-in_err-push-clause-stopped c = at_err c.from_residual-in_err-push.result (
  c.loop-done._done + 1,
  (let test = c.loop-done-test.true in omega (arith, test)),
  counts-next c.args.steps.now c.loop-done.steps c.play-facts.new.steps c.loop-done._done c.args.seed c.loop-done.generator c.in_ok-drawn.drawn
      c.loop-done.invariant.state c.in_ok-drawn.ensures.run c.loop-done.invariant.counts c.play-facts.ensures.counted,
)

pub loop-done-preserved : goal.loop-done-preserved
loop-done-preserved c =
    let seed = c.args.seed in
    let i = c.loop-done._done in
    let state = c.loop-done.invariant.state in
    let drawn = c.in_ok-drawn.ensures.run in
    let pushed : c.push.new.self.items ≡ c.loop-done.all.items ++ c.play-facts.result ∷ [] = grind (arith, common_steps) in
    record {
      state = state-next i seed c.loop-done.generator c.run.new.self state c.in_ok-drawn.ensures.state;
      told = pushed ∙ ap₂ (λ all one. all ++ one ∷ []) c.loop-done.invariant.told c.play-facts.ensures.facts
          ∙ sym (facts-next i seed c.loop-done.generator c.in_ok-drawn.drawn state drawn);
      counts = counts-next c.args.steps.now c.loop-done.steps c.play-facts.new.steps i seed c.loop-done.generator c.in_ok-drawn.drawn
          state drawn c.loop-done.invariant.counts c.play-facts.ensures.counted;
    }

pub returns-clause-length : goal.returns-clause-length
returns-clause-length c =
    let least : c.args.runs ≤ c.loop-done._done = c.loop-done-test.false in
    let most : c.loop-done._done ≤ c.args.runs = c.loop-done.auto._done-end in
    let all : c.loop-done._done ≡ c.args.runs = omega (arith, least, most) in
    ap length c.loop-done.invariant.told ∙ length-map (drawn_runs c.loop-done._done c.args.seed) drawn_facts
    ∙ runs-length c.loop-done._done c.args.seed ∙ all
