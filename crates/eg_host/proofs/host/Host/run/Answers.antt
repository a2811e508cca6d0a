use Rattle.std.proofs.Common.{◌≡◌, ◌+◌, ◌≤◌, true, false, arith, rules}
use Rattle.eg_word.specs.declared.registers.State.TheVariants.{Running}
use Rattle.eg_word.proofs.ProgramLemmas.{program-outside}
use Rattle.eg_host.proofs.RunLemmas.{run-begun, run-more, run-idle, run-done, run-ended}
use Rattle.eg_host.proofs.host.Host.run.Goals as goal

pub loop-done-init : goal.loop-done-init
loop-done-init g c = record { run = run-begun _ _ _ c.wake-self.ensures; running = search rules; sure = search rules; program = c.requires }

pub loop-done-preserved : goal.loop-done-preserved
loop-done-preserved g c =
    let so_far = c.loop-done.invariant in
    let step = c.in_ok-step_on.ensures.step in
    record {
      run = run-more _ _ _ _ _ _ _ so_far.run so_far.running step.outside step.makes.keeps.are_words step.world;
      running = search rules;
      sure = search rules;
      program = λ program is. program-outside _ _ program step.outside (so_far.program program is);
    }

pub returns-then-not-is_running : goal.returns-then-not-is_running
returns-then-not-is_running g c =
    let idle : c.wake-self.result ≡ Running → ⊥ = search rules in
    run-done _ _ _ _ _ _ (run-idle 0 _ _ _ _ _ (run-begun _ _ _ c.wake-self.ensures) idle (omega arith)) (search rules)

pub returns-in_err-step_on : goal.returns-in_err-step_on
returns-in_err-step_on g c =
    let so_far = c.loop-done.invariant in
    let step = c.in_err-step_on.ensures.step in
    run-ended _ c.loop-done._done _ _ _ _ _ _ _ (search rules) so_far.run (search rules) so_far.sure
    (λ told. let clash : false ≡ true = step.makes.keeps.sure told in cc) step.makes.unchanged step.makes.memory_unchanged

pub returns-then-not-branch : goal.returns-then-not-branch
returns-then-not-branch g c =
    let so_far = c.loop-done.invariant in
    let step = c.in_ok-step_on.ensures.step in
    let idle : c.step_on.new.registers.state ≡ Running → ⊥ = search rules in
    let within : c.loop-done._done + 1 ≤ c.args.budget = search rules in
    run-done _ _ _ _ _ _
    (run-idle _ _ _ _ _ _ (run-more _ _ _ _ _ _ _ so_far.run so_far.running step.outside step.makes.keeps.are_words step.world) idle within)
    (search rules)
