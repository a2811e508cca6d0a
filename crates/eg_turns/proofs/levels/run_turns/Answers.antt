use Rattle.std.proofs.Common.{ap, ◌∙◌}
use Rattle.eg_fault.specs.Faults.{effects}
use Rattle.eg_turns.proofs.TurnLemmas.{begun, next, ended}
use Rattle.eg_turns.proofs.levels.run_turns.Goals as goal

pub returns : goal.returns
returns g c = ended (ap (λ f. effects f c.args.task.now.tick) c.acting-fault.ensures)
    (next (next (next (next (next (next (next (next (begun c.quiet-whole.ensures)
    c.in_ok-step.ensures c.joined-whole.ensures)
    c.in_ok-step-2.ensures c.joined-whole-2.ensures)
    c.in_ok-step-3.ensures c.joined-whole-3.ensures)
    c.in_ok-step-4.ensures c.joined-whole-4.ensures)
    c.in_ok-step-5.ensures c.joined-whole-5.ensures)
    c.in_ok-step-6.ensures c.joined-whole-6.ensures)
    c.in_ok-step-7.ensures c.joined-whole-7.ensures)
    c.in_ok-step-8.ensures c.joined-whole-8.ensures)
    (ap (λ f. (effects f c.args.task.now.tick).level1) c.acting-fault.ensures ∙ c.requires.level1) c.budget_of-last.ensures.nine c.budget_of-last.ensures.budget c.in_ok-slice.ensures.midway
    (c.in_ok-slice.ensures.ready _ c.in_ok-step-8.ensures.ready) c.in_ok-slice.ensures.keeps
