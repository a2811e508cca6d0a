use Rattle.std.proofs.Common.{◌∙◌, sym, ap}
use Rattle.eg_outcome.specs.Runs.{run_named}
use Rattle.eg_outcome.proofs.NameLemmas.{found-now}
use Rattle.eg_outcome.proofs.named.plan_among.Goals as goal

pub returns-then-has_name-clause-found : goal.returns-then-has_name-clause-found
returns-then-has_name-clause-found c =
    c.loop-plan.invariant.left ∙ ap (run_named c.args.name.now c.loop-plan.number) c.in-Some.ensures.steps.0
    ∙ found-now c.args.name.now c.loop-plan.number c.in-Some.plan c.next.new.self.rest.items (sym c.has_name.ensures ∙ c.if-has_name.true)
