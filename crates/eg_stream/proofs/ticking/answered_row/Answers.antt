use Rattle.std.proofs.Common.{◌≡◌, ◌∙◌, ap, sym, subst, List, ◌%◌, [], length}
use Rattle.std.specs.Prelude.{slice_index_or}
use Rattle.eg_plant.specs.Engine.{KeepsLaws}
use Rattle.eg_stream.specs.Coupled.{CoupledUnit}
use Rattle.eg_stream.specs.Inner.Running.{IsCoupled}
use Rattle.eg_input.specs.declared.answered.PartnerAnswer.{PartnerAnswer}
use Rattle.eg_stream.proofs.TakenLemmas.{taken-lawful}
use Rattle.eg_stream.proofs.TickingLemmas.{coupled-then, row-is}
use Rattle.eg_stream.proofs.ticking.answered_row.Goals as goal

pub tell-requires : goal.tell-requires
tell-requires c =
    let given = c.requires.coupled in
    let kept = taken-lawful given.0 given.1 given.2 c.args.answer.now given.4 in
    record { laws = subst (λ kt. KeepsLaws kt c.args.answer.now.told) (sym given.3.stands.engine.one_kt) kept.engine }

-- the row of the plan
slices-are : (c : goal.In-Ok) (unit : CoupledUnit) (before : List PartnerAnswer) → unit.plan ≡ c.args.plan.now → IsCoupled unit before c.args.controller.now
    → c.row.result.now ≡ slice_index_or unit.plan (length before % length unit.plan) []
slices-are c unit before plan coupled =
    let tick : c.ticks-tick.result ≡ length before = c.ticks-tick.ensures.ticks ∙ ap (λ k. k.ticks) c.tell.ensures.kept ∙ coupled.ticks in
    c.row.ensures.row ∙ (λ i. slice_index_or (sym plan i) (tick i % length (sym plan i)) [])

pub returns-clause-coupled : goal.returns-clause-coupled
returns-clause-coupled c = λ unit before plan coupled is_lawful.
    coupled-then unit before c.args.answer.now c.args.controller.now c.tell.new.self c.tick.new.self c.row.result.now c.in-Ok.row coupled is_lawful
    c.tell.ensures.kept (ap (λ e. e.next) c.tell.ensures.engine) (slices-are c unit before plan coupled) c.in-Ok.ensures.made

pub returns-clause-row : goal.returns-clause-row
returns-clause-row c = λ unit before plan coupled is_lawful.
    row-is unit before c.args.answer.now c.args.controller.now c.tell.new.self c.tick.new.self c.row.result.now c.in-Ok.row coupled is_lawful
    c.tell.ensures.kept (ap (λ e. e.next) c.tell.ensures.engine) (slices-are c unit before plan coupled) c.in-Ok.ensures.made
