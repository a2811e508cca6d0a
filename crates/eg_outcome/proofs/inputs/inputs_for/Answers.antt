use Rattle.std.proofs.Common.{◌≡◌, ◌∙◌, refl, sym, ap, subst, ◌+◌, ◌≤◌, ◌++◌, ◌∷◌, [], length, append_assoc, append-nil, All, Ok, Err, arith}
use Rattle.std.proofs.lemmas.List.Elements.{All-push}
use Rattle.eg_base.specs.Outside.{ShownStore}
use Rattle.eg_plan.specs.Playable.{IsPlayable}
use Rattle.eg_outcome.specs.Changes.{change}
use Rattle.eg_outcome.specs.Inputs.{InputComes, InputsCome, too_many}
use Rattle.eg_outcome.specs.Runs.{IsNamedIfOfRun}
use Rattle.eg_outcome.proofs.NameLemmas.{by_plan}
use Rattle.eg_outcome.proofs.InputsLemmas.{Goes, goes-first, goes-on, goes-end, goes-memory, goes-all, named, one-behind, some-sum, one-longer, nothing-left, any-later}
use Rattle.eg_outcome.proofs.inputs.inputs_for.Goals as goal

pub loop-plan-init : goal.loop-plan-init
loop-plan-init g c = record {
  parts = sym (c.into_iter-plan-iterator.ensures.into_iter_gives.0 ∙ c.into_vec-plan-items.ensures);
  run = refl;
  sum = omega arith;
  shown = refl;
  playable = λ k d within. absurd (let none = ap length c.new-inputs.ensures.items in omega (arith, within, none));
  goes = λ later.
      subst (Goes (change (g.S.Store.shows c.args.store.now) later) 1 0 []) (sym c.new-inputs.ensures.items)
      (goes-first (change (g.S.Store.shows c.args.store.now) later));
}

pub input_for-requires-clause-sum : goal.input_for-requires-clause-sum
input_for-requires-clause-sum g c x is = some-sum _ x is c.loop-plan.invariant.sum

pub returns-in-Err-clause-comes : goal.returns-in-Err-clause-comes
returns-in-Err-clause-comes g c =
    let store = g.S.Store.shows c.args.store.now in
    let later = g.S.Store.shows c.input_for.new.store in
    goes-end (change store later) c.loop-plan.run c.loop-plan.sum c.loop-plan.yielded c.loop-plan.inputs.items c.in-Some.plan c.next.new.self.rest.items c.args.plans
    c.in-Err.end.outcome (one-behind _ c.loop-plan.yielded _ _ _ c.loop-plan.invariant.parts c.in-Some.ensures.steps.0)
    (subst (λ shown. InputComes (too_many c.loop-plan.sum c.loop-plan.run) (change shown later) c.loop-plan.run c.in-Some.plan (Err c.in-Err.end.outcome))
    c.loop-plan.invariant.shown c.in-Err.ensures.comes) (c.loop-plan.invariant.goes later)

pub returns-in-Err-clause-named : goal.returns-in-Err-clause-named
returns-in-Err-clause-named g c =
    c.in-Err.ensures.named.0
    ∙ named c.loop-plan.yielded c.in-Some.plan c.next.new.self.rest.items c.args.plans c.loop-plan.run _
    (one-behind _ c.loop-plan.yielded _ _ _ c.loop-plan.invariant.parts c.in-Some.ensures.steps.0) c.loop-plan.invariant.run c.in-Err.ensures.named.1

pub returns-in-Err-push-clause-comes : goal.returns-in-Err-push-clause-comes
returns-in-Err-push-clause-comes g c =
    let store = g.S.Store.shows c.args.store.now in
    let later = g.S.Store.shows c.input_for.new.store in
    subst (λ o. InputsCome (change store later) 1 0 c.args.plans (Err o)) (sym c.in-Err-push.ensures.memory)
    (goes-memory (change store later) c.loop-plan.run c.loop-plan.sum c.loop-plan.yielded c.loop-plan.inputs.items c.in-Some.plan c.next.new.self.rest.items c.args.plans
    (one-behind _ c.loop-plan.yielded _ _ _ c.loop-plan.invariant.parts c.in-Some.ensures.steps.0)
    (ap (λ (shown : ShownStore). shown.faults) (c.in-Ok.ensures.keeps.shown refl ∙ c.loop-plan.invariant.shown)) (c.loop-plan.invariant.goes later))

pub loop-plan-preserved : goal.loop-plan-preserved
loop-plan-preserved g c =
    let store = g.S.Store.shows c.args.store.now in
    let mid = g.S.Store.shows c.input_for.new.store in
    let drive : c.as_slice.result.now ≡ c.in-Ok.input.drive = c.as_slice.ensures in
    record {
      parts = one-behind _ c.loop-plan.yielded _ _ _ c.loop-plan.invariant.parts c.in-Some.ensures.steps.0
          ∙ sym (append_assoc c.loop-plan.yielded (c.in-Some.plan ∷ []) c.next.new.self.rest.items);
      run = ap (λ n. n + 1) c.loop-plan.invariant.run ∙ one-longer c.loop-plan.yielded c.in-Some.plan;
      sum = subst (λ rows. c.loop-plan.sum + length rows ≤ 1000000) (sym drive) (c.in-Ok.ensures.sum c.loop-plan.sum refl);
      shown = c.in-Ok.ensures.keeps.shown refl ∙ c.loop-plan.invariant.shown;
      playable = subst (All IsPlayable) (sym c.in-Ok-push.ensures.pushed) (All-push IsPlayable c.loop-plan.inputs.items c.in-Ok.input c.loop-plan.invariant.playable c.in-Ok.ensures.playable);
      goes = λ later.
          subst (Goes (change store later) (c.loop-plan.run + 1) (c.loop-plan.sum + length c.as_slice.result.now) (c.loop-plan.yielded ++ c.in-Some.plan ∷ []))
          (sym c.in-Ok-push.ensures.pushed)
          (subst (λ rows. Goes (change store later) (c.loop-plan.run + 1) (c.loop-plan.sum + length rows) (c.loop-plan.yielded ++ c.in-Some.plan ∷ [])
          (c.loop-plan.inputs.items ++ c.in-Ok.input ∷ [])) (sym drive)
          (goes-on (change store later) c.loop-plan.run c.loop-plan.sum c.loop-plan.yielded c.loop-plan.inputs.items c.in-Some.plan c.in-Ok.input
          (any-later (too_many c.loop-plan.sum c.loop-plan.run) store mid later c.loop-plan.run c.in-Some.plan c.in-Ok.input
          (subst (λ shown. InputComes (too_many c.loop-plan.sum c.loop-plan.run) (change shown mid) c.loop-plan.run c.in-Some.plan (Ok c.in-Ok.input))
          c.loop-plan.invariant.shown c.in-Ok.ensures.comes))
          (c.loop-plan.invariant.goes later)));
    }

pub returns-clause-comes : goal.returns-clause-comes
returns-clause-comes g c =
    let store = g.S.Store.shows c.args.store.now in
    let later = g.S.Store.shows c.loop-plan.store in
    let all : c.args.plans ≡ c.loop-plan.yielded = c.loop-plan.invariant.parts
    ∙ ap (λ rest. c.loop-plan.yielded ++ rest) (nothing-left c.loop-plan.plan-iterator.rest.items _ c.loop-plan.plan-iterator.rest.ok.0 c.in-None.ensures.steps.0)
    ∙ append-nil c.loop-plan.yielded in
    subst (λ made. InputsCome (change store later) 1 0 c.args.plans (Ok made)) (sym c.new.ensures)
    (subst (λ plans. InputsCome (change store later) 1 0 plans (Ok c.loop-plan.inputs.items)) (sym all)
    (goes-all (change store later) c.loop-plan.run c.loop-plan.sum c.loop-plan.yielded c.loop-plan.inputs.items (c.loop-plan.invariant.goes later)))

pub returns-in-Err-clause-some : goal.returns-in-Err-clause-some
returns-in-Err-clause-some g c = subst (IsNamedIfOfRun _) (sym c.in-Err.ensures.named.0) (by_plan c.in-Some.plan _)
