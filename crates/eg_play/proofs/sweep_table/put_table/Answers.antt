use Rattle.std.proofs.Common.{◌∙◌, sym, ap, subst, ◌<◌, ◌≤◌, All, length}
use Rattle.eg_table.specs.Grid.{swept_faults}
use Rattle.eg_fault.specs.Faults.{IsValid}
use Rattle.eg_plan.specs.Playable.{IsPlayable}
use Rattle.eg_outcome.specs.Changes.{change, change_of}
use Rattle.eg_play.proofs.SweepLemmas.{playable-without, are_more, swept-ends, not-swept, never_large}
use Rattle.eg_play.proofs.sweep_table.put_table.Goals as goal

pub returns-in-Err-Memory : goal.returns-in-Err-Memory
returns-in-Err-Memory g c =
    let a = c.args in
    not-swept a.calibration.now c.rules-rules.ensures.accepted a.step c.requires.step a.input c.requires.sweepable.playable
    (g.K.Sink.shows a.out.now) a.steps.now (subst (λ n. n < 18446744073709551616) c.count.ensures c.count.type_inv)
    (subst (λ n. n < 18446744073709551616) c.sum.ensures c.sum.type_inv)

pub returns-in_default : goal.returns-in_default
returns-in_default g c =
    let a = c.args in
    not-swept a.calibration.now c.rules-rules.ensures.accepted a.step c.requires.step a.input c.requires.sweepable.playable
    (g.K.Sink.shows a.out.now) a.steps.now (subst (λ n. n < 18446744073709551616) c.count.ensures c.count.type_inv)
    (subst (λ n. n < 18446744073709551616) c.sum.ensures c.sum.type_inv)

pub put_rows-requires-clause-playable : goal.put_rows-requires-clause-playable
put_rows-requires-clause-playable g c = subst IsPlayable (sym c.in-Ok-without_resets.ensures) (playable-without c.args.input c.requires.sweepable.playable)

pub put_rows-requires-clause-valid : goal.put_rows-requires-clause-valid
put_rows-requires-clause-valid g c = subst (All IsValid) (sym c.deref.ensures.value) c.in-Ok.ensures.valid

pub put_rows-requires-clause-group : goal.put_rows-requires-clause-group
put_rows-requires-clause-group g c =
    let some = subst (λ drive. 1 ≤ length drive) (sym c.as_slice.ensures) c.requires.sweepable.playable.some in
    subst (λ n. 2 ≤ n) (sym (ap length c.deref.ensures.value ∙ c.in-Ok.ensures.count)) (are_more (length c.as_slice.result.now) c.args.step some c.requires.step)

pub returns : goal.returns
returns g c =
    let a = c.args in
    swept-ends a.calibration.now c.rules-rules.ensures.accepted a.step c.requires.step a.input c.requires.sweepable.playable
    (change_of g.K.Sink.shows a.out.now c.put_rows.new.out) (change a.steps.now c.put_rows.new.steps) c.put_rows.result
    c.in-Ok-without_resets.input c.deref.result.now c.in-Ok-without_resets.ensures
    (c.deref.ensures.value ∙ c.in-Ok.ensures.faults ∙ ap (λ drive. swept_faults (length drive) a.step) c.as_slice.ensures)
    (c.put_rows.ensures.written, c.put_rows.ensures.ticked)
