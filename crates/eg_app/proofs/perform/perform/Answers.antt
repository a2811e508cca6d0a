use Rattle.std.proofs.Common.{List, refl, subst}
use Rattle.eg_answer.specs.declared.rules.Rules.{Rules}
use Rattle.eg_input.specs.CheckFile.{CheckRow}
use Rattle.eg_outcome.specs.Changes.{change_of}
use Rattle.eg_desk.specs.Ends.{RowsEnd}
use Rattle.eg_app.proofs.perform.perform.Goals as goal

pub returns-in-Check-clause-performs : goal.returns-in-Check-clause-performs
returns-in-Check-clause-performs g c =
    let out = change_of g.K.Sink.shows c.args.out.now c.put_check.new.out in
    let o = c.put_check.result in
    rw c.in-Check.is (
      refl {a = c.args.steps.now},
      subst (λ (rows : List CheckRow). RowsEnd c.in-Check.calibration.rules rows out o) c.as_slice.ensures
          (subst (λ (rules : Rules). RowsEnd rules c.as_slice.result.now out o) c.rules.ensures.rules c.put_check.ensures),
    )
