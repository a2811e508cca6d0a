use Rattle.std.proofs.Common.{◌≡◌, ◌∙◌, ℕ, ◌+◌, ◌<◌, ◌∷◌, [], refl, sym, subst, Option, Ok, arith}
use Rattle.eg_input.specs.declared.answered.PartnerAnswer.{PartnerAnswer}
use Rattle.eg_input.specs.declared.answered.TheConstants.{MOST_ANSWER_BYTES}
use Rattle.eg_values.specs.Calibration.{CalibrationParts}
use Rattle.eg_plan.specs.declared.run_input.RunInput.{RunInput}
use Rattle.eg_plant.specs.Foreign.{Foreign}
use Rattle.eg_lines.specs.Lines.{ShownLines}
use Rattle.eg_tick.specs.Kept.{ControllerParts}
use Rattle.eg_tick.specs.Weights.{TickCount}
use Rattle.eg_tick.proofs.CountLemmas.{counts_none}
use Rattle.eg_outcome.specs.Changes.{change}
use Rattle.eg_stream.specs.Coupled.{CoupledUnit, unit_of}
use Rattle.eg_stream.specs.Inner.Running.{IsCoupled, AnswerComes}
use Rattle.eg_stream.proofs.CouplingLemmas.{HasMade, taken-is_lawful, none-made, made-more, header-put, first-put, row-put, ends-as, ends-done, ends-unread, ends-in_turn, ends-full, header-refused, first-refused, row-refused}
use Rattle.eg_stream.proofs.coupling.couple.Goals as goal

-- before the first tick nothing is made, as the count is in its range
begun : (cal : CalibrationParts) (input : RunInput) (controller : ControllerParts Foreign) (lines : ShownLines) (steps : TickCount) (count sum : ℕ) →
    IsCoupled (unit_of cal input) [] controller → count ≡ steps.count → count < 18446744073709551616 → sum ≡ steps.weights → sum < 18446744073709551616 →
    HasMade (unit_of cal input) [] controller (change lines lines) (change steps steps)
begun cal input controller lines steps count sum stands count_is count_fits sum_is sum_fits =
    none-made (unit_of cal input) controller lines steps stands
    (counts_none steps (subst (λ n. n < 18446744073709551616) count_is count_fits) (subst (λ n. n < 18446744073709551616) sum_is sum_fits))

-- ---- before the first answer ----

pub returns-in_err-put_or_end : goal.returns-in_err-put_or_end
returns-in_err-put_or_end g c =
    let made = begun c.args.calibration.now c.args.input.now c.coupled_controller-controller.result (g.L.Lines.shows c.args.lines.now) c.args.steps.now c.count.result c.sum.result
    c.coupled_controller-controller.ensures c.count.ensures c.count.type_inv c.sum.ensures c.sum.type_inv in
    let unit : CoupledUnit = unit_of c.args.calibration.now c.args.input.now in
    ends-as unit _ _ _ c.from_residual.result _ c.from_residual.ensures.1
    (header-refused unit c.rules.ensures.accepted c.requires.fault _ _ _ c.as_bytes.result.now _ _ _ made
    (c.as_bytes.ensures.value ∙ c.coupled_header.ensures) c.in_err-put_or_end.ensures.put)

pub returns-in_err-put_first : goal.returns-in_err-put_first
returns-in_err-put_first g c =
    let had = g.K.Sink.shows c.args.out.now in
    let made = begun c.args.calibration.now c.args.input.now c.coupled_controller-controller.result (g.L.Lines.shows c.args.lines.now) c.args.steps.now c.count.result c.sum.result
    c.coupled_controller-controller.ensures c.count.ensures c.count.type_inv c.sum.ensures c.sum.type_inv in
    let header = header-put c.as_bytes.result.now had (g.K.Sink.shows c.put_or_end.new.out) (c.as_bytes.ensures.value ∙ c.coupled_header.ensures) c.in_ok-put_or_end.ensures.put in
    let unit : CoupledUnit = unit_of c.args.calibration.now c.args.input.now in
    ends-as unit _ _ _ c.from_residual-in_err-put_first.result _ c.from_residual-in_err-put_first.ensures.1
    (first-refused unit c.rules.ensures.accepted c.requires.fault _ _ _ c.next_commands-told.result _ _ _ _ made header
    (c.next_commands-told.ensures unit [] c.coupled_controller-controller.ensures) c.in_err-put_first.ensures)

pub loop-taken-init : goal.loop-taken-init
loop-taken-init g c =
    let had = g.K.Sink.shows c.args.out.now in
    let made = begun c.args.calibration.now c.args.input.now c.coupled_controller-controller.result (g.L.Lines.shows c.args.lines.now) c.args.steps.now c.count.result c.sum.result
    c.coupled_controller-controller.ensures c.count.ensures c.count.type_inv c.sum.ensures c.sum.type_inv in
    let header = header-put c.as_bytes.result.now had (g.K.Sink.shows c.put_or_end.new.out) (c.as_bytes.ensures.value ∙ c.coupled_header.ensures) c.in_ok-put_or_end.ensures.put in
    let unit : CoupledUnit = unit_of c.args.calibration.now c.args.input.now in (
      [],
      made,
      first-put unit c.next_commands-told.result had (g.K.Sink.shows c.put_or_end.new.out) (g.K.Sink.shows c.put_first.new.out) header
          (c.next_commands-told.ensures unit [] c.coupled_controller-controller.ensures) c.in_ok-put_first.ensures,
      refl,
      c.next_commands-told.ensures unit [] c.coupled_controller-controller.ensures,
      (let by = c.new-partner.ensures in let same = c.rules.ensures.rules in cc),
    )

-- ---- an answer ----

pub returns-in_err-answer : goal.returns-in_err-answer
returns-in_err-answer g c =
    let unit : CoupledUnit = unit_of c.args.calibration.now c.args.input.now in
    let (answers, made, put, many, told, kt) = c.loop-taken.invariant in
    ends-as unit _ _ _ c.from_residual-in_err-answer.result _ c.from_residual-in_err-answer.ensures.1
    (ends-in_turn unit c.rules.ensures.accepted c.requires.fault answers c.loop-taken.controller _ _ _ _ _ made put _
    (omega (arith, many, c.loop-taken-test.true)) (c.in_err-answer.ensures.next unit answers told (omega (arith, many)) kt))

pub returns-in_default : goal.returns-in_default
returns-in_default g c =
    let unit : CoupledUnit = unit_of c.args.calibration.now c.args.input.now in
    let (answers, made, put, many, told, kt) = c.loop-taken.invariant in
    ends-done unit c.rules.ensures.accepted c.requires.fault answers c.loop-taken.controller _ _ _ _ _ made put
    (subst (λ (o : Option PartnerAnswer). AnswerComes unit answers (change (g.L.Lines.shows c.loop-taken.lines) (g.L.Lines.shows c.next.new.lines)) (Ok o)) c.in_default.is
    (c.in_ok-answer.ensures.next unit answers told (omega (arith, many)) kt))

-- the answer that came, and what its tick made
pub answered_row-row-requires-clause-fewer : goal.answered_row-row-requires-clause-fewer
answered_row-row-requires-clause-fewer g c =
    let (answers, made, put, many, told, kt) = c.loop-taken.invariant in
    omega (arith, made.stands.ticks, many, c.loop-taken-test.true)

pub answered_row-row-requires-clause-coupled : goal.answered_row-row-requires-clause-coupled
answered_row-row-requires-clause-coupled g c =
    let unit : CoupledUnit = unit_of c.args.calibration.now c.args.input.now in
    let (answers, made, put, many, told, kt) = c.loop-taken.invariant in
    let (line, come, is, well) = subst
    (λ (o : Option PartnerAnswer). AnswerComes unit answers (change (g.L.Lines.shows c.loop-taken.lines) (g.L.Lines.shows c.next.new.lines)) (Ok o))
    c.in-Some.is (c.in_ok-answer.ensures.next unit answers told (omega (arith, many)) kt) in
    (unit, answers, line, made.stands, is)

pub returns-in_err-put_row : goal.returns-in_err-put_row
returns-in_err-put_row g c =
    let unit : CoupledUnit = unit_of c.args.calibration.now c.args.input.now in
    let (answers, made, put, many, told, kt) = c.loop-taken.invariant in
    let answer : PartnerAnswer = c.in-Some.answer in
    let came = subst (λ (o : Option PartnerAnswer). AnswerComes unit answers (change (g.L.Lines.shows c.loop-taken.lines) (g.L.Lines.shows c.next.new.lines)) (Ok o))
    c.in-Some.is (c.in_ok-answer.ensures.next unit answers told (omega (arith, many)) kt) in
    let row = c.answered_row-row in
    let good = taken-is_lawful unit answers came.0 answer came.2 in
    let stands = row.ensures.coupled unit answers refl made.stands good in
    let row_is = row.ensures.row unit answers refl made.stands good in
    ends-as unit _ _ _ c.from_residual-in_err-put_row.result _ c.from_residual-in_err-put_row.ensures.1
    (row-refused unit c.rules.ensures.accepted c.requires.fault answers answer row.result c.next_commands-told-in-loop-taken.result row.new.controller _ _ _ _ _ _
    (made-more unit answers answer row.result c.loop-taken.controller row.new.controller _ _ _ _ _ _ made (omega (arith, many, c.loop-taken-test.true)) came stands row_is row.ensures.count row.ensures.weight)
    put row_is (c.next_commands-told-in-loop-taken.ensures unit (answer ∷ answers) stands) c.in_err-put_row.ensures)

pub loop-taken-preserved : goal.loop-taken-preserved
loop-taken-preserved g c =
    let unit : CoupledUnit = unit_of c.args.calibration.now c.args.input.now in
    let (answers, made, put, many, told, kt) = c.loop-taken.invariant in
    let answer : PartnerAnswer = c.in-Some.answer in
    let came = subst (λ (o : Option PartnerAnswer). AnswerComes unit answers (change (g.L.Lines.shows c.loop-taken.lines) (g.L.Lines.shows c.next.new.lines)) (Ok o))
    c.in-Some.is (c.in_ok-answer.ensures.next unit answers told (omega (arith, many)) kt) in
    let row = c.answered_row-row in
    let good = taken-is_lawful unit answers came.0 answer came.2 in
    let stands = row.ensures.coupled unit answers refl made.stands good in
    let row_is = row.ensures.row unit answers refl made.stands good in (
      answer ∷ answers,
      made-more unit answers answer row.result c.loop-taken.controller row.new.controller _ _ _ _ _ _ made (omega (arith, many, c.loop-taken-test.true)) came stands row_is row.ensures.count row.ensures.weight,
      row-put unit answers answer row.result c.next_commands-told-in-loop-taken.result _ _ _ put row_is
          (c.next_commands-told-in-loop-taken.ensures unit (answer ∷ answers) stands) c.in_ok-put_row.ensures,
      omega (arith, many),
      c.next_commands-told-in-loop-taken.ensures unit (answer ∷ answers) stands,
      kt ∙ sym c.next.ensures.kt,
    )

-- ---- behind the last that may come ----

pub returns-in_err-read : goal.returns-in_err-read
returns-in_err-read g c =
    let unit : CoupledUnit = unit_of c.args.calibration.now c.args.input.now in
    let (answers, made, put, many, told, kt) = c.loop-taken.invariant in
    ends-as unit _ _ _ c.from_residual-in_err-read.result _ c.from_residual-in_err-read.ensures.1
    (ends-unread unit c.rules.ensures.accepted c.requires.fault answers c.loop-taken.controller _ _ _ _ _ made put _ c.in_err-read.ensures.read)

pub returns : goal.returns
returns g c =
    let unit : CoupledUnit = unit_of c.args.calibration.now c.args.input.now in
    let (answers, made, put, many, told, kt) = c.loop-taken.invariant in
    ends-full unit c.rules.ensures.accepted c.requires.fault answers c.loop-taken.controller _ _ _ _ _ made put (MOST_ANSWER_BYTES + 1) _ _ c.unless_more.result
    (omega (arith, many, c.loop-taken-test.false, c.loop-taken.auto.taken-end)) c.in_ok-read.ensures.read c.unless_more.ensures
