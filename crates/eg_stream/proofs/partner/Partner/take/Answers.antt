use Rattle.std.proofs.Common.{◌≡◌, ◌∙◌, sym, ap, refl, true, false, arith, Some, None}
use Rattle.std.specs.Prelude.{◌==◌, Err}
use Rattle.std.proofs.lemmas.Bool.Decides.{nat_tests}
use Rattle.eg_input.specs.Answering.{answer_of}
use Rattle.eg_tick.specs.Commanding.{commanded_at}
use Rattle.eg_stream.specs.Coupled.{NoAnswer, LoadBelowTorque, TorqueWhileOff, entries_by, covers}
use Rattle.eg_stream.proofs.PartnerLemmas.{taken-none, taken-judged, taken-still, refuses, gives}
use Rattle.eg_stream.proofs.partner.Partner.take.Goals.{else-torque-ne0-via-then-torque-ne0+else-not-is_on, else-torque-ne0-via-else-torque-ne0}
use Rattle.eg_stream.proofs.partner.Partner.take.Goals as goal

pub returns-in_default : goal.returns-in_default
returns-in_default c = λ unit before told number kt.
    let line = c.args.self.now.line.items in
    let none : answer_of line ≡ None = ap answer_of (sym c.deref.ensures.value) ∙ sym c.answer_of.ensures ∙ c.in_default.is in
    refuses unit before line c.args.number NoAnswer number (taken-none unit before line none)

pub returns-then-not-covers : goal.returns-then-not-covers
returns-then-not-covers c = λ unit before told number kt.
    let line = c.args.self.now.line.items in
    let some : answer_of line ≡ Some c.in-Some.answer = ap answer_of (sym c.deref.ensures.value) ∙ sym c.answer_of.ensures ∙ c.in-Some.is in
    let below : covers unit.setting.cal.rules.kt c.in-Some.answer.told ≡ false = ap (λ n. covers n c.in-Some.answer.told) kt ∙ sym c.covers.ensures ∙ c.if-not-covers.true in
    ap Err c.refused.ensures
    ∙ refuses unit before line c.args.number LoadBelowTorque number
    (taken-judged unit before line c.in-Some.answer false _ _ some below refl refl)

pub returns-then-not-is_on : goal.returns-then-not-is_on
returns-then-not-is_on c = λ unit before told number kt.
    let line = c.args.self.now.line.items in
    let some : answer_of line ≡ Some c.in-Some.answer = ap answer_of (sym c.deref.ensures.value) ∙ sym c.answer_of.ensures ∙ c.in-Some.is in
    let covered : covers unit.setting.cal.rules.kt c.in-Some.answer.told ≡ true = ap (λ n. covers n c.in-Some.answer.told) kt ∙ sym c.covers.ensures ∙ c.if-not-covers.false in
    let off : (commanded_at unit.setting c.in-Some.answer.drive (entries_by unit before)).on ≡ false =
    sym (c.is_on.ensures unit.setting (entries_by unit before) told) ∙ (grind (arith, c.if-not-is_on.true)) in
    let some_torque : (c.in-Some.answer.told.torque == 0) ≡ false = grind (arith, nat_tests) in
    ap Err c.refused-then-not-is_on.ensures
    ∙ refuses unit before line c.args.number TorqueWhileOff number
    (taken-judged unit before line c.in-Some.answer true false false some covered off some_torque)

pub returns : goal.returns
returns c = λ unit before told number kt.
    let line = c.args.self.now.line.items in
    let some : answer_of line ≡ Some c.in-Some.answer = ap answer_of (sym c.deref.ensures.value) ∙ sym c.answer_of.ensures ∙ c.in-Some.is in
    let covered : covers unit.setting.cal.rules.kt c.in-Some.answer.told ≡ true = ap (λ n. covers n c.in-Some.answer.told) kt ∙ sym c.covers.ensures ∙ c.if-not-covers.false in
    gives unit before line c.in-Some.answer (elim c.else-torque-ne0.branch [
      | else-torque-ne0-via-then-torque-ne0+else-not-is_on w ↦ taken-judged unit before line c.in-Some.answer true true _ some covered
          (sym (w.is_on.ensures unit.setting (entries_by unit before) told) ∙ (grind (arith, w.if-not-is_on.false))) refl
      | else-torque-ne0-via-else-torque-ne0 w ↦ (let none : (c.in-Some.answer.told.torque == 0) ≡ true = grind (arith, nat_tests) in
          taken-still unit before line c.in-Some.answer some covered none)
    ])
