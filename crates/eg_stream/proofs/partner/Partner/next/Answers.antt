use Rattle.std.proofs.Common.{◌≡◌, ◌∙◌, sym, true, arith}
use Rattle.std.proofs.lemmas.Grind.{common_steps}
use Rattle.eg_stream.proofs.PartnerLemmas.{answer-comes, refusal-comes}
use Rattle.eg_stream.proofs.partner.Partner.next.Goals as goal

pub returns-in_err-take-clause-next : goal.returns-in_err-take-clause-next
returns-in_err-take-clause-next g c = λ unit before told number kt.
    let came : c.in_ok-read.field-0 ≡ true = grind (arith, common_steps) in
    let gives = sym (c.take.ensures unit before told number (kt ∙ sym c.read.ensures.kt)) ∙ c.in_err-take.was in
    refusal-comes unit before _ c.read.new.self.line.items c.in_ok-read.field-0 c.in_ok-read.ensures.read came c.in_err-take.field-0.0
    c.from_residual-in_err-take.result c.from_residual-in_err-take.ensures.1 gives

pub returns-clause-next : goal.returns-clause-next
returns-clause-next g c = λ unit before told number kt.
    let came : c.in_ok-read.field-0 ≡ true = grind (arith, common_steps) in
    let gives = sym (c.take.ensures unit before told number (kt ∙ sym c.read.ensures.kt)) ∙ c.in_ok-take.was in
    answer-comes unit before _ c.read.new.self.line.items c.in_ok-read.field-0 c.in_ok-read.ensures.read came c.in_ok-take.field-0 gives
