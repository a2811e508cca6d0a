use Rattle.std.proofs.Common.{◌≡◌, ◌<◌, ap₂, ◌∙◌, arith}
use Rattle.eg_num.specs.Arithmetic.{quotient_up}
use Rattle.eg_answer.specs.Times.{feeds_to_confirm}
use Rattle.eg_answer.proofs.QuotientLemmas.{div_ceil-quotient_up}
use Rattle.eg_answer.proofs.times.feeds_to_confirm.Goals as goal

pub returns-clause-number : goal.returns-clause-number
unfolding feeds_to_confirm
returns-clause-number c =
    let limit : c.from.result ≡ c.args.weights.now.limit = c.from.ensures ∙ c.limit.ensures.limit in
    let up : c.from-2.result ≡ c.args.weights.now.up = c.from-2.ensures ∙ c.up.ensures.up in
    let positive : 0 < c.from-2.result = omega arith in
    c.div_ceil.ensures ∙ div_ceil-quotient_up c.from.result c.from-2.result positive ∙ ap₂ quotient_up limit up
