use Rattle.std.proofs.Common.{◌≡◌, ap₂, ◌∙◌, arith}
use Rattle.eg_num.specs.Arithmetic.{quotient_up}
use Rattle.eg_answer.specs.Times.{periods_to_confirm}
use Rattle.eg_answer.proofs.QuotientLemmas.{div_ceil-quotient_up}
use Rattle.eg_answer.proofs.times.periods_to_confirm.Goals as goal

pub returns-clause-number : goal.returns-clause-number
unfolding periods_to_confirm
returns-clause-number c =
    let period : c.from.result ≡ c.args.times.now.period = c.from.ensures ∙ c.period.ensures.period in
    c.div_ceil.ensures ∙ div_ceil-quotient_up c.feeds_to_confirm-runs.result c.from.result (omega arith)
    ∙ ap₂ quotient_up c.feeds_to_confirm-runs.ensures.number period
