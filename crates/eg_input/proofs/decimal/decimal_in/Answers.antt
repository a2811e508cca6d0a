use Rattle.std.proofs.Common.{arith}
use Rattle.std.proofs.lemmas.Grind.{common_steps}
use Rattle.eg_input.proofs.DecimalLemmas.{product_fits, sum_fits}
use Rattle.eg_input.proofs.decimal.decimal_in.Goals as goal

pub overflow_mul-value : goal.overflow_mul-value
overflow_mul-value c = product_fits _ _ c.loop-byte.invariant.small (omega arith)

pub overflow_add-value : goal.overflow_add-value
overflow_add-value c =
    let single = c.if-not-is_ascii_digit.ensures.cases in let written = c.from.ensures in
    sum_fits _ _ _ c.loop-byte.invariant.small (omega arith) (grind (arith, common_steps, single, written))
