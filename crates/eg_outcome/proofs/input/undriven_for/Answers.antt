use Rattle.std.proofs.Common.{refl, ap, Err}
use Rattle.eg_outcome.specs.declared.outcome.Outcome.TheVariants as outcome
use Rattle.eg_outcome.proofs.input.undriven_for.Goals as goal

-- there was no memory even for no rows, and so no file was read
pub returns-in-Err-clause-comes : goal.returns-in-Err-clause-comes
returns-in-Err-clause-comes g c = (Err outcome.Memory, refl, ap (λ o. Err o) c.ended.ensures.outcome)
