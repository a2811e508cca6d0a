use Rattle.std.proofs.Common.{refl, ap, option_map}
use Rattle.eg_cal.specs.declared.key.CalFault.TheVariants as fault
use Rattle.eg_cal.proofs.TogetherLemmas.{falling_row-none, falling_row-some}
use Rattle.eg_cal.proofs.reader.permit_of.Goals as goal

pub returns-in-Ok : goal.returns-in-Ok
returns-in-Ok c = (ap (option_map fault.Rising) (falling_row-none _ (c.in-Ok.ensures.accepted.0 refl)), c.in-Ok.ensures.kept)

pub returns-in-Err : goal.returns-in-Err
returns-in-Err c = ap (option_map fault.Rising) (falling_row-some _ _ c.in-Err.ensures.refused)
