use Rattle.std.proofs.Common.{arith}
use Rattle.std.proofs.lemmas.Grind.{common_steps}
use Rattle.eg_input.proofs.FieldLemmas.{drive_at-new}
use Rattle.eg_input.proofs.row.drive_at.Goals as goal

pub returns : goal.returns
returns c =
    drive_at-new _ c.in_ok-pedal.pedal c.in_ok-speed.speed c.in_ok-raise.raise c.in_ok-reset.field-0 c.in_ok-brake.field-0 _ _ c.new.result
    (grind (arith, common_steps)) (grind (arith, common_steps)) (grind (arith, common_steps)) c.in_ok-reset.was c.in_ok-brake.was c.new.ensures
