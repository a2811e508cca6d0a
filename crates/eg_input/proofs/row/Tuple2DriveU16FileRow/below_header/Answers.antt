use Rattle.std.proofs.Common.{◌∷◌, []}
use Rattle.std.specs.Prelude.{codes}
use Rattle.eg_input.specs.CheckFile.{check_header}
use Rattle.eg_input.proofs.LineOfNumbers.{below-prefix, check-begins}
use Rattle.eg_input.proofs.row.Tuple2DriveU16FileRow.below_header.Goals as goal

pub returns : goal.returns
returns c = below-prefix (check_header ∷ []) 4 (codes "pedal,speed,raise,torque\n") c.args.bytes.now check-begins c.in_ok-below.below c.in_ok-below.ensures.cases
