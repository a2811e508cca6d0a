use Rattle.eg_input.proofs.LineOfNumbers.{check-line}
use Rattle.eg_input.proofs.row.Tuple2DriveU16FileRow.from_line.Goals as goal

pub returns : goal.returns
returns c =
    check-line c.args.bytes.now _ _ _ _ c.in_ok-new.field-0 c.in_ok-torque.torque c.in_ok-torque.rest.now c.in_ok-pedal.ensures c.in_ok-torque.ensures.begins c.in_ok-new.ensures.1
