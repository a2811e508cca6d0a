use Rattle.std.specs.Prelude.{codes}
use Rattle.eg_input.specs.DriveTrace.{trace_headers}
use Rattle.eg_input.proofs.LineOfNumbers.{below-prefix, trace-begins, reset-begins, brake-begins}
use Rattle.eg_input.proofs.row.DriveFileRow.below_header.Goals as goal

pub returns-in-Some : goal.returns-in-Some
returns-in-Some c = below-prefix trace_headers 3 (codes "pedal,speed,raise\n") c.args.bytes.now trace-begins c.in-Some.below c.in-Some.ensures.cases

pub returns-in-Some-strip_prefix : goal.returns-in-Some-strip_prefix
returns-in-Some-strip_prefix c =
    let found = c.in-Some-strip_prefix in
    below-prefix trace_headers 4 (codes "pedal,speed,raise,reset\n") c.args.bytes.now reset-begins found.below found.ensures.cases

pub returns : goal.returns
returns c = below-prefix trace_headers 5 (codes "pedal,speed,raise,reset,brake\n") c.args.bytes.now brake-begins c.in_ok-below.below c.in_ok-below.ensures.cases
