-- What `check` prints (C76). The rows of a check file are the ticks of one drive span.
use Rattle.std.specs.Prelude.{ℕ, List, [], ◌∷◌, ◌++◌, Bool, codes, decimal, Option, Some, None, Result}
use Rattle.eg_num.specs.Drive.{DriveRow}
use Rattle.eg_torque.specs.Permit.{drive_permits}
use Rattle.eg_torque.specs.Ramp.{ramped}
use Rattle.eg_torque.specs.Excess.{is_excess}
use Rattle.eg_input.specs.CheckFile.{CheckRow, check_rows}
use Rattle.eg_input.specs.Records.{records_of}
use Rattle.eg_answer.specs.declared.rules.Rules.{Rules}
use Rattle.eg_outcome.specs.Reads.{refused, sized}
use Rattle.eg_outcome.specs.declared.outcome.Refusal.{Refusal}
use Rattle.eg_outcome.specs.declared.outcome.Refusal.TheVariants as refusal
use Rattle.eg_outcome.specs.declared.outcome.Role.TheVariants as role

-- C95: the permitted torque of a row, from `before`, that of the row before it
abbrev pub row_permits : Rules → ℕ → DriveRow → ℕ
row_permits rules before drive = ramped rules.fall before (drive_permits rules.permit drive)

-- C7: whether each row has an excess, in the file's order. `before` is the permitted torque before the first
-- row.
unfoldable pub excesses_from : Rules → ℕ → List CheckRow → List Bool
excesses_from rules before [] = []
excesses_from rules before (row ∷ rows) =
    is_excess row.1 (row_permits rules before row.0) rules.threshold
    ∷ excesses_from rules (row_permits rules before row.0) rows

-- C95: before the first row nothing is permitted
abbrev pub excesses : Rules → List CheckRow → List Bool
excesses rules rows = excesses_from rules 0 rows

-- C76, F1
abbrev pub check_line : Option ℕ → List ℕ
check_line None = codes "none\n"
check_line (Some tick) = codes "torque " ++ decimal tick ++ codes "\n"

abbrev pub check_or_refusal : List ℕ → Result (List CheckRow) Refusal
check_or_refusal bytes = refused refusal.Check (check_rows (records_of bytes))

-- F11
abbrev pub check_file : List ℕ → Result (List CheckRow) Refusal
check_file = sized role.Check check_or_refusal
