-- The record that is made is that of a run that may be asked for.
use Rattle.std.proofs.Common.{ℕ, List, Option}
use Rattle.eg_values.specs.Calibration.{IsAccepted}
use Rattle.eg_word.specs.declared.registers.Trap.{Trap}
use Rattle.eg_record.specs.declared.row.Row.{Row}
use Rattle.eg_model.specs.Engines.{gasoline}
use Rattle.eg_model.specs.Bench.{Run}
use Rattle.eg_model.specs.Records.{IsRun}
use Rattle.eg_model.proofs.WholeRecord.{drive_keeps}
use Rattle.eg_tick.specs.Run.{IsRecordOf}

pub is_run : (r : Run) (rows : List Row) (trap : Option (Trap × ℕ)) → IsAccepted r.setting.cal → IsRecordOf r rows trap → IsRun r
is_run r rows trap accepted made = record {
  accepted = accepted;
  drive = drive_keeps gasoline r made.proper;
}
