-- What single rows give: the tick at which the stages are off, and the detection.
use Rattle.std.proofs.Common.{◌≡◌, true, false, None, Some, ap}
use Rattle.std.specs.Prelude.{if◌then◌else◌, option_map}
use Rattle.eg_record.specs.declared.row.Row.{Row}
use Rattle.eg_record.specs.declared.watch.Watch.{Watch}
use Rattle.eg_record.specs.Detection.{first_watch, detected_at}
use Rattle.eg_record.specs.Stages.{is_off, off_at}

pub off_at-none : (row : Row) → is_off row ≡ false → off_at row ≡ None
unfolding off_at
off_at-none row other = ap (λ b. if b then Some row.tick else None) other

pub off_at-off : (row : Row) → is_off row ≡ true → off_at row ≡ Some row.tick
unfolding off_at
off_at-off row off = ap (λ b. if b then Some row.tick else None) off

pub detected_at-none : (row : Row) → first_watch row.found ≡ None → detected_at row ≡ None
unfolding detected_at
detected_at-none row none = ap (option_map (λ watch. (watch, row.tick))) none

pub detected_at-found : (row : Row) (watch : Watch) → first_watch row.found ≡ Some watch → detected_at row ≡ Some (watch, row.tick)
unfolding detected_at
detected_at-found row watch first = ap (option_map (λ watch. (watch, row.tick))) first
