-- C96: how long the permitted torque can lie above the demand, and how far.
use Rattle.std.specs.Prelude.{◌≡◌, ℕ, ◌*◌, ◌-◌, ◌≤◌, true, Bool, nat_lt, List, ◌∷◌, ◌++◌, All, map, take, length, Some, None}
use Rattle.std.specs.List.{list_all}
use Rattle.eg_torque.specs.declared.ramp.TheConstants.{NO_RAMP}
use Rattle.eg_answer.specs.declared.rules.Rules.{Rules}
use Rattle.eg_values.specs.Calibration.{CalibrationParts}
use Rattle.eg_values.specs.Excess.{least_permitted, greatest_permitted, ramp_ticks}
use Rattle.eg_fault.specs.Faults.{IsNoneOrValid}
use Rattle.eg_record.specs.declared.row.Row.{Row}
use Rattle.eg_record.specs.Spans.{EachDriveSpan}
use Rattle.eg_model.specs.Moments.{demand_at}
use Rattle.eg_model.specs.Engines.{BenchEngine}
use Rattle.eg_model.specs.Bench.{Run}
use Rattle.eg_model.specs.Rows.{record_rows}
use Rattle.eg_model.specs.Records.{IsRun}

unfoldable pub is_on_ramp : CalibrationParts → Row → Bool
is_on_ramp cal row = nat_lt (demand_at cal row.drive) row.limit

-- it lies above the demand at each of the last n rows
pub record RampLasts (cal : CalibrationParts) (n : ℕ) (rows : List Row) : Type 0 where
  pub within : n ≤ length rows
  pub each : list_all (λ above. above) (take n (map (is_on_ramp cal) rows)) ≡ true

-- C96: for fewer ticks than the ramp takes, or for none if that is 0
abbrev pub RampIsShort : CalibrationParts → (start : ℕ) → List Row → Type 0
RampIsShort cal start rows =
    (later before : List Row) (n ticks : ℕ) → rows ≡ later ++ before →
    All (λ row. row.drive.raise ≤ greatest_permitted cal.rules.permit) before →
    ramp_ticks cal.rules ≡ Some ticks → RampLasts cal n before → n ≤ ticks - 1

-- C96
abbrev pub RampComesDown : CalibrationParts → (start : ℕ) → List Row → Type 0
RampComesDown cal start rows =
    (later before : List Row) (row : Row) (n : ℕ) → rows ≡ later ++ row ∷ before →
    All (λ row. row.drive.raise ≤ greatest_permitted cal.rules.permit) (row ∷ before) →
    RampLasts cal n (row ∷ before) →
    row.limit - demand_at cal row.drive
    ≤ greatest_permitted cal.rules.permit - least_permitted cal.rules.permit - n * cal.rules.fall

-- F40
abbrev pub NoRampTakesNoTick : Type 0
NoRampTakesNoTick = (rules : Rules) → rules.fall ≡ NO_RAMP → ramp_ticks rules ≡ Some 0

abbrev pub LevelRampHasNoEnd : Type 0
LevelRampHasNoEnd = (rules : Rules) → rules.fall ≡ 0 → ramp_ticks rules ≡ None

-- claim 73
abbrev pub RecordsLeaveRamps : {E : Type 0} → BenchEngine E → Type 0
RecordsLeaveRamps b =
    (r : Run) → IsRun r → IsNoneOrValid r.setting.fault →
    EachDriveSpan (RampIsShort r.setting.cal) (record_rows b r)

abbrev pub RecordsComeDownRamps : {E : Type 0} → BenchEngine E → Type 0
RecordsComeDownRamps b =
    (r : Run) → IsRun r → IsNoneOrValid r.setting.fault →
    EachDriveSpan (RampComesDown r.setting.cal) (record_rows b r)

-- C95, without a ramp
abbrev pub RecordsPermitDemand : {E : Type 0} → BenchEngine E → Type 0
RecordsPermitDemand b =
    (r : Run) → r.setting.cal.rules.fall ≡ NO_RAMP →
    All (λ row. row.limit ≡ demand_at r.setting.cal row.drive) (record_rows b r)
