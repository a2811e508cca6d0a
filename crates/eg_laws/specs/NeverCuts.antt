-- C101: throttles that never cut.
use Rattle.std.specs.Prelude.{◌≡◌, ℕ, zero, suc, ◌+◌, ◌≤◌, true, min, max, List, All, None}
use Rattle.eg_num.specs.Arithmetic.{estimate}
use Rattle.eg_num.specs.Interpolation.{curve_at}
use Rattle.eg_plant.specs.PlantParts.{PlantParts}
use Rattle.eg_plant.specs.declared.engine_kind.EngineKind.{EngineKind}
use Rattle.eg_plant.specs.declared.engine_kind.EngineKind.TheVariants as kind
use Rattle.eg_values.specs.Calibration.{CalibrationParts, IsAccepted}
use Rattle.eg_values.specs.Excess.{least_permitted}
use Rattle.eg_record.specs.declared.row.Row.{Row}
use Rattle.eg_record.specs.Spans.{EachDriveSpan}
use Rattle.eg_model.specs.Engines.{BenchEngine, bench_of}
use Rattle.eg_model.specs.Bench.{Run}
use Rattle.eg_model.specs.Rows.{record_rows}
use Rattle.eg_model.specs.Records.{IsRun}

-- the greatest charge up to plate x, or the greatest smoke limit up to boost x
unfoldable pub charge_up_to : PlantParts → ℕ → ℕ
charge_up_to plant zero = curve_at plant.charge 0
charge_up_to plant (suc x) = max (charge_up_to plant x) (curve_at plant.charge (suc x))

-- C101
unfoldable pub load_up_to : EngineKind → PlantParts → ℕ → ℕ
load_up_to kind.Gasoline plant x = charge_up_to plant x
load_up_to kind.Diesel plant x = min x (charge_up_to plant x)

-- C101: its estimate is no excess over the least permitted torque
abbrev pub IsPermittedUpTo : EngineKind → CalibrationParts → ℕ → Type 0
IsPermittedUpTo engine cal x =
    estimate cal.rules.kt (load_up_to engine cal.plant x)
    ≤ least_permitted cal.rules.permit + cal.rules.threshold

abbrev pub AreOn : List Row → Type 0
AreOn rows = All (λ row. row.on ≡ true) rows

abbrev pub NeverCuts : {E : Type 0} → BenchEngine E → CalibrationParts → ℕ → Type 0
NeverCuts b cal x =
    (r : Run) → IsRun r → r.setting.cal ≡ cal → r.setting.fault ≡ None →
    All (λ row. row.throttle ≤ x) (record_rows b r) →
    EachDriveSpan (λ start span. AreOn span) (record_rows b r)

-- claim 90
abbrev pub PermittedThrottlesNeverCut : EngineKind → Type 0
PermittedThrottlesNeverCut engine =
    (cal : CalibrationParts) → IsAccepted cal → (x : ℕ) → IsPermittedUpTo engine cal x →
    NeverCuts (bench_of engine) cal x
