-- What `margins` tells by one limit of the torque's weights says by which lower limits `torque` finds
-- something (C98).
use Rattle.std.specs.Prelude.{◌↔◌, ℕ, ◌+◌, ◌≤◌, ◌<◌}
use Rattle.eg_values.specs.Calibration.{IsAccepted}
use Rattle.eg_record.specs.declared.watch.Watch.TheVariants as watch
use Rattle.eg_model.specs.Engines.{BenchEngine}
use Rattle.eg_model.specs.Bench.{Run}
use Rattle.eg_model.specs.Rows.{record_rows}
use Rattle.eg_tick.specs.Margins.{record_margins}
use Rattle.eg_laws.specs.WeightLimits.{torque_limited, run_in}
use Rattle.eg_play.specs.InWords.{IsFoundIn}

-- the greatest weight of the torque that `margins` tells of a run by this limit
abbrev pub weight_by : {E : Type 0} → BenchEngine E → (limit : ℕ) → Run → ℕ
weight_by b limit r = (record_margins b (run_in (torque_limited limit r.setting) r)).greatest.torque

-- `torque` finds something in a run by this limit
abbrev pub IsFoundBy : {E : Type 0} → BenchEngine E → (limit : ℕ) → Run → Type 0
IsFoundBy b limit r = IsFoundIn watch.Torque (record_rows b (run_in (torque_limited limit r.setting) r))

-- C98
abbrev pub RecordsTellLimits : {E : Type 0} → BenchEngine E → Type 0
RecordsTellLimits b =
    (r : Run) → IsAccepted r.setting.cal → (tried limit : ℕ) → 1 ≤ limit → limit ≤ tried → tried ≤ 10000 →
    (limit ≤ weight_by b tried r) ↔ IsFoundBy b limit r

-- C98: one more than the weight is the least limit by which `torque` finds nothing. By each limit below,
-- `torque` finds something.
pub record IsLeastLimit {E : Type 0} (b : BenchEngine E) (r : Run) (tried : ℕ) : Type 0 where
  pub from_there : (limit : ℕ) → weight_by b tried r + 1 ≤ limit → limit ≤ 10000 → ¬ IsFoundBy b limit r
  pub below : (limit : ℕ) → 1 ≤ limit → limit < weight_by b tried r + 1 → IsFoundBy b limit r

-- C98, with this limit
abbrev pub RecordsTellLeastLimit : {E : Type 0} → BenchEngine E → Type 0
RecordsTellLeastLimit b =
    (r : Run) → IsAccepted r.setting.cal → (tried : ℕ) → tried ≤ 10000 → weight_by b tried r < tried →
    IsLeastLimit b r tried
