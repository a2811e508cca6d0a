-- Claims 8 and 47: what `table` tells of a run keeps the reaction, the stretch and the peak that `limits`
-- tells.
use Rattle.std.specs.Prelude.{◌≡◌, ℕ, ◌≤◌, true, Option}
use Rattle.eg_answer.specs.Times.{reaction_of}
use Rattle.eg_values.specs.Excess.{ticks_to_confirm, longest_stretch, greatest_excess}
use Rattle.eg_fault.specs.Faults.{IsNoneOrValid, IsListed}
use Rattle.eg_fault.specs.declared.class.Fault.{Fault}
use Rattle.eg_record.specs.declared.facts.Facts.{Facts}
use Rattle.eg_record.specs.declared.reactions.Reactions.{Reactions}
use Rattle.eg_record.specs.Facts.{facts_of}
use Rattle.eg_record.specs.Reactions.{reactions_of}
use Rattle.eg_model.specs.History.{Setting}
use Rattle.eg_model.specs.Reaction.{is_at_once}
use Rattle.eg_laws.specs.InTime.{IsInTime}
use Rattle.eg_laws.specs.MissedTicks.{KeepsMissing}
use Rattle.eg_model.specs.Engines.{BenchEngine}
use Rattle.eg_model.specs.Bench.{Run}
use Rattle.eg_model.specs.Rows.{record_rows}
use Rattle.eg_model.specs.Records.{IsRun}

abbrev pub IsAlwaysAtOnce : Option Fault → Type 0
IsAlwaysAtOnce fault = (tick : ℕ) → is_at_once fault tick ≡ true

-- what `table` tells of a run in this setting
pub record KeepsLimits (s : Setting) (facts : Facts) (reactions : Reactions) : Type 0 where
  -- C62, C65
  pub reaction : IsListed s.fault → IsInTime (reaction_of s.cal.times) reactions
  pub stretch : IsListed s.fault → facts.stretch ≤ longest_stretch s.cal
  pub at_once : IsListed s.fault → IsAlwaysAtOnce s.fault → facts.stretch ≤ ticks_to_confirm s.cal
  -- C102
  pub misses : KeepsMissing s.fault s.cal.times.period →
      IsInTime (reaction_of s.cal.times) reactions × (facts.stretch ≤ longest_stretch s.cal)
  -- C77, under each fault
  pub peak : facts.peak ≤ greatest_excess s.cal

-- claims 47 and 93
abbrev pub RecordsKeepLimits : {E : Type 0} → BenchEngine E → Type 0
RecordsKeepLimits b =
    (r : Run) → IsRun r → IsNoneOrValid r.setting.fault → KeepsLimits r.setting
    (facts_of r.setting.cal.rules.torque r.setting.cal.rules.threshold (record_rows b r))
    (reactions_of r.setting.cal.rules.torque r.setting.cal.rules.threshold (record_rows b r))
