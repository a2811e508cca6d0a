-- Claim 8: the longest reaction told of a run is at most R, and one is told if the run is settled.
use Rattle.std.specs.Prelude.{◌≡◌, ℕ, ◌≤◌, true, is_some, Option, Some, IfSome}
use Rattle.eg_answer.specs.Times.{reaction_of}
use Rattle.eg_fault.specs.Faults.{IsListed}
use Rattle.eg_record.specs.declared.reactions.Reactions.{Reactions}
use Rattle.eg_record.specs.Reactions.{reactions_of, is_settled}
use Rattle.eg_model.specs.Engines.{BenchEngine}
use Rattle.eg_model.specs.Bench.{Run}
use Rattle.eg_model.specs.Rows.{record_rows}
use Rattle.eg_model.specs.Records.{IsRun}

abbrev pub IsWithin : (bound : ℕ) → Option ℕ → Type 0
IsWithin bound reaction = IfSome reaction (λ ticks. ticks ≤ bound)

-- `bound` is a number of ticks
pub record IsInTime (bound : ℕ) (reactions : Reactions) : Type 0 where
  pub within : IsWithin bound reactions.longest
  -- C81: a settled run with a confirmed true excess has a longest reaction
  pub told : is_settled bound reactions ≡ true → (ticks : ℕ) → reactions.followed ≡ Some ticks →
      is_some reactions.longest ≡ true

-- claim 8
abbrev pub RecordsReactInTime : {E : Type 0} → BenchEngine E → Type 0
RecordsReactInTime b =
    (r : Run) → IsRun r → IsListed r.setting.fault →
    IsInTime (reaction_of r.setting.cal.times)
    (reactions_of r.setting.cal.rules.torque r.setting.cal.rules.threshold (record_rows b r))
