-- The exit status of each outcome (F3).
use Rattle.std.specs.Prelude.{ℕ}
use Rattle.eg_outcome.specs.declared.outcome.Outcome.{Outcome}
use Rattle.eg_outcome.specs.declared.outcome.Outcome.TheVariants as outcome

-- F3
abbrev pub status_of : Outcome → ℕ
status_of outcome.Done = 0
status_of outcome.Usage = 2
status_of (outcome.ReadFault _) = 3
status_of (outcome.Refused _) = 4
status_of outcome.WriteFault = 5
status_of outcome.Memory = 6
