-- The role of the file that an outcome speaks of, if it speaks of one (F6).
use Rattle.std.specs.Prelude.{Option, Some, None}
use Rattle.eg_outcome.specs.declared.outcome.Outcome.{Outcome}
use Rattle.eg_outcome.specs.declared.outcome.Outcome.TheVariants as outcome
use Rattle.eg_outcome.specs.declared.outcome.Refusal.TheVariants as refusal
use Rattle.eg_outcome.specs.declared.outcome.Role.{Role}
use Rattle.eg_outcome.specs.declared.outcome.Role.TheVariants as role

abbrev pub role_in : Outcome → Option Role
role_in (outcome.ReadFault file) = Some file
role_in (outcome.Refused (refusal.Size file)) = Some file
role_in (outcome.Refused (refusal.Calibration _)) = Some role.Calibration
role_in (outcome.Refused (refusal.Check _)) = Some role.Check
role_in (outcome.Refused (refusal.Answer _)) = Some role.Check
role_in (outcome.Refused (refusal.Campaign _)) = Some role.Campaign
role_in (outcome.Refused (refusal.Trace n _)) = Some (role.Trace n)
role_in (outcome.Refused (refusal.Image n _)) = Some (role.Image n)
role_in (outcome.Refused (refusal.Source _)) = Some role.Source
role_in (outcome.Refused refusal.NoRun) = None
role_in (outcome.Refused refusal.Grid) = None
role_in outcome.Done = None
role_in outcome.Usage = None
role_in outcome.WriteFault = None
role_in outcome.Memory = None
