-- What the bytes of a campaign (F15, F17) and of a trace (F9, F11) say, or their first refusal.
use Rattle.std.specs.Prelude.{◌≡◌, ℕ, ◌≤◌, List, length, All, Result, Ok}
use Rattle.eg_num.specs.Drive.{DriveRow, IsDrive}
use Rattle.eg_toml.specs.Documents.{document_of}
use Rattle.eg_input.specs.Records.{records_of}
use Rattle.eg_input.specs.DriveTrace.{drive_rows}
use Rattle.eg_plan.specs.Campaign.{campaign_of}
use Rattle.eg_plan.specs.declared.key.CampaignFault.{CampaignFault}
use Rattle.eg_plan.specs.declared.run.RunPlan.{RunPlan}
use Rattle.eg_outcome.specs.Reads.{refused, sized}
use Rattle.eg_outcome.specs.declared.outcome.Refusal.{Refusal}
use Rattle.eg_outcome.specs.declared.outcome.Refusal.TheVariants as refusal
use Rattle.eg_outcome.specs.declared.outcome.Role.TheVariants as role

unfoldable pub campaign_said : List ℕ → Result (List RunPlan) CampaignFault
campaign_said bytes = campaign_of (document_of bytes)

abbrev pub campaign_or_refusal : List ℕ → Result (List RunPlan) Refusal
campaign_or_refusal bytes = refused refusal.Campaign (campaign_said bytes)

-- F9, F11: these bytes say this drive, and the drive may be played
pub record IsTraceOf (bytes : List ℕ) (drive : List DriveRow) : Type 0 where
  pub says : drive_rows (records_of bytes) ≡ Ok drive
  pub some : 1 ≤ length drive
  pub most : length drive ≤ 20000
  pub within : All IsDrive drive

abbrev pub trace_or_refusal : ℕ → List ℕ → Result (List DriveRow) Refusal
trace_or_refusal n bytes = refused (refusal.Trace n) (drive_rows (records_of bytes))

-- ---- with the refusal of the file's size ----

-- F17
abbrev pub campaign_file : List ℕ → Result (List RunPlan) Refusal
campaign_file = sized role.Campaign campaign_or_refusal

-- F11, of the trace of run n
abbrev pub trace_file : ℕ → List ℕ → Result (List DriveRow) Refusal
trace_file n = sized (role.Trace n) (trace_or_refusal n)
