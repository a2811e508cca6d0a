-- What comes of the files of runs: they are read in the order of F4, and the sum of their ticks is limited
-- (F18).
use Rattle.std.specs.Prelude.{◌≡◌, ℕ, ◌+◌, List, [], ◌∷◌, length, Option, Some, None, Result, Ok, Err}
use Rattle.eg_base.specs.Outside.{ShownStore}
use Rattle.eg_num.specs.Drive.{DriveRow}
use Rattle.eg_plan.specs.Ticks.{sum_with}
use Rattle.eg_plan.specs.declared.key.CampaignFault.{CampaignFault}
use Rattle.eg_plan.specs.declared.run.RunPlan.{RunPlan}
use Rattle.eg_plan.specs.declared.run_input.RunInput.{RunInput}
use Rattle.eg_outcome.specs.Changes.{Change, MeetsNoFault}
use Rattle.eg_outcome.specs.Outcomes.{Then}
use Rattle.eg_outcome.specs.Reads.{FileComes, ReadComes, Finds, Accepts}
use Rattle.eg_outcome.specs.declared.outcome.Outcome.{Outcome}
use Rattle.eg_outcome.specs.declared.outcome.Outcome.TheVariants as outcome
use Rattle.eg_outcome.specs.declared.outcome.Refusal.{Refusal}
use Rattle.eg_outcome.specs.declared.outcome.Refusal.TheVariants as refusal
use Rattle.eg_outcome.specs.declared.outcome.Role.TheVariants as role
use Rattle.eg_outcome.specs.declared.end.End.{End}
use Rattle.eg_outcome.specs.Images.{image_file}
use Rattle.eg_outcome.specs.Campaigns.{trace_file}

-- ---- one run ----

abbrev pub input_of : RunPlan → List DriveRow → List ℕ → RunInput
input_of plan drive words = record { plan = plan; drive = drive; image = words }

-- once the drive of run n is known, its image is read
abbrev pub ImageComes :
    Change ShownStore → ℕ → RunPlan → List DriveRow → Result RunInput Outcome → Type 0
ImageComes store n plan drive come = (image : Result (List ℕ) Outcome)
    × FileComes (role.Image n) (image_file n) plan.image store image
    × Then (λ words made. made ≡ Ok (input_of plan drive words)) image come

-- a count of ticks is refused before the image is read (F4)
abbrev pub TicksCome : Option Refusal → Change ShownStore → ℕ → RunPlan → List DriveRow
    → Result RunInput Outcome → Type 0
TicksCome (Some r) store n plan drive come = (come ≡ Err (outcome.Refused r)) × MeetsNoFault store
TicksCome None store n plan drive come = ImageComes store n plan drive come

-- F4: first the trace of run n, then its image. `refuses` says which counts of ticks are refused.
abbrev pub InputComes :
    (ℕ → Option Refusal) → Change ShownStore → ℕ → RunPlan → Result RunInput Outcome → Type 0
InputComes refuses store n plan come = (trace : Result (List DriveRow) Outcome)
    × FileComes (role.Trace n) (trace_file n) plan.trace store trace
    × Then (λ drive made. TicksCome (refuses (length drive)) store n plan drive made) trace come

-- ---- all runs of a campaign ----

abbrev pub refusal_in : Result ℕ CampaignFault → Option Refusal
refusal_in (Ok sum) = None
refusal_in (Err fault) = Some (refusal.Campaign fault)

-- F18; `sum` is the ticks of the runs before run n
abbrev pub too_many : ℕ → ℕ → ℕ → Option Refusal
too_many sum n count = refusal_in (sum_with sum n count)

-- without a sum no count is refused
abbrev pub refusing : Option ℕ → ℕ → ℕ → Option Refusal
refusing (Some sum) n count = too_many sum n count
refusing None n count = None

-- a result, of whose end only the outcome is kept
abbrev pub outcomes : {X : Type 0} → Result X End → Result X Outcome
outcomes (Ok x) = Ok x
outcomes (Err end) = Err end.outcome

-- F4, F18: the inputs of the runs from run n on; `sum` is the ticks of the runs before
abbrev pub InputsCome :
    Change ShownStore → ℕ → ℕ → List RunPlan → Result (List RunInput) Outcome → Type 0
InputsCome store n sum [] come = come ≡ Ok []
InputsCome store n sum (plan ∷ plans) come = (first : Result RunInput Outcome)
    × InputComes (too_many sum n) store n plan first
    × Then (λ input made. (rest : Result (List RunInput) Outcome)
    × InputsCome store (n + 1) (sum + length input.drive) plans rest
    × Then (λ inputs all. all ≡ Ok (input ∷ inputs)) rest made) first come

-- ---- when they are there, and when they are accepted ----

abbrev pub FindsInput : Change ShownStore → RunPlan → Type 0
FindsInput store plan = Finds plan.trace store × Finds plan.image store

-- whatever reads of the files of run n may give is accepted, and so is each count of ticks
abbrev pub AcceptsInput : (ℕ → Option Refusal) → ShownStore → ℕ → RunPlan → Type 0
AcceptsInput refuses store n plan = Accepts (trace_file n) plan.trace store
    × Accepts (image_file n) plan.image store × ((drive : List DriveRow)
    → ReadComes (trace_file n) plan.trace store (Ok drive) → refuses (length drive) ≡ None)

abbrev pub FindsRuns : Change ShownStore → List RunPlan → Type 0
FindsRuns store [] = Unit {0}
FindsRuns store (plan ∷ plans) = FindsInput store plan × FindsRuns store plans

-- whatever reads of the files of the runs from run n on may give is accepted (F18); `sum` is the ticks of the
-- runs before
abbrev pub AcceptsRuns : ShownStore → ℕ → ℕ → List RunPlan → Type 0
AcceptsRuns store n sum [] = Unit {0}
AcceptsRuns store n sum (plan ∷ plans) = AcceptsInput (too_many sum n) store n plan
    × ((drive : List DriveRow) → ReadComes (trace_file n) plan.trace store (Ok drive)
    → AcceptsRuns store (n + 1) (sum + length drive) plans)
