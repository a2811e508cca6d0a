-- What comes of a campaign and of the files of its runs (F4).
use Rattle.std.specs.Prelude.{◌≡◌, ℕ, Bool, true, false, map, ◌+◌, ◌-◌, length, List, [], ◌∷◌, Option, Some, None, option_map, Result, Ok, Err, IsSome, IsTrue, IfErr, slice_get, bytes_eq, if◌then◌else◌}
use Rattle.eg_base.specs.Outside.{ShownStore, IsMissing}
use Rattle.eg_num.specs.Drive.{DriveRow}
use Rattle.eg_plan.specs.declared.run.RunPlan.{RunPlan}
use Rattle.eg_plan.specs.declared.run_input.RunInput.{RunInput}
use Rattle.eg_outcome.specs.Changes.{Change, MeetsNoFault}
use Rattle.eg_outcome.specs.Files.{AreRead}
use Rattle.eg_outcome.specs.Outcomes.{Then, TellsNoMemory}
use Rattle.eg_outcome.specs.Roles.{role_in}
use Rattle.eg_outcome.specs.Images.{image_file}
use Rattle.eg_outcome.specs.Reads.{FileComes, ReadComes, Finds, Accepts, KeepsFiles}
use Rattle.eg_outcome.specs.declared.outcome.Outcome.{Outcome}
use Rattle.eg_outcome.specs.declared.outcome.Outcome.TheVariants as outcome
use Rattle.eg_outcome.specs.declared.outcome.Refusal.TheVariants as refusal
use Rattle.eg_outcome.specs.declared.outcome.Role.{Role}
use Rattle.eg_outcome.specs.declared.outcome.Role.TheVariants as role
use Rattle.eg_table.specs.Grid.{is_too_large}
use Rattle.eg_outcome.specs.Campaigns.{campaign_file, trace_file}
use Rattle.eg_outcome.specs.declared.end.End.{End}
use Rattle.eg_plan.specs.Playable.{IsPlayable}
use Rattle.eg_outcome.specs.Inputs.{ImageComes, InputComes, InputsCome, FindsInput, AcceptsInput, outcomes}

-- ---- which runs are played ----

-- F3, F4, of `run`, `table` and `margins`
abbrev pub RunsCome : (campaign : List ℕ) → Change ShownStore → Result (List RunInput) Outcome → Type 0
RunsCome campaign store come = (plans : Result (List RunPlan) Outcome)
    × FileComes role.Campaign campaign_file campaign store plans
    × Then (λ found made. InputsCome store 1 0 found made) plans come

-- the first run of this name, with its number; the first run of the list has number n
abbrev pub run_named : List ℕ → ℕ → List RunPlan → Option (ℕ × RunPlan)
run_named name n [] = None
run_named name n (plan ∷ plans) =
    if bytes_eq plan.name name then Some (n, plan) else run_named name (n + 1) plans

-- the campaign is read, and has this as its first run of that name
abbrev pub FindsNamed : (campaign name : List ℕ) → ShownStore → ℕ × RunPlan → Type 0
FindsNamed campaign name store found = (plans : List RunPlan)
    × ReadComes campaign_file campaign store (Ok plans) × (run_named name 1 plans ≡ Some found)

-- F4: there is no such run, or its files are read. No count of ticks is refused here (F18).
abbrev pub FoundComes : Option (ℕ × RunPlan) → Change ShownStore → Result RunInput Outcome → Type 0
FoundComes None store come = (come ≡ Err (outcome.Refused refusal.NoRun)) × MeetsNoFault store
FoundComes (Some found) store come = InputComes (λ count. None) store found.0 found.1 come

-- F4, of `record`
abbrev pub NamedComes : (campaign name : List ℕ) → Change ShownStore → Result RunInput Outcome → Type 0
NamedComes campaign name store come = (plans : Result (List RunPlan) Outcome)
    × FileComes role.Campaign campaign_file campaign store plans
    × Then (λ found made. FoundComes (run_named name 1 found) store made) plans come

-- F4, Grid
abbrev pub GridComes : (is_too_large : Bool) → Change ShownStore → RunInput → Result RunInput Outcome → Type 0
GridComes true store input come = (come ≡ Err (outcome.Refused refusal.Grid)) × MeetsNoFault store
GridComes false store input come = come ≡ Ok input

-- F4, of `sweep`
abbrev pub SweptComes :
    (campaign name : List ℕ) → (step : ℕ) → Change ShownStore → Result RunInput Outcome → Type 0
SweptComes campaign name step store come = (input : Result RunInput Outcome)
    × NamedComes campaign name store input
    × Then (λ one made. GridComes (is_too_large (length one.drive) step) store one made) input come

-- ---- the run of a sweep ----

-- a run that may be played, and whose grid isn't too large
pub record IsSweepable (step : ℕ) (input : RunInput) : Type 0 where
  pub playable : IsPlayable input
  pub grid : is_too_large (length input.drive) step ≡ false

abbrev pub without_reset : DriveRow → DriveRow
without_reset row = record row { reset = false }

-- C91
abbrev pub without_resets : RunInput → RunInput
without_resets input = record input { drive = map without_reset input.drive }

-- ---- a run whose drive and engine come from elsewhere ----

-- F4: there is no such run, or its image is read, and no trace
abbrev pub FoundUndriven : Option (ℕ × RunPlan) → Change ShownStore → Result RunInput Outcome → Type 0
FoundUndriven None store come = (come ≡ Err (outcome.Refused refusal.NoRun)) × MeetsNoFault store
FoundUndriven (Some found) store come = ImageComes store found.0 found.1 [] come

-- F4, of `couple`
abbrev pub UndrivenComes : (campaign name : List ℕ) → Change ShownStore → Result RunInput Outcome → Type 0
UndrivenComes campaign name store come = (plans : Result (List RunPlan) Outcome)
    × FileComes role.Campaign campaign_file campaign store plans
    × Then (λ found made. FoundUndriven (run_named name 1 found) store made) plans come

-- ---- when the work is done ----

-- the run is there, its files are found, and whatever reads of them may give is accepted
abbrev pub AcceptsNamed : Change ShownStore → Option (ℕ × RunPlan) → Type 0
AcceptsNamed store None = ⊥
AcceptsNamed store (Some found) =
    FindsInput store found.1 × AcceptsInput (λ count. None) store.before found.0 found.1

-- the run is there, its image is found, and whatever a read of it may give is accepted
abbrev pub AcceptsUndriven : Change ShownStore → Option (ℕ × RunPlan) → Type 0
AcceptsUndriven store None = ⊥
AcceptsUndriven store (Some found) =
    Finds found.1.image store × Accepts (image_file found.0) found.1.image store.before

-- whatever the trace of this run may say, the grid over it isn't too large
abbrev pub AcceptsGrid : (step : ℕ) → ShownStore → Option (ℕ × RunPlan) → Type 0
AcceptsGrid step store None = ⊥
AcceptsGrid step store (Some found) = (drive : List DriveRow)
    → ReadComes (trace_file found.0) found.1.trace store (Ok drive) → is_too_large (length drive) step ≡ false

-- ---- the name of a file of a run ----

-- the name that the campaign gives to a trace or image of its runs
abbrev pub name_in : List RunPlan → Role → Option (List ℕ)
name_in plans (role.Trace n) = option_map (λ plan. plan.trace) (slice_get plans (n - 1))
name_in plans (role.Image n) = option_map (λ plan. plan.image) (slice_get plans (n - 1))
name_in plans _ = None

abbrev pub name_by : RunPlan → Option Role → Option (List ℕ)
name_by plan (Some (role.Trace n)) = Some plan.trace
name_by plan (Some (role.Image n)) = Some plan.image
name_by plan _ = None

abbrev pub name_for : List RunPlan → Option Role → Option (List ℕ)
name_for plans (Some file) = name_in plans file
name_for plans None = None

-- if the role is a run's, it is that of run n
abbrev pub IsOf : ℕ → Option Role → Type 0
IsOf n (Some (role.Trace run)) = run ≡ n
IsOf n (Some (role.Image run)) = run ≡ n
IsOf n _ = Unit {0}

-- the role isn't a run's
abbrev pub IsNotOfRun : Option Role → Type 0
IsNotOfRun (Some (role.Trace n)) = ⊥
IsNotOfRun (Some (role.Image n)) = ⊥
IsNotOfRun _ = Unit {0}

-- there is a name exactly if the role is a run's
abbrev pub IsNamedIfOfRun : Option Role → Option (List ℕ) → Type 0
IsNamedIfOfRun (Some (role.Trace n)) name = IsSome name
IsNamedIfOfRun (Some (role.Image n)) name = IsSome name
IsNamedIfOfRun _ name = name ≡ None

-- the campaign that was read gives this name to the file of this role
abbrev pub IsNameIn : List ℕ → ShownStore → Role → Option (List ℕ) → Type 0
IsNameIn campaign store file name = (bytes : List ℕ) × AreRead store campaign bytes
    × (plans : List RunPlan) × (campaign_file bytes ≡ Ok plans) × IsSome name × (name ≡ name_in plans file)

-- F6: the name that the campaign gives, if an outcome speaks of the trace or image of a run; else none
abbrev pub NamesFile : List ℕ → ShownStore → Option Role → Option (List ℕ) → Type 0
NamesFile campaign store (Some (role.Trace n)) name = IsNameIn campaign store (role.Trace n) name
NamesFile campaign store (Some (role.Image n)) name = IsNameIn campaign store (role.Image n) name
NamesFile campaign store _ name = name ≡ None

-- An end that speaks of a file of a run has its name. Over a sure store a missing campaign is told. No
-- refusal says that memory ran out, and no file changes.
pub record ReadsCampaign {X : Type 0} (campaign : List ℕ) (store : Change ShownStore) (come : Result X End) :
    Type 0 where
  pub named : IfErr come (λ end. NamesFile campaign store.before (role_in end.outcome) end.file)
  pub missing : IsTrue store.before.sure → IsMissing store.before.files campaign
      → outcomes come ≡ Err (outcome.ReadFault role.Campaign)
  pub no_memory : IfErr come (λ end. TellsNoMemory end.outcome)
  pub keeps : KeepsFiles store come
