-- How missing files are told over a sure store. `Told` says of an outcome that the call ended with it. That
-- reading fails only if the file is missing is said by `FileComes`, in `Ends`.
use Rattle.std.specs.Prelude.{◌≡◌, ◌↔◌, ◌⊎◌, ℕ, List, Option, Some, None, option_map, IfSome, IsTrue, Result, Ok, Err}
use Rattle.eg_base.specs.Outside.{ShownStore, IsMissing}
use Rattle.eg_outcome.specs.Calibrations.{AcceptsCalibration, MissesCalibration}
use Rattle.eg_outcome.specs.declared.outcome.Outcome.{Outcome}
use Rattle.eg_outcome.specs.declared.outcome.Outcome.TheVariants as outcome
use Rattle.eg_outcome.specs.declared.outcome.Role.{Role}
use Rattle.eg_outcome.specs.declared.outcome.Role.TheVariants as role
use Rattle.eg_desk.specs.Ends.{read_alone}
use Rattle.eg_desk.specs.Words.{Command, by, soak, answers, asm, dis, Work, check, campaign_in}

abbrev pub EndsBy : {X : Type 0} → Result X Outcome → Outcome → Type 0
EndsBy (Ok x) end = ⊥
EndsBy (Err e) end = e ≡ end

-- the file that the work reads first, if there is one, by its role and name
abbrev pub own_file : Work → Option (Role × List ℕ)
own_file (check file) = Some (role.Check, file)
own_file work = option_map (λ campaign. (role.Campaign, campaign)) (campaign_in work)

abbrev pub ReadsNothing : Option Command → Type 0
ReadsNothing (Some (by calibration work)) = (calibration ≡ None) × (own_file work ≡ None)
ReadsNothing (Some (soak seed runs)) = Unit {0}
ReadsNothing (Some _) = ⊥
ReadsNothing None = Unit {0}

-- if the file that the work reads first is missing, that is told
abbrev pub TellsMissingOwn : Work → ShownStore → (Outcome → Type 0) → Type 0
TellsMissingOwn work store Told = IsTrue store.sure →
    IfSome (own_file work) (λ own. IsMissing store.files own.1 → Told (outcome.ReadFault own.0))

-- If a calibration is read before, it has to be there and be accepted, and memory may run out first.
abbrev pub TellsMissingBehind : Option (List ℕ) → Work → ShownStore → (Outcome → Type 0) → Type 0
TellsMissingBehind None work store Told = TellsMissingOwn work store Told
TellsMissingBehind (Some name) work store Told =
    IsTrue store.sure → AcceptsCalibration (Some name) store → ¬ IsMissing store.files name →
    IfSome (own_file work)
    (λ own. IsMissing store.files own.1 → Told (outcome.ReadFault own.0) ⊎ Told outcome.Memory)

-- reading the file of this role is told to fail exactly if the file is missing
abbrev pub TellsExactly : Role → (missing : Type 0) → ShownStore → (Outcome → Type 0) → Type 0
TellsExactly file missing store Told = IsTrue store.sure → (Told (outcome.ReadFault file) ↔ missing)

-- the calibration behind `--cal`, and the file that work reads first behind it
pub record TellsMissingBy (calibration : Option (List ℕ)) (work : Work) (store : ShownStore)
    (Told : Outcome → Type 0) : Type 0 where
  pub of_calibration : TellsExactly role.Calibration (MissesCalibration calibration store) store Told
  pub of_own : TellsMissingBehind calibration work store Told

abbrev pub TellsMissing : Option Command → ShownStore → (Outcome → Type 0) → Type 0
TellsMissing (Some (by calibration work)) store Told = TellsMissingBy calibration work store Told
TellsMissing (Some (answers file)) store Told =
    TellsExactly role.Calibration (IsMissing store.files file) store Told
TellsMissing (Some (asm file)) store Told =
    TellsExactly role.Source (IsMissing store.files file) store Told
TellsMissing (Some (dis file)) store Told =
    TellsExactly read_alone (IsMissing store.files file) store Told
TellsMissing (Some (soak seed runs)) store Told = Unit {0}
TellsMissing None store Told = Unit {0}
