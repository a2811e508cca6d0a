-- What the runs of every accepted campaign keep (F15, F16), in plain rules.
use Rattle.std.specs.Prelude.{◌≡◌, ◌⊎◌, ◌≤◌, ℕ, List, length, All, slice_index}
use Rattle.std.specs.List.{sum, AllPairs}
use Rattle.eg_toml.specs.Held.{AreMany}
use Rattle.eg_fault.specs.Faults.{IsNoneOrValid}
use Rattle.eg_plan.specs.declared.run.RunPlan.{RunPlan}

abbrev pub IsLetter : ℕ → Type 0
IsLetter c = (97 ≤ c) × (c ≤ 122)

abbrev pub IsDigit : ℕ → Type 0
IsDigit c = (48 ≤ c) × (c ≤ 57)

abbrev pub IsInName : ℕ → Type 0
IsInName c = (IsLetter c ⊎ IsDigit c) ⊎ (c ≡ 45)

-- F15; 45 is `-`
pub record IsRunName (text : List ℕ) : Type 0 where
  pub least : 1 ≤ length text
  pub most : length text ≤ 32
  pub characters : All IsInName text
  pub begins : ¬ (slice_index text 0 ≡ 45)

-- F15
pub record IsFileName (text : List ℕ) : Type 0 where
  pub least : 1 ≤ length text
  pub most : length text ≤ 200
  pub begins : ¬ (slice_index text 0 ≡ 45)

-- F15
abbrev pub IsSliceRow : List ℕ → Type 0
IsSliceRow row = (length row ≡ 9) × (sum row ≤ 1000)

-- F15
abbrev pub IsSlicePlan : List (List ℕ) → Type 0
IsSlicePlan rows = AreMany 1 64 IsSliceRow rows

-- F15, F16
pub record IsRunPlan (run : RunPlan) : Type 0 where
  pub name : IsRunName run.name
  pub trace : IsFileName run.trace
  pub image : IsFileName run.image
  pub slices : IsSlicePlan run.slices
  pub fault : IsNoneOrValid run.fault

-- F15, F17: no two runs have one name
pub record AreRuns (runs : List RunPlan) : Type 0 where
  pub least : 1 ≤ length runs
  pub most : length runs ≤ 1000
  pub each : All IsRunPlan runs
  pub names : AllPairs (λ earlier later. ¬ (earlier.name ≡ later.name)) runs
