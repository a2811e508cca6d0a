-- Which documents are accepted as campaigns (F15, F16), in the words of TOML and without the order of the
-- checks.
use Rattle.std.specs.Prelude.{◌≡◌, ◌↔◌, ◌≤◌, true, ℕ, List, codes, map, Option, Some, Ok, Err}
use Rattle.std.specs.Bool.{⊤}
use Rattle.std.specs.List.{AllByRecursion, AllPairs}
use Rattle.std.specs.List.Sorted.{IsStrictlyIncreasing}
use Rattle.toml.specs.Data.{Data, string, integer, boolean, table, Members, get_member}
use Rattle.eg_toml.specs.Names.{all_names, is_among}
use Rattle.eg_toml.specs.Held.{HoldsValue, MayHoldValue, natural, array_of, IsBetween, AreMany}
use Rattle.eg_fault.specs.declared.class_name.ClassName.{ClassName}
use Rattle.eg_fault.specs.Faults.{IsOffset}
use Rattle.eg_fault.specs.Names.{own_keys}
use Rattle.eg_plant.specs.declared.engine_kind.EngineKind.{EngineKind}
use Rattle.eg_plant.specs.declared.engine_kind.EngineKind.TheVariants.{Gasoline, Diesel}
use Rattle.eg_plan.specs.declared.key.CampaignFault.TheVariants.{Ticks}
use Rattle.eg_plan.specs.declared.run.RunPlan.{RunPlan}
use Rattle.eg_plan.specs.Keys.{Content, run_name, file_name, slice_rows, engine_name, number, optional, shift, words, ticks, truths, KeyRule, text_of, run_keys, onset}
use Rattle.eg_plan.specs.Classes.{class_in, own_rules}
use Rattle.eg_plan.specs.Faults.{names_with}
use Rattle.eg_plan.specs.Runs.{run_names, run_of}
use Rattle.eg_plan.specs.Campaign.{runs_of, run_items, is_top_known, campaign_of}
use Rattle.eg_plan.specs.Rules.{IsRunName, IsFileName, IsSlicePlan, AreRuns}

abbrev pub engine_word : EngineKind → Data
engine_word Gasoline = string (codes "gasoline")
engine_word Diesel = string (codes "diesel")

-- F16, `after`
abbrev pub AreTicks : List ℕ → Type 0
AreTicks ns = AreMany 1 64 (λ n. n ≤ 19999) ns × IsStrictlyIncreasing ns

abbrev pub Holds : Content → Option Data → Type 0
Holds run_name o = HoldsValue string IsRunName o
Holds file_name o = HoldsValue string IsFileName o
Holds slice_rows o = MayHoldValue (array_of (array_of natural)) IsSlicePlan o
Holds engine_name o = MayHoldValue engine_word (λ engine. ⊤) o
Holds (number low high) o = HoldsValue natural (IsBetween low high) o
Holds (optional high) o = MayHoldValue natural (λ n. n ≤ high) o
Holds shift o = HoldsValue integer IsOffset o
Holds words o = HoldsValue (array_of natural) (AreMany 1 64 (λ n. n ≤ 65535)) o
Holds ticks o = HoldsValue (array_of natural) AreTicks o
Holds truths o = HoldsValue (array_of boolean) (AreMany 1 64 (λ truth. ⊤)) o

abbrev pub IsHeld : Members → KeyRule → Type 0
IsHeld ms rule = Holds rule.content (get_member (text_of rule.key) ms)

-- F16
pub record IsFaultTable (ms : Members) : Type 0 where
  pub class : ClassName
  pub is_named : class_in ms ≡ Some class
  pub begins : IsHeld ms onset
  pub keys : AllByRecursion (IsHeld ms) (own_rules class)
  pub names : all_names (is_among (names_with (own_keys class))) ms ≡ true

-- F15
pub record IsRunTable (ms : Members) : Type 0 where
  pub keys : AllByRecursion (IsHeld ms) run_keys
  pub faults : MayHoldValue (array_of table) (AreMany 0 1 IsFaultTable) (get_member (codes "faults") ms)
  pub names : all_names (is_among run_names) ms ≡ true

-- F15, F17: no two runs have one name
pub record AreRunTables (tables : List Members) : Type 0 where
  pub many : AreMany 1 1000 IsRunTable tables
  pub apart : AllPairs (λ earlier later. ¬ (earlier.name ≡ later.name)) (map run_of tables)

-- F15
pub record KeepsRules (ms : Members) : Type 0 where
  pub runs : HoldsValue (array_of table) AreRunTables (get_member (codes "run") ms)
  pub names : is_top_known ms ≡ true

-- Claim 39: a document is accepted exactly if it keeps the rules, and its runs are those that its tables say.
abbrev pub AcceptedLaw : Type 0
AcceptedLaw = (ms : Members) (runs : List RunPlan) →
    (campaign_of (Some ms) ≡ Ok runs) ↔ (KeepsRules ms × (runs ≡ runs_of (run_items ms)))

-- the runs of an accepted document keep the plain rules of Rules.antt
abbrev pub RunsLaw : Type 0
RunsLaw = (document : Option Members) (runs : List RunPlan) → campaign_of document ≡ Ok runs → AreRuns runs

-- F18: ticks are no reason to refuse a campaign file, which doesn't say how many a run has
abbrev pub NoTicksLaw : Type 0
NoTicksLaw = (document : Option Members) (n : ℕ) → ¬ (campaign_of document ≡ Err (Ticks n))
