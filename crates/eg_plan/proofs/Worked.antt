-- Campaign files worked out by the definitions: each engine, each class of faults, and refusals in their order.
use Rattle.std.proofs.Common.{◌≡◌, ℕ, negsuc, true, false, List, [], ◌∷◌, ◌++◌, map, codes, Option, Some, None, Result, Ok, Err, refl}
use Rattle.std.specs.Str.{chars, is_utf8}
use Rattle.toml.proofs.OnLiterals.{toml_on_literals}
use Rattle.eg_toml.specs.Documents.{document_of}
use Rattle.eg_fault.specs.declared.class.Class.{Class}
use Rattle.eg_fault.specs.declared.class.Class.TheVariants as class
use Rattle.eg_fault.specs.declared.class.Fault.{Fault}
use Rattle.eg_fault.specs.declared.key.FaultKey.TheVariants as own
use Rattle.eg_fault.specs.Names.{class_named, class_text}
use Rattle.eg_plant.specs.declared.engine_kind.EngineKind.{EngineKind}
use Rattle.eg_plant.specs.declared.engine_kind.EngineKind.TheVariants.{Gasoline, Diesel}
use Rattle.eg_plan.specs.declared.key.RunKey.TheVariants as key
use Rattle.eg_plan.specs.declared.key.CampaignFault.{CampaignFault}
use Rattle.eg_plan.specs.declared.key.CampaignFault.TheVariants.{Text, Key, TwoFaults, Name}
use Rattle.eg_plan.specs.declared.run.RunPlan.{RunPlan}
use Rattle.eg_plan.specs.Contents.{usual_slices}
use Rattle.eg_plan.specs.Checks.{keys_refusal}
use Rattle.eg_plan.specs.Faults.{fault_refusal, fault_of}
use Rattle.eg_plan.specs.Runs.{run_refusal}
use Rattle.eg_plan.specs.Campaign.{refusal_of, campaign_of}

-- what the definitions say of a file's bytes
abbrev read : List ℕ → Result (List RunPlan) CampaignFault
read text = campaign_of (document_of text)

-- a run of this name, and what stands below it
abbrev named : List ℕ → List ℕ → List ℕ
named name rest = codes "[[run]]\nname = \"" ++ name ++ codes "\"\ntrace = \"t\"\nimage = \"i\"\n" ++ rest

-- a run without slices, and with this under `faults`
abbrev with_faults : List ℕ → List ℕ
with_faults faults = named (codes "a") (codes "faults = " ++ faults)

-- a run of this name without slices, with an engine, and with a fault or none
abbrev run_with : List ℕ → EngineKind → Option Fault → RunPlan
run_with name engine fault = record {
  name = name;
  trace = codes "t";
  image = codes "i";
  slices = usual_slices;
  engine = engine;
  fault = fault;
}

-- a file of one gasoline run with a fault from this tick on
abbrev faulty : ℕ → Class → Result (List RunPlan) CampaignFault
faulty onset class = Ok (run_with (codes "a") Gasoline (Some (record { onset = onset; class = class })) ∷ [])

-- a file of one run without a fault, with this engine
abbrev driven : EngineKind → Result (List RunPlan) CampaignFault
driven engine = Ok (run_with (codes "a") engine None ∷ [])

-- gasoline where no engine is named, of each run for itself
engines : map read (
    named (codes "a") []
    ∷ named (codes "a") (codes "engine = \"gasoline\"")
    ∷ named (codes "a") (codes "engine = \"diesel\"")
    ∷ named (codes "a") (codes "faults = []\nengine = 'diesel'")
    ∷ with_faults (codes "[{ class = \"halt\", onset = 7 }]\nengine = \"diesel\"")
    ∷ named (codes "a") (codes "engine = \"diesel\"\n" ++ named (codes "b") (named (codes "c") (codes "engine = \"diesel\"")))
    ∷ []) ≡
    driven Gasoline
    ∷ driven Gasoline
    ∷ driven Diesel
    ∷ driven Diesel
    ∷ Ok (run_with (codes "a") Diesel (Some (record { onset = 7; class = class.Halt })) ∷ [])
    ∷ Ok (run_with (codes "a") Diesel None ∷ run_with (codes "b") Gasoline None ∷ run_with (codes "c") Diesel None ∷ [])
    ∷ []
unfolding toml_on_literals chars is_utf8 class_named class_text keys_refusal fault_refusal fault_of run_refusal refusal_of
engines = refl

classes : map read (
    with_faults (codes "[{ class = \"script\", onset = 0, track = 4, values = [0, 65535] }]")
    ∷ with_faults (codes "[{ class = \"offset\", onset = 1, track = 7, add = -65535 }]")
    ∷ with_faults (codes "[{ class = \"bus\", onset = 19999, mask = 1 }]")
    ∷ with_faults (codes "[{ class = \"plate\", onset = 3, at = 1000 }]")
    ∷ with_faults (codes "[{ class = \"skip\", onset = 4, module = 0 }]")
    ∷ with_faults (codes "[{ class = \"disturb\", onset = 5, module = 5, mask = 65535 }]")
    ∷ with_faults (codes "[{ class = \"flip\", onset = 6, word = 31, mask = 256 }]")
    ∷ with_faults (codes "[{ class = \"halt\", onset = 7 }]")
    ∷ with_faults (codes "[{ class = \"timing\", onset = 8, offset = 99 }]")
    ∷ with_faults (codes "[{ class = \"wild\", onset = 9, questions = [3, 1], opens = [true, false] }]")
    ∷ with_faults (codes "[{ class = \"path1-closed\", onset = 10 }]")
    ∷ with_faults (codes "[{ class = \"path2-closed\", onset = 11 }]")
    ∷ with_faults (codes "[{ class = \"path-open\", onset = 12, path = 2 }]")
    ∷ with_faults (codes "[{ class = \"lapse\", onset = 13, after = [0, 19999] }]")
    ∷ with_faults (codes "[{ class = \"lapse\", onset = 14, after = [5], every = 20000 }]")
    ∷ []) ≡
    faulty 0 (class.Script 4 (0 ∷ 65535 ∷ []))
    ∷ faulty 1 (class.Offset 7 (negsuc 65534))
    ∷ faulty 19999 (class.Bus 1)
    ∷ faulty 3 (class.Plate 1000)
    ∷ faulty 4 (class.Skip 0)
    ∷ faulty 5 (class.Disturb 5 65535)
    ∷ faulty 6 (class.Flip 31 256)
    ∷ faulty 7 class.Halt
    ∷ faulty 8 (class.Timing 99)
    ∷ faulty 9 (class.Wild (3 ∷ 1 ∷ []) (true ∷ false ∷ []))
    ∷ faulty 10 class.Path1Closed
    ∷ faulty 11 class.Path2Closed
    ∷ faulty 12 (class.PathOpen 2)
    ∷ faulty 13 (class.Lapse (0 ∷ 19999 ∷ []) 0)
    ∷ faulty 14 (class.Lapse (5 ∷ []) 20000)
    ∷ []
unfolding toml_on_literals chars is_utf8 class_named class_text keys_refusal fault_refusal fault_of run_refusal refusal_of
classes = refl

-- ---- refusals ----

abbrev refused : CampaignFault → Result (List RunPlan) CampaignFault
refused f = Err f

files : map read (
    codes "run"
    ∷ codes "at = 9223372036854775808"
    ∷ []
    ∷ codes "[run]\nname = \"a\""
    ∷ codes "run = []\nat = 1"
    ∷ codes "run = [{}, 1]"
    ∷ codes "run = [{}]\n\"\" = 1"
    ∷ codes "run = [{}]"
    ∷ named (codes "-a") []
    ∷ named (codes "a") (named (codes "b") (codes "slices = [[]]\nat = 1"))
    ∷ named (codes "a") (named (codes "a") (codes "at = 1"))
    ∷ named (codes "a") (named (codes "b") (named (codes "a") []))
    ∷ []) ≡
    refused Text
    ∷ refused Text
    ∷ refused (Key 0 key.Run)
    ∷ refused (Key 0 key.Run)
    ∷ refused (Key 0 key.Run)
    ∷ refused (Key 0 key.Run)
    ∷ refused (Key 0 key.Unknown)
    ∷ refused (Key 1 key.Name)
    ∷ refused (Key 1 key.Name)
    ∷ refused (Key 2 key.Slices)
    ∷ refused (Key 2 key.Unknown)
    ∷ refused (Name 3)
    ∷ []
unfolding toml_on_literals chars is_utf8 class_named class_text keys_refusal fault_refusal fault_of run_refusal refusal_of
files = refl

-- other engines, and where a bad one stands in the order of refusals
bad_engines : map read (
    named (codes "a") (codes "engine = \"petrol\"")
    ∷ named (codes "a") (codes "engine = \"Diesel\"")
    ∷ named (codes "a") (codes "engine = \"diesel \"")
    ∷ named (codes "a") (codes "engine = \"\"")
    ∷ named (codes "a") (codes "engine = 1")
    ∷ named (codes "a") (codes "engine = true")
    ∷ named (codes "a") (codes "engine = [\"diesel\"]")
    ∷ named (codes "a") (codes "engine = 1\nslices = [[]]")
    ∷ named (codes "-a") (codes "engine = 1")
    ∷ named (codes "a") (codes "faults = {}\nengine = 1")
    ∷ named (codes "a") (codes "faults = [{}, {}]\nengine = 1")
    ∷ named (codes "a") (codes "faults = [{}]\nengine = 1")
    ∷ named (codes "a") (codes "at = 1\nengine = 1")
    ∷ named (codes "a") (codes "engine = \"diesel\"\nfaults = {}")
    ∷ named (codes "a") (codes "engine = \"diesel\"\nat = 1")
    ∷ named (codes "a") (codes "Engine = \"diesel\"")
    ∷ named (codes "a") (named (codes "a") (codes "engine = 1"))
    ∷ []) ≡
    refused (Key 1 key.Engine)
    ∷ refused (Key 1 key.Engine)
    ∷ refused (Key 1 key.Engine)
    ∷ refused (Key 1 key.Engine)
    ∷ refused (Key 1 key.Engine)
    ∷ refused (Key 1 key.Engine)
    ∷ refused (Key 1 key.Engine)
    ∷ refused (Key 1 key.Slices)
    ∷ refused (Key 1 key.Name)
    ∷ refused (Key 1 key.Engine)
    ∷ refused (Key 1 key.Engine)
    ∷ refused (Key 1 key.Engine)
    ∷ refused (Key 1 key.Engine)
    ∷ refused (Key 1 key.Faults)
    ∷ refused (Key 1 key.Unknown)
    ∷ refused (Key 1 key.Unknown)
    ∷ refused (Key 2 key.Engine)
    ∷ []
unfolding toml_on_literals chars is_utf8 class_named class_text keys_refusal fault_refusal fault_of run_refusal refusal_of
bad_engines = refl

faults : map read (
    with_faults (codes "{}")
    ∷ with_faults (codes "[1, 2]")
    ∷ with_faults (codes "[{}, {}]\nat = 1")
    ∷ with_faults (codes "[{ onset = 20000 }]")
    ∷ with_faults (codes "[{ class = \"halted\", onset = 0 }]")
    ∷ with_faults (codes "[{ class = \"bus\", onset = 20000, mask = 0 }]")
    ∷ with_faults (codes "[{ class = \"script\", onset = 0, track = 10, values = [] }]")
    ∷ with_faults (codes "[{ class = \"script\", onset = 0, track = 9, values = [] }]")
    ∷ with_faults (codes "[{ class = \"offset\", onset = 0, track = 9, add = 0 }]")
    ∷ with_faults (codes "[{ class = \"disturb\", onset = 0, module = 0, mask = 1 }]")
    ∷ with_faults (codes "[{ class = \"wild\", onset = 0, questions = [1], opens = [1] }]")
    ∷ with_faults (codes "[{ class = \"lapse\", onset = 0, after = [3, 3], at = 1 }]")
    ∷ with_faults (codes "[{ class = \"lapse\", onset = 0, after = [3], every = 20001 }]")
    ∷ with_faults (codes "[{ class = \"halt\", onset = 0, mask = 1 }]")
    ∷ []) ≡
    refused (Key 1 key.Faults)
    ∷ refused (Key 1 key.Faults)
    ∷ refused (TwoFaults 1)
    ∷ refused (Key 1 key.Class)
    ∷ refused (Key 1 key.Class)
    ∷ refused (Key 1 key.Onset)
    ∷ refused (Key 1 (key.Own own.Track))
    ∷ refused (Key 1 (key.Own own.Values))
    ∷ refused (Key 1 (key.Own own.Add))
    ∷ refused (Key 1 (key.Own own.Module))
    ∷ refused (Key 1 (key.Own own.Opens))
    ∷ refused (Key 1 (key.Own own.After))
    ∷ refused (Key 1 (key.Own own.Every))
    ∷ refused (Key 1 key.Unknown)
    ∷ []
unfolding toml_on_literals chars is_utf8 class_named class_text keys_refusal fault_refusal fault_of run_refusal refusal_of
faults = refl
