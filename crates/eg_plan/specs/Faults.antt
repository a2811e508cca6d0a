-- The fault of a run (F16), or its first refusal (F17).
use Rattle.std.specs.Prelude.{ℕ, List, [], ◌∷◌, Bool, map, codes, Option, unwrap_or, Result}
use Rattle.toml.specs.Data.{Members}
use Rattle.eg_toml.specs.Names.{all_names, is_among}
use Rattle.eg_fault.specs.declared.class.Class.{Class}
use Rattle.eg_fault.specs.declared.class.Fault.{Fault}
use Rattle.eg_fault.specs.declared.class_name.ClassName.{ClassName}
use Rattle.eg_fault.specs.declared.class_name.ClassName.TheVariants.{Halt}
use Rattle.eg_fault.specs.declared.key.FaultKey.{FaultKey}
use Rattle.eg_fault.specs.Names.{key_text, own_keys}
use Rattle.eg_plan.specs.declared.key.RunKey.TheVariants as key
use Rattle.eg_plan.specs.declared.key.CampaignFault.{CampaignFault}
use Rattle.eg_plan.specs.declared.key.CampaignFault.TheVariants.{Key}
use Rattle.eg_plan.specs.Keys.{onset}
use Rattle.eg_toml.specs.Refusals.{first_of, unless_some, Checks}
use Rattle.eg_plan.specs.Contents.{number_of}
use Rattle.eg_plan.specs.Checks.{key_refusal, keys_refusal}
use Rattle.eg_plan.specs.Classes.{class_in, own_rules, class_of}

-- the class that the table of a fault names; Halt, if the table names none, which is refused
abbrev pub class_at : Members → ClassName
class_at ms = unwrap_or (class_in ms) Halt

-- F17, of the keys of a class in run n
abbrev pub TellsClass : ℕ → ClassName → Members → Result Class CampaignFault → Type 0
TellsClass n name ms result = Checks (keys_refusal n (own_rules name) ms) (class_of name ms) result

-- F17, point 6.4
unfoldable pub fault_refusal : ℕ → Members → Option CampaignFault
fault_refusal n ms = first_of
    (unless_some (Key n key.Class) (class_in ms)
    ∷ key_refusal n onset ms
    ∷ keys_refusal n (own_rules (class_at ms)) ms
    ∷ [])

unfoldable pub fault_of : Members → Fault
fault_of ms = record { onset = number_of onset ms; class = class_of (class_at ms) ms }

-- F16
abbrev pub names_with : List FaultKey → List (List ℕ)
names_with keys = codes "class" ∷ codes "onset" ∷ map key_text keys

-- F17, point 6.5, of the fault
abbrev pub has_own_names : Members → Bool
has_own_names ms = all_names (is_among (names_with (own_keys (class_at ms)))) ms
