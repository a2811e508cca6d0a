-- A run of a campaign file (F15), or its first refusal (F17).
use Rattle.std.specs.Prelude.{ℕ, ◌&&◌, Bool, true, false, nat_le, List, [], ◌∷◌, ◌++◌, map, codes, bytes_eq, is_some, not, Option, Some, None, option_map}
use Rattle.std.specs.List.{list_any}
use Rattle.toml.specs.Data.{Data, Members, Items, no_items, item, get_member, get_item, as_table, as_array}
use Rattle.eg_toml.specs.Values.{◌>>=◌}
use Rattle.eg_toml.specs.Arrays.{count}
use Rattle.eg_toml.specs.Names.{all_names, is_among}
use Rattle.eg_plan.specs.declared.key.RunKey.TheVariants as key
use Rattle.eg_plan.specs.declared.key.CampaignFault.{CampaignFault}
use Rattle.eg_plan.specs.declared.key.CampaignFault.TheVariants as fault
use Rattle.eg_plan.specs.declared.run.RunPlan.{RunPlan}
use Rattle.eg_plan.specs.Keys.{text_of, name, trace, image, slices, engine, run_keys}
use Rattle.eg_toml.specs.Refusals.{first_of, unless_true}
use Rattle.eg_plan.specs.Contents.{bytes_of, number_rows, engine_of}
use Rattle.eg_plan.specs.Checks.{keys_refusal}
use Rattle.eg_plan.specs.Faults.{fault_refusal, fault_of, has_own_names}

-- ---- the array of faults ----

abbrev pub all_items : (Data → Bool) → Items → Bool
all_items passes no_items = true
all_items passes (item d ds) = passes d && all_items passes ds

abbrev pub is_table : Data → Bool
is_table d = is_some (as_table d)

abbrev pub are_tables : Option Items → Bool
are_tables None = false
are_tables (Some ds) = all_items is_table ds

abbrev pub is_one_at_most : Option Items → Bool
is_one_at_most None = true
is_one_at_most (Some ds) = nat_le (count ds) 1

-- F17, points 6.2 and 6.3
abbrev pub array_refusal : ℕ → Option Data → Option CampaignFault
array_refusal n None = None
array_refusal n (Some d) = first_of
    (unless_true (fault.Key n key.Faults) (are_tables (as_array d))
    ∷ unless_true (fault.TwoFaults n) (is_one_at_most (as_array d))
    ∷ [])

abbrev pub faults_refusal : ℕ → Members → Option CampaignFault
faults_refusal n ms = array_refusal n (get_member (codes "faults") ms)

abbrev pub fault_table : Members → Option Members
fault_table ms = get_member (codes "faults") ms >>= as_array >>= get_item 0 >>= as_table

abbrev pub table_refusal : ℕ → Option Members → Option CampaignFault
table_refusal n None = None
table_refusal n (Some t) = fault_refusal n t

-- ---- the names in the tables of a run ----

-- F15
abbrev pub run_names : List (List ℕ)
run_names = map (λ rule. text_of rule.key) run_keys ++ codes "faults" ∷ []

abbrev pub table_is_known : Option Members → Bool
table_is_known None = true
table_is_known (Some t) = has_own_names t

-- F17, point 6.5
abbrev pub is_all_known : Members → Bool
is_all_known ms = all_names (is_among run_names) ms && table_is_known (fault_table ms)

-- ---- a run ----

-- F15
abbrev pub run_of : Members → RunPlan
run_of ms = record {
  name = bytes_of name ms;
  trace = bytes_of trace ms;
  image = bytes_of image ms;
  slices = number_rows slices ms;
  engine = engine_of engine ms;
  fault = option_map fault_of (fault_table ms);
}

abbrev pub has_name : List ℕ → List RunPlan → Bool
has_name text runs = list_any (λ run. bytes_eq run.name text) runs

-- F17, point 6; `earlier` are the runs before run n
unfoldable pub run_refusal : ℕ → List RunPlan → Members → Option CampaignFault
run_refusal n earlier ms = first_of
    (keys_refusal n run_keys ms
    ∷ faults_refusal n ms
    ∷ table_refusal n (fault_table ms)
    ∷ unless_true (fault.Key n key.Unknown) (is_all_known ms)
    ∷ unless_true (fault.Name n) (not (has_name (bytes_of name ms) earlier))
    ∷ [])
