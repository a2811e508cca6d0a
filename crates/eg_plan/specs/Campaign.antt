-- The runs of a campaign file (F15), or its first refusal (F17).
use Rattle.std.specs.Prelude.{ℕ, ◌+◌, ◌&&◌, Bool, nat_le, List, [], ◌∷◌, ◌++◌, codes, Option, Some, None, unwrap_or, Result, Err}
use Rattle.toml.specs.Data.{Data, Members, no_members, Items, no_items, item, get_member, as_table, as_array}
use Rattle.eg_toml.specs.Values.{◌>>=◌}
use Rattle.eg_toml.specs.Arrays.{count}
use Rattle.eg_toml.specs.Names.{all_names, is_among}
use Rattle.eg_plan.specs.declared.key.RunKey.TheVariants as key
use Rattle.eg_plan.specs.declared.key.CampaignFault.{CampaignFault}
use Rattle.eg_plan.specs.declared.key.CampaignFault.TheVariants as fault
use Rattle.eg_plan.specs.declared.run.RunPlan.{RunPlan}
use Rattle.eg_toml.specs.Refusals.{or_else, first_of, unless_true, unless}
use Rattle.eg_plan.specs.Runs.{all_items, is_table, run_of, run_refusal}

-- ---- the array of runs ----

-- the members of a table; none of another item, which is refused
abbrev pub members_in : Data → Members
members_in d = unwrap_or (as_table d) no_members

abbrev pub runs_of : Items → List RunPlan
runs_of no_items = []
runs_of (item d ds) = run_of (members_in d) ∷ runs_of ds

-- F17, point 6, of the runs from number n on; `earlier` are the runs before
abbrev pub runs_refusal : ℕ → List RunPlan → Items → Option CampaignFault
runs_refusal n earlier no_items = None
runs_refusal n earlier (item d ds) =
    or_else (run_refusal n earlier (members_in d))
    (runs_refusal (n + 1) (earlier ++ run_of (members_in d) ∷ []) ds)

-- ---- the file ----

abbrev pub run_array : Members → Option Items
run_array ms = get_member (codes "run") ms >>= as_array

abbrev pub run_items : Members → Items
run_items ms = unwrap_or (run_array ms) no_items

-- F17, Key `run`
abbrev pub are_runs : Items → Bool
are_runs ds = all_items is_table ds && nat_le 1 (count ds)

-- F17, Key unknown of run 0
abbrev pub is_top_known : Members → Bool
is_top_known ms = all_names (is_among (codes "run" ∷ [])) ms

-- F17, points 3 to 6
unfoldable pub refusal_of : Members → Option CampaignFault
refusal_of ms = first_of
    (unless_true (fault.Key 0 key.Run) (are_runs (run_items ms))
    ∷ unless_true (fault.Key 0 key.Unknown) (is_top_known ms)
    ∷ unless_true fault.Many (nat_le (count (run_items ms)) 1000)
    ∷ runs_refusal 1 [] (run_items ms)
    ∷ [])

-- F15, F17
abbrev pub campaign_of : Option Members → Result (List RunPlan) CampaignFault
campaign_of None = Err fault.Text
campaign_of (Some ms) = unless (refusal_of ms) (runs_of (run_items ms))
