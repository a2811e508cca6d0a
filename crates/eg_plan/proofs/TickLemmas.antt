-- A campaign file is never refused for ticks.
use Rattle.std.proofs.Common.{◌≡◌, ℕ, ◌+◌, Bool, true, false, not, nat_le, List, [], ◌∷◌, ◌++◌, Option, Some, None, Err, refl, sym, ap, ◌∙◌}
use Rattle.toml.specs.Data.{Data, Members, Items, no_items, item, get_member, as_array}
use Rattle.std.proofs.lemmas.Bool.{true≢false}
use Rattle.eg_toml.specs.Values.{number_at}
use Rattle.eg_toml.specs.Arrays.{count}
use Rattle.eg_plan.specs.declared.key.RunKey.TheVariants as key
use Rattle.eg_plan.specs.declared.key.CampaignFault.{CampaignFault}
use Rattle.eg_plan.specs.declared.key.CampaignFault.TheVariants.{Key, TwoFaults, Name, Many, Ticks}
use Rattle.eg_plan.specs.declared.run.RunPlan.{RunPlan}
use Rattle.eg_plan.specs.Keys.{Content, run_name, file_name, slice_rows, engine_name, number, optional, shift, words, ticks, truths, KeyRule, text_of, name, onset, run_keys}
use Rattle.eg_toml.specs.Refusals.{or_else, unless_some, unless_true, unless}
use Rattle.eg_plan.specs.Contents.{text_at, is_run_name, is_file_name, slices_at, engine_at, optional_at, shift_at, words_at, ticks_at, truths_at, bytes_of}
use Rattle.eg_plan.specs.Checks.{content_refusal, key_refusal, keys_refusal}
use Rattle.eg_plan.specs.Classes.{class_in, own_rules}
use Rattle.eg_plan.specs.Faults.{class_at, fault_refusal}
use Rattle.eg_plan.specs.Runs.{are_tables, is_one_at_most, array_refusal, fault_table, table_refusal, is_all_known, run_of, has_name, run_refusal}
use Rattle.eg_plan.specs.Campaign.{members_in, runs_refusal, run_items, are_runs, is_top_known, refusal_of}
use Rattle.eg_plan.specs.Accepted.{NoTicksLaw}

-- a refusal for ticks
abbrev pub is_ticks : CampaignFault → Bool
is_ticks (Ticks n) = true
is_ticks _ = false

abbrev pub tells_ticks : Option CampaignFault → Bool
tells_ticks None = false
tells_ticks (Some f) = is_ticks f

-- no refusal, or one for another cause
abbrev pub IsOther : Option CampaignFault → Type 0
IsOther o = tells_ticks o ≡ false

or-other : (a b : Option CampaignFault) → IsOther a → IsOther b → IsOther (or_else a b)
or-other None b h k = k
or-other (Some f) b h k = h

some-other : {X : Type 0} (f : CampaignFault) (o : Option X) → is_ticks f ≡ false → IsOther (unless_some f o)
some-other f None h = h
some-other f (Some x) h = refl

true-other : (f : CampaignFault) (b : Bool) → is_ticks f ≡ false → IsOther (unless_true f b)
true-other f true h = refl
true-other f false h = h

content-other : (f : CampaignFault) (c : Content) (k : List ℕ) (ms : Members) → is_ticks f ≡ false → IsOther (content_refusal f c k ms)
content-other f run_name k ms h = some-other f (text_at is_run_name k ms) h
content-other f file_name k ms h = some-other f (text_at is_file_name k ms) h
content-other f slice_rows k ms h = some-other f (slices_at k ms) h
content-other f engine_name k ms h = some-other f (engine_at k ms) h
content-other f (number low high) k ms h = some-other f (number_at low high k ms) h
content-other f (optional high) k ms h = some-other f (optional_at high k ms) h
content-other f shift k ms h = some-other f (shift_at k ms) h
content-other f words k ms h = some-other f (words_at k ms) h
content-other f ticks k ms h = some-other f (ticks_at k ms) h
content-other f truths k ms h = some-other f (truths_at k ms) h

keys-other : (n : ℕ) (rules : List KeyRule) (ms : Members) → IsOther (keys_refusal n rules ms)
unfolding keys_refusal
keys-other n [] ms = refl
keys-other n (rule ∷ rules) ms =
    or-other (key_refusal n rule ms) (keys_refusal n rules ms) (content-other (Key n rule.key) rule.content (text_of rule.key) ms refl) (keys-other n rules ms)

table-other : (n : ℕ) (o : Option Members) → IsOther (table_refusal n o)
unfolding fault_refusal
table-other n None = refl
table-other n (Some ms) =
    or-other (unless_some (Key n key.Class) (class_in ms)) _ (some-other (Key n key.Class) (class_in ms) refl)
    (or-other (key_refusal n onset ms) _ (some-other (Key n key.Onset) (number_at 0 19999 (text_of key.Onset) ms) refl)
    (or-other (keys_refusal n (own_rules (class_at ms)) ms) None (keys-other n (own_rules (class_at ms)) ms) refl))

array-other : (n : ℕ) (o : Option Data) → IsOther (array_refusal n o)
array-other n None = refl
array-other n (Some d) =
    or-other (unless_true (Key n key.Faults) (are_tables (as_array d))) _ (true-other (Key n key.Faults) (are_tables (as_array d)) refl)
    (or-other (unless_true (TwoFaults n) (is_one_at_most (as_array d))) None (true-other (TwoFaults n) (is_one_at_most (as_array d)) refl) refl)

run-other : (n : ℕ) (earlier : List RunPlan) (ms : Members) → IsOther (run_refusal n earlier ms)
unfolding run_refusal
run-other n earlier ms =
    or-other (keys_refusal n run_keys ms) _ (keys-other n run_keys ms)
    (or-other (array_refusal n (get_member (text_of key.Faults) ms)) _ (array-other n (get_member (text_of key.Faults) ms))
    (or-other (table_refusal n (fault_table ms)) _ (table-other n (fault_table ms))
    (or-other (unless_true (Key n key.Unknown) (is_all_known ms)) _ (true-other (Key n key.Unknown) (is_all_known ms) refl)
    (or-other (unless_true (Name n) (not (has_name (bytes_of name ms) earlier))) None (true-other (Name n) (not (has_name (bytes_of name ms) earlier)) refl) refl))))

runs-other : (n : ℕ) (earlier : List RunPlan) (ds : Items) → IsOther (runs_refusal n earlier ds)
runs-other n earlier no_items = refl
runs-other n earlier (item d ds) =
    or-other (run_refusal n earlier (members_in d)) _ (run-other n earlier (members_in d)) (runs-other (n + 1) (earlier ++ run_of (members_in d) ∷ []) ds)

file-other : (ms : Members) → IsOther (refusal_of ms)
unfolding refusal_of
file-other ms =
    or-other (unless_true (Key 0 key.Run) (are_runs (run_items ms))) _ (true-other (Key 0 key.Run) (are_runs (run_items ms)) refl)
    (or-other (unless_true (Key 0 key.Unknown) (is_top_known ms)) _ (true-other (Key 0 key.Unknown) (is_top_known ms) refl)
    (or-other (unless_true Many (nat_le (count (run_items ms)) 1000)) _ (true-other Many (nat_le (count (run_items ms)) 1000) refl)
    (or-other (runs_refusal 1 [] (run_items ms)) None (runs-other 1 [] (run_items ms)) refl)))

refused : {X : Type 0} (f : Option CampaignFault) (x : X) (n : ℕ) → IsOther f → unless f x ≡ Err (Ticks n) → ⊥
refused None x n h e = absurd (cc)
refused (Some f) x n h e = let same : f ≡ Ticks n = cc in true≢false (sym (ap is_ticks same) ∙ h)

pub no_ticks : NoTicksLaw
no_ticks None n e = absurd (cc)
no_ticks (Some ms) n e = refused (refusal_of ms) _ n (file-other ms) e
