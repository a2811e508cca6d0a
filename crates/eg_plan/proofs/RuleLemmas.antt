-- A document is accepted exactly if it keeps the rules, and its runs then keep theirs.
use Rattle.std.proofs.Common.{◌≡◌, inl, inr, ℕ, suc, ◌+◌, ◌-◌, ◌≤◌, ◌<◌, nat_le, not, is_some, true, false, length, map, List, [], ◌∷◌, ◌++◌, All, bytes_eq, codes, Option, Some, None, option_map, unwrap_or, slice_index_or, Result, Ok, Err, IfOk, subst, refl, sym, ap, ap₂, ◌∙◌, arith}
use Rattle.std.specs.List.{AllPairs, AllByRecursion}
use Rattle.std.proofs.lemmas.Bool.{and_parts, and_from, or_parts, le-leb, leb-true, not-true, true≢false, false_from_ne_true}
use Rattle.std.proofs.lemmas.List.{length-map}
use Rattle.std.proofs.lemmas.List.Elements.{All-nil, All-cons, All-head, All-tail, All-map, All-weaker}
use Rattle.std.proofs.lemmas.List.Folds.{list_any-append}
use Rattle.std.proofs.lemmas.List.Kept.{AllPairs-cons}
use Rattle.std.proofs.lemmas.Slice.Eq.{bytes_eq-Decides}
use Rattle.toml.specs.Data.{Data, array, table, Members, Items, no_items, item, get_member, get_item, as_table, as_array}
use Rattle.eg_toml.specs.Values.{◌>>=◌}
use Rattle.eg_toml.specs.Arrays.{count}
use Rattle.eg_toml.specs.Names.{all_names, is_among}
use Rattle.eg_toml.specs.Refusals.{unless_some, unless_true, Reads, seen}
use Rattle.eg_toml.specs.Held.{MayHoldValue, items_of, array_of, IsBetween, AreMany}
use Rattle.eg_toml.proofs.RefusalLemmas.{or-none, none-or, first_of-none, unless_true-none, unless-ok}
use Rattle.eg_toml.proofs.HeldLemmas.{unless_some-none, kept, number-exact, number-up, numbers-exact, as_table-is, as_array-is, items_of-count}
use Rattle.eg_sensor.specs.declared.tracks.TheConstants.{PEDAL_1, BRAKE_2, TRACKS}
use Rattle.eg_answer.specs.declared.modules.TheConstants.{CHECK, PEDAL, PAIRS, REACT, MODULES}
use Rattle.eg_answer.specs.declared.words.TheConstants.{STORED_WORDS}
use Rattle.eg_fault.specs.Faults.{IsValid, IsValidClass, IsNoneOrValid}
use Rattle.eg_fault.specs.Names.{own_keys}
use Rattle.eg_fault.specs.declared.key.FaultKey.TheVariants as own
use Rattle.eg_fault.specs.declared.paths.TheConstants.{PATH_1, PATH_2}
use Rattle.eg_fault.specs.declared.class_name.ClassName.{ClassName}
use Rattle.eg_fault.specs.declared.class_name.ClassName.TheVariants.{Script, Offset, Bus, Plate, Skip, Disturb, Flip, Halt, Timing, Wild, Path1Closed, Path2Closed, PathOpen, Lapse}
use Rattle.eg_plan.specs.declared.key.CampaignFault.{CampaignFault}
use Rattle.eg_plan.specs.declared.key.CampaignFault.TheVariants.{Memory, Key, TwoFaults, Name, Many}
use Rattle.eg_plan.specs.declared.key.RunKey.{RunKey}
use Rattle.eg_plan.specs.declared.key.RunKey.TheVariants as key
use Rattle.eg_plan.specs.declared.run.RunPlan.{RunPlan}
use Rattle.eg_plan.specs.Keys.{KeyRule, ◌holds◌, number, words, text_of, run_keys, name, onset}
use Rattle.eg_plan.specs.Contents.{usual_slices, bytes_of, number_of, numbers_of}
use Rattle.eg_plan.specs.Checks.{key_refusal, keys_refusal}
use Rattle.eg_plan.specs.Classes.{class_in, own_rules, class_of}
use Rattle.eg_plan.specs.Faults.{class_at, fault_refusal, fault_of, names_with, has_own_names}
use Rattle.eg_plan.specs.Runs.{all_items, is_table, are_tables, is_one_at_most, array_refusal, faults_refusal, fault_table, table_refusal, run_names, table_is_known, is_all_known, run_of, has_name, run_refusal}
use Rattle.eg_plan.specs.Campaign.{runs_of, runs_refusal, run_items, are_runs, is_top_known, refusal_of}
use Rattle.eg_plan.specs.Rules.{IsRunPlan, AreRuns}
use Rattle.eg_plan.specs.Accepted.{Holds, IsHeld, IsFaultTable, IsRunTable, AreRunTables, KeepsRules, AcceptedLaw, RunsLaw}
use Rattle.eg_plan.proofs.HeldLemmas.{content-held, may-kept, name-kept, file-kept, slices-exact, usual-kept, shift-exact, ticks-exact, truths-exact}

-- ---- keys

keys-held : (n : ℕ) (ms : Members) (rules : List KeyRule) → keys_refusal n rules ms ≡ None → AllByRecursion (IsHeld ms) rules
unfolding keys_refusal
keys-held n ms [] e = tt
keys-held n ms (rule ∷ rules) e =
    let (here, more) = or-none (key_refusal n rule ms) (keys_refusal n rules ms) e in
    ((content-held (Key n rule.key) rule.content (text_of rule.key) ms).0 here, keys-held n ms rules more)

held-keys : (n : ℕ) (ms : Members) (rules : List KeyRule) → AllByRecursion (IsHeld ms) rules → keys_refusal n rules ms ≡ None
unfolding keys_refusal
held-keys n ms [] h = refl
held-keys n ms (rule ∷ rules) h =
    none-or (key_refusal n rule ms) (keys_refusal n rules ms) ((content-held (Key n rule.key) rule.content (text_of rule.key) ms).1 h.0) (held-keys n ms rules h.1)

number-in : (low high : ℕ) (k : RunKey) (ms : Members) → Holds (number low high) (get_member (text_of k) ms) → IsBetween low high (number_of (k holds number low high) ms)
number-in low high k ms h = kept (number-exact low high) (get_member (text_of k) ms) 0 h

words-in : (k : RunKey) (ms : Members) → Holds words (get_member (text_of k) ms) → AreMany 1 64 (λ n. n ≤ 65535) (numbers_of (k holds words) ms)
words-in k ms h = kept (numbers-exact 1 64 65535) (get_member (text_of k) ms) [] h

below : (n high bound : ℕ) → high + 1 ≡ bound → n ≤ high → n < bound
below n high bound e h = omega arith

-- ---- a fault

class-valid : (name : ClassName) (ms : Members) → AllByRecursion (IsHeld ms) (own_rules name) → IsValidClass (class_of name ms)
unfolding IsValidClass
class-valid Script ms h =
    let values = words-in (key.Own own.Values) ms h.1.0 in
    (below _ BRAKE_2 TRACKS refl (number-in PEDAL_1 BRAKE_2 (key.Own own.Track) ms h.0).1, (values.from, values.to), values.each)
class-valid Offset ms h =
    (below _ BRAKE_2 TRACKS refl (number-in PEDAL_1 BRAKE_2 (key.Own own.Track) ms h.0).1, kept shift-exact (get_member (text_of (key.Own own.Add)) ms) _ h.1.0)
class-valid Bus ms h = number-in 1 65535 (key.Own own.Mask) ms h.0
class-valid Plate ms h = (number-in 0 1000 (key.Own own.At) ms h.0).1
class-valid Skip ms h = below _ REACT MODULES refl (number-in CHECK REACT (key.Own own.Module) ms h.0).1
class-valid Disturb ms h =
    let index = number-in PEDAL PAIRS (key.Own own.Module) ms h.0 in
    (index.0, index.1, number-in 1 65535 (key.Own own.Mask) ms h.1.0)
class-valid Flip ms h = (below _ (STORED_WORDS - 1) STORED_WORDS refl (number-in 0 (STORED_WORDS - 1) (key.Own own.Word) ms h.0).1, number-in 1 65535 (key.Own own.Mask) ms h.1.0)
class-valid Halt ms h = tt
class-valid Timing ms h = (number-in 0 99 (key.Own own.Offset) ms h.0).1
class-valid Wild ms h =
    let questions = words-in (key.Own own.Questions) ms h.0 in
    let opens = kept truths-exact (get_member (text_of (key.Own own.Opens)) ms) [] h.1.0 in
    ((questions.from, questions.to), questions.each, (opens.from, opens.to))
class-valid Path1Closed ms h = tt
class-valid Path2Closed ms h = tt
class-valid PathOpen ms h = number-in PATH_1 PATH_2 (key.Own own.Path) ms h.0
class-valid Lapse ms h =
    let (after, rise) = kept ticks-exact (get_member (text_of (key.Own own.After)) ms) [] h.0 in
    ((after.from, after.to), after.each, rise, may-kept (number-up 20000) 0 0 (get_member (text_of (key.Own own.Every)) ms) (omega arith) h.1.0)

fault-held : (n : ℕ) (ms : Members) → fault_refusal n ms ≡ None → has_own_names ms ≡ true → IsFaultTable ms
unfolding fault_refusal
fault-held n ms e known =
    let h = first_of-none (unless_some (Key n key.Class) (class_in ms) ∷ key_refusal n onset ms ∷ keys_refusal n (own_rules (class_at ms)) ms ∷ []) e in
    let named = unless_some-none (Key n key.Class) (class_in ms) h.0 in
    record {
      class = class_at ms;
      is_named = named.1 ∙ ap Some (sym (ap (λ o. unwrap_or o Halt) named.1));
      begins = (content-held (Key n key.Onset) onset.content (text_of key.Onset) ms).0 h.1.0;
      keys = keys-held n ms (own_rules (class_at ms)) h.1.1.0;
      names = known;
    }

same-class : (ms : Members) (t : IsFaultTable ms) → t.class ≡ class_at ms
same-class ms t = sym (ap (λ o. unwrap_or o Halt) t.is_named)

own-keys : (ms : Members) → IsFaultTable ms → AllByRecursion (IsHeld ms) (own_rules (class_at ms))
own-keys ms t = subst (λ c. AllByRecursion (IsHeld ms) (own_rules c)) (same-class ms t) t.keys

held-fault : (n : ℕ) (ms : Members) → IsFaultTable ms → fault_refusal n ms ≡ None
unfolding fault_refusal
held-fault n ms t =
    none-or (unless_some (Key n key.Class) (class_in ms)) _ (ap (unless_some (Key n key.Class)) t.is_named)
    (none-or (key_refusal n onset ms) _ ((content-held (Key n key.Onset) onset.content (text_of key.Onset) ms).1 t.begins)
    (none-or (keys_refusal n (own_rules (class_at ms)) ms) None (held-keys n ms (own_rules (class_at ms)) (own-keys ms t)) refl))

fault-valid : (ms : Members) → IsFaultTable ms → IsValid (fault_of ms)
unfolding fault_of
fault-valid ms t = ((number-in 0 19999 key.Onset ms t.begins).1, class-valid (class_at ms) ms (own-keys ms t))

-- ---- arrays of tables

some-is : {X : Type 0} (o : Option X) → is_some o ≡ true → (x : X) × (o ≡ Some x)
some-is None e = absurd (cc)
some-is (Some x) e = (x, refl)

tables-are : (ds : Items) → all_items is_table ds ≡ true → (ts : List Members) × (ds ≡ items_of table ts)
tables-are no_items e = ([], refl)
tables-are (item d ds) e =
    let (here, rest) = and_parts (is_table d) (all_items is_table ds) e in
    let t = some-is (as_table d) here in
    let more = tables-are ds rest in
    (t.0 ∷ more.0, ap₂ item (as_table-is d t.0 t.1) more.1)

are-tables : (ts : List Members) → all_items is_table (items_of table ts) ≡ true
are-tables [] = refl
are-tables (t ∷ ts) = are-tables ts

tables-in : (d : Data) → are_tables (as_array d) ≡ true → (ts : List Members) × (d ≡ array_of table ts)
tables-in d e = of (as_array d) refl e
  where
    of : (o : Option Items) → as_array d ≡ o → are_tables o ≡ true → (ts : List Members) × (d ≡ array_of table ts)
    of None same e = absurd (cc)
    of (Some ds) same e = let ts = tables-are ds e in (ts.0, as_array-is d ds same ∙ ap array ts.1)

-- ---- the array of faults

-- the table of the fault in it
abbrev table_in : Option Data → Option Members
table_in o = o >>= as_array >>= get_item 0 >>= as_table

-- one fault at most
abbrev AreFaults : List Members → Type 0
AreFaults ts = AreMany 0 1 IsFaultTable ts

few-held : (n : ℕ) (ts : List Members) → nat_le (count (items_of table ts)) 1 ≡ true → table_refusal n (table_in (Some (array_of table ts))) ≡ None
    → table_is_known (table_in (Some (array_of table ts))) ≡ true → AreFaults ts
few-held n [] few none known = record { from = omega arith; to = omega arith; each = All-nil IsFaultTable }
few-held n (t ∷ []) few none known = record { from = omega arith; to = omega arith; each = All-cons IsFaultTable t [] (fault-held n t none known) (All-nil IsFaultTable) }
few-held n (t ∷ u ∷ ts) few none known = let wrong = leb-true _ _ few in absurd (omega arith)

faults-held : (n : ℕ) (o : Option Data) → array_refusal n o ≡ None → table_refusal n (table_in o) ≡ None → table_is_known (table_in o) ≡ true
    → MayHoldValue (array_of table) AreFaults o
faults-held n None e none known = inl refl
faults-held n (Some d) e none known =
    let h = first_of-none (unless_true (Key n key.Faults) (are_tables (as_array d)) ∷ unless_true (TwoFaults n) (is_one_at_most (as_array d)) ∷ []) e in
    let ts = tables-in d (unless_true-none (Key n key.Faults) _ h.0) in
    let few = subst (λ x. is_one_at_most (as_array x) ≡ true) ts.1 (unless_true-none (TwoFaults n) _ h.1.0) in
    inr (record {
      value = ts.0;
      is = ap Some ts.1;
      keeps = few-held n ts.0 few (subst (λ x. table_refusal n (table_in (Some x)) ≡ None) ts.1 none) (subst (λ x. table_is_known (table_in (Some x)) ≡ true) ts.1 known);
    })

-- what is said of such an array
record HasFaults (n : ℕ) (o : Option Data) : Type 0 where
  array : array_refusal n o ≡ None
  table : table_refusal n (table_in o) ≡ None
  known : table_is_known (table_in o) ≡ true
  valid : IsNoneOrValid (option_map fault_of (table_in o))

few-said : (n : ℕ) (ts : List Members) → AreFaults ts → HasFaults n (Some (array_of table ts))
unfolding IsNoneOrValid
few-said n [] h = record { array = refl; table = refl; known = refl; valid = tt }
few-said n (t ∷ []) h =
    let is = All-head IsFaultTable t [] h.each in
    let names = subst (λ c. all_names (is_among (names_with (own_keys c))) t ≡ true) (same-class t is) is.names in
    record { array = refl; table = held-fault n t is; known = names; valid = fault-valid t is }
few-said n (t ∷ u ∷ ts) h = let wrong = h.to in absurd (omega arith)

faults-said : (n : ℕ) (o : Option Data) → MayHoldValue (array_of table) AreFaults o → HasFaults n o
unfolding IsNoneOrValid
faults-said n None h = record { array = refl; table = refl; known = refl; valid = tt }
faults-said n (Some d) (inl e) = absurd (cc)
faults-said n (Some d) (inr h) = subst (HasFaults n) (sym h.is) (few-said n h.value h.keeps)

-- ---- a run

-- no earlier run has the name of this one
abbrev IsNew : List RunPlan → RunPlan → Type 0
IsNew earlier run = has_name run.name earlier ≡ false

run-held : (n : ℕ) (earlier : List RunPlan) (ms : Members) → run_refusal n earlier ms ≡ None → IsRunTable ms × IsNew earlier (run_of ms)
unfolding run_refusal
run-held n earlier ms e =
    let h = first_of-none (keys_refusal n run_keys ms ∷ faults_refusal n ms ∷ table_refusal n (fault_table ms) ∷ unless_true (Key n key.Unknown) (is_all_known ms)
    ∷ unless_true (Name n) (not (has_name (bytes_of name ms) earlier)) ∷ []) e in
    let known = and_parts (all_names (is_among run_names) ms) (table_is_known (fault_table ms)) (unless_true-none (Key n key.Unknown) _ h.1.1.1.0) in (
      record { keys = keys-held n ms run_keys h.0; faults = faults-held n (get_member (codes "faults") ms) h.1.0 h.1.1.0 known.1; names = known.0 },
      not-true _ (unless_true-none (Name n) _ h.1.1.1.1.0),
    )

held-run : (n : ℕ) (earlier : List RunPlan) (ms : Members) → IsRunTable ms → IsNew earlier (run_of ms) → run_refusal n earlier ms ≡ None
unfolding run_refusal
held-run n earlier ms h new =
    let faults = faults-said n (get_member (codes "faults") ms) h.faults in
    none-or (keys_refusal n run_keys ms) _ (held-keys n ms run_keys h.keys)
    (none-or (faults_refusal n ms) _ faults.array
    (none-or (table_refusal n (fault_table ms)) _ faults.table
    (none-or (unless_true (Key n key.Unknown) (is_all_known ms)) _ (ap (unless_true (Key n key.Unknown)) (and_from _ _ h.names faults.known))
    (none-or (unless_true (Name n) (not (has_name (bytes_of name ms) earlier))) None (ap (λ b. unless_true (Name n) (not b)) new) refl))))

run-plain : (ms : Members) → IsRunTable ms → IsRunPlan (run_of ms)
run-plain ms h = record {
  name = name-kept (text_of key.Name) ms h.keys.0;
  trace = file-kept (text_of key.Trace) ms h.keys.1.0;
  image = file-kept (text_of key.Image) ms h.keys.1.1.0;
  slices = may-kept slices-exact usual_slices [] (get_member (text_of key.Slices) ms) usual-kept h.keys.1.1.1.0;
  fault = (faults-said 0 (get_member (codes "faults") ms) h.faults).valid;
}

-- ---- all runs

-- two runs have different names
abbrev Differ : RunPlan → RunPlan → Type 0
Differ a b = ¬ (a.name ≡ b.name)

fewer : (text : List ℕ) (earlier more : List RunPlan) → has_name text (earlier ++ more) ≡ false → (has_name text earlier ≡ false) × (has_name text more ≡ false)
fewer text earlier more e =
    or_parts (has_name text earlier) (has_name text more) (sym (list_any-append (λ run. bytes_eq run.name text) earlier more) ∙ e)

differ : (r run : RunPlan) → IsNew (r ∷ []) run → Differ r run
differ r run e same =
    let here : bytes_eq r.name run.name ≡ true = (bytes_eq-Decides r.name run.name).1 same in
    true≢false (sym here ∙ (or_parts (bytes_eq r.name run.name) false e).0)

unlike : (a b : List ℕ) → (a ≡ b → ⊥) → bytes_eq a b ≡ false
unlike a b h = false_from_ne_true (bytes_eq a b) (λ e. h ((bytes_eq-Decides a b).0 e))

one-more : (earlier : List RunPlan) (r run : RunPlan) → IsNew earlier run → Differ r run → IsNew (earlier ++ r ∷ []) run
one-more earlier r run new apart =
    list_any-append (λ other. bytes_eq other.name run.name) earlier (r ∷ []) ∙ rw (new, unlike r.name run.name apart) refl

-- the tables of runs without a refusal, where these are the runs before them
record AreHeld (earlier : List RunPlan) (ts : List Members) : Type 0 where
  tables : All IsRunTable ts
  new : All (IsNew earlier) (map run_of ts)
  apart : AllPairs Differ (map run_of ts)

runs-held : (n : ℕ) (earlier : List RunPlan) (ts : List Members) → runs_refusal n earlier (items_of table ts) ≡ None → AreHeld earlier ts
runs-held n earlier [] e = record { tables = All-nil IsRunTable; new = All-nil (IsNew earlier); apart = λ i j d less within. absurd (omega arith) }
runs-held n earlier (t ∷ ts) e =
    let r = run_of t in
    let (here, rest) = or-none (run_refusal n earlier t) _ e in
    let (is, new) = run-held n earlier t here in
    let more = runs-held (n + 1) (earlier ++ r ∷ []) ts rest in
    let both = λ (run : RunPlan) (h : IsNew (earlier ++ r ∷ []) run). fewer run.name earlier (r ∷ []) h in
    record {
      tables = All-cons IsRunTable t ts is more.tables;
      new = All-cons (IsNew earlier) r (map run_of ts) new (All-weaker (IsNew (earlier ++ r ∷ [])) (IsNew earlier) (λ run h. (both run h).0) (map run_of ts) more.new);
      apart = AllPairs-cons Differ r (map run_of ts)
          (All-weaker (IsNew (earlier ++ r ∷ [])) (Differ r) (λ run h. differ r run (both run h).1) (map run_of ts) more.new) more.apart;
    }

held-runs : (n : ℕ) (earlier : List RunPlan) (ts : List Members) → AreHeld earlier ts → runs_refusal n earlier (items_of table ts) ≡ None
held-runs n earlier [] h = refl
held-runs n earlier (t ∷ ts) h =
    let r = run_of t in
    none-or (run_refusal n earlier t) _ (held-run n earlier t (All-head IsRunTable t ts h.tables) (All-head (IsNew earlier) r (map run_of ts) h.new))
    (held-runs (n + 1) (earlier ++ r ∷ []) ts (record {
      tables = All-tail IsRunTable t ts h.tables;
      new = λ i d within. one-more earlier r (slice_index_or (map run_of ts) i d) (All-tail (IsNew earlier) r (map run_of ts) h.new i d within) (h.apart 0 (suc i) d (omega arith) (omega arith));
      apart = λ i j d less within. h.apart (suc i) (suc j) d (omega arith) (omega arith);
    }))

-- ---- the file

-- where there is a first item, there is an array
present : (o : Option Data) → nat_le 1 (count (unwrap_or (o >>= as_array) no_items)) ≡ true → o ≡ Some (array (unwrap_or (o >>= as_array) no_items))
present None e = absurd (cc)
present (Some d) e = of (as_array d) refl e
  where
    of : (o : Option Items) → as_array d ≡ o → nat_le 1 (count (unwrap_or o no_items)) ≡ true → Some d ≡ Some (array (unwrap_or o no_items))
    of None same e = absurd (cc)
    of (Some ds) same e = ap Some (as_array-is d ds same)

file-held : (ms : Members) → refusal_of ms ≡ None → KeepsRules ms
unfolding refusal_of
file-held ms e =
    let ds = run_items ms in
    let h = first_of-none (unless_true (Key 0 key.Run) (are_runs ds) ∷ unless_true (Key 0 key.Unknown) (is_top_known ms) ∷ unless_true Many (nat_le (count ds) 1000)
    ∷ runs_refusal 1 [] ds ∷ []) e in
    let (tables, some) = and_parts (all_items is_table ds) (nat_le 1 (count ds)) (unless_true-none (Key 0 key.Run) _ h.0) in
    let ts = tables-are ds tables in
    let many : count ds ≡ length ts.0 = ap count ts.1 ∙ items_of-count table ts.0 in
    let held = runs-held 1 [] ts.0 (subst (λ x. runs_refusal 1 [] x ≡ None) ts.1 h.1.1.1.0) in
    let from = leb-true 1 (count ds) some in
    let to = leb-true (count ds) 1000 (unless_true-none Many _ h.1.1.0) in
    record {
      runs = record {
        value = ts.0;
        is = present (get_member (codes "run") ms) some ∙ ap (λ x. Some (array x)) ts.1;
        keeps = record { many = record { from = rw many at from; to = rw many at to; each = held.tables }; apart = held.apart };
      };
      names = unless_true-none (Key 0 key.Unknown) _ h.1.0;
    }

-- the items under `run`
items-are : (ms : Members) (k : KeepsRules ms) → run_items ms ≡ items_of table k.runs.value
items-are ms k = ap (λ o. unwrap_or (o >>= as_array) no_items) k.runs.is

-- what is said of the items of such tables
record HasRuns (ds : Items) : Type 0 where
  are : are_runs ds ≡ true
  few : nat_le (count ds) 1000 ≡ true
  runs : runs_refusal 1 [] ds ≡ None

tables-said : (ts : List Members) → AreRunTables ts → HasRuns (items_of table ts)
tables-said ts h =
    let many = sym (items_of-count table ts) in
    let from : 1 ≤ count (items_of table ts) = rw many at h.many.from in
    let to : count (items_of table ts) ≤ 1000 = rw many at h.many.to in
    record {
      are = and_from _ _ (are-tables ts) (le-leb _ _ from);
      few = le-leb _ _ to;
      runs = held-runs 1 [] ts (record { tables = h.many.each; new = λ i d within. refl; apart = h.apart });
    }

held-file : (ms : Members) → KeepsRules ms → refusal_of ms ≡ None
unfolding refusal_of
held-file ms k =
    let h = subst HasRuns (sym (items-are ms k)) (tables-said k.runs.value k.runs.keeps) in
    none-or (unless_true (Key 0 key.Run) (are_runs (run_items ms))) _ (ap (unless_true (Key 0 key.Run)) h.are)
    (none-or (unless_true (Key 0 key.Unknown) (is_top_known ms)) _ (ap (unless_true (Key 0 key.Unknown)) k.names)
    (none-or (unless_true Many (nat_le (count (run_items ms)) 1000)) _ (ap (unless_true Many) h.few)
    (none-or (runs_refusal 1 [] (run_items ms)) None h.runs refl)))

runs_of-tables : (ts : List Members) → runs_of (items_of table ts) ≡ map run_of ts
runs_of-tables [] = refl
runs_of-tables (t ∷ ts) = ap (λ runs. run_of t ∷ runs) (runs_of-tables ts)

runs-plain : (ts : List Members) → AreRunTables ts → AreRuns (map run_of ts)
runs-plain ts h =
    let many = sym (length-map ts run_of) in
    record {
      least = rw many at h.many.from;
      most = rw many at h.many.to;
      each = All-map IsRunPlan run_of ts (All-weaker IsRunTable (λ t. IsRunPlan (run_of t)) run-plain ts h.many.each);
      names = h.apart;
    }

-- ---- the laws

pub accepted_law : AcceptedLaw
accepted_law ms runs = (
  (λ e. let (none, same) = unless-ok (refusal_of ms) (runs_of (run_items ms)) runs e in (file-held ms none, same)),
  (λ h. rw (held-file ms h.0) (ap Ok (sym h.1))),
)

pub runs_law : RunsLaw
runs_law None runs e = absurd (cc)
runs_law (Some ms) runs e =
    let (keeps, same) = (accepted_law ms runs).0 e in
    subst AreRuns (sym (same ∙ ap runs_of (items-are ms keeps) ∙ runs_of-tables keeps.runs.value)) (runs-plain keeps.runs.value keeps.runs.keeps)

-- so what was read keeps them, whatever holds the list of runs
pub read-keeps : {B : Type 0} (items : B → List RunPlan) (ms : Members) (result : Result B CampaignFault)
    → Reads Memory (refusal_of ms) (runs_of (run_items ms)) (seen items result) → IfOk result (λ runs. AreRuns (items runs))
read-keeps items ms (Ok runs) (none, same) = runs_law (Some ms) (items runs) (rw none (ap Ok (sym same)))
read-keeps items ms (Err f) e = tt
