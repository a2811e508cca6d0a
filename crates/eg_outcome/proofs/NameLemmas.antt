-- The names of the files of runs.
use Rattle.std.proofs.Common.{◌≡◌, ◌∙◌, refl, sym, ap, subst, ℕ, ◌+◌, List, [], ◌∷◌, ◌++◌, length, Bool, true, false, Option, Some, None, Ok, Err, arith}
use Rattle.std.specs.Prelude.{All, bytes_eq, if◌then◌else◌, Result, IfErr}
use Rattle.eg_base.specs.Outside.{ShownStore}
use Rattle.eg_fault.specs.Faults.{IsNoneOrValid}
use Rattle.eg_plan.specs.Rules.{AreRuns}
use Rattle.eg_plan.specs.declared.run.RunPlan.{RunPlan}
use Rattle.eg_plan.specs.declared.run_input.RunInput.{RunInput}
use Rattle.eg_outcome.specs.Changes.{Change, change}
use Rattle.eg_outcome.specs.Outcomes.{Then, TellsNoMemory}
use Rattle.eg_outcome.specs.Reads.{refused, whole, BytesCome, ReadComes, FileComes, KeepsFiles}
use Rattle.eg_outcome.specs.Inputs.{outcomes}
use Rattle.eg_outcome.specs.Images.{image_or_refusal}
use Rattle.eg_input.specs.Images.{image_words}
use Rattle.eg_input.specs.declared.fault.ImageFault.{ImageFault}
use Rattle.eg_outcome.specs.Files.{is_too_long}
use Rattle.eg_outcome.specs.declared.outcome.Outcome.{Outcome}
use Rattle.eg_outcome.specs.declared.outcome.Outcome.TheVariants as outcome
use Rattle.eg_outcome.specs.declared.outcome.Refusal.{Refusal}
use Rattle.eg_outcome.specs.declared.outcome.Refusal.TheVariants as refusal
use Rattle.eg_outcome.specs.declared.outcome.Role.{Role}
use Rattle.eg_outcome.specs.declared.outcome.Role.TheVariants as role
use Rattle.eg_outcome.specs.declared.end.End.{End}
use Rattle.eg_outcome.specs.Campaigns.{campaign_file}
use Rattle.eg_outcome.specs.Roles.{role_in}
use Rattle.eg_outcome.specs.Runs.{IsOf, name_by, name_for, IsNamedIfOfRun, NamesFile, FindsNamed, ReadsCampaign, run_named}
use Rattle.eg_outcome.proofs.InputsLemmas.{named}

-- the whole of a file is refused for its size alone
too_long : (file : Role) (bytes : List ℕ) (r : Refusal) → whole file bytes ≡ Err r → r ≡ refusal.Size file
too_long file bytes r refuses = go (is_too_long bytes) refuses
  where
    go : (long : Bool) → (if long then Err (refusal.Size file) else Ok bytes) ≡ Err r → r ≡ refusal.Size file
    go true e = cc
    go false e = absurd cc

-- how a call ends without the bytes of a file speaks of this file, or of none
pub of_file : (P : Option Role → Type 0) (file : Role) (name : List ℕ) (store : Change ShownStore) (end : Outcome)
    → P (Some file) → P None → FileComes file (whole file) name store (Err end) → P (role_in end)
of_file P file name store (outcome.ReadFault role) some none (is, rose, missing) = subst (λ r. P (Some r)) (sym is) some
of_file P file name store (outcome.Refused r) some none (same, (bytes, read, refuses)) =
    subst (λ why. P (role_in (outcome.Refused why))) (sym (too_long file bytes r refuses)) some
of_file P file name store outcome.Memory some none comes = none
of_file P file name store outcome.Done some none (same, (bytes, read, never)) = absurd never
of_file P file name store outcome.Usage some none (same, (bytes, read, never)) = absurd never
of_file P file name store outcome.WriteFault some none (same, (bytes, read, never)) = absurd never

-- the refusal of an image is told as one of its run
pub image_of_run : (n : ℕ) (bytes : List ℕ) (come : Result (List ℕ) Outcome) → BytesCome (image_or_refusal n) bytes come →
    IfErr come (λ end. IsOf n (role_in end))
image_of_run n bytes (Ok words) comes = tt
image_of_run n bytes (Err outcome.Memory) comes = tt
image_of_run n bytes (Err (outcome.Refused r)) comes = go (image_words bytes) comes
  where
    go : (read : Result (List ℕ) ImageFault) → refused (refusal.Image n) read ≡ Err r → IsOf n (role_in (outcome.Refused r))
    go (Ok words) same = absurd cc
    go (Err fault) same = subst (λ why. IsOf n (role_in (outcome.Refused why))) (let is : refusal.Image n fault ≡ r = cc in is) refl
image_of_run n bytes (Err _) comes = absurd comes

-- the plan of a run has a name for each of its files, and for no other
pub by_plan : (plan : RunPlan) (file : Option Role) → IsNamedIfOfRun file (name_by plan file)
by_plan plan None = refl
by_plan plan (Some (role.Trace n)) = refl
by_plan plan (Some _) = refl

-- a name of the campaign's is the one that the campaign gives
pub names-file : (campaign : List ℕ) (store : ShownStore) (plans : List RunPlan) (file : Option Role) (name : Option (List ℕ))
    → ReadComes campaign_file campaign store (Ok plans) → name ≡ name_for plans file → IsNamedIfOfRun file name → NamesFile campaign store file name
names-file campaign store plans (Some (role.Trace n)) name (bytes, read, says) is some = (bytes, read, plans, says, some, is)
names-file campaign store plans (Some (role.Image n)) name (bytes, read, says) is some = (bytes, read, plans, says, some, is)
names-file campaign store plans _ name (bytes, read, says) is some = some

-- so of whatever comes of the files of all runs
pub names-inputs : {X : Type 0} (campaign : List ℕ) (store : ShownStore) (plans : List RunPlan) (result : Result X End)
    → ReadComes campaign_file campaign store (Ok plans) → IfErr result (λ end. end.file ≡ name_for plans (role_in end.outcome))
    → IfErr result (λ end. IsNamedIfOfRun (role_in end.outcome) end.file) → IfErr result (λ end. NamesFile campaign store (role_in end.outcome) end.file)
names-inputs campaign store plans (Ok x) comes is some = tt
names-inputs campaign store plans (Err end) comes is some = names-file campaign store plans (role_in end.outcome) end.file comes is some

-- a campaign that was read isn't told to be missing
pub not-told : {X Y : Type 0} (x : X) (come : Result Y Outcome) {e e2 : Outcome} → (let read : Result X Outcome = Ok x in read ≡ Err e) → come ≡ Err e2
not-told x come is = absurd cc

-- this run is one of the runs, of which the first has number n, and its number is m
abbrev StandsAt : ℕ → List RunPlan → ℕ → RunPlan → Type 0
StandsAt n plans m plan =
    (before : List RunPlan) × (rest : List RunPlan) × (plans ≡ before ++ plan ∷ rest) × (m ≡ length before + n)

-- the run that has the name is one of them
stands-named : (name : List ℕ) (n : ℕ) (plans : List RunPlan) (m : ℕ) (plan : RunPlan) → run_named name n plans ≡ Some (m, plan)
    → StandsAt n plans m plan
stands-named name n [] m plan found = absurd cc
stands-named name n (first ∷ plans) m plan found = go (bytes_eq first.name name) found (stands-named name (n + 1) plans m plan)
  where
    run_in : Option (ℕ × RunPlan) → ℕ × RunPlan
    run_in None = (n, first)
    run_in (Some run) = run

    later : StandsAt (n + 1) plans m plan → StandsAt n (first ∷ plans) m plan
    later (before, rest, parts, at) = (first ∷ before, rest, ap (λ ps. first ∷ ps) parts, omega (arith, at))

    go : (same : Bool) → (if same then Some (n, first) else run_named name (n + 1) plans) ≡ Some (m, plan)
        → (run_named name (n + 1) plans ≡ Some (m, plan) → StandsAt (n + 1) plans m plan) → StandsAt n (first ∷ plans) m plan
    go true found after = (
      [],
      plans,
      ap (λ (o : Option (ℕ × RunPlan)). (run_in o).1 ∷ plans) found,
      (let at : n ≡ m = ap (λ (o : Option (ℕ × RunPlan)). (run_in o).0) found in omega (arith, at)),
    )
    go false found after = later (after found)

-- what comes of the files of the run that was found comes of the campaign and its name
pub found-comes : (P : Option (ℕ × RunPlan) → Change ShownStore → Result RunInput Outcome → Type 0) (campaign name : List ℕ)
    (before between after : ShownStore) (found : ℕ × RunPlan) (come : Result RunInput Outcome)
    → FindsNamed campaign name before found → between ≡ before → P (Some found) (change between after) come
    → (plans : Result (List RunPlan) Outcome) × FileComes role.Campaign campaign_file campaign (change before after) plans
    × Then (λ runs made. P (run_named name 1 runs) (change before after) made) plans come
found-comes P campaign name before between after found come (plans, reads, is) same comes =
    (Ok plans, reads, subst (λ one. P one (change before after) come) (sym is) (subst (λ shown. P (Some found) (change shown after) come) same comes))

-- they are told by the name that the campaign gives
names-files : (campaign name : List ℕ) (store : ShownStore) (n : ℕ) (plan : RunPlan) (result : Result RunInput End)
    → FindsNamed campaign name store (n, plan)
    → IfErr result (λ end. (end.file ≡ name_by plan (role_in end.outcome)) × IsOf n (role_in end.outcome))
    → IfErr result (λ end. NamesFile campaign store (role_in end.outcome) end.file)
names-files campaign name store n plan (Ok input) finds is = tt
names-files campaign name store n plan (Err end) (plans, comes, found) (is, of) = go (stands-named name 1 plans n plan found)
  where
    go : StandsAt 1 plans n plan → NamesFile campaign store (role_in end.outcome) end.file
    go (before, rest, parts, at) =
        names-file campaign store plans (role_in end.outcome) end.file comes (is ∙ named before plan rest plans n (role_in end.outcome) parts at of)
        (subst (IsNamedIfOfRun (role_in end.outcome)) (sym is) (by_plan plan (role_in end.outcome)))

-- so what holds of the reading of the campaign and of that of these files holds of both together
pub reads-both : (campaign name : List ℕ) (before between after : ShownStore) (n : ℕ) (plan : RunPlan) (result : Result RunInput End)
    → FindsNamed campaign name before (n, plan) → ReadsCampaign campaign (change before between) (let read : Result (ℕ × RunPlan) End = Ok (n, plan) in read)
    → IfErr result (λ end. (end.file ≡ name_by plan (role_in end.outcome)) × IsOf n (role_in end.outcome)) → IfErr result (λ end. TellsNoMemory end.outcome)
    → KeepsFiles (change between after) result → ReadsCampaign campaign (change before after) result
reads-both campaign name before between after n plan result found read told no_memory keeps = record {
  named = names-files campaign name before n plan result found told;
  missing = λ sure missing. not-told (n, plan) (outcomes result) (read.missing sure missing);
  no_memory = no_memory;
  keeps = record {
    files = keeps.files ∙ read.keeps.files;
    shown = λ ok. keeps.shown ok ∙ read.keeps.shown refl;
  };
}

-- the faults of an accepted campaign are valid
pub valid_faults : (plans : List RunPlan) → AreRuns plans → All (λ plan. IsNoneOrValid plan.fault) plans
valid_faults plans rules = λ k d within. (rules.each k d within).fault

-- the first run of the list has the name
pub found-now : (name : List ℕ) (n : ℕ) (plan : RunPlan) (rest : List RunPlan) → bytes_eq plan.name name ≡ true → run_named name n (plan ∷ rest) ≡ Some (n, plan)
found-now name n plan rest same = ap (λ test. if test then Some (n, plan) else run_named name (n + 1) rest) same
