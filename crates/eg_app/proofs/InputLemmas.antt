-- What the files of runs say where their inputs came, and how a call ends where they didn't.
use Rattle.std.proofs.Common.{◌≡◌, ◌+◌, ◌∷◌, [], List, ℕ, Bool, true, false, Option, Some, None, length, refl, sym, ap, subst}
use Rattle.std.specs.Prelude.{Ok, Err}
use Rattle.eg_base.specs.Outside.{ShownStore}
use Rattle.eg_num.specs.Drive.{DriveRow}
use Rattle.eg_plan.specs.declared.run.RunPlan.{RunPlan}
use Rattle.eg_plan.specs.declared.run_input.RunInput.{RunInput}
use Rattle.eg_outcome.specs.Changes.{Change}
use Rattle.eg_outcome.specs.declared.outcome.Outcome.{Outcome}
use Rattle.eg_outcome.specs.declared.outcome.Outcome.TheVariants.{Refused}
use Rattle.eg_outcome.specs.declared.outcome.Refusal.{Refusal}
use Rattle.eg_outcome.specs.declared.outcome.Refusal.TheVariants.{Grid, NoRun}
use Rattle.eg_outcome.specs.declared.outcome.Role.TheVariants as role
use Rattle.eg_outcome.specs.Reads.{ReadComes}
use Rattle.eg_outcome.specs.Images.{image_file}
use Rattle.eg_outcome.specs.Campaigns.{campaign_file, trace_file}
use Rattle.eg_outcome.specs.Inputs.{input_of, TicksCome, InputComes, InputsCome, too_many}
use Rattle.eg_table.specs.Grid.{is_too_large}
use Rattle.eg_outcome.specs.Runs.{FoundComes, FoundUndriven, GridComes, NamedComes, RunsCome, SweptComes, UndrivenComes, run_named}
use Rattle.eg_app.specs.Headline.{IsInput, AreInputs, IsNamedInput, IsUndrivenInput}
use Rattle.eg_app.proofs.ChainLemmas.{same_error, same_value, no_value, of_chain, of_value}
use Rattle.eg_app.proofs.FileLemmas.{IsStop, file_stops}

-- ---- what the files say ----

ticks_tell : (refused : Option Refusal) (store : Change ShownStore) (n : ℕ) (plan : RunPlan) (drive : List DriveRow) (input : RunInput)
    → ReadComes (trace_file n) plan.trace store.before (Ok drive) → TicksCome refused store n plan drive (Ok input) → IsInput store.before n plan input
ticks_tell (Some r) store n plan drive input trace (come, same) = absurd (no_value input _ (sym come))
ticks_tell None store n plan drive input trace come = of_value input come (λ words comes made.
    subst (λ (i : RunInput). IsInput store.before n plan i) (sym (same_value (Ok input) input (input_of plan drive words) refl made))
    (record { planned = refl; driven = trace; loaded = comes }))

pub input_tells : (refuses : ℕ → Option Refusal) (store : Change ShownStore) (n : ℕ) (plan : RunPlan) (input : RunInput)
    → InputComes refuses store n plan (Ok input) → IsInput store.before n plan input
input_tells refuses store n plan input come =
    of_value input come (λ drive comes rest. ticks_tell (refuses (length drive)) store n plan drive input comes rest)

pub inputs_tell : (store : Change ShownStore) (n sum : ℕ) (plans : List RunPlan) (inputs : List RunInput)
    → InputsCome store n sum plans (Ok inputs) → AreInputs store.before n plans inputs
inputs_tell store n sum [] inputs come =
    subst (λ (all : List RunInput). AreInputs store.before n [] all) (sym (same_value (Ok inputs) inputs [] refl come)) tt
inputs_tell store n sum (plan ∷ plans) inputs come = of_value inputs come (λ input comes rest. of_value inputs rest (λ others read made.
    subst (λ (all : List RunInput). AreInputs store.before n (plan ∷ plans) all) (sym (same_value (Ok inputs) inputs (input ∷ others) refl made))
    (input_tells (too_many sum n) store n plan input comes, inputs_tell store (n + 1) (sum + length input.drive) plans others read)))

found_tells : (campaign name : List ℕ) (plans : List RunPlan) (found : Option (ℕ × RunPlan)) (store : Change ShownStore) (input : RunInput)
    → ReadComes campaign_file campaign store.before (Ok plans) → run_named name 1 plans ≡ found → FoundComes found store (Ok input)
    → IsNamedInput campaign name store.before input
found_tells campaign name plans None store input says named come = absurd (no_value input _ (sym come.0))
found_tells campaign name plans (Some found) store input says named come = record {
  plans = plans;
  n = found.0;
  plan = found.1;
  campaign_says = says;
  is_named = named;
  files_say = input_tells (λ count. None) store found.0 found.1 input come;
}

pub named_tells : (campaign name : List ℕ) (store : Change ShownStore) (input : RunInput)
    → NamedComes campaign name store (Ok input) → IsNamedInput campaign name store.before input
named_tells campaign name store input come =
    of_value input come (λ plans read rest. found_tells campaign name plans (run_named name 1 plans) store input read refl rest)

grid_takes : (large : Bool) (store : Change ShownStore) (one input : RunInput) → GridComes large store one (Ok input) → input ≡ one
grid_takes true store one input come = absurd (no_value input _ (sym come.0))
grid_takes false store one input come = same_value (Ok input) input one refl come

pub swept_tells : (campaign name : List ℕ) (step : ℕ) (store : Change ShownStore) (input : RunInput)
    → SweptComes campaign name step store (Ok input) → IsNamedInput campaign name store.before input
swept_tells campaign name step store input come = of_value input come (λ one read grid.
    subst (λ (i : RunInput). IsNamedInput campaign name store.before i) (sym (grid_takes (is_too_large (length one.drive) step) store one input grid))
    (named_tells campaign name store one read))

undriven_found : (campaign name : List ℕ) (plans : List RunPlan) (found : Option (ℕ × RunPlan)) (store : Change ShownStore) (input : RunInput)
    → ReadComes campaign_file campaign store.before (Ok plans) → run_named name 1 plans ≡ found → FoundUndriven found store (Ok input)
    → IsUndrivenInput campaign name store.before input
undriven_found campaign name plans None store input says named come = absurd (no_value input _ (sym come.0))
undriven_found campaign name plans (Some found) store input says named come = of_value input come (λ words read made.
    let same = same_value (Ok input) input (input_of found.1 [] words) refl made in
    record {
      plans = plans;
      n = found.0;
      plan = found.1;
      campaign_says = says;
      is_named = named;
      planned = ap (λ (i : RunInput). i.plan) same;
      loaded = subst (λ (i : RunInput). ReadComes (image_file found.0) found.1.image store.before (Ok i.image)) (sym same) read;
    })

pub undriven_tells : (campaign name : List ℕ) (store : Change ShownStore) (input : RunInput)
    → UndrivenComes campaign name store (Ok input) → IsUndrivenInput campaign name store.before input
undriven_tells campaign name store input come =
    of_value input come (λ plans read rest. undriven_found campaign name plans (run_named name 1 plans) store input read refl rest)

-- ---- how a call ends without them ----

ticks_stop : (refused : Option Refusal) (store : Change ShownStore) (n : ℕ) (plan : RunPlan) (drive : List DriveRow) (end : Outcome)
    → TicksCome refused store n plan drive (Err end) → IsStop end
ticks_stop (Some r) store n plan drive end (come, same) = subst IsStop (same_error (Err end) end (Refused r) refl come) tt
ticks_stop None store n plan drive end come = of_chain IsStop end come (file_stops (role.Image n) (image_file n) plan.image store tt)
    (λ words read same. absurd (no_value (input_of plan drive words) end same))

input_stops : (refuses : ℕ → Option Refusal) (store : Change ShownStore) (n : ℕ) (plan : RunPlan) (end : Outcome)
    → InputComes refuses store n plan (Err end) → IsStop end
input_stops refuses store n plan end come = of_chain IsStop end come (file_stops (role.Trace n) (trace_file n) plan.trace store tt)
    (λ drive read rest. ticks_stop (refuses (length drive)) store n plan drive end rest)

pub inputs_stop : (store : Change ShownStore) (n sum : ℕ) (plans : List RunPlan) (end : Outcome)
    → InputsCome store n sum plans (Err end) → IsStop end
inputs_stop store n sum [] end come = absurd (no_value [] end come)
inputs_stop store n sum (plan ∷ plans) end come = of_chain IsStop end come (input_stops (too_many sum n) store n plan)
    (λ input read rest. of_chain IsStop end rest (inputs_stop store (n + 1) (sum + length input.drive) plans)
    (λ inputs others same. absurd (no_value (input ∷ inputs) end same)))

found_stops : (found : Option (ℕ × RunPlan)) (store : Change ShownStore) (end : Outcome) → FoundComes found store (Err end) → IsStop end
found_stops None store end come = subst IsStop (same_error (Err end) end (Refused NoRun) refl come.0) tt
found_stops (Some found) store end come = input_stops (λ count. None) store found.0 found.1 end come

pub named_stops : (campaign name : List ℕ) (store : Change ShownStore) (end : Outcome) → NamedComes campaign name store (Err end) → IsStop end
named_stops campaign name store end come = of_chain IsStop end come (file_stops role.Campaign campaign_file campaign store tt)
    (λ plans read rest. found_stops (run_named name 1 plans) store end rest)

pub runs_stop : (campaign : List ℕ) (store : Change ShownStore) (end : Outcome) → RunsCome campaign store (Err end) → IsStop end
runs_stop campaign store end come = of_chain IsStop end come (file_stops role.Campaign campaign_file campaign store tt)
    (λ plans read rest. inputs_stop store 1 0 plans end rest)

grid_stops : (large : Bool) (store : Change ShownStore) (one : RunInput) (end : Outcome) → GridComes large store one (Err end) → IsStop end
grid_stops true store one end come = subst IsStop (same_error (Err end) end (Refused Grid) refl come.0) tt
grid_stops false store one end come = absurd (no_value one end come)

pub swept_stops : (campaign name : List ℕ) (step : ℕ) (store : Change ShownStore) (end : Outcome)
    → SweptComes campaign name step store (Err end) → IsStop end
swept_stops campaign name step store end come = of_chain IsStop end come (named_stops campaign name store)
    (λ one read rest. grid_stops (is_too_large (length one.drive) step) store one end rest)

undriven_stop : (found : Option (ℕ × RunPlan)) (store : Change ShownStore) (end : Outcome) → FoundUndriven found store (Err end) → IsStop end
undriven_stop None store end come = subst IsStop (same_error (Err end) end (Refused NoRun) refl come.0) tt
undriven_stop (Some found) store end come = ticks_stop None store found.0 found.1 [] end come

pub undriven_stops : (campaign name : List ℕ) (store : Change ShownStore) (end : Outcome) → UndrivenComes campaign name store (Err end) → IsStop end
undriven_stops campaign name store end come = of_chain IsStop end come (file_stops role.Campaign campaign_file campaign store tt)
    (λ plans read rest. undriven_stop (run_named name 1 plans) store end rest)
