-- When a campaign and the files of its runs come.
use Rattle.std.proofs.Common.{◌≡◌, ◌+◌, ◌∷◌, [], List, ℕ, Bool, true, false, Option, Some, None, length, refl, subst}
use Rattle.std.specs.Prelude.{Result, Ok, Err}
use Rattle.eg_base.specs.Outside.{ShownStore}
use Rattle.eg_num.specs.Drive.{DriveRow}
use Rattle.eg_plan.specs.declared.run.RunPlan.{RunPlan}
use Rattle.eg_plan.specs.declared.run_input.RunInput.{RunInput}
use Rattle.eg_outcome.specs.Changes.{Change}
use Rattle.eg_outcome.specs.declared.outcome.Outcome.{Outcome}
use Rattle.eg_outcome.specs.declared.outcome.Refusal.{Refusal}
use Rattle.eg_outcome.specs.declared.outcome.Role.TheVariants as role
use Rattle.eg_outcome.specs.Outcomes.{IsDoneOrMemory, Then}
use Rattle.eg_outcome.specs.Reads.{FileComes, ReadComes, Finds, Accepts}
use Rattle.eg_table.specs.Grid.{is_too_large}
use Rattle.eg_outcome.specs.Images.{image_file}
use Rattle.eg_outcome.specs.Campaigns.{campaign_file, trace_file}
use Rattle.eg_outcome.specs.Inputs.{input_of, TicksCome, InputComes, InputsCome, FindsInput, AcceptsInput, FindsRuns, AcceptsRuns, too_many}
use Rattle.eg_outcome.specs.Runs.{FoundComes, FoundUndriven, GridComes, NamedComes, RunsCome, SweptComes, UndrivenComes, AcceptsNamed, AcceptsGrid, AcceptsUndriven, run_named}
use Rattle.eg_app.specs.Ends.{AcceptsCampaign}
use Rattle.eg_app.proofs.ChainLemmas.{no_value, of_chain}
use Rattle.eg_app.proofs.FileLemmas.{file_done}
use Rattle.eg_app.proofs.InputLemmas.{input_tells, named_tells}

-- ---- the files of runs ----

-- where an image is found and accepted, a call ends only where memory runs out
ticks_done : (refused : Option Refusal) (store : Change ShownStore) (n : ℕ) (plan : RunPlan) (drive : List DriveRow) → refused ≡ None
    → Finds plan.image store → Accepts (image_file n) plan.image store.before
    → (end : Outcome) → TicksCome refused store n plan drive (Err end) → IsDoneOrMemory end
ticks_done (Some r) store n plan drive none finds accepts end come = absurd cc
ticks_done None store n plan drive none finds accepts end come =
    of_chain IsDoneOrMemory end come (file_done (role.Image n) (image_file n) plan.image store finds accepts)
    (λ words read same. absurd (no_value (input_of plan drive words) end same))

-- so the files of a run
input_done : (refuses : ℕ → Option Refusal) (store : Change ShownStore) (n : ℕ) (plan : RunPlan)
    → FindsInput store plan → AcceptsInput refuses store.before n plan
    → (end : Outcome) → InputComes refuses store n plan (Err end) → IsDoneOrMemory end
input_done refuses store n plan finds accepts end come =
    of_chain IsDoneOrMemory end come (file_done (role.Trace n) (trace_file n) plan.trace store finds.0 accepts.0)
    (λ drive read rest. ticks_done (refuses (length drive)) store n plan drive (accepts.2 drive read) finds.1 accepts.1 end rest)

-- so the files of all runs
inputs_done : (store : Change ShownStore) (n sum : ℕ) (plans : List RunPlan)
    → FindsRuns store plans → AcceptsRuns store.before n sum plans
    → (end : Outcome) → InputsCome store n sum plans (Err end) → IsDoneOrMemory end
inputs_done store n sum [] finds accepts end come = absurd (no_value [] end come)
inputs_done store n sum (plan ∷ plans) finds accepts end come =
    of_chain IsDoneOrMemory end come (input_done (too_many sum n) store n plan finds.0 accepts.0)
    (λ input read rest. of_chain IsDoneOrMemory end rest
    (inputs_done store (n + 1) (sum + length input.drive) plans finds.1 (accepts.1 input.drive (input_tells (too_many sum n) store n plan input read).driven))
    (λ inputs others same. absurd (no_value (input ∷ inputs) end same)))

-- so those of a run that is there
found_done : (found : Option (ℕ × RunPlan)) (store : Change ShownStore) → AcceptsNamed store found
    → (end : Outcome) → FoundComes found store (Err end) → IsDoneOrMemory end
found_done None store accepts end come = absurd accepts
found_done (Some found) store accepts end come = input_done (λ count. None) store found.0 found.1 accepts.0 accepts.1 end come

-- so that of a run whose drive comes from elsewhere
undriven_found_done : (found : Option (ℕ × RunPlan)) (store : Change ShownStore) → AcceptsUndriven store found
    → (end : Outcome) → FoundUndriven found store (Err end) → IsDoneOrMemory end
undriven_found_done None store accepts end come = absurd accepts
undriven_found_done (Some found) store accepts end come = ticks_done None store found.0 found.1 [] refl accepts.0 accepts.1 end come

-- ---- a campaign ----

-- where a campaign is found and accepted, a call ends only where memory runs out, or at the files of its runs
of_campaign : {Y : Type 0} (campaign : List ℕ) (store : Change ShownStore) (Files : List RunPlan → Type 0) (more : List RunPlan → Result Y Outcome → Type 0)
    → AcceptsCampaign campaign store Files → (end : Outcome)
    → ((plans : Result (List RunPlan) Outcome) × FileComes role.Campaign campaign_file campaign store plans × Then more plans (Err end))
    → ((plans : List RunPlan) → Files plans → more plans (Err end) → IsDoneOrMemory end) → IsDoneOrMemory end
of_campaign campaign store Files more accepts end come done =
    of_chain IsDoneOrMemory end come (file_done role.Campaign campaign_file campaign store accepts.finds accepts.accepts)
    (λ plans read rest. done plans (accepts.files plans read) rest)

pub runs_done : (campaign : List ℕ) (store : Change ShownStore)
    → AcceptsCampaign campaign store (λ plans. FindsRuns store plans × AcceptsRuns store.before 1 0 plans)
    → (end : Outcome) → RunsCome campaign store (Err end) → IsDoneOrMemory end
runs_done campaign store accepts end come = of_campaign campaign store _ (λ plans made. InputsCome store 1 0 plans made) accepts end come
    (λ plans files rest. inputs_done store 1 0 plans files.0 files.1 end rest)

pub named_done : (campaign name : List ℕ) (store : Change ShownStore)
    → AcceptsCampaign campaign store (λ plans. AcceptsNamed store (run_named name 1 plans))
    → (end : Outcome) → NamedComes campaign name store (Err end) → IsDoneOrMemory end
named_done campaign name store accepts end come = of_campaign campaign store _ (λ plans made. FoundComes (run_named name 1 plans) store made) accepts end come
    (λ plans files rest. found_done (run_named name 1 plans) store files end rest)

pub undriven_done : (campaign name : List ℕ) (store : Change ShownStore)
    → AcceptsCampaign campaign store (λ plans. AcceptsUndriven store (run_named name 1 plans))
    → (end : Outcome) → UndrivenComes campaign name store (Err end) → IsDoneOrMemory end
undriven_done campaign name store accepts end come = of_campaign campaign store _ (λ plans made. FoundUndriven (run_named name 1 plans) store made) accepts end come
    (λ plans files rest. undriven_found_done (run_named name 1 plans) store files end rest)

-- the grid over the trace of the run of that name isn't too large
named_grid : (campaign name : List ℕ) (step : ℕ) (store : Change ShownStore) (input : RunInput)
    → NamedComes campaign name store (Ok input)
    → ((plans : List RunPlan) → ReadComes campaign_file campaign store.before (Ok plans) → AcceptsGrid step store.before (run_named name 1 plans))
    → is_too_large (length input.drive) step ≡ false
named_grid campaign name step store input come grids =
    let tells = named_tells campaign name store input come in
    subst (AcceptsGrid step store.before) tells.is_named (grids tells.plans tells.campaign_says) input.drive tells.files_say.driven

grid_done : (large : Bool) (store : Change ShownStore) (input : RunInput) (end : Outcome) → large ≡ false → GridComes large store input (Err end) → ⊥
grid_done true store input end small come = absurd cc
grid_done false store input end small come = no_value input end come

pub swept_done : (campaign name : List ℕ) (step : ℕ) (store : Change ShownStore)
    → AcceptsCampaign campaign store (λ plans. AcceptsNamed store (run_named name 1 plans) × AcceptsGrid step store.before (run_named name 1 plans))
    → (end : Outcome) → SweptComes campaign name step store (Err end) → IsDoneOrMemory end
swept_done campaign name step store accepts end come = of_chain IsDoneOrMemory end come
    (named_done campaign name store (record { finds = accepts.finds; accepts = accepts.accepts; files = λ plans read. (accepts.files plans read).0 }))
    (λ input read grid. absurd (grid_done (is_too_large (length input.drive) step) store input end
    (named_grid campaign name step store input read (λ plans says. (accepts.files plans says).1)) grid))
