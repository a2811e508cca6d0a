-- How a call ends (F3, F5). It first gathers a job, and then performs the job: so nothing is put, no line is
-- read and no tick is made before all files are accepted.
use Rattle.std.specs.Prelude.{◌≡◌, ◌≢◌, ℕ, List, Option, Some, None, Result, Ok}
use Rattle.eg_base.specs.Outside.{ShownStore, ShownSink, Rose}
use Rattle.eg_lines.specs.Lines.{ShownLines}
use Rattle.eg_tick.specs.Weights.{TickCount}
use Rattle.eg_plan.specs.declared.run.RunPlan.{RunPlan}
use Rattle.eg_outcome.specs.Calibrations.{FindsCalibration, AcceptsCalibration}
use Rattle.eg_outcome.specs.Changes.{Change, MeetsNoFault}
use Rattle.eg_outcome.specs.Images.{image_file}
use Rattle.eg_outcome.specs.Outcomes.{IsDoneOrMemory, PutsNothing, WorkFollows}
use Rattle.eg_outcome.specs.Reads.{ReadComes, Finds, Accepts}
use Rattle.eg_outcome.specs.Roles.{role_in}
use Rattle.eg_outcome.specs.declared.outcome.Outcome.{Outcome}
use Rattle.eg_outcome.specs.declared.outcome.Outcome.TheVariants as outcome
use Rattle.eg_outcome.specs.declared.outcome.Role.TheVariants as role
use Rattle.eg_stream.specs.Coupled.{unit_of}
use Rattle.eg_stream.specs.Couplings.{couple_work}
use Rattle.eg_stream.specs.Recordings.{HoldsRecording}
use Rattle.eg_stream.specs.Streams.{HoldsWhole}
use Rattle.eg_desk.specs.Check.{check_file}
use Rattle.eg_desk.specs.Ends.{AcceptsSource, answers_file}
use Rattle.eg_outcome.specs.Runs.{AcceptsGrid, AcceptsNamed, AcceptsUndriven, run_named}
use Rattle.eg_outcome.specs.Campaigns.{campaign_file}
use Rattle.eg_outcome.specs.Inputs.{FindsRuns, AcceptsRuns}
use Rattle.eg_app.specs.declared.job.Job.{Job}
use Rattle.eg_app.specs.declared.job.Job.TheVariants as job
use Rattle.eg_app.specs.Gathered.{Gathers}
use Rattle.eg_app.specs.Performed.{Performs}
use Rattle.eg_desk.specs.Words.{Command, by, soak, answers, asm, dis, Work, check, run, record_run, sweep, signals, couple}

pub record Call : Type 0 where
  pub store : Change ShownStore
  pub lines : Change ShownLines
  pub out : Change ShownSink
  pub ticks : Change TickCount

abbrev pub call : Change ShownStore → Change ShownLines → Change ShownSink → Change TickCount → Call
call store lines out ticks = record { store = store; lines = lines; out = out; ticks = ticks }

-- F3: a job was gathered, no fault of reading a file was met, and the job was performed; or the call ended
-- without a job, and `nothing` holds. If the words ask for nothing, the outcome is Usage. A fault that is met
-- is counted, and each case says whose count stayed too. So each outcome comes exactly if its case says so
-- (unless a count stands at the last value of a u64); only running out of memory may come at any place. If a
-- call reads several files, the count doesn't say which read met a fault: over a sure store `FileComes` and
-- `TellsMissing` do, else a test.
abbrev pub Ends : Option Command → (nothing : Type 0) → Call → Outcome → Type 0
Ends (Some command) nothing call o = (come : Result Job Outcome) × Gathers command call.store come
    × WorkFollows (λ one end. MeetsNoFault call.store × Performs one call.lines call.out call.ticks end)
    nothing come o
Ends None nothing call o = (o ≡ outcome.Usage) × nothing

-- F5: with this outcome the command put nothing. `signals` has no such outcome, and `couple` only outcomes
-- that don't speak of standard input.
abbrev pub HasPutNothing : Option Command → Outcome → Type 0
HasPutNothing (Some (by calibration signals)) o = ⊥
HasPutNothing (Some (by calibration (couple campaign name))) o = PutsNothing o × (role_in o ≢ Some role.Check)
HasPutNothing _ o = PutsNothing o

-- ---- when the work is done ----

-- a campaign is found and accepted, and so are these files of its runs
pub record AcceptsCampaign (campaign : List ℕ) (store : Change ShownStore) (Files : List RunPlan → Type 0) :
    Type 0 where
  pub finds : Finds campaign store
  pub accepts : Accepts campaign_file campaign store.before
  pub files : (plans : List RunPlan) → ReadComes campaign_file campaign store.before (Ok plans) → Files plans

-- each file that the work reads is found, and whatever reads of it may give is accepted
abbrev pub AcceptsWork : Work → Change ShownStore → Type 0
AcceptsWork (check file) store = Finds file store × Accepts check_file file store.before
AcceptsWork (run telling campaign) store =
    AcceptsCampaign campaign store (λ plans. FindsRuns store plans × AcceptsRuns store.before 1 0 plans)
AcceptsWork (record_run campaign name) store =
    AcceptsCampaign campaign store (λ plans. AcceptsNamed store (run_named name 1 plans))
AcceptsWork (sweep campaign name step) store =
    AcceptsCampaign campaign store (λ plans. AcceptsNamed store (run_named name 1 plans)
    × AcceptsGrid step store.before (run_named name 1 plans))
AcceptsWork (couple campaign name) store =
    AcceptsCampaign campaign store (λ plans. AcceptsUndriven store (run_named name 1 plans))
AcceptsWork _ store = Unit {0}

abbrev pub AcceptsAll : Command → Change ShownStore → Type 0
AcceptsAll (by calibration work) store = FindsCalibration calibration store
    × AcceptsCalibration calibration store.before × AcceptsWork work store
AcceptsAll (answers file) store = Finds file store × Accepts answers_file file store.before
AcceptsAll (asm file) store = Finds file store × AcceptsSource file store.before
AcceptsAll (dis file) store = Finds file store × Accepts (image_file 0) file store.before
AcceptsAll (soak seed runs) store = Unit {0}

-- the lines of a source are what the job takes
abbrev pub HoldsLines : Job → ShownLines → Type 0
HoldsLines (job.Replay cal) lines = HoldsRecording lines
HoldsLines (job.Signals cal) lines = HoldsRecording lines
HoldsLines (job.Couple cal input) lines = HoldsWhole (couple_work (unit_of cal input)) lines
HoldsLines _ lines = Unit {0}

abbrev pub WritesWell : Change ShownSink → Type 0
WritesWell out = ¬ Rose out.before.faults out.after.faults

-- Claims 36 and 54: if the words ask for something, each file is found and accepted, the lines are what the
-- job takes, and no fault of writing is counted, the work is done, unless memory runs out.
abbrev pub Completes : Option Command → Change ShownStore → ShownLines → Change ShownSink → Outcome → Type 0
Completes (Some command) store lines out o = AcceptsAll command store →
    ((one : Job) → Gathers command store (Ok one) → HoldsLines one lines) →
    WritesWell out → IsDoneOrMemory o
Completes None store lines out o = Unit {0}
