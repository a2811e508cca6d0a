-- What the outcome of a job can be.
use Rattle.std.proofs.Common.{◌≡◌, List, [], ℕ, ◌+◌, length, Bool, true, false, Option, Some, None, inl, inr, refl, sym, ap, subst}
use Rattle.std.specs.Prelude.{Result, Ok, IfErr}
use Rattle.std.specs.Option.{MatchOption}
use Rattle.eg_base.specs.Outside.{ShownStore, ShownSink}
use Rattle.eg_lines.specs.Lines.{ShownLines}
use Rattle.eg_tick.specs.Weights.{TickCount}
use Rattle.eg_values.specs.Calibration.{CalibrationParts}
use Rattle.eg_outcome.specs.Changes.{Change, Stays}
use Rattle.eg_outcome.specs.Outcomes.{LineEnds, PutsNothing, TellsNoMemory}
use Rattle.eg_outcome.specs.Roles.{role_in}
use Rattle.eg_outcome.specs.declared.outcome.Outcome.{Outcome}
use Rattle.eg_outcome.specs.declared.outcome.Outcome.TheVariants as outcome
use Rattle.eg_outcome.specs.declared.outcome.Refusal.{Refusal}
use Rattle.eg_outcome.specs.declared.outcome.Role.{Role}
use Rattle.eg_outcome.specs.declared.outcome.Role.TheVariants as role
use Rattle.eg_outcome.specs.Runs.{NamesFile}
use Rattle.eg_stream.specs.Coupled.{unit_of}
use Rattle.eg_stream.specs.Couplings.{couple_work}
use Rattle.eg_stream.specs.Recordings.{replay_in, replay_work, signals_in, signals_so_far, signals_work}
use Rattle.eg_stream.specs.Streams.{LineWork, RefusesNext, StreamEnds}
use Rattle.eg_stream.proofs.CouplingLemmas.{couple-refuses}
use Rattle.eg_stream.proofs.MeasuringLemmas.{recording-refuses}
use Rattle.eg_stream.proofs.StreamLemmas.{IsOfLines, RefusesLines}
use Rattle.eg_app.specs.declared.job.Job.{Job}
use Rattle.eg_app.specs.declared.job.Job.TheVariants as job
use Rattle.eg_desk.specs.Words.{Command, by, soak, answers, asm, dis, Work, check, bound, limits, coverage, run, record_run, sweep, replay, signals, couple, asks_lines, campaign_in, reads_lines}
use Rattle.eg_app.specs.Gathered.{Gathers, GathersBy}
use Rattle.eg_app.specs.Performed.{Performs, PutsNothingBy, takes_lines}
use Rattle.eg_app.specs.Ends.{HasPutNothing}
use Rattle.eg_desk.specs.Names.{Names}
use Rattle.eg_app.proofs.ChainLemmas.{of_value, same_value, with_job}
use Rattle.eg_app.proofs.MissingLemmas.{IsOfFile}

-- what a job may end with that takes lines, or none
abbrev pub IsWork : (takes_lines : Bool) → Outcome → Type 0
IsWork lines outcome.Done = Unit {0}
IsWork lines outcome.WriteFault = Unit {0}
IsWork lines outcome.Memory = Unit {0}
IsWork true (outcome.ReadFault role.Check) = Unit {0}
IsWork true (outcome.Refused why) = IsOfLines why
IsWork lines o = ⊥

line_work : (text : List ℕ) (out : Change ShownSink) (o : Outcome) → LineEnds text out o → IsWork false o
line_work text out outcome.Done ends = tt
line_work text out outcome.WriteFault ends = tt
line_work text out outcome.Memory ends = tt
line_work text out _ ends = absurd ends

stream_work : {S : Type 0} (work : LineWork S) (state : S) (lines : Change ShownLines) (out : Change ShownSink) (o : Outcome)
    → RefusesLines work → StreamEnds work state lines out o → IsWork true o
stream_work work state lines out outcome.Done refuses ends = tt
stream_work work state lines out outcome.WriteFault refuses ends = tt
stream_work work state lines out outcome.Memory refuses ends = tt
stream_work work state lines out (outcome.ReadFault role.Check) refuses ends = tt
stream_work {S} work state lines out (outcome.Refused why) refuses ends = next ends.ends.0
  where
    next : RefusesNext work ends.taken state lines why → IsOfLines why
    next (inl (bad, come, is)) = subst (λ (r : Result S Refusal). IfErr r IsOfLines) is (refuses.line (length ends.taken + 1) state bad)
    next (inr (come, at_end, is)) = subst (λ (r : Result (List ℕ) Refusal). IfErr r IsOfLines) is (refuses.end state)
stream_work work state lines out _ refuses ends = absurd ends.ends

module _ (lines : Change ShownLines) (out : Change ShownSink) (ticks : Change TickCount) where
  pub performed : (one : Job) (o : Outcome) → Performs one lines out ticks o → IsWork (takes_lines one) o
  performed (job.Check cal rows) o told = line_work _ out o told.1.2
  performed (job.Bound cal) o told = line_work _ out o told.1.2
  performed (job.Limits cal) o told = line_work _ out o told.1.2
  performed (job.Coverage cal) o told = line_work _ out o told.1.2
  performed (job.Run telling cal inputs) o told = line_work _ out o told.plays.written
  performed (job.Record cal input) o told = line_work _ out o told.written
  performed (job.Sweep cal input step) o told = line_work _ out o told.plays.written
  performed (job.Replay cal) o told =
      stream_work (replay_work cal) told.1.0 lines out o (recording-refuses (λ state. []) (replay_in cal)) told.1.1
  performed (job.Signals cal) o told =
      stream_work (signals_work cal) told.1.0 lines out o (recording-refuses (signals_so_far cal) (signals_in cal)) told.1.1
  performed (job.Couple cal input) o told =
      stream_work (couple_work (unit_of cal input)) told.0 lines out o (couple-refuses (unit_of cal input)) told.1
  performed (job.Soak seed runs) o told = line_work _ out o told.written
  performed (job.Answers questions) o told = line_work _ out o told.1
  performed (job.Asm words) o told = line_work _ out o told.1
  performed (job.Dis words) o told = line_work _ out o told.1

-- ---- what that tells ----

pub work_memory : (b : Bool) (o : Outcome) → IsWork b o → TellsNoMemory o
work_memory b outcome.Done is = tt
work_memory b outcome.WriteFault is = tt
work_memory b outcome.Memory is = tt
work_memory true (outcome.ReadFault role.Check) is = tt
work_memory true (outcome.Refused why) is = is.0
work_memory true _ is = absurd is
work_memory false _ is = absurd is

-- no file of a run
unnamed : (campaign : List ℕ) (store : ShownStore) (b : Bool) (o : Outcome) → IsWork b o → NamesFile campaign store (role_in o) None
unnamed campaign store b outcome.Done is = refl
unnamed campaign store b outcome.WriteFault is = refl
unnamed campaign store b outcome.Memory is = refl
unnamed campaign store true (outcome.ReadFault role.Check) is = refl
unnamed campaign store true (outcome.Refused why) is = subst (λ file. NamesFile campaign store file None) (sym is.1) refl
unnamed campaign store true _ is = absurd is
unnamed campaign store false _ is = absurd is

pub work_names : (command : Command) (store : ShownStore) (b : Bool) (o : Outcome) → IsWork b o → Names command store o None
work_names (by calibration work) store b o is = go (campaign_in work)
  where
    go : (campaign : Option (List ℕ)) → MatchOption campaign (let none : Option (List ℕ) = None in none ≡ None) (λ name. NamesFile name store (role_in o) None)
    go None = refl
    go (Some name) = unnamed name store b o is
work_names (soak seed runs) store b o is = refl
work_names (answers file) store b o is = refl
work_names (asm file) store b o is = refl
work_names (dis file) store b o is = refl

-- no file that is read
pub work_reads : (b : Bool) (r : Role) → IsOfFile r → IsWork b (outcome.ReadFault r) → ⊥
work_reads true role.Check file is = file
work_reads true _ file is = is
work_reads false _ file is = is

-- something was put, or lines were taken
silent : (o : Outcome) → IsWork false o → PutsNothing o → ⊥
silent outcome.Done is nothing = nothing
silent outcome.WriteFault is nothing = nothing
silent outcome.Memory is nothing = nothing
silent _ is nothing = is

-- of lines that were taken
spoken : (o : Outcome) → IsWork true o → PutsNothing o → role_in o ≡ Some role.Check
spoken (outcome.ReadFault role.Check) is nothing = refl
spoken (outcome.Refused why) is nothing = is.1
spoken outcome.Done is nothing = absurd nothing
spoken outcome.WriteFault is nothing = absurd nothing
spoken outcome.Memory is nothing = absurd nothing
spoken _ is nothing = absurd is

-- ---- by the command ----

module _ (store : Change ShownStore) where
  work_lines : (cal : CalibrationParts) (work : Work) (one : Job) → GathersBy cal work store (Ok one) → takes_lines one ≡ reads_lines work
  work_lines cal (check file) one come = with_job (job.Check cal) one come (λ x read made. ap takes_lines made)
  work_lines cal bound one come = ap takes_lines (same_value (Ok one) one (job.Bound cal) refl come)
  work_lines cal limits one come = ap takes_lines (same_value (Ok one) one (job.Limits cal) refl come)
  work_lines cal coverage one come = ap takes_lines (same_value (Ok one) one (job.Coverage cal) refl come)
  work_lines cal (run telling campaign) one come = with_job (job.Run telling cal) one come (λ x read made. ap takes_lines made)
  work_lines cal (record_run campaign name) one come = with_job (job.Record cal) one come (λ x read made. ap takes_lines made)
  work_lines cal (sweep campaign name step) one come = with_job (λ input. job.Sweep cal input step) one come (λ x read made. ap takes_lines made)
  work_lines cal replay one come = ap takes_lines (same_value (Ok one) one (job.Replay cal) refl come)
  work_lines cal signals one come = ap takes_lines (same_value (Ok one) one (job.Signals cal) refl come)
  work_lines cal (couple campaign name) one come = with_job (job.Couple cal) one come (λ x read made. ap takes_lines made)

  -- the job takes lines where the command does
  pub same_lines : (command : Command) (one : Job) → Gathers command store (Ok one) → takes_lines one ≡ asks_lines (Some command)
  same_lines (by calibration work) one come = of_value one come (λ cal read rest. work_lines cal work one rest)
  same_lines (soak seed runs) one come = ap takes_lines (same_value (Ok one) one (job.Soak seed runs) refl come)
  same_lines (answers file) one come = with_job job.Answers one come (λ x read made. ap takes_lines made)
  same_lines (asm file) one come = with_job job.Asm one come (λ x read made. ap takes_lines made)
  same_lines (dis file) one come = with_job job.Dis one come (λ x read made. ap takes_lines made)

  module _ (lines : Change ShownLines) (out : Change ShownSink) (ticks : Change TickCount) (one : Job) (o : Outcome) (Nothing : Type 0)
      (told : Performs one lines out ticks o) (quiet : PutsNothingBy one o → Nothing) where
    never : takes_lines one ≡ false → PutsNothing o → Nothing × Stays ticks
    never none nothing = absurd (silent o (subst (λ b. IsWork b o) none (performed lines out ticks one o told)) nothing)

    by_work : (cal : CalibrationParts) (work : Work) (calibration : Option (List ℕ)) → GathersBy cal work store (Ok one)
        → HasPutNothing (Some (by calibration work)) o → Nothing × Stays ticks
    by_work cal replay calibration come nothing =
        let is = same_value (Ok one) one (job.Replay cal) refl come in
        (quiet (subst (λ j. PutsNothingBy j o) (sym is) nothing), (subst (λ j. Performs j lines out ticks o) is told).0)
    by_work cal signals calibration come nothing = absurd nothing
    by_work cal (couple campaign name) calibration come nothing = absurd (nothing.1 (spoken o
        (subst (λ b. IsWork b o) (work_lines cal (couple campaign name) one come) (performed lines out ticks one o told)) nothing.0))
    by_work cal (check file) calibration come nothing = never (work_lines cal (check file) one come) nothing
    by_work cal bound calibration come nothing = never (work_lines cal bound one come) nothing
    by_work cal limits calibration come nothing = never (work_lines cal limits one come) nothing
    by_work cal coverage calibration come nothing = never (work_lines cal coverage one come) nothing
    by_work cal (run telling campaign) calibration come nothing = never (work_lines cal (run telling campaign) one come) nothing
    by_work cal (record_run campaign name) calibration come nothing = never (work_lines cal (record_run campaign name) one come) nothing
    by_work cal (sweep campaign name step) calibration come nothing = never (work_lines cal (sweep campaign name step) one come) nothing

    -- where the command put nothing, nothing was done
    pub nothing_done : (command : Command) → Gathers command store (Ok one) → HasPutNothing (Some command) o → Nothing × Stays ticks
    nothing_done (by calibration work) come nothing = of_value one come (λ cal read rest. by_work cal work calibration rest nothing)
    nothing_done (soak seed runs) come nothing = never (same_lines (soak seed runs) one come) nothing
    nothing_done (answers file) come nothing = never (same_lines (answers file) one come) nothing
    nothing_done (asm file) come nothing = never (same_lines (asm file) one come) nothing
    nothing_done (dis file) come nothing = never (same_lines (dis file) one come) nothing
