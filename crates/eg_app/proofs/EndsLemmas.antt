-- When the work is done, from how a command ends.
use Rattle.std.proofs.Common.{◌≡◌, ◌∙◌, List, [], ℕ, Bool, true, false, Option, Some, None, sym, ap, subst}
use Rattle.std.specs.Prelude.{Ok, Err, if◌then◌else◌}
use Rattle.eg_base.specs.Outside.{ShownStore, ShownSink}
use Rattle.eg_lines.specs.Lines.{ShownLines, lines_in}
use Rattle.eg_tick.specs.Weights.{TickCount}
use Rattle.eg_values.specs.Calibration.{CalibrationParts}
use Rattle.eg_outcome.specs.Changes.{Change, change}
use Rattle.eg_outcome.specs.declared.outcome.Outcome.{Outcome}
use Rattle.eg_outcome.specs.declared.outcome.Outcome.TheVariants.{Done, Memory, Refused}
use Rattle.eg_outcome.specs.declared.outcome.Refusal.TheVariants as refusal
use Rattle.eg_outcome.specs.declared.outcome.Role.{Role}
use Rattle.eg_outcome.specs.declared.outcome.Role.TheVariants as role
use Rattle.eg_outcome.specs.Images.{image_file}
use Rattle.eg_outcome.specs.Outcomes.{IsDoneOrMemory}
use Rattle.eg_outcome.specs.Reads.{whole, Finds}
use Rattle.eg_outcome.specs.Files.{is_too_long}
use Rattle.eg_asm.specs.Sources.{Assembles}
use Rattle.eg_asm.proofs.SourceLaws.{assembled-then}
use Rattle.eg_desk.specs.Check.{check_file}
use Rattle.eg_desk.specs.Ends.{SourceComes, SourceFileComes, AcceptsSource, read_alone, answers_file}
use Rattle.eg_stream.specs.Coupled.{unit_of}
use Rattle.eg_stream.specs.Couplings.{couple_work}
use Rattle.eg_stream.specs.Recordings.{replay_in, replay_work, signals_in, signals_so_far, signals_work}
use Rattle.eg_stream.proofs.LawLemmas.{stream_done}
use Rattle.eg_stream.proofs.MeasuringLemmas.{holds-any}
use Rattle.eg_app.specs.declared.job.Job.{Job}
use Rattle.eg_app.specs.declared.job.Job.TheVariants as job
use Rattle.eg_desk.specs.Words.{Command, by, soak, answers, asm, dis, Work, check, bound, limits, coverage, run, record_run, sweep, replay, signals, couple}
use Rattle.eg_app.specs.Gathered.{Gathers, GathersBy}
use Rattle.eg_app.specs.Performed.{Performs}
use Rattle.eg_app.specs.Unlined.{EndsWithoutLines, no_lines}
use Rattle.eg_app.specs.Ends.{Call, call, Ends, AcceptsAll, AcceptsWork, Completes, HoldsLines, WritesWell}
use Rattle.eg_app.proofs.ChainLemmas.{no_value, of_work, of_chain, without_job}
use Rattle.eg_app.proofs.FileLemmas.{file_done, file_never, calibration_done, line_done}
use Rattle.eg_app.proofs.PlayLemmas.{runs_done, named_done, swept_done, undriven_done}

-- a source that is accepted isn't refused
source_done : (bytes : List ℕ) (end : Outcome) → SourceComes bytes (Err end) → (words : List ℕ) → Assembles bytes (Ok words) → IsDoneOrMemory end
source_done bytes Done comes words accepts = tt
source_done bytes Memory comes words accepts = tt
source_done bytes (Refused (refusal.Source why)) comes words accepts =
    absurd (let same = sym (assembled-then bytes (Err why) comes) ∙ assembled-then bytes (Ok words) accepts in cc)
source_done bytes _ comes words accepts = absurd comes

-- the bytes that come are those that were read
whole_is : (file : Role) (read bytes : List ℕ) → whole file read ≡ Ok bytes → read ≡ bytes
whole_is file read bytes same = go (is_too_long read) same
  where
    go : (long : Bool) → (if long then Err (refusal.Size file) else Ok read) ≡ Ok bytes → read ≡ bytes
    go true e = absurd cc
    go false e = cc

-- at a source a call never ends Done
pub source_never : (name : List ℕ) (store : Change ShownStore) (end : Outcome) → SourceFileComes name store (Err end) → end ≡ Done → ⊥
source_never name store end come = of_chain (λ (e : Outcome). e ≡ Done → ⊥) end come (file_never role.Source (whole role.Source) name store)
    (λ bytes read rest done. subst (λ (e : Outcome). SourceComes bytes (Err e)) done rest.1)

source_file_done : (name : List ℕ) (store : Change ShownStore) → Finds name store → AcceptsSource name store.before
    → (end : Outcome) → SourceFileComes name store (Err end) → IsDoneOrMemory end
source_file_done name store finds accepts end come =
    of_chain IsDoneOrMemory end come (file_done role.Source (whole role.Source) name store finds accepts.0)
    (λ bytes read rest.
    let made = accepts.1 read.0 read.1 in
    source_done bytes end rest.1 made.0 (subst (λ (b : List ℕ). Assembles b (Ok made.0)) (whole_is role.Source read.0 bytes read.2) made.1))

-- ---- what is read ----

-- where all that work reads is there, a call ends only where memory runs out
work_done : (cal : CalibrationParts) (work : Work) (store : Change ShownStore) → AcceptsWork work store
    → (end : Outcome) → GathersBy cal work store (Err end) → IsDoneOrMemory end
work_done cal (check file) store accepts end come =
    without_job IsDoneOrMemory (job.Check cal) end come (file_done role.Check check_file file store accepts.0 accepts.1)
work_done cal bound store accepts end come = absurd (no_value (job.Bound cal) end come)
work_done cal limits store accepts end come = absurd (no_value (job.Limits cal) end come)
work_done cal coverage store accepts end come = absurd (no_value (job.Coverage cal) end come)
work_done cal (run telling campaign) store accepts end come =
    without_job IsDoneOrMemory (job.Run telling cal) end come (runs_done campaign store accepts)
work_done cal (record_run campaign name) store accepts end come =
    without_job IsDoneOrMemory (job.Record cal) end come (named_done campaign name store accepts)
work_done cal (sweep campaign name step) store accepts end come =
    without_job IsDoneOrMemory (λ input. job.Sweep cal input step) end come (swept_done campaign name step store accepts)
work_done cal replay store accepts end come = absurd (no_value (job.Replay cal) end come)
work_done cal signals store accepts end come = absurd (no_value (job.Signals cal) end come)
work_done cal (couple campaign name) store accepts end come =
    without_job IsDoneOrMemory (job.Couple cal) end come (undriven_done campaign name store accepts)

gather_done : (command : Command) (store : Change ShownStore) → AcceptsAll command store
    → (end : Outcome) → Gathers command store (Err end) → IsDoneOrMemory end
gather_done (by calibration work) store accepts end come =
    of_chain IsDoneOrMemory end come (calibration_done calibration store accepts.0 accepts.1) (λ cal read rest. work_done cal work store accepts.2 end rest)
gather_done (soak seed runs) store accepts end come = absurd (no_value (job.Soak seed runs) end come)
gather_done (answers file) store accepts end come =
    without_job IsDoneOrMemory job.Answers end come (file_done role.Calibration answers_file file store accepts.0 accepts.1)
gather_done (asm file) store accepts end come = without_job IsDoneOrMemory job.Asm end come (source_file_done file store accepts.0 accepts.1)
gather_done (dis file) store accepts end come =
    without_job IsDoneOrMemory job.Dis end come (file_done read_alone (image_file 0) file store accepts.0 accepts.1)

-- ---- what is done ----

job_done : (one : Job) (lines : Change ShownLines) (out : Change ShownSink) (ticks : Change TickCount) (o : Outcome)
    → HoldsLines one lines.before → WritesWell out → Performs one lines out ticks o → IsDoneOrMemory o
job_done (job.Check cal rows) lines out ticks o holds still told = line_done _ out o told.1.2 still
job_done (job.Bound cal) lines out ticks o holds still told = line_done _ out o told.1.2 still
job_done (job.Limits cal) lines out ticks o holds still told = line_done _ out o told.1.2 still
job_done (job.Coverage cal) lines out ticks o holds still told = line_done _ out o told.1.2 still
job_done (job.Run telling cal inputs) lines out ticks o holds still told = line_done _ out o told.plays.written still
job_done (job.Record cal input) lines out ticks o holds still told = line_done _ out o told.written still
job_done (job.Sweep cal input step) lines out ticks o holds still told = line_done _ out o told.plays.written still
job_done (job.Replay cal) lines out ticks o holds still told =
    stream_done (replay_work cal) told.1.0 lines out (holds-any (λ state. []) (replay_in cal) lines.before holds) o told.1.1 still
job_done (job.Signals cal) lines out ticks o holds still told =
    stream_done (signals_work cal) told.1.0 lines out (holds-any (signals_so_far cal) (signals_in cal) lines.before holds) o told.1.1 still
job_done (job.Couple cal input) lines out ticks o holds still told =
    stream_done (couple_work (unit_of cal input)) told.0 lines out holds o told.1 still
job_done (job.Soak seed runs) lines out ticks o holds still told = line_done _ out o told.written still
job_done (job.Answers questions) lines out ticks o holds still told = line_done _ out o told.1 still
job_done (job.Asm words) lines out ticks o holds still told = line_done _ out o told.1 still
job_done (job.Dis words) lines out ticks o holds still told = line_done _ out o told.1 still

-- a call that ends so completes its work
pub completes : (command : Option Command) (nothing : Type 0) (made : Call) (o : Outcome)
    → Ends command nothing made o → Completes command made.store made.lines.before made.out o
completes None nothing made o ends = tt
completes (Some command) nothing made o ends = λ accepts holds still.
    of_work IsDoneOrMemory o ends (gather_done command made.store accepts)
    (λ one gathered told. job_done one made.lines made.out made.ticks o (holds one gathered) still told.1)

-- ---- a call to which no lines come ----

-- where nothing was done, this too is as it was
ends_also : (command : Option Command) (nothing more : Type 0) → (nothing → more) → (made : Call) (o : Outcome)
    → Ends command nothing made o → Ends command more made o
ends_also None nothing more also made o (is, same) = (is, also same)
ends_also (Some command) nothing more also made o (Ok one, gathers, told) = (Ok one, gathers, told)
ends_also (Some command) nothing more also made o (Err end, gathers, (is, same)) = (Err end, gathers, (is, also same))

-- an empty text has none
pub none_shown : (shown : ShownLines) (text : List ℕ) → text ≡ [] → shown ≡ record { lines = Some (lines_in text); faults = 0; sure = true } → shown ≡ no_lines
unfolding lines_in
none_shown shown text empty is = is ∙ ap (λ t. record { lines = Some (lines_in t); faults = 0; sure = true }) empty

pub without_lines : (command : Option Command) (nothing more : Type 0) → (nothing → more) → (store : Change ShownStore) (out : Change ShownSink)
    (ticks : Change TickCount) (before left : ShownLines) (o : Outcome) → before ≡ no_lines
    → Ends command nothing (call store (change before left) out ticks) o → EndsWithoutLines command more store out ticks o
without_lines command nothing more also store out ticks before left o none ends = (
  left,
  ends_also command nothing more also (call store (change no_lines left) out ticks) o
      (subst (λ (shown : ShownLines). Ends command nothing (call store (change shown left) out ticks) o) none ends),
)
