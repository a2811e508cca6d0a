-- The headline, from what was gathered and how it was performed.
use Rattle.std.proofs.Common.{◌≡◌, List, ℕ, reverse, Option, Some, None, refl, subst}
use Rattle.std.specs.Prelude.{Ok, Err}
use Rattle.eg_base.specs.Outside.{ShownStore, ShownSink, Appends}
use Rattle.eg_lines.specs.Lines.{ShownLines}
use Rattle.eg_tick.specs.Weights.{TickCount}
use Rattle.eg_values.specs.Calibration.{CalibrationParts}
use Rattle.eg_values.specs.Reference.{reference_parts}
use Rattle.eg_plan.specs.declared.run_input.RunInput.{RunInput}
use Rattle.eg_outcome.specs.declared.outcome.Outcome.{Outcome}
use Rattle.eg_outcome.specs.declared.outcome.Outcome.TheVariants.{Done}
use Rattle.eg_outcome.specs.declared.outcome.Role.TheVariants as role
use Rattle.eg_outcome.specs.Changes.{Change}
use Rattle.eg_outcome.specs.Calibrations.{CalibrationComes}
use Rattle.eg_outcome.specs.Images.{image_file}
use Rattle.eg_desk.specs.Check.{check_file}
use Rattle.eg_desk.specs.Ends.{answers_file, read_alone}
use Rattle.eg_outcome.specs.declared.telling.Telling.{Telling}
use Rattle.eg_outcome.specs.Runs.{RunsCome}
use Rattle.eg_play.specs.Ends.{Tells}
use Rattle.eg_input.specs.declared.answered.PartnerAnswer.{PartnerAnswer}
use Rattle.eg_stream.specs.Coupled.{CoupledUnit, unit_of}
use Rattle.eg_stream.specs.Couplings.{Coupling, CouplingEnds, coupling, couple_work}
use Rattle.eg_stream.specs.Headline.{KeepsCoupledHeadline}
use Rattle.eg_stream.specs.Streams.{LeadTo}
use Rattle.eg_stream.specs.Texts.{coupled_text}
use Rattle.eg_app.specs.declared.job.Job.{Job}
use Rattle.eg_app.specs.declared.job.Job.TheVariants as job
use Rattle.eg_desk.specs.Words.{Command, by, soak, answers, asm, dis, Work, check, bound, limits, coverage, run, record_run, sweep, replay, signals, couple}
use Rattle.eg_app.specs.Gathered.{Gathers, GathersBy}
use Rattle.eg_app.specs.Performed.{Performs}
use Rattle.eg_app.specs.Ends.{Call, Ends}
use Rattle.eg_app.specs.Headline.{Uses, TellsRuns, TellsHeadline}
use Rattle.eg_app.proofs.ChainLemmas.{same_value, no_value, of_chain, of_done, of_value, with_job, without_job}
use Rattle.eg_app.proofs.EndsLemmas.{source_never}
use Rattle.eg_app.proofs.FileLemmas.{IsStop, file_stops, file_never, calibration_never}
use Rattle.eg_app.proofs.InputLemmas.{inputs_tell, runs_stop, named_tells, named_stops, swept_tells, swept_stops, undriven_tells, undriven_stops}

-- ---- a call that gathers no job isn't done ----

-- nor does it tell that the calibration can't be read, where that came
pub work_stops : (cal : CalibrationParts) (work : Work) (store : Change ShownStore) (end : Outcome) → GathersBy cal work store (Err end) → IsStop end
work_stops cal (check file) store end come = without_job IsStop (job.Check cal) end come (file_stops role.Check check_file file store tt)
work_stops cal bound store end come = absurd (no_value (job.Bound cal) end come)
work_stops cal limits store end come = absurd (no_value (job.Limits cal) end come)
work_stops cal coverage store end come = absurd (no_value (job.Coverage cal) end come)
work_stops cal (run telling campaign) store end come = without_job IsStop (job.Run telling cal) end come (runs_stop campaign store)
work_stops cal (record_run campaign name) store end come = without_job IsStop (job.Record cal) end come (named_stops campaign name store)
work_stops cal (sweep campaign name step) store end come =
    without_job IsStop (λ input. job.Sweep cal input step) end come (swept_stops campaign name step store)
work_stops cal replay store end come = absurd (no_value (job.Replay cal) end come)
work_stops cal signals store end come = absurd (no_value (job.Signals cal) end come)
work_stops cal (couple campaign name) store end come = without_job IsStop (job.Couple cal) end come (undriven_stops campaign name store)

abbrev IsEarly : Outcome → Type 0
IsEarly o = o ≡ Done → ⊥

gather_never : (command : Command) (store : Change ShownStore) (end : Outcome) → Gathers command store (Err end) → IsEarly end
gather_never (by calibration work) store end come = of_chain IsEarly end come (calibration_never calibration store)
    (λ cal read rest done. subst IsStop done (work_stops cal work store end rest))
gather_never (soak seed runs) store end come = absurd (no_value (job.Soak seed runs) end come)
gather_never (answers file) store end come = without_job IsEarly job.Answers end come (file_never role.Calibration answers_file file store)
gather_never (asm file) store end come = without_job IsEarly job.Asm end come (source_never file store)
gather_never (dis file) store end come = without_job IsEarly job.Dis end come (file_never read_alone (image_file 0) file store)

-- ---- a job that is done ----

uses : (calibration : Option (List ℕ)) (store : Change ShownStore) (cal : CalibrationParts)
    → CalibrationComes calibration store (Ok cal) → Uses calibration store.before cal
uses None store cal comes = same_value (Ok cal) cal reference_parts refl comes
uses (Some name) store cal comes = comes

runs_tell : (telling : Telling) (calibration : Option (List ℕ)) (campaign : List ℕ) (cal : CalibrationParts) (inputs : List RunInput)
    (store : Change ShownStore) (out : Change ShownSink) (ticks : Change TickCount)
    → Uses calibration store.before cal → RunsCome campaign store (Ok inputs) → Tells telling cal inputs out ticks Done
    → TellsRuns telling calibration campaign store.before out
runs_tell telling calibration campaign cal inputs store out ticks used come told = of_value inputs come (λ plans read rest. record {
  cal = cal;
  plans = plans;
  inputs = inputs;
  uses = used;
  campaign_says = read;
  files_say = inputs_tell store 1 0 plans inputs rest;
  written = told.plays.written.0;
  headline = told.plays.headline;
  within_limits = told.within_limits;
  in_words = told.in_words;
})

-- a coupling that is done has told of lines that it took
coupling_tells : (unit : CoupledUnit) (call : Coupling) → CouplingEnds unit call Done
    → (came : List (List ℕ)) × (given : List PartnerAnswer) × LeadTo (couple_work unit) (reverse came) given
    × Appends call.out.before call.out.after (coupled_text unit given) × KeepsCoupledHeadline unit given
coupling_tells unit call (given, ends, ticked, headline) =
    let (text, come, at_end, is, written, read, put) = ends.ends in
    let same : text ≡ coupled_text unit given = cc in
    (ends.taken, given, ends.lead, subst (Appends call.out.before call.out.after) same written, headline)

module _ (store : Change ShownStore) (lines : Change ShownLines) (out : Change ShownSink) (ticks : Change TickCount) where
  -- by a calibration that came
  work_tells : (calibration : Option (List ℕ)) (work : Work) (cal : CalibrationParts) (one : Job) → Uses calibration store.before cal
      → GathersBy cal work store (Ok one) → Performs one lines out ticks Done → TellsHeadline (Some (by calibration work)) store.before out
  work_tells calibration (check file) cal one used come told = tt
  work_tells calibration bound cal one used come told = tt
  work_tells calibration limits cal one used come told = tt
  work_tells calibration coverage cal one used come told = tt
  work_tells calibration replay cal one used come told = tt
  work_tells calibration signals cal one used come told = tt
  work_tells calibration (run telling campaign) cal one used come told = with_job (job.Run telling cal) one come (λ inputs read made.
      runs_tell telling calibration campaign cal inputs store out ticks used read (subst (λ (j : Job). Performs j lines out ticks Done) made told))
  work_tells calibration (record_run campaign name) cal one used come told = with_job (job.Record cal) one come (λ input read made.
      let played = subst (λ (j : Job). Performs j lines out ticks Done) made told in
      record {
        cal = cal;
        input = input;
        uses = used;
        files_say = named_tells campaign name store input read;
        written = played.written.0;
        headline = played.headline;
      })
  work_tells calibration (sweep campaign name step) cal one used come told = with_job (λ input. job.Sweep cal input step) one come (λ input read made.
      let swept = subst (λ (j : Job). Performs j lines out ticks Done) made told in
      record {
        cal = cal;
        input = input;
        uses = used;
        files_say = swept_tells campaign name step store input read;
        written = swept.plays.written.0;
        headline = swept.plays.headline;
        in_time = swept.in_time;
      })
  work_tells calibration (couple campaign name) cal one used come told = with_job (job.Couple cal) one come (λ input read made.
      let coupled = coupling_tells (unit_of cal input) (coupling lines out ticks) (subst (λ (j : Job). Performs j lines out ticks Done) made told) in
      record {
        cal = cal;
        input = input;
        lines = coupled.0;
        answers = coupled.1;
        uses = used;
        files_say = undriven_tells campaign name store input read;
        are_taken = coupled.2;
        written = coupled.3;
        headline = coupled.4;
      })

  job_tells : (command : Command) (one : Job) → Gathers command store (Ok one) → Performs one lines out ticks Done
      → TellsHeadline (Some command) store.before out
  job_tells (answers file) one come told = tt
  job_tells (asm file) one come told = tt
  job_tells (dis file) one come told = tt
  job_tells (soak seed runs) one come told =
      let plays = subst (λ (j : Job). Performs j lines out ticks Done) (same_value (Ok one) one (job.Soak seed runs) refl come) told in
      record { written = plays.written.0; headline = plays.headline }
  job_tells (by calibration work) one come told =
      of_value one come (λ cal read rest. work_tells calibration work cal one (uses calibration store cal read) rest told)

-- a call that ends Done tells the headline
pub tells_headline : (command : Option Command) (nothing : Type 0) (call : Call) (o : Outcome)
    → Ends command nothing call o → o ≡ Done → TellsHeadline command call.store.before call.out
tells_headline None nothing call o ends done = tt
tells_headline (Some command) nothing call o ends done =
    of_done (subst (λ (e : Outcome). Ends (Some command) nothing call e) done ends) (gather_never command call.store)
    (λ one gathered told. job_tells call.store call.lines call.out call.ticks command one gathered told.1)
