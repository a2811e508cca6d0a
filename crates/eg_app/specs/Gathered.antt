-- What comes of the files of a command, which are read in the order of F4: a job, or how the call ends
-- without one.
use Rattle.std.specs.Prelude.{◌≡◌, ◌≤◌, length, All, Result, Ok}
use Rattle.eg_base.specs.Outside.{ShownStore}
use Rattle.eg_fault.specs.Faults.{IsNoneOrValid}
use Rattle.eg_values.specs.Calibration.{CalibrationParts}
use Rattle.eg_plan.specs.Playable.{IsPlayable}
use Rattle.eg_input.specs.declared.image.TheConstants.{MOST_WORDS}
use Rattle.eg_outcome.specs.Calibrations.{CalibrationComes}
use Rattle.eg_outcome.specs.Changes.{Change}
use Rattle.eg_outcome.specs.Images.{image_file}
use Rattle.eg_outcome.specs.Outcomes.{Then}
use Rattle.eg_outcome.specs.Reads.{FileComes}
use Rattle.eg_outcome.specs.declared.outcome.Outcome.{Outcome}
use Rattle.eg_outcome.specs.declared.outcome.Role.TheVariants as role
use Rattle.eg_desk.specs.Check.{check_file}
use Rattle.eg_desk.specs.Ends.{SourceFileComes, answers_file, read_alone}
use Rattle.eg_outcome.specs.Runs.{NamedComes, RunsCome, SweptComes, UndrivenComes, IsSweepable}
use Rattle.eg_app.specs.declared.job.Job.{Job}
use Rattle.eg_app.specs.declared.job.Job.TheVariants as job
use Rattle.eg_desk.specs.Words.{Command, by, soak, answers, asm, dis, Work, check, bound, limits, coverage, run, record_run, sweep, replay, signals, couple}

-- something comes, and this job is made of it; or the call ends without a job
abbrev pub Makes : {X : Type 0} → (X → Job) → (Result X Outcome → Type 0) → Result Job Outcome → Type 0
Makes {X} of Comes come = (read : Result X Outcome) × Comes read × Then (λ x made. made ≡ Ok (of x)) read come

-- F4, behind the calibration
abbrev pub GathersBy : CalibrationParts → Work → Change ShownStore → Result Job Outcome → Type 0
GathersBy cal (check file) store come =
    Makes (job.Check cal) (FileComes role.Check check_file file store) come
GathersBy cal bound store come = come ≡ Ok (job.Bound cal)
GathersBy cal limits store come = come ≡ Ok (job.Limits cal)
GathersBy cal coverage store come = come ≡ Ok (job.Coverage cal)
GathersBy cal (run telling campaign) store come = Makes (job.Run telling cal) (RunsCome campaign store) come
GathersBy cal (record_run campaign name) store come =
    Makes (job.Record cal) (NamedComes campaign name store) come
GathersBy cal (sweep campaign name step) store come =
    Makes (λ input. job.Sweep cal input step) (SweptComes campaign name step store) come
GathersBy cal replay store come = come ≡ Ok (job.Replay cal)
GathersBy cal signals store come = come ≡ Ok (job.Signals cal)
GathersBy cal (couple campaign name) store come =
    Makes (job.Couple cal) (UndrivenComes campaign name store) come

-- F3, F4
abbrev pub Gathers : Command → Change ShownStore → Result Job Outcome → Type 0
Gathers (by calibration work) store come = (cal : Result CalibrationParts Outcome)
    × CalibrationComes calibration store cal × Then (λ parts made. GathersBy parts work store made) cal come
Gathers (soak seed runs) store come = come ≡ Ok (job.Soak seed runs)
Gathers (answers file) store come =
    Makes job.Answers (FileComes role.Calibration answers_file file store) come
Gathers (asm file) store come = Makes job.Asm (SourceFileComes file store) come
Gathers (dis file) store come = Makes job.Dis (FileComes read_alone (image_file 0) file store) come

-- what a job holds is within the limits of what does it
abbrev pub IsSound : Job → Type 0
IsSound (job.Run telling cal inputs) = All IsPlayable inputs
IsSound (job.Record cal input) = IsPlayable input
IsSound (job.Sweep cal input step) = IsSweepable step input × (1 ≤ step)
IsSound (job.Couple cal input) = (length input.image ≤ MOST_WORDS) × IsNoneOrValid input.plan.fault
IsSound (job.Soak seed runs) = (1 ≤ runs) × (runs ≤ 500)
IsSound (job.Dis words) = length words ≤ MOST_WORDS
IsSound _ = Unit {0}
