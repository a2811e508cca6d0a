-- What a command that plays runs has told on Done (claim 1). Its runs are those that the files say, or that
-- were drawn; their text was written; and each of them keeps the headline.
use Rattle.std.specs.Prelude.{◌≡◌, ℕ, ◌+◌, List, [], ◌∷◌, map, reverse, All, Option, Some, None, Ok}
use Rattle.eg_base.specs.Outside.{ShownStore, ShownSink, Appends}
use Rattle.eg_answer.specs.Times.{reaction_of}
use Rattle.eg_values.specs.Calibration.{CalibrationParts}
use Rattle.eg_values.specs.Reference.{reference_parts}
use Rattle.eg_campaign.specs.Plays.{run_with}
use Rattle.eg_campaign.specs.Texts.{record_text}
use Rattle.eg_plan.specs.declared.run.RunPlan.{RunPlan}
use Rattle.eg_plan.specs.declared.run_input.RunInput.{RunInput}
use Rattle.eg_outcome.specs.Changes.{Change}
use Rattle.eg_outcome.specs.Reads.{ReadComes}
use Rattle.eg_outcome.specs.Calibrations.{calibration_file}
use Rattle.eg_outcome.specs.Images.{image_file}
use Rattle.eg_outcome.specs.Campaigns.{campaign_file, trace_file}
use Rattle.eg_table.specs.SweepLaws.{IsBounded}
use Rattle.eg_outcome.specs.declared.telling.Telling.{Telling}
use Rattle.eg_play.specs.Texts.{runs_text}
use Rattle.eg_play.specs.Sweeping.{runs_over, table_over, swept_text}
use Rattle.eg_play.specs.Headline.{KeepsHeadline}
use Rattle.eg_play.specs.InWords.{TellsInWords}
use Rattle.eg_outcome.specs.Runs.{run_named}
use Rattle.eg_play.specs.Ends.{TellsWithinLimits}
use Rattle.eg_soak.specs.Soak.{drawn_runs, soak_of}
use Rattle.eg_soak.specs.Texts.{soak_text}
use Rattle.eg_input.specs.declared.answered.PartnerAnswer.{PartnerAnswer}
use Rattle.eg_stream.specs.Coupled.{unit_of}
use Rattle.eg_stream.specs.Couplings.{couple_work}
use Rattle.eg_stream.specs.Headline.{KeepsCoupledHeadline}
use Rattle.eg_stream.specs.Streams.{LeadTo}
use Rattle.eg_stream.specs.Texts.{coupled_text}
use Rattle.eg_desk.specs.Words.{Command, by, soak, run, record_run, sweep, couple}

-- F2
abbrev pub Uses : Option (List ℕ) → ShownStore → CalibrationParts → Type 0
Uses (Some name) store cal = ReadComes calibration_file name store (Ok cal)
Uses None store cal = cal ≡ reference_parts

-- this is the input of run n: its plan, the drive that its trace says, and the words of its image
pub record IsInput (store : ShownStore) (n : ℕ) (plan : RunPlan) (input : RunInput) : Type 0 where
  pub planned : input.plan ≡ plan
  pub driven : ReadComes (trace_file n) plan.trace store (Ok input.drive)
  pub loaded : ReadComes (image_file n) plan.image store (Ok input.image)

-- these are the inputs of the runs from run n on, in their order
abbrev pub AreInputs : ShownStore → ℕ → List RunPlan → List RunInput → Type 0
AreInputs store n [] [] = Unit {0}
AreInputs store n (plan ∷ plans) (input ∷ inputs) =
    IsInput store n plan input × AreInputs store (n + 1) plans inputs
AreInputs store n _ _ = ⊥

-- Of `run`, `table` and `margins`. Besides, what `table` tells of each run keeps the limits of the
-- calibration, and what `table` and `margins` tell is what the rows show.
pub record TellsRuns (telling : Telling) (calibration : Option (List ℕ)) (campaign : List ℕ)
    (store : ShownStore) (out : Change ShownSink) : Type 0 where
  pub cal : CalibrationParts
  pub plans : List RunPlan
  pub inputs : List RunInput
  pub uses : Uses calibration store cal
  pub campaign_says : ReadComes campaign_file campaign store (Ok plans)
  pub files_say : AreInputs store 1 plans inputs
  pub written : Appends out.before out.after (runs_text telling cal inputs)
  pub headline : All KeepsHeadline (map (run_with cal) inputs)
  pub within_limits : All (TellsWithinLimits cal) inputs
  pub in_words : All (TellsInWords cal) inputs

-- The files say that this is the input of the first run of this name.
pub record IsNamedInput (campaign name : List ℕ) (store : ShownStore) (input : RunInput) : Type 0 where
  pub plans : List RunPlan
  pub n : ℕ
  pub plan : RunPlan
  pub campaign_says : ReadComes campaign_file campaign store (Ok plans)
  pub is_named : run_named name 1 plans ≡ Some (n, plan)
  pub files_say : IsInput store n plan input

-- Of `record`.
pub record TellsRecord (calibration : Option (List ℕ)) (campaign name : List ℕ) (store : ShownStore)
    (out : Change ShownSink) : Type 0 where
  pub cal : CalibrationParts
  pub input : RunInput
  pub uses : Uses calibration store cal
  pub files_say : IsNamedInput campaign name store input
  pub written : Appends out.before out.after (record_text cal input)
  pub headline : KeepsHeadline (run_with cal input)

-- Of `sweep` (C91). Besides, the greatest reactions, but that of `lapse`, are at most R.
pub record TellsSweep (calibration : Option (List ℕ)) (campaign name : List ℕ) (step : ℕ)
    (store : ShownStore) (out : Change ShownSink) : Type 0 where
  pub cal : CalibrationParts
  pub input : RunInput
  pub uses : Uses calibration store cal
  pub files_say : IsNamedInput campaign name store input
  pub written : Appends out.before out.after (swept_text cal step input)
  pub headline : All KeepsHeadline (map (run_with cal) (runs_over step input))
  pub in_time : IsBounded (reaction_of cal.times) (table_over cal step input)

-- Of `soak` (C93).
pub record TellsSoak (seed count : ℕ) (out : Change ShownSink) : Type 0 where
  pub written : Appends out.before out.after (soak_text (soak_of (drawn_runs count seed)))
  pub headline : All KeepsHeadline (drawn_runs count seed)

-- The files say that this is the input of the first run of this name, but for its drive.
pub record IsUndrivenInput (campaign name : List ℕ) (store : ShownStore) (input : RunInput) : Type 0 where
  pub plans : List RunPlan
  pub n : ℕ
  pub plan : RunPlan
  pub campaign_says : ReadComes campaign_file campaign store (Ok plans)
  pub is_named : run_named name 1 plans ≡ Some (n, plan)
  pub planned : input.plan ≡ plan
  pub loaded : ReadComes (image_file n) plan.image store (Ok input.image)

-- Of `couple` (C90): these lines were taken, and all that is said of them was written. (That they are all
-- lines that came says `Ends`.)
pub record TellsCoupled (calibration : Option (List ℕ)) (campaign name : List ℕ) (store : ShownStore)
    (out : Change ShownSink) : Type 0 where
  pub cal : CalibrationParts
  pub input : RunInput
  pub lines : List (List ℕ)
  pub answers : List PartnerAnswer
  pub uses : Uses calibration store cal
  pub files_say : IsUndrivenInput campaign name store input
  pub are_taken : LeadTo (couple_work (unit_of cal input)) (reverse lines) answers
  pub written : Appends out.before out.after (coupled_text (unit_of cal input) answers)
  pub headline : KeepsCoupledHeadline (unit_of cal input) answers

-- of a command that plays no runs nothing is said
abbrev pub TellsHeadline : Option Command → ShownStore → Change ShownSink → Type 0
TellsHeadline (Some (by calibration (run telling campaign))) store out =
    TellsRuns telling calibration campaign store out
TellsHeadline (Some (by calibration (record_run campaign name))) store out =
    TellsRecord calibration campaign name store out
TellsHeadline (Some (by calibration (sweep campaign name step))) store out =
    TellsSweep calibration campaign name step store out
TellsHeadline (Some (by calibration (couple campaign name))) store out =
    TellsCoupled calibration campaign name store out
TellsHeadline (Some (soak seed runs)) store out = TellsSoak seed runs out
TellsHeadline _ store out = Unit {0}
