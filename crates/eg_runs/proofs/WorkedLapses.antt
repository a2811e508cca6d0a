-- Runs under lapses, computed from the definitions.
use Rattle.std.proofs.Common.{◌≡◌, ◌-◌, ◌*◌, ◌<◌, true, false, [], ◌∷◌, ◌++◌, map, filter, replicate, take, length, Some, None, refl, sym, subst, arith}
use Rattle.std.specs.List.{list_all}
use Rattle.eg_answer.specs.Times.{reaction_of, feeds_to_confirm, periods_to_confirm, worth_of, rounds_to_confirm, lapse_periods, lapse_bound_of}
use Rattle.eg_answer.specs.declared.marks.AnswerMark.TheVariants.{Good}
use Rattle.eg_answer.specs.declared.marks.Verdict.TheVariants.{Wrong}
use Rattle.eg_record.specs.declared.watch.Watch.TheVariants.{Answers}
use Rattle.eg_record.specs.Excess.{true_excess}
use Rattle.eg_values.specs.Reference.{reference_parts}
use Rattle.eg_values.specs.Calibration.{IsAccepted}
use Rattle.eg_values.specs.Excess.{BoundsLapses}
use Rattle.eg_answer.specs.Answers as answers
use Rattle.eg_answer.specs.Formulas as formulas
use Rattle.eg_model.specs.Examples.{answers_of, verdicts_of, stages_of, moments_in_time, report_on, reported}
use Rattle.eg_model.specs.Engines.{gasoline}
use Rattle.eg_model.specs.Records.{rows_to, ExceedLast}
use Rattle.eg_runs.specs.WorkedLapses.{lapsing_run, dead_run, slow_parts, standing_run, excesses_of}
use Rattle.eg_laws.specs.MissedTicks.{KeepsMissing}
use Rattle.eg_laws.proofs.MissedTickRecords.{lapses_keep_missing}
use Rattle.eg_model.proofs.WholeModel.{whole_model}

pub lapsing : report_on lapsing_run ≡ reported (Some (Answers, 29)) (Some 30) None (Some 9)
unfolding whole_model
lapsing = refl

-- the stretch is ticks 5 to 29
pub lapsing-excesses : excesses_of lapsing_run
    ≡ replicate 5 false ++ replicate 25 true ++ replicate 30 false
unfolding whole_model
lapsing-excesses = refl

-- It feeds its debouncers at three ticks of the stretch; the fifth, when the stages are off, confirms what
-- level 2 takes for an excess. No answer is sent.
lapsing-runs : map (λ m. m.tick) (filter (λ m. m.feeds) (moments_in_time lapsing_run))
    ≡ 9 ∷ 19 ∷ 29 ∷ 39 ∷ 49 ∷ []
unfolding whole_model
lapsing-runs = refl

pub lapsing-answers : answers_of lapsing_run ≡ []
unfolding whole_model
lapsing-answers = refl

lapsing-verdicts : verdicts_of lapsing_run
    ≡ (9, Some Wrong) ∷ (19, Some Wrong) ∷ (29, Some Wrong) ∷ (39, Some Wrong) ∷ (49, Some Wrong) ∷
    (59, Some Wrong) ∷ []
unfolding whole_model
lapsing-verdicts = refl

pub lapsing-stages : stages_of lapsing_run ≡ replicate 30 true ++ replicate 30 false
unfolding whole_model
lapsing-stages = refl

-- ---- a level 2 that never runs again ----

pub dead-keeps : KeepsMissing dead_run.setting.fault reference_parts.times.period
dead-keeps = lapses_keep_missing 6 (0 ∷ []) 1 reference_parts.times.period (omega arith) (omega arith)

pub dead : report_on dead_run ≡ reported (Some (Answers, 39)) (Some 40) None (Some 9)
unfolding whole_model
dead = refl

pub dead-answers : answers_of dead_run ≡ (5, Good) ∷ []
unfolding whole_model
dead-answers = refl

pub reference-reaction : reaction_of reference_parts.times ≡ 34
unfolding feeds_to_confirm reaction_of
reference-reaction = refl

-- ---- excess that stands ----

-- the reference calibration's numbers: four whole periods, and 50 ticks
reference-periods : lapse_periods reference_parts.rules.torque reference_parts.times ≡ 4
unfolding feeds_to_confirm periods_to_confirm worth_of rounds_to_confirm lapse_periods
reference-periods = refl

pub reference-bound : lapse_bound_of reference_parts.rules.torque reference_parts.times ≡ 50
unfolding feeds_to_confirm periods_to_confirm worth_of rounds_to_confirm lapse_periods lapse_bound_of
reference-bound = refl

-- the answers are right by both, since the torque's weights aren't in them
pub slow-accepted : IsAccepted reference_parts → IsAccepted slow_parts
unfolding answers.expected_of answers.results_of answers.permitted_result answers.estimate_result answers.excess_result answers.pairs_result formulas.permitted_torque formulas.estimated_torque formulas.excess_number formulas.disagreeing_pairs
slow-accepted a = record {
  grid = a.grid;
  permit = a.permit;
  pair = a.pair;
  plant = a.plant;
  charge = a.charge;
  times = a.times;
  answers = a.answers;
  torque = (omega arith, omega arith, omega arith, omega arith, omega arith);
  at_most_64 = a.at_most_64;
  together = record { one_kt = a.together.one_kt; two_questions = a.together.two_questions; answered = a.together.answered };
  words = record { seeds = a.words.seeds; values = a.words.values };
}

pub standing-bound : BoundsLapses slow_parts
standing-bound = record {
  no_ramp = refl;
  bound = subst (λ c. (c - 1) * slow_parts.times.weights.down < slow_parts.times.weights.up) (sym one) (omega arith);
}
  where
    one : periods_to_confirm slow_parts.rules.torque slow_parts.times ≡ 1
    one = unfold periods_to_confirm feeds_to_confirm in refl

pub standing-periods : lapse_periods slow_parts.rules.torque slow_parts.times ≡ 4
unfolding feeds_to_confirm periods_to_confirm worth_of rounds_to_confirm lapse_periods
standing-periods = refl

-- at each of the ticks 10 to 49
standing-each : list_all (λ excess. excess) (take 40 (map (true_excess 200) (rows_to gasoline standing_run 50))) ≡ true
unfolding whole_model rows_to
standing-each = refl

standing-rows : length (rows_to gasoline standing_run 50) ≡ 50
unfolding whole_model rows_to
standing-rows = refl

pub standing-excess : ExceedLast 200 (lapse_periods slow_parts.rules.torque slow_parts.times * 10) (rows_to gasoline standing_run 50)
standing-excess = subst (λ n. ExceedLast 200 (n * 10) (rows_to gasoline standing_run 50)) (sym standing-periods)
    (record { within = omega (arith, standing-rows); each = standing-each })

pub standing-stages : stages_of standing_run ≡ replicate 50 true ++ replicate 3 false
unfolding whole_model
standing-stages = refl
