-- Ticks of level 2 that were worked by hand, against the definitions.
use Rattle.std.proofs.Common.{◌≡◌, ℕ, Bool, true, false, not, [], ◌∷◌, refl}
use Rattle.std.specs.Prelude.{nat_lt, if◌then◌else◌, ◌==◌, Option, Some, None}
use Rattle.eg_num.specs.Interpolation.{value_at}
use Rattle.eg_num.specs.Counting.{fed}
use Rattle.eg_torque.specs.Permit.{permitted}
use Rattle.eg_torque.specs.Ramp.{ramped}
use Rattle.eg_torque.specs.Excess.{is_excess}
use Rattle.eg_sensor.specs.Readings.{has_bit}
use Rattle.eg_answer.specs.Folds.{mixed, fold_of}
use Rattle.eg_answer.specs.Formulas.{permitted_torque, estimated_torque, excess_number, disagreeing_pairs}
use Rattle.eg_answer.specs.Answers.{pedal_result, permitted_result, estimate_result, excess_result, pairs_result, results_of, expected_of, answer_number}
use Rattle.eg_answer.specs.Token.{next_token_of}
use Rattle.eg_level2.specs.declared.phase.Phase.{Phase}
use Rattle.eg_level2.specs.declared.phase.Phase.TheVariants.{Quiet, Send}
use Rattle.eg_level2.specs.Phases.{feeds, sends}
use Rattle.eg_level2.specs.Words.{Words, is_set, start}
use Rattle.eg_level2.specs.Inputs.{row_of}
use Rattle.eg_level2.specs.Modules.{feeds_now, marked, check_step, given_up, written, signed, pedal_step, permitted_step, actual_step, excess_step, pairs_step, pedal_bit, plate_bit, load_bit, speed_bit, torque_bit, counted, is_found, debounced, limits, trips, debounce_step, closed_flow, answers_now, number_of, answer_of, react_step, module_step}
use Rattle.eg_level2.proofs.Worked.{rules, question, idle, after_tick_0}
use Rattle.eg_level2.specs.Ticks.{Doing, inputs_for, after_module, after_modules, after_tick, answer_at}
use Rattle.eg_level2.specs.Flow.{row_asked, expected_fold, expected_number}

-- The question is asked at a tick, with the readings of an idle engine, as in the examples of level 2. These
-- modules run, the disturbance of each is as given, and no word differs from its complement.
abbrev doing : ℕ → Phase → (ℕ → Bool) → (ℕ → ℕ) → Doing
doing tick phase ran disturbance = record {
  rules = rules;
  questions = question ∷ question ∷ [];
  readings = idle;
  asked = 2;
  tick = tick;
  phase = phase;
  ran = ran;
  disturbance = disturbance;
  differs = false;
}

abbrev all : ℕ → Bool
all i = true

abbrev none : ℕ → Bool
none i = false

abbrev sound : ℕ → ℕ
sound i = 0

-- a tick whose modules all run, and one whose modules don't
abbrev whole : ℕ → Phase → Doing
whole tick phase = doing tick phase all sound

abbrev empty : ℕ → Doing
empty tick = doing tick Send none sound

-- a tick, and its answer, with all that they are made of opened
unfoldable tick : Doing → Words → Words
unfolding value_at permitted ramped is_excess mixed pedal_result permitted_result estimate_result excess_result pairs_result
    next_token_of fed
    is_set row_of permitted_torque estimated_torque excess_number disagreeing_pairs marked check_step given_up written signed pedal_step
    permitted_step actual_step excess_step pairs_step has_bit pedal_bit plate_bit load_bit speed_bit torque_bit counted is_found debounced
    limits trips debounce_step closed_flow answers_now react_step module_step inputs_for after_module after_modules after_tick start
    feeds_now feeds sends
tick d words = after_tick d words

unfoldable answer : Doing → Words → Option ℕ
unfolding tick answer_of number_of answer_at
answer d words = answer_at d words

-- all eight modules at tick 0, without and with an answer; it is the expected one
tick_0 : tick (whole 0 Quiet) start ≡ after_tick_0
unfolding tick
tick_0 = refl

sends_0 : answer (whole 0 Send) start ≡ Some 16720522
unfolding answer
sends_0 = refl

quiet_0 : answer (whole 0 Quiet) start ≡ None
unfolding answer
quiet_0 = refl

expects_0 : expected_number (whole 0 Send) ≡ 16720522
unfolding expected_number answer_number expected_fold expected_of results_of fold_of mixed pedal_result permitted_result estimate_result
    excess_result pairs_result permitted_torque estimated_torque excess_number disagreeing_pairs permitted value_at is_excess row_asked row_of
expects_0 = refl

-- Tick 1 is left out. At tick 2 the gap is found and the flow is marked: 33023 is 0x80ff. The answer has the
-- mark too, and the flow begins anew with it.
gap : (tick (whole 2 Quiet) (tick (empty 1) after_tick_0)).flow ≡ 33023
unfolding tick
gap = refl

answers_after_gap : answer (whole 2 Send) (tick (empty 1) after_tick_0) ≡ Some 2164204170
unfolding answer
answers_after_gap = refl

begins_anew : (tick (whole 2 Send) (tick (empty 1) after_tick_0)).flow ≡ 255
unfolding tick
begins_anew = refl

-- a mark stays over a whole tick without an answer
stays_marked : answer (whole 3 Send) (tick (whole 2 Quiet) (tick (empty 1) after_tick_0)) ≡ Some 2164204170
unfolding answer
stays_marked = refl

-- two gaps before an answer don't cancel
two_gaps : (tick (whole 4 Quiet) (tick (empty 3) (tick (whole 2 Quiet) (tick (empty 1) after_tick_0)))).flow ≡ 33023
unfolding tick
two_gaps = refl

-- module 3 is left out: the token is lost, and the flow is marked
abbrev without_3 : ℕ → Bool
without_3 i = not (i == 3)

left_out : (tick (doing 1 Quiet without_3 sound) after_tick_0).flow ≡ 33023
unfolding tick
left_out = refl

-- Only modules 0 to 3 run at tick 1, and only 4 to 7 at tick 2: level 2 itself sends the expected number. No
-- fault does this: under each of them the modules run together, or one of them is left out for good.
abbrev first_half : ℕ → Bool
first_half i = nat_lt i 4

halves : answer (doing 2 Send (λ i. not (first_half i)) sound) (tick (doing 1 Quiet first_half sound) after_tick_0) ≡ Some 16720522
unfolding answer
halves = refl

-- bit 0 of module 4 is disturbed: the fold is another one, the flow isn't marked
disturbed : answer (doing 1 Send all (λ i. if i == 4 then 1 else 0)) after_tick_0 ≡ Some 16720514
unfolding answer
disturbed = refl
