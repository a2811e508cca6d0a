-- Ticks of the reference calibration that were worked by hand, against the definitions: an engine that
-- idles, and a test of the shut-off paths.
use Rattle.std.proofs.Common.{◌≡◌, ℕ, Bool, true, false, [], ◌∷◌, refl}
use Rattle.std.specs.Prelude.{Option, Some, None, replicate}
use Rattle.eg_num.specs.Interpolation.{value_at}
use Rattle.eg_num.specs.Counting.{fed}
use Rattle.eg_num.specs.Drive.{driven}
use Rattle.eg_torque.specs.Permit.{permitted}
use Rattle.eg_torque.specs.Ramp.{ramped}
use Rattle.eg_torque.specs.Excess.{is_excess}
use Rattle.eg_answer.specs.Folds.{mixed}
use Rattle.eg_answer.specs.Formulas.{permitted_torque, estimated_torque, excess_number, disagreeing_pairs}
use Rattle.eg_sensor.specs.Readings.{has_bit}
use Rattle.eg_answer.specs.Answers.{pedal_result, permitted_result, estimate_result, excess_result, pairs_result, answer_number}
use Rattle.eg_answer.specs.Token.{next_token_of}
use Rattle.eg_answer.specs.Periods.{period_of, place_of, is_send_tick, asked}
use Rattle.eg_answer.specs.Times.{feeds_to_confirm, test_ticks_of}
use Rattle.eg_answer.specs.declared.marks.AnswerMark.{AnswerMark}
use Rattle.eg_answer.specs.declared.marks.AnswerMark.TheVariants.{Absent, Good, Bad}
use Rattle.eg_values.specs.Reference.{reference_parts}
use Rattle.eg_level2.specs.Words.{is_set, start}
use Rattle.eg_level2.specs.Inputs.{row_of}
use Rattle.eg_level2.specs.Phases.{feeds, sends, orders}
use Rattle.eg_level2.specs.Modules.{marked, check_step, given_up, written, signed, pedal_step, permitted_step, actual_step, excess_step, pairs_step, pedal_bit, plate_bit, load_bit, speed_bit, torque_bit, feeds_now, counted, is_found, debounced, limits, trips, debounce_step, closed_flow, opens_now, answers_now, number_of, answer_of, react_step, module_step}
use Rattle.eg_fault.specs.Effects.{no_effects, readings_under, contacts_under, sends_in, sends_at, asked_in, asked_at}
use Rattle.eg_fault.specs.Faults.{is_left_out, effects_of, effects}
use Rattle.eg_fault.specs.declared.class.Class.TheVariants.{Lapse, Skip, Disturb, Flip}
use Rattle.eg_fault.specs.declared.class.Fault.{Fault}
use Rattle.eg_level2.specs.Ticks.{inputs_for, after_module, after_modules, after_tick, answer_at, orders_at}
use Rattle.eg_model.specs.History.{Setting, Entry, Tick, SpanKind, Drive, Test, drives}
use Rattle.eg_model.specs.Paths.{is_told_to_open}
use Rattle.eg_model.specs.Moments.{is_braking, sensed_at, readings_at}
use Rattle.eg_model.specs.Spans.{ticks}
use Rattle.eg_agree.specs.Doings.{phase_at, doing_at}
use Rattle.eg_agree.specs.Replies.{doing_after, words_over, number_expected, mark_of}

-- pedal 0, speed 800, no raise; plate 0, both loads 40, no torque
abbrev idle : Entry
idle = record {
  drive = driven 0 800 0;
  slices = [];
  shown = record { position = 0; load_1 = 40; load_2 = 40; torque = 0 };
}

abbrev under : Option Fault → Setting
under fault = record { cal = reference_parts; image = []; fault = fault }

-- what is sent at a tick of the idling engine, with all that it is made of opened
unfoldable sent : SpanKind → Option Fault → ℕ → Option ℕ
unfolding value_at permitted ramped is_excess mixed pedal_result permitted_result estimate_result excess_result pairs_result
    next_token_of fed
    is_set row_of permitted_torque estimated_torque excess_number disagreeing_pairs marked check_step given_up written signed pedal_step
    permitted_step actual_step excess_step pairs_step has_bit pedal_bit plate_bit load_bit speed_bit torque_bit feeds_now counted is_found debounced
    limits trips debounce_step closed_flow answers_now react_step module_step inputs_for after_module after_modules after_tick start
    answer_of number_of answer_at period_of place_of is_send_tick asked no_effects readings_under contacts_under sends_in sends_at asked_in asked_at
    is_left_out effects_of effects is_braking sensed_at readings_at ticks drives feeds_to_confirm test_ticks_of is_told_to_open feeds sends orders phase_at doing_at
    doing_after words_over
sent kind fault tick =
    let s = under fault in
    let h = ticks s (replicate tick idle) in
    let x : Tick = record { effects = effects fault tick; entry = idle } in
    answer_at (doing_after kind s x h) (words_over kind s h)

-- and its mark
unfoldable mark : SpanKind → Option Fault → ℕ → AnswerMark
unfolding sent number_expected mark_of answer_number
mark kind fault tick = mark_of (number_expected (under fault) (effects fault tick) tick) (sent kind fault tick)

-- the answers come at ticks 5 and 15, to questions 0 and 1
tick_4 : sent Drive None 4 ≡ None
unfolding sent
tick_4 = refl

tick_5 : sent Drive None 5 ≡ Some 16720522
unfolding sent
tick_5 = refl

tick_15 : sent Drive None 15 ≡ Some 16767433
unfolding sent
tick_15 = refl

good_15 : mark Drive None 15 ≡ Good
unfolding mark
good_15 = refl

-- level 2 is left out of tick 1 alone: the answer of tick 5 is marked, and that of tick 15 is good again
abbrev one_gap : Option Fault
one_gap = Some (record { onset = 1; class = Lapse (0 ∷ []) 0 })

gap_5 : sent Drive one_gap 5 ≡ Some 2164204170
unfolding sent
gap_5 = refl

bad_5 : mark Drive one_gap 5 ≡ Bad
unfolding mark
bad_5 = refl

again_15 : mark Drive one_gap 15 ≡ Good
unfolding mark
again_15 = refl

-- module 3 is left out from tick 6 on, or disturbed: the answer of tick 5 is good, that of tick 15 isn't
skipped_5 : mark Drive (Some (record { onset = 6; class = Skip 3 })) 5 ≡ Good
unfolding mark
skipped_5 = refl

skipped_15 : mark Drive (Some (record { onset = 6; class = Skip 3 })) 15 ≡ Bad
unfolding mark
skipped_15 = refl

disturbed_15 : mark Drive (Some (record { onset = 6; class = Disturb 3 1 })) 15 ≡ Bad
unfolding mark
disturbed_15 = refl

-- a word is flipped at tick 2: no answer any more
flipped_5 : mark Drive (Some (record { onset = 2; class = Flip 13 32768 })) 5 ≡ Absent
unfolding mark
flipped_5 = refl

-- no answer is sent in a test of the shut-off paths, and its tick 29 alone orders path 1 open
unfoldable ordered : ℕ → Bool
unfolding sent opens_now orders_at
ordered tick =
    let s = under None in
    let h = ticks s (replicate tick idle) in
    orders_at (doing_after Test s (record { effects = effects None tick; entry = idle }) h) (words_over Test s h)

test_5 : sent Test None 5 ≡ None
unfolding sent
test_5 = refl

test_28 : ordered 28 ≡ false
unfolding ordered
test_28 = refl

test_29 : ordered 29 ≡ true
unfolding ordered
test_29 = refl

test_30 : ordered 30 ≡ false
unfolding ordered
test_30 = refl
