-- Every definition of a run, so that a run is computed.
use Rattle.std.specs.Prelude.{ℕ}
use Rattle.eg_num.specs.Windows.{weight, windows, is_reached, is_confirmed, is_first, first_index}
use Rattle.eg_num.specs.Interpolation.{value_at}
use Rattle.eg_torque.specs.Permit.{permitted, drive_permits}
use Rattle.eg_torque.specs.Ramp.{ramped}
use Rattle.eg_torque.specs.Excess.{is_excess}
use Rattle.eg_answer.specs.Formulas.{permitted_torque, estimated_torque, excess_number, disagreeing_pairs}
use Rattle.eg_answer.specs.Times.{feeds_to_confirm, reaction_of, test_ticks_of}
use Rattle.eg_answer.specs.Periods.{period_of, place_of, is_last_tick, is_send_tick, is_in_window, verdict_of, with_verdict, is_wrong}
use Rattle.eg_guard.specs.Regions.{region_of, allows, access}
use Rattle.eg_word.specs.Instructions.{signed, instruction_with}
use Rattle.eg_word.specs.Machine.{reg, next, beyond, load_into, store_at, effect, step_in}
use Rattle.eg_word.specs.World.{new_registers, new_world, sight_in, sight, after_store_in, after_store, after_step, world_step}
use Rattle.eg_host.specs.Slices.{wake, steps, slices_from}
use Rattle.eg_plant.specs.Gasoline.{at_rest, next_plate, next_charge, torque_of, gasoline_step}
use Rattle.eg_fault.specs.Effects.{no_effects, readings_under, contacts_under, sends_in, sends_at}
use Rattle.eg_fault.specs.Faults.{offset_by, in_turn, truth_in_turn, is_left_out, effects_of, effects}
use Rattle.eg_record.specs.Rows.{first_given}
use Rattle.eg_record.specs.Detection.{is_found, first_watch, detected_at, first_detection}
use Rattle.eg_record.specs.Spans.{this_span}
use Rattle.eg_record.specs.Stages.{is_off, off_at, first_off}
use Rattle.eg_record.specs.Excess.{true_excess, full_excess, is_excess_confirmed, first_confirmed}
use Rattle.eg_record.specs.Summaries.{summary_of}
use Rattle.eg_record.specs.Texts.{bit, watch_name, names, found_text, answer_text, verdict_text, row_line, at_text, first_text, trap_name, trap_text, summary_line}
use Rattle.eg_model.specs.History.{drives}
use Rattle.eg_model.specs.Signals.{tripped, is_limited, no_signals, last_signals, signal, signals_at}
use Rattle.eg_sensor.specs.Readings.{has_bit}
use Rattle.eg_model.specs.Detection.{pedal_bit, plate_bit, load_bit, speed_bit, torque_bit, feeds_at, fed_bits, finds}
use Rattle.eg_answer.specs.Modules.{modules_before_react, modules}
use Rattle.eg_model.specs.Answers.{is_whole, is_undisturbed, is_answer, whole_since_answer, is_sent, is_good, mark_at, with_answer, answers_in, verdict_at, verdicts_in, confirms_at}
use Rattle.eg_model.specs.Paths.{is_testing, is_told_to_open, reads_back, orders_open, latch1, latch2, path1_at, path2_at, both_conduct}
use Rattle.eg_model.specs.Level1.{last_world, ports_of, seen, seen_signals, view_in, world_at}
use Rattle.eg_model.specs.Moments.{effective_drive, is_braking, sensed_at, readings_at, demand_at, last_limit, limit_at, moment_in, moments_in, moment, moments_of}
use Rattle.eg_model.specs.Spans.{span_so_far, span_kind, has_passed, kind_at, before_at, moment_at, next_after, moments, ticks}
use Rattle.eg_model.specs.Engines.{gasoline}
use Rattle.eg_model.specs.Bench.{stepped, engine_after, shown_at, no_drive, drive_at, slices_at, entry_at, moments_to, entries_to}
use Rattle.eg_model.specs.Rows.{signal_list, row_of, rows_of, trap_in, first_trap, record_rows, record_trap, report_of}

unfoldable pub whole_model : ℕ
unfolding weight windows is_reached is_confirmed is_first first_index value_at permitted drive_permits ramped is_excess feeds_to_confirm reaction_of test_ticks_of period_of place_of is_last_tick is_send_tick is_in_window verdict_of with_verdict is_wrong region_of allows access signed instruction_with reg next beyond load_into store_at effect step_in new_registers new_world sight_in sight after_store_in after_store after_step world_step wake steps at_rest next_plate next_charge torque_of gasoline_step no_effects readings_under contacts_under sends_in sends_at offset_by in_turn truth_in_turn is_left_out effects_of effects first_given is_found first_watch detected_at first_detection this_span is_off off_at first_off true_excess full_excess is_excess_confirmed first_confirmed summary_of bit watch_name names found_text answer_text verdict_text row_line at_text first_text trap_name trap_text summary_line tripped is_limited no_signals last_signals signal permitted_torque estimated_torque excess_number disagreeing_pairs signals_at has_bit pedal_bit plate_bit load_bit speed_bit torque_bit feeds_at fed_bits finds modules modules_before_react is_whole is_undisturbed is_answer whole_since_answer is_sent is_good mark_at with_answer answers_in verdict_at verdicts_in confirms_at is_testing is_told_to_open reads_back orders_open latch1 latch2 path1_at path2_at both_conduct last_world ports_of seen seen_signals view_in slices_from world_at drives effective_drive is_braking sensed_at readings_at demand_at last_limit limit_at moment_in moments_in moment moments_of span_so_far span_kind has_passed kind_at before_at moment_at next_after moments ticks gasoline stepped engine_after shown_at no_drive drive_at slices_at entry_at moments_to entries_to signal_list row_of rows_of trap_in first_trap record_rows record_trap report_of
whole_model = 0
