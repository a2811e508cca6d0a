-- Which answers are taken, and what is told of them, from the definitions.
use Rattle.std.proofs.Common.{◌≡◌, refl, ℕ, true, false, List, [], ◌∷◌, ◌++◌, None}
use Rattle.std.specs.Prelude.{codes, replicate, Option, Ok, Err}
use Rattle.std.specs.Fmt.{digits}
use Rattle.eg_num.specs.Drive.{DriveRow}
use Rattle.eg_fault.specs.declared.class.Fault.{Fault as SomeFault}
use Rattle.eg_fault.specs.declared.class.Class.TheVariants.{PathOpen, Plate}
use Rattle.eg_values.specs.Reference.{reference_parts}
use Rattle.eg_record.specs.Texts.{numbers_text, row_numbers, events_text, row_columns}
use Rattle.eg_model.specs.Examples.{idle, full, fault_from, short_test, usual_slices, resetting, at_rest}
use Rattle.eg_model.proofs.WholeModel.{whole_model}
use Rattle.eg_model.specs.Spans.{next}
use Rattle.eg_tick.specs.Commanding.{commands_after, commanded_at, commands_next}
use Rattle.eg_stream.specs.Coupled.{CoupledUnit, LoadBelowTorque, TorqueWhileOff, entry_by, entries_by, covers, lawful, lawful_if_any, taken}
use Rattle.eg_stream.specs.Texts.{held_text, commands_text, first_line, coupled_line, answer_line}
use Rattle.eg_input.specs.declared.answered.PartnerAnswer.{PartnerAnswer}

-- every definition of what is told
unfoldable telling : ℕ
unfolding digits next whole_model commands_after commanded_at commands_next entry_by entries_by covers lawful lawful_if_any taken held_text commands_text first_line coupled_line answer_line numbers_text row_numbers events_text row_columns
telling = 0

abbrev answer : DriveRow → (position load_1 load_2 torque : ℕ) → PartnerAnswer
answer drive position load_1 load_2 torque = record {
  drive = drive;
  told = record { position = position; load_1 = load_1; load_2 = load_2; torque = torque };
}

-- ---- the laws at the door, and what is told ----

abbrev unit : List ℕ → Option SomeFault → CoupledUnit
unit image fault = record {
  setting = record { cal = reference_parts; image = image; fault = fault };
  plan = usual_slices ∷ [];
}

abbrev resting : PartnerAnswer
resting = answer at_rest 0 40 40 0

covered : lawful (unit idle None) [] (answer at_rest 0 40 41 100) ≡ Ok (answer at_rest 0 40 41 100)
unfolding telling
covered = refl

second_load : lawful (unit idle None) [] (answer at_rest 0 41 40 101) ≡ Err LoadBelowTorque
unfolding telling
second_load = refl

first_load : lawful (unit idle None) [] (answer at_rest 0 40 41 101) ≡ Err LoadBelowTorque
unfolding telling
first_load = refl

while_reset : lawful (unit idle None) [] (answer resetting 0 40 40 1) ≡ Err TorqueWhileOff
unfolding telling
while_reset = refl

while_open : lawful (unit idle (fault_from 0 (PathOpen 2))) [] (answer at_rest 0 40 40 1) ≡ Err TorqueWhileOff
unfolding telling
while_open = refl

-- the line before tick 0, where the plate is held from then on
first : first_line (commands_next (unit idle (fault_from 0 (Plate 300))).setting [])
    ≡ codes "-,-,-,-,-,-,-,-,-,-,-,-,-,-,-,-,-,-,-,-,-,0,0,1,300\n"
unfolding telling
first = refl

-- the row of the first answer, and what is commanded then
row : answer_line (unit full None) [] resting
    ≡ codes "0,0,800,0,0,40,0,200,1,1,1,0,200,100,0,0,1000,1000,-,-,-,1000,1000,1,-\n"
unfolding telling
row = refl

-- a start-up test of ten ticks: after the tick that reads the paths back nothing is commanded yet, and the
-- stages come on
abbrev tested : CoupledUnit
tested = record {
  setting = record { cal = short_test; image = full; fault = None };
  plan = usual_slices ∷ [];
}

before_passed : commands_next tested.setting (entries_by tested (replicate 9 resting ++ answer resetting 0 40 40 0 ∷ []))
    ≡ record { throttle = 1000; ignition = 1000; on = false; held = None }
unfolding telling
before_passed = refl

passed : commands_next tested.setting (entries_by tested (replicate 10 resting ++ answer resetting 0 40 40 0 ∷ []))
    ≡ record { throttle = 0; ignition = 0; on = true; held = None }
unfolding telling
passed = refl
