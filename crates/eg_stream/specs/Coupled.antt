-- A coupled run (C88 to C90): a partner answers each tick of the unit. Answers stand newest first.
use Rattle.std.specs.Prelude.{◌≡◌, ℕ, ◌%◌, ◌==◌, Bool, not, ◌&&◌, nat_le, List, [], ◌∷◌, length, slice_index_or, Option, Some, None, Result, Ok, Err, if◌then◌else◌}
use Rattle.eg_num.specs.Arithmetic.{estimate}
use Rattle.eg_plant.specs.Engine.{Shown}
use Rattle.eg_input.specs.Answering.{answer_of}
use Rattle.eg_input.specs.declared.answered.PartnerAnswer.{PartnerAnswer}
use Rattle.eg_values.specs.Calibration.{CalibrationParts}
use Rattle.eg_plan.specs.declared.run_input.RunInput.{RunInput}
use Rattle.eg_model.specs.History.{Setting, Entry, Moment}
use Rattle.eg_model.specs.Spans.{moments}
use Rattle.eg_model.specs.Rows.{rows_of}
use Rattle.eg_record.specs.declared.row.Row.{Row}
use Rattle.eg_tick.specs.Commanding.{commanded_at}

-- ---- what the unit is ----

-- The unit of a run. The run's drive and engine have no part in it (C88).
pub record CoupledUnit : Type 0 where
  pub setting : Setting
  pub plan : List (List ℕ)

-- C88
abbrev pub unit_of : CalibrationParts → RunInput → CoupledUnit
unit_of cal input = record {
  setting = record { cal = cal; image = input.image; fault = input.plan.fault };
  plan = input.plan.slices;
}

-- ---- what comes in, and what is true ----

-- C88: what comes in at tick t by an answer. The rows of the slice plan are used in turn (C55).
unfoldable pub entry_by : CoupledUnit → ℕ → PartnerAnswer → Entry
entry_by unit t answer = record {
  drive = answer.drive;
  slices = slice_index_or unit.plan (t % length unit.plan) [];
  shown = answer.told;
}

unfoldable pub entries_by : CoupledUnit → List PartnerAnswer → List Entry
entries_by unit [] = []
entries_by unit (answer ∷ before) = entry_by unit (length before) answer ∷ entries_by unit before

unfoldable pub coupled_moments : CoupledUnit → List PartnerAnswer → List Moment
coupled_moments unit answers = moments unit.setting (entries_by unit answers)

-- C90
unfoldable pub coupled_rows : CoupledUnit → List PartnerAnswer → List Row
coupled_rows unit answers = rows_of (coupled_moments unit answers)

-- ---- the laws at the door ----

-- F37: why a line isn't taken
pub data Objection : Type 0 where
  NoAnswer : Objection
  LoadBelowTorque : Objection
  TorqueWhileOff : Objection

-- C89, F37: Load
unfoldable pub covers : (kt : ℕ) → Shown → Bool
covers kt shown =
    nat_le shown.torque (estimate kt shown.load_1) && nat_le shown.torque (estimate kt shown.load_2)

-- C89, F37: Load and Stages, of an answer after these
unfoldable pub lawful : CoupledUnit → List PartnerAnswer → PartnerAnswer → Result PartnerAnswer Objection
lawful unit before answer =
    if not (covers unit.setting.cal.rules.kt answer.told) then Err LoadBelowTorque
    else if not (commanded_at unit.setting answer.drive (entries_by unit before)).on
    && not (answer.told.torque == 0) then Err TorqueWhileOff
    else Ok answer

unfoldable pub lawful_if_any :
    CoupledUnit → List PartnerAnswer → Option PartnerAnswer → Result PartnerAnswer Objection
lawful_if_any unit before None = Err NoAnswer
lawful_if_any unit before (Some answer) = lawful unit before answer

-- F37, of a line after these answers
unfoldable pub taken : CoupledUnit → List PartnerAnswer → List ℕ → Result PartnerAnswer Objection
taken unit before line = lawful_if_any unit before (answer_of line)

-- Each of these lines was taken, and gave the answer at its place. Lines stand newest first too.
unfoldable pub AreTaken : CoupledUnit → List (List ℕ) → List PartnerAnswer → Type 0
AreTaken unit [] [] = Unit {0}
AreTaken unit (line ∷ lines) (answer ∷ before) =
    (taken unit before line ≡ Ok answer) × AreTaken unit lines before
AreTaken unit _ _ = ⊥
