-- The text of `couple` (F35).
use Rattle.std.specs.Prelude.{◌≡◌, ℕ, List, [], ◌∷◌, ◌++◌, length, replicate, codes, decimal, Option, Some, None}
use Rattle.std.specs.List.{concat}
use Rattle.eg_input.specs.declared.answered.PartnerAnswer.{PartnerAnswer}
use Rattle.eg_record.specs.declared.row.Row.{Row}
use Rattle.eg_record.specs.Texts.{digit, numbers_text, row_columns}
use Rattle.eg_model.specs.Spans.{next}
use Rattle.eg_model.specs.Rows.{row_of}
use Rattle.eg_tick.specs.declared.commands.Commands.{Commands}
use Rattle.eg_tick.specs.Commanding.{commands_next}
use Rattle.eg_stream.specs.Coupled.{CoupledUnit, entry_by, entries_by, coupled_rows}

-- F35, the header
unfoldable pub coupled_header : List ℕ
coupled_header =
    codes "tick,pedal,speed,raise,plate,charge,torque,limit,path1,path2,on,"
    ++ codes "used,permitted,actual,excess,pairs,throttle,ignition,found,answer,verdict,"
    ++ codes "next_throttle,next_ignition,next_on,next_held\n"

-- F35, `next_held`
unfoldable pub held_text : Option ℕ → List ℕ
held_text None = codes "-"
held_text (Some at) = decimal at

-- F35, the four columns behind the record's, and the line feed
unfoldable pub commands_text : Commands → List ℕ
commands_text next =
    numbers_text (next.throttle ∷ next.ignition ∷ digit next.on ∷ []) ++ held_text next.held ++ codes "\n"

-- F35, the line of what tick 0 commands
unfoldable pub first_line : Commands → List ℕ
first_line next = concat (replicate 21 (codes "-,")) ++ commands_text next

-- F35, of a row
unfoldable pub coupled_line : Row → Commands → List ℕ
coupled_line row next = row_columns row ++ codes "," ++ commands_text next

-- the line of the tick of an answer after these
unfoldable pub answer_line : CoupledUnit → List PartnerAnswer → PartnerAnswer → List ℕ
answer_line unit before answer =
    coupled_line
    (row_of (length before)
    (next unit.setting (entry_by unit (length before) answer) (entries_by unit before)))
    (commands_next unit.setting (entries_by unit (answer ∷ before)))

-- F35, once these answers have come
unfoldable pub coupled_text : CoupledUnit → List PartnerAnswer → List ℕ
coupled_text unit [] = coupled_header ++ first_line (commands_next unit.setting [])
coupled_text unit (answer ∷ before) = coupled_text unit before ++ answer_line unit before answer

-- ---- the text by its rows ----

-- what is told with each row, newest first
unfoldable pub commands_by : CoupledUnit → List PartnerAnswer → List Commands
commands_by unit [] = []
commands_by unit (answer ∷ before) =
    commands_next unit.setting (entries_by unit (answer ∷ before)) ∷ commands_by unit before

-- a line for each of these rows, with what is told with it, in the order of time
unfoldable pub coupled_lines : List Row → List Commands → List ℕ
coupled_lines (row ∷ rows) (next ∷ told) = coupled_lines rows told ++ coupled_line row next
coupled_lines _ _ = []

-- F35: what is written is the header, the line below it, and a line for each row of the run.
pub record TellsRows (unit : CoupledUnit) (answers : List PartnerAnswer) : Type 0 where
  pub text : coupled_text unit answers ≡ (coupled_header ++ first_line (commands_next unit.setting []))
      ++ coupled_lines (coupled_rows unit answers) (commands_by unit answers)
  pub rows : length (coupled_rows unit answers) ≡ length answers
  pub told : length (commands_by unit answers) ≡ length answers

abbrev pub TextTellsRows : Type 0
TextTellsRows = (unit : CoupledUnit) (answers : List PartnerAnswer) → TellsRows unit answers
