-- The record is printed as a header and a line of columns for each row, the report as a line for each summary
-- and a last line. A text is the list of its bytes, and each line ends with LF.
use Rattle.std.specs.Prelude.{ℕ, Bool, List, [], ◌∷◌, ◌++◌, map, length, codes, decimal, Option, Some, None, is_some, if◌then◌else◌, slice_index, count_by}
use Rattle.std.specs.List.{filter, join_with_byte}
use Rattle.eg_num.specs.declared.watches.Watches.{Watches}
use Rattle.eg_answer.specs.declared.marks.AnswerMark.{AnswerMark}
use Rattle.eg_answer.specs.declared.marks.AnswerMark.TheVariants.{Absent, Good, Bad}
use Rattle.eg_answer.specs.declared.marks.Verdict.{Verdict}
use Rattle.eg_answer.specs.declared.marks.Verdict.TheVariants.{Right, Wrong}
use Rattle.eg_word.specs.declared.registers.Trap.{Trap}
use Rattle.eg_word.specs.declared.registers.Trap.TheVariants as kind
use Rattle.eg_record.specs.declared.row.Row.{Row}
use Rattle.eg_record.specs.declared.summary.Summary.{Summary}
use Rattle.eg_record.specs.declared.watch.Watch.{Watch}
use Rattle.eg_record.specs.declared.watch.Watch.TheVariants.{Mirror, Pedal, Plate, Load, Speed, Torque, Answers, Start}
use Rattle.eg_record.specs.Detection.{watches, is_found}

-- the byte between names
abbrev pub plus : ℕ
plus = 43

-- a truth value, as a text and as a number
unfoldable pub bit : Bool → List ℕ
bit b = if b then codes "1" else codes "0"

abbrev pub digit : Bool → ℕ
digit b = if b then 1 else 0

-- numbers, with a comma behind each
unfoldable pub numbers_text : List ℕ → List ℕ
numbers_text [] = []
numbers_text (number ∷ numbers) = decimal number ++ codes "," ++ numbers_text numbers

-- the name of a watch
unfoldable pub watch_name : Watch → List ℕ
watch_name Mirror = codes "mirror"
watch_name Pedal = codes "pedal"
watch_name Plate = codes "plate"
watch_name Load = codes "load"
watch_name Speed = codes "speed"
watch_name Torque = codes "torque"
watch_name Answers = codes "answers"
watch_name Start = codes "start"

-- ---- the record ----

-- the names of some watches, joined by `+`, and `-` where there is none
unfoldable pub names : List Watch → List ℕ
names [] = codes "-"
names (watch ∷ others) = join_with_byte plus (map watch_name (watch ∷ others))

-- the watches that are found, in their order
unfoldable pub found_text : Watches → List ℕ
found_text found = names (filter (is_found found) watches)

-- the mark of a tick
unfoldable pub answer_text : AnswerMark → List ℕ
answer_text Absent = codes "-"
answer_text Good = codes "good"
answer_text Bad = codes "bad"

-- the verdict of a tick
unfoldable pub verdict_text : Option Verdict → List ℕ
verdict_text None = codes "-"
verdict_text (Some Right) = codes "right"
verdict_text (Some Wrong) = codes "wrong"

-- the columns of a row that are numbers: its tick with the drive row; the engine; the paths and the stages;
-- the signals of level 2; the commands of level 1
unfoldable pub row_numbers : Row → List ℕ
row_numbers row =
    row.tick ∷ row.drive.pedal ∷ row.drive.speed ∷ row.drive.raise
    ∷ row.plate ∷ row.charge ∷ row.torque ∷ row.limit
    ∷ digit row.path1 ∷ digit row.path2 ∷ digit row.on
    ∷ slice_index row.signals 0 ∷ slice_index row.signals 1 ∷ slice_index row.signals 2
    ∷ slice_index row.signals 3 ∷ slice_index row.signals 4
    ∷ row.throttle ∷ row.ignition ∷ []

-- the other columns: what is found, the answer and the verdict
unfoldable pub events_text : Row → List ℕ
events_text row =
    found_text row.found ++ codes "," ++ answer_text row.answer ++ codes "," ++ verdict_text row.verdict

-- all columns of a row, with commas between them, and its line
unfoldable pub row_columns : Row → List ℕ
row_columns row = numbers_text (row_numbers row) ++ events_text row

unfoldable pub row_line : Row → List ℕ
row_line row = row_columns row ++ codes "\n"

-- the line above the rows: the names of the columns
unfoldable pub record_header : List ℕ
record_header =
    codes "tick,pedal,speed,raise,plate,charge,torque,limit,path1,path2,on,"
    ++ codes "used,permitted,actual,excess,pairs,throttle,ignition,found,answer,verdict\n"

-- ---- the report ----

-- a tick, or this word where there is none
unfoldable pub at_text : (without : List ℕ) → Option ℕ → List ℕ
at_text without None = without
at_text without (Some tick) = codes "at " ++ decimal tick

-- the first detection
unfoldable pub first_text : Option (Watch × ℕ) → List ℕ
first_text None = codes "none"
first_text (Some detection) = watch_name detection.0 ++ codes " at " ++ decimal detection.1

-- the name of a trap's kind
unfoldable pub trap_name : Trap → List ℕ
trap_name kind.Fetch = codes "fetch"
trap_name kind.Load = codes "load"
trap_name kind.Store = codes "store"
trap_name kind.Illegal = codes "illegal"

-- the trap of level 1
unfoldable pub trap_text : Option (Trap × ℕ) → List ℕ
trap_text None = codes "none"
trap_text (Some trap) = trap_name trap.0 ++ codes " at " ++ decimal trap.1

-- the line of a run
unfoldable pub summary_line : Summary → List ℕ
summary_line s =
    s.name ++ codes ": first " ++ first_text s.first ++ codes "; off " ++ at_text (codes "never") s.off
    ++ codes "; trap " ++ trap_text s.trap ++ codes "; excess " ++ at_text (codes "none") s.confirmed
    ++ codes "; bound " ++ decimal s.bound ++ codes "\n"

-- the last line: of how many runs, in how many a watch was found, and in how many the stages went off
unfoldable pub report_end : List Summary → List ℕ
report_end runs =
    codes "runs " ++ decimal (length runs)
    ++ codes "; detected " ++ decimal (count_by (λ s. is_some s.first) runs)
    ++ codes "; off " ++ decimal (count_by (λ s. is_some s.off) runs) ++ codes "\n"
