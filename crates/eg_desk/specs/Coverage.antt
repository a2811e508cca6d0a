-- The text of `coverage` (F44). A case is a class of faults, or a part of a class, and has a row of its own.
use Rattle.std.specs.Prelude.{◌≡◌, ℕ, ◌+◌, Bool, true, false, List, [], ◌∷◌, ◌++◌, map, codes, decimal, Option, Some, None, SomeIff, ◌==◌, if◌then◌else◌}
use Rattle.std.specs.List.{concat}
use Rattle.eg_base.specs.Outside.{ShownSink}
use Rattle.eg_answer.specs.Times.{feeds_to_confirm, reaction_of, test_ticks_of}
use Rattle.eg_values.specs.Calibration.{CalibrationParts}
use Rattle.eg_values.specs.Excess.{BoundsMissed, longest_missed}
use Rattle.eg_outcome.specs.Changes.{Change}
use Rattle.eg_outcome.specs.Outcomes.{LineEnds}
use Rattle.eg_outcome.specs.declared.outcome.Outcome.{Outcome}
use Rattle.eg_desk.specs.declared.coverage.CoverageCase.{CoverageCase}
use Rattle.eg_desk.specs.declared.coverage.CoverageCase.TheVariants.{ScriptPedal, ScriptPlate, ScriptLoad, ScriptSpeed, ScriptWithin, ScriptContact, OffsetPedal, OffsetPlate, OffsetLoad, OffsetSpeed, OffsetWithin, OffsetContact, Bus, Plate, Skip, Disturb, Flip, Halt, TimingOutside, TimingInside, WildOpens, WildNever, Path1Driven, Path1Tested, Path2Driven, Path2Tested, PathOpen, Lapse}
use Rattle.eg_desk.specs.declared.coverage.CoverageRow.{CoverageRow}
use Rattle.eg_desk.specs.declared.coverage.CoverageTicks.{CoverageTicks}
use Rattle.eg_desk.specs.declared.coverage.Off.{Off}
use Rattle.eg_desk.specs.declared.coverage.Off.TheVariants.{Never, After, Confirmed, Ordered, Excess}

-- ---- the numbers ----

-- The numbers of a calibration that stand in rows: `pair`, the ticks in a row that confirm a pair that
-- disagrees, and four lines of `limits` (F40).
pub record AreTicks (cal : CalibrationParts) (ticks : CoverageTicks) : Type 0 where
  pub pair : ticks.pair ≡ feeds_to_confirm cal.rules.pair
  pub reaction : ticks.reaction ≡ reaction_of cal.times
  pub test : ticks.test ≡ test_ticks_of cal.times
  pub verdicts : ticks.verdicts ≡ feeds_to_confirm cal.times.weights
  pub missed : SomeIff ticks.missed (BoundsMissed cal) (longest_missed cal)

-- a row whose faults are found within so many ticks, and a row whose faults can stay hidden
abbrev pub found : ℕ → Off → CoverageRow
found within off = record { within = Some within; off = off; hidden = false }

abbrev pub unfound : Off → CoverageRow
unfound off = record { within = None; off = off; hidden = true }

-- C103: one tick more than `missed`, if there is such a number
unfoldable pub lapse_off : Option ℕ → Off
lapse_off None = Never
lapse_off (Some longest) = Excess (longest + 1)

-- C102: a lapse is found if one wrong verdict confirms
unfoldable pub lapse_numbers : CoverageTicks → CoverageRow
lapse_numbers ticks =
    if ticks.verdicts == 1 then found ticks.reaction (After ticks.reaction)
    else unfound (lapse_off ticks.missed)

-- F44, the columns `within`, `off` and `hidden`
unfoldable pub numbers_of : CoverageTicks → CoverageCase → CoverageRow
numbers_of ticks ScriptPedal = found ticks.pair (Confirmed 1)
numbers_of ticks ScriptPlate = found ticks.pair (After ticks.pair)
numbers_of ticks ScriptLoad = found ticks.pair (After ticks.pair)
numbers_of ticks ScriptSpeed = found ticks.pair (After ticks.pair)
numbers_of ticks ScriptWithin = unfound (Confirmed 1)
numbers_of ticks ScriptContact = unfound (Confirmed 1)
numbers_of ticks OffsetPedal = found ticks.pair (Confirmed 1)
numbers_of ticks OffsetPlate = found ticks.pair (After ticks.pair)
numbers_of ticks OffsetLoad = found ticks.pair (After ticks.pair)
numbers_of ticks OffsetSpeed = found ticks.pair (After ticks.pair)
numbers_of ticks OffsetWithin = unfound (Confirmed 1)
numbers_of ticks OffsetContact = unfound (Confirmed 1)
numbers_of ticks Bus = unfound (Confirmed 1)
numbers_of ticks Plate = unfound (Confirmed 1)
numbers_of ticks Skip = found ticks.reaction (After ticks.reaction)
numbers_of ticks Disturb = found ticks.reaction (After ticks.reaction)
numbers_of ticks Flip = found 1 (After 1)
numbers_of ticks Halt = found ticks.reaction (After ticks.reaction)
numbers_of ticks TimingOutside = found ticks.reaction (After ticks.reaction)
numbers_of ticks TimingInside = unfound (Confirmed 1)
numbers_of ticks WildOpens = unfound (Ordered 1)
numbers_of ticks WildNever = unfound (Confirmed 1)
numbers_of ticks Path1Driven = unfound (Confirmed ticks.reaction)
numbers_of ticks Path1Tested = found (ticks.test + 1) (After 0)
numbers_of ticks Path2Driven = unfound (Confirmed 1)
numbers_of ticks Path2Tested = found (ticks.test + 1) (After 0)
numbers_of ticks PathOpen = unfound (After 0)
numbers_of ticks Lapse = lapse_numbers ticks

abbrev pub cases : List CoverageCase
cases =
    ScriptPedal ∷ ScriptPlate ∷ ScriptLoad ∷ ScriptSpeed ∷ ScriptWithin ∷ ScriptContact ∷ OffsetPedal
    ∷ OffsetPlate ∷ OffsetLoad ∷ OffsetSpeed ∷ OffsetWithin ∷ OffsetContact ∷ Bus ∷ Plate ∷ Skip
    ∷ Disturb ∷ Flip ∷ Halt ∷ TimingOutside ∷ TimingInside ∷ WildOpens ∷ WildNever ∷ Path1Driven
    ∷ Path1Tested ∷ Path2Driven ∷ Path2Tested ∷ PathOpen ∷ Lapse ∷ []

-- ---- the text ----

-- F44, the columns `class` and `case`
unfoldable pub case_words : CoverageCase → List ℕ
case_words ScriptPedal = codes "script,pedal apart by more than its tolerance"
case_words ScriptPlate = codes "script,plate apart by more than its tolerance"
case_words ScriptLoad = codes "script,load apart by more than its tolerance"
case_words ScriptSpeed = codes "script,speed apart by more than its tolerance"
case_words ScriptWithin = codes "script,any pair apart within its tolerance"
case_words ScriptContact = codes "script,a contact of the brake"
case_words OffsetPedal = codes "offset,pedal apart by more than its tolerance"
case_words OffsetPlate = codes "offset,plate apart by more than its tolerance"
case_words OffsetLoad = codes "offset,load apart by more than its tolerance"
case_words OffsetSpeed = codes "offset,speed apart by more than its tolerance"
case_words OffsetWithin = codes "offset,any pair apart within its tolerance"
case_words OffsetContact = codes "offset,a contact of the brake"
case_words Bus = codes "bus,any mask"
case_words Plate = codes "plate,any angle"
case_words Skip = codes "skip,any module"
case_words Disturb = codes "disturb,any module"
case_words Flip = codes "flip,any word"
case_words Halt = codes "halt,both levels"
case_words TimingOutside = codes "timing,answers outside the window"
case_words TimingInside = codes "timing,answers inside the window"
case_words WildOpens = codes "wild,opens path 2 at times"
case_words WildNever = codes "wild,never opens path 2"
case_words Path1Driven = codes "path1-closed,without a reset"
case_words Path1Tested = codes "path1-closed,with a reset"
case_words Path2Driven = codes "path2-closed,without a reset"
case_words Path2Tested = codes "path2-closed,with a reset"
case_words PathOpen = codes "path-open,either path"
case_words Lapse = codes "lapse,level 2 left out at times"

-- column `effect`
unfoldable pub case_stakes : CoverageCase → List ℕ
case_stakes ScriptPedal = codes ",wrong pedal is seen"
case_stakes ScriptPlate = codes ",wrong plate is seen"
case_stakes ScriptLoad = codes ",wrong load is seen"
case_stakes ScriptSpeed = codes ",wrong speed is seen"
case_stakes ScriptWithin = codes ",level 2 errs to the safe side"
case_stakes ScriptContact = codes ",level 2 errs to the safe side"
case_stakes OffsetPedal = codes ",wrong pedal is seen"
case_stakes OffsetPlate = codes ",wrong plate is seen"
case_stakes OffsetLoad = codes ",wrong load is seen"
case_stakes OffsetSpeed = codes ",wrong speed is seen"
case_stakes OffsetWithin = codes ",level 2 errs to the safe side"
case_stakes OffsetContact = codes ",level 2 errs to the safe side"
case_stakes Bus = codes ",raise taken as 0"
case_stakes Plate = codes ",torque not as ordered"
case_stakes Skip = codes ",no answer is right"
case_stakes Disturb = codes ",no answer is right"
case_stakes Flip = codes ",a wrong word of level 2"
case_stakes Halt = codes ",outputs stay as they are"
case_stakes TimingOutside = codes ",no answer is right"
case_stakes TimingInside = codes ",one verdict may be wrong"
case_stakes WildOpens = codes ",cut without need"
case_stakes WildNever = codes ",no cut by path 2"
case_stakes Path1Driven = codes ",no cut by path 1"
case_stakes Path1Tested = codes ",no cut by path 1"
case_stakes Path2Driven = codes ",no cut by path 2"
case_stakes Path2Tested = codes ",no cut by path 2"
case_stakes PathOpen = codes ",cut without need"
case_stakes Lapse = codes ",late cut"

-- column `finds`, if a watch finds the faults of the row
unfoldable pub case_watch : CoverageCase → List ℕ
case_watch ScriptPedal = codes "pedal"
case_watch ScriptPlate = codes "plate"
case_watch ScriptLoad = codes "load"
case_watch ScriptSpeed = codes "speed"
case_watch OffsetPedal = codes "pedal"
case_watch OffsetPlate = codes "plate"
case_watch OffsetLoad = codes "load"
case_watch OffsetSpeed = codes "speed"
case_watch Skip = codes "answers"
case_watch Disturb = codes "answers"
case_watch Flip = codes "mirror"
case_watch Halt = codes "answers"
case_watch TimingOutside = codes "answers"
case_watch Path1Tested = codes "start"
case_watch Path2Tested = codes "start"
case_watch Lapse = codes "answers"
case_watch _ = codes "-"

-- columns `finds` and `within`
unfoldable pub found_text : CoverageCase → Option ℕ → List ℕ
found_text case None = codes ",-,-"
found_text case (Some ticks) = codes "," ++ (case_watch case ++ (codes "," ++ decimal ticks))

-- column `off`
unfoldable pub off_text : Off → List ℕ
off_text Never = codes ",-"
off_text (After ticks) = codes "," ++ decimal ticks
off_text (Confirmed ticks) = codes ",confirmed + " ++ decimal ticks
off_text (Ordered ticks) = codes ",ordered + " ++ decimal ticks
off_text (Excess ticks) = codes ",excess < " ++ decimal ticks

-- column `hidden`, and the line feed
unfoldable pub hidden_text : Bool → List ℕ
hidden_text true = codes ",1\n"
hidden_text false = codes ",0\n"

-- the row of a case with any numbers
abbrev pub numbers_line : CoverageCase → CoverageRow → List ℕ
numbers_line case row =
    case_words case
    ++ (case_stakes case ++ (found_text case row.within ++ (off_text row.off ++ hidden_text row.hidden)))

abbrev pub coverage_line : CoverageTicks → CoverageCase → List ℕ
coverage_line ticks case = numbers_line case (numbers_of ticks case)

abbrev pub coverage_lines : CoverageTicks → List CoverageCase → List ℕ
coverage_lines ticks these = concat (map (coverage_line ticks) these)

-- F44
unfoldable pub coverage_text : CoverageTicks → List ℕ
coverage_text ticks = codes "class,case,effect,finds,within,off,hidden\n" ++ coverage_lines ticks cases

-- ---- `coverage [--cal NAME]` ----

abbrev pub TellsCoverage : CalibrationParts → Change ShownSink → Outcome → Type 0
TellsCoverage cal out o = (ticks : CoverageTicks) × AreTicks cal ticks × LineEnds (coverage_text ticks) out o
