-- How `check`, `bound`, `limits`, `answers` and `asm` end once their files are known, and what comes of these
-- files (F1, F3, F4).
use Rattle.std.specs.Prelude.{ℕ, List, Option, Result, Ok, Err}
use Rattle.eg_base.specs.Outside.{ShownStore, ShownSink}
use Rattle.eg_num.specs.Places.{IsFirst}
use Rattle.eg_asm.specs.declared.fault.AsmFault.{AsmFault}
use Rattle.eg_asm.specs.declared.fault.AsmFault.TheVariants as fault
use Rattle.eg_asm.specs.Sources.{Assembles}
use Rattle.eg_answer.specs.declared.questions.Question.{Question}
use Rattle.eg_answer.specs.declared.rules.Rules.{Rules}
use Rattle.eg_input.specs.CheckFile.{CheckRow}
use Rattle.eg_toml.specs.Documents.{document_of}
use Rattle.eg_values.specs.Calibration.{CalibrationParts}
use Rattle.eg_cal.specs.Answers.{answers_of}
use Rattle.eg_cal.specs.declared.key.CalFault.{CalFault}
use Rattle.eg_outcome.specs.Changes.{Change, MeetsNoFault}
use Rattle.eg_outcome.specs.Files.{AreRead}
use Rattle.eg_outcome.specs.Outcomes.{LineEnds, Then}
use Rattle.eg_outcome.specs.Reads.{refused, sized, whole, FileComes, Accepts}
use Rattle.eg_outcome.specs.declared.outcome.Outcome.{Outcome}
use Rattle.eg_outcome.specs.declared.outcome.Outcome.TheVariants as outcome
use Rattle.eg_outcome.specs.declared.outcome.Refusal.{Refusal}
use Rattle.eg_outcome.specs.declared.outcome.Refusal.TheVariants as refusal
use Rattle.eg_outcome.specs.declared.outcome.Role.{Role}
use Rattle.eg_outcome.specs.declared.outcome.Role.TheVariants as role
use Rattle.eg_desk.specs.declared.limit.Limits.{Limits}
use Rattle.eg_desk.specs.Check.{excesses, check_line}
use Rattle.eg_desk.specs.Limits.{AreLimits}

-- ---- `check [--cal NAME] FILE` ----

-- C76, once the rows are known
abbrev pub RowsEnd : Rules → List CheckRow → Change ShownSink → Outcome → Type 0
RowsEnd rules rows out o = (first : Option ℕ) × IsFirst rules.torque (excesses rules rows) first
    × LineEnds (check_line first) out o

-- ---- `bound [--cal NAME]` and `limits [--cal NAME]` ----

-- F40; `text` is that of `bound` or of `limits`
abbrev pub TellsLimits : (Limits → List ℕ) → CalibrationParts → Change ShownSink → Outcome → Type 0
TellsLimits text cal out o = (limits : Limits) × AreLimits cal limits × LineEnds (text limits) out o

-- ---- `answers FILE` ----

-- C78: the questions that a calibration file says, with their right answers
unfoldable pub answers_said : List ℕ → Result (List Question) CalFault
answers_said bytes = answers_of (document_of bytes)

abbrev pub answers_or_refusal : List ℕ → Result (List Question) Refusal
answers_or_refusal bytes = refused refusal.Calibration (answers_said bytes)

-- F3, F21; no answer is refused
abbrev pub answers_file : List ℕ → Result (List Question) Refusal
answers_file = sized role.Calibration answers_or_refusal

-- ---- `asm FILE` ----

-- F3: memory that ran out is no refusal
abbrev pub source_end : AsmFault → Outcome
source_end fault.Memory = outcome.Memory
source_end why = outcome.Refused (refusal.Source why)

-- F25 to F27, once the bytes of a source are known
abbrev pub SourceComes : List ℕ → Result (List ℕ) Outcome → Type 0
SourceComes bytes (Ok words) = Assembles bytes (Ok words)
SourceComes bytes (Err (outcome.Refused (refusal.Source why))) = Assembles bytes (Err why)
SourceComes bytes (Err outcome.Memory) = Unit {0}
SourceComes bytes (Err _) = ⊥

-- F3, F27: what comes of the file of a source. If its bytes came, no fault of reading was met.
abbrev pub SourceFileComes : List ℕ → Change ShownStore → Result (List ℕ) Outcome → Type 0
SourceFileComes name store come = (read : Result (List ℕ) Outcome)
    × FileComes role.Source (whole role.Source) name store read
    × Then (λ bytes words. MeetsNoFault store × SourceComes bytes words) read come

-- whatever a read of the file may give isn't too long, and is a source
abbrev pub AcceptsSource : List ℕ → ShownStore → Type 0
AcceptsSource name store = Accepts (whole role.Source) name store
    × ((bytes : List ℕ) → AreRead store name bytes → (words : List ℕ) × Assembles bytes (Ok words))

-- ---- `dis FILE` ----

-- the role of the file of `dis`, an image of no run
abbrev pub read_alone : Role
read_alone = role.Image 0
