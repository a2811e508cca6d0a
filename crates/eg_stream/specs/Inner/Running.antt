-- A controller between two answers of a partner, and what comes of one line of the partner.
use Rattle.std.specs.Prelude.{◌≡◌, ◌⊎◌, ℕ, ◌+◌, List, [], ◌∷◌, length, IsTrue, Option, Some, None, Result, Ok, Err}
use Rattle.eg_plant.specs.Foreign.{Foreign}
use Rattle.eg_lines.specs.Lines.{ShownLines}
use Rattle.eg_outcome.specs.Changes.{Change}
use Rattle.eg_outcome.specs.Lines.{Line, Come, IsAtEnd, ReadsWell, NoLineComes}
use Rattle.eg_outcome.specs.declared.outcome.Outcome.{Outcome}
use Rattle.eg_outcome.specs.declared.outcome.Outcome.TheVariants as outcome
use Rattle.eg_input.specs.declared.answered.PartnerAnswer.{PartnerAnswer}
use Rattle.eg_tick.specs.Kept.{ControllerParts}
use Rattle.eg_tick.specs.Stands.{Stands}
use Rattle.eg_stream.specs.Coupled.{CoupledUnit, Objection, entries_by, taken}
use Rattle.eg_stream.specs.Couplings.{refusal_of}

-- C54: after these answers the controller stands for what came in by them, over a sure memory
pub record IsCoupled
    (unit : CoupledUnit) (answers : List PartnerAnswer) (c : ControllerParts Foreign) : Type 0 where
  pub stands : Stands unit.setting c.kept (entries_by unit answers)
  pub ticks : c.kept.ticks ≡ length answers
  pub sure : IsTrue c.kept.memory.sure

-- F37, of a line of this number
abbrev pub outcome_of : ℕ → Result PartnerAnswer Objection → Result PartnerAnswer Outcome
outcome_of n (Ok answer) = Ok answer
outcome_of n (Err why) = Err (outcome.Refused (refusal_of n why))

-- A line came after these answers, and was taken or refused (F37); or no line was left; or none came.
abbrev pub AnswerComes :
    CoupledUnit → List PartnerAnswer → Change ShownLines → Result (Option PartnerAnswer) Outcome → Type 0
AnswerComes unit before lines (Ok (Some answer)) =
    (line : Line) × Come lines (line ∷ []) × (taken unit before line ≡ Ok answer) × ReadsWell lines
AnswerComes unit before lines (Ok None) = Come lines [] × IsAtEnd lines × ReadsWell lines
AnswerComes unit before lines (Err end) =
    ((line : Line) × (why : Objection) × Come lines (line ∷ []) × (taken unit before line ≡ Err why)
    × (end ≡ outcome.Refused (refusal_of (length before + 1) why)) × ReadsWell lines)
    ⊎ NoLineComes lines end
