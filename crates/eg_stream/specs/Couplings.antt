-- How `couple` ends (F3, F37). Answers stand newest first.
use Rattle.std.specs.Prelude.{◌≡◌, ℕ, nat_le, List, [], ◌∷◌, length, reverse, Result, Ok, Err, if◌then◌else◌}
use Rattle.eg_base.specs.Outside.{ShownSink}
use Rattle.eg_lines.specs.Lines.{ShownLines}
use Rattle.eg_input.specs.declared.fault.TraceFault.TheVariants as trace_fault
use Rattle.eg_outcome.specs.Changes.{Change}
use Rattle.eg_outcome.specs.Lines.{Line}
use Rattle.eg_outcome.specs.declared.outcome.Outcome.{Outcome}
use Rattle.eg_outcome.specs.declared.outcome.Refusal.{Refusal}
use Rattle.eg_outcome.specs.declared.outcome.Refusal.TheVariants as refusal
use Rattle.eg_outcome.specs.declared.outcome.AnswerFault.TheVariants as answer_fault
use Rattle.eg_input.specs.declared.answered.PartnerAnswer.{PartnerAnswer}
use Rattle.eg_tick.specs.Weights.{TickCount}
use Rattle.eg_tick.specs.Counting.{count_with}
use Rattle.eg_stream.specs.Coupled.{CoupledUnit, Objection, NoAnswer, LoadBelowTorque, TorqueWhileOff, coupled_rows, taken}
use Rattle.eg_stream.specs.Texts.{coupled_text}
use Rattle.eg_stream.specs.Headline.{KeepsCoupledHeadline}
use Rattle.eg_stream.specs.Streams.{LineWork, StreamEnds}

-- F37, Long
abbrev pub most_answers : ℕ
most_answers = 20000

-- a call of `couple`: the lines that it reads, its output and its count of ticks
pub record Coupling : Type 0 where
  pub lines : Change ShownLines
  pub out : Change ShownSink
  pub ticks : Change TickCount

abbrev pub coupling : Change ShownLines → Change ShownSink → Change TickCount → Coupling
coupling lines out ticks = record { lines = lines; out = out; ticks = ticks }

-- ---- a line ----

-- F37; the line of tick 0 has number 1
abbrev pub refusal_of : ℕ → Objection → Refusal
refusal_of n NoAnswer = refusal.Check (trace_fault.Row n)
refusal_of n LoadBelowTorque = refusal.Answer (answer_fault.LoadBelowTorque n)
refusal_of n TorqueWhileOff = refusal.Answer (answer_fault.TorqueWhileOff n)

-- the answers with that of a line, or the refusal of the line of this number
abbrev pub answered : ℕ → List PartnerAnswer → Result PartnerAnswer Objection
    → Result (List PartnerAnswer) Refusal
answered n before (Ok answer) = Ok (answer ∷ before)
answered n before (Err why) = Err (refusal_of n why)

-- F37: behind 20,000 answers a line is refused, whatever it holds
unfoldable pub couple_step : CoupledUnit → ℕ → List PartnerAnswer → Line → Result (List PartnerAnswer) Refusal
couple_step unit n before line =
    if nat_le most_answers (length before) then Err (refusal.Check trace_fault.Long)
    else answered n before (taken unit before line)

abbrev pub couple_work : CoupledUnit → LineWork (List PartnerAnswer)
couple_work unit = record {
  start = [];
  step = couple_step unit;
  so_far = coupled_text unit;
  whole = λ answers. Ok (coupled_text unit answers);
}

-- ---- how a coupling ends ----

-- F3, F37: lines came, and each was taken and gave an answer. A tick was made and counted for each, and the
-- rows of these ticks keep the headline (C90).
abbrev pub CouplingEnds : CoupledUnit → Coupling → Outcome → Type 0
CouplingEnds unit call o =
    (answers : List PartnerAnswer) × StreamEnds (couple_work unit) answers call.lines call.out o
    × (call.ticks.after ≡ count_with call.ticks.before (reverse (coupled_rows unit answers)))
    × KeepsCoupledHeadline unit answers
