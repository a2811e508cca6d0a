-- Commands that read line by line. A command takes each line by what the lines before it came to, and writes
-- what is due so far before it reads the next. It ends behind the last line, or by the first that it refuses.
use Rattle.std.specs.Prelude.{◌≡◌, ◌⊎◌, ℕ, ◌+◌, List, [], ◌∷◌, ◌++◌, length, reverse, IsTrue, Some, Result, Ok, Err}
use Rattle.eg_base.specs.Outside.{ShownSink, Rose, Appends, AppendsPrefix}
use Rattle.eg_lines.specs.Lines.{ShownLines, lines_in}
use Rattle.eg_outcome.specs.Changes.{Change, Stays}
use Rattle.eg_outcome.specs.Lines.{Line, Come, IsAtEnd}
use Rattle.eg_outcome.specs.declared.outcome.Outcome.{Outcome}
use Rattle.eg_outcome.specs.declared.outcome.Outcome.TheVariants as outcome
use Rattle.eg_outcome.specs.declared.outcome.Refusal.{Refusal}
use Rattle.eg_outcome.specs.declared.outcome.Role.TheVariants as role

-- ---- what a command makes of lines ----

-- What a command over lines does. A state says what the lines so far came to; `start` is the state of no
-- lines. By a line and its number, from 1 on, `step` leads from a state to the next, or refuses the line.
-- `so_far` is what is written so far in a state. `whole` is what is written in all if no line is left, or how
-- this end is refused.
pub record LineWork (S : Type 0) : Type 0 where
  pub start : S
  pub step : (number : ℕ) → S → Line → Result S Refusal
  pub so_far : S → List ℕ
  pub whole : S → Result (List ℕ) Refusal

-- these lines, newest first, are taken one after another, and lead to this state
unfoldable pub LeadTo : {S : Type 0} → LineWork S → List Line → S → Type 0
LeadTo work [] state = state ≡ work.start
LeadTo {S} work (line ∷ before) state =
    (was : S) × LeadTo work before was × (work.step (length before + 1) was line ≡ Ok state)

-- ---- what is written ----

-- these bytes were written, and no fault of writing was met; if there are none, nothing was put
pub record HasWritten (text : List ℕ) (out : Change ShownSink) : Type 0 where
  pub all : Appends out.before out.after text
  pub no_fault : out.after.faults ≡ out.before.faults
  pub none : text ≡ [] → Stays out

-- A front was written of what is due so far; or, if no line is left, of what is due in all.
abbrev pub WritesFront : {S : Type 0} → LineWork S → S → Change ShownLines → Change ShownSink → Type 0
WritesFront work state lines out =
    (AppendsPrefix out.before out.after (work.so_far state) × (work.so_far state ≡ [] → Stays out))
    ⊎ ((text : List ℕ) × IsAtEnd lines × (work.whole state ≡ Ok text)
    × AppendsPrefix out.before out.after text)

-- ---- how it ends ----

-- Behind the lines that were taken one more came, which is refused; or no line is left, and this end is
-- refused.
abbrev pub RefusesNext : {S : Type 0} → LineWork S → List Line → S → Change ShownLines → Refusal → Type 0
RefusesNext work taken state lines why =
    ((bad : Line) × Come lines (taken ++ bad ∷ [])
    × (work.step (length taken + 1) state bad ≡ Err why))
    ⊎ (Come lines taken × IsAtEnd lines × (work.whole state ≡ Err why))

-- Behind lines that were taken and lead to this state, what each outcome says (F3). If an outcome tells a
-- fault, the count of such faults rose; every other count stayed. Over a sure source no fault of reading is
-- told.
abbrev pub EndsBehind : {S : Type 0} → LineWork S → List Line → S → Change ShownLines → Change ShownSink
    → Outcome → Type 0
EndsBehind work taken state lines out outcome.Done =
    (text : List ℕ) × Come lines taken × IsAtEnd lines × (work.whole state ≡ Ok text)
    × Appends out.before out.after text × (lines.after.faults ≡ lines.before.faults)
    × (out.after.faults ≡ out.before.faults)
EndsBehind work taken state lines out (outcome.Refused why) =
    RefusesNext work taken state lines why × HasWritten (work.so_far state) out
    × (lines.after.faults ≡ lines.before.faults)
EndsBehind work taken state lines out (outcome.ReadFault role.Check) =
    Come lines taken × HasWritten (work.so_far state) out × Rose lines.before.faults lines.after.faults
    × (¬ IsTrue lines.before.sure)
EndsBehind work taken state lines out outcome.WriteFault =
    Come lines taken × WritesFront work state lines out × (lines.after.faults ≡ lines.before.faults)
    × Rose out.before.faults out.after.faults
EndsBehind work taken state lines out outcome.Memory =
    Come lines taken × WritesFront work state lines out × (lines.after.faults ≡ lines.before.faults)
    × (out.after.faults ≡ out.before.faults)
EndsBehind work taken state lines out _ = ⊥

-- F3: a call took lines one after another, which lead to this state, and ended behind them.
pub record StreamEnds {S : Type 0} (work : LineWork S) (state : S) (lines : Change ShownLines)
    (out : Change ShownSink) (o : Outcome) : Type 0 where
  pub taken : List Line
  pub lead : LeadTo work (reverse taken) state
  pub ends : EndsBehind work taken state lines out o

-- ---- the laws ----

-- Claim 53: no line is read before what is due of the lines before it was written. Let a source tell taken
-- lines and behind them a line that is refused, and let a call have read them. Then the call refused that
-- line, and all that is due of the lines before it was written: not even a fault of writing comes in between.
-- No line shows what it is before it is read, so this holds of each line. (If the line had been read sooner,
-- writing what is due before it could still fail; but a call that ends with WriteFault has read taken lines
-- alone.)
abbrev pub ReadsNoLineAhead : {S : Type 0} → LineWork S → Type 0
ReadsNoLineAhead {S} work =
    (state was : S) (lines : Change ShownLines) (out : Change ShownSink) (o : Outcome) →
    StreamEnds work state lines out o →
    (good rest : List Line) (bad : Line) (why : Refusal) →
    lines.before.lines ≡ Some (good ++ bad ∷ rest) → lines.after.lines ≡ Some rest →
    LeadTo work (reverse good) was → work.step (length good + 1) was bad ≡ Err why →
    (o ≡ outcome.Refused why) × Appends out.before out.after (work.so_far was)

-- Claim 72: if lines and output are told and the command is done, all lines of the text were taken, and
-- behind what the stream held stands what is written of them in all.
abbrev pub BytesLeadToBytes : {S : Type 0} → LineWork S → Type 0
BytesLeadToBytes {S} work =
    (state : S) (lines : Change ShownLines) (out : Change ShownSink) (text held : List ℕ) →
    lines.before.lines ≡ Some (lines_in text) → out.before.written ≡ Some held →
    StreamEnds work state lines out outcome.Done →
    LeadTo work (reverse (lines_in text)) state
    × ((whole : List ℕ) × (work.whole state ≡ Ok whole) × (out.after.written ≡ Some (held ++ whole)))

-- The source tells its lines, all are taken, something is written of them in all, and reading them never
-- fails.
pub record HoldsWhole {S : Type 0} (work : LineWork S) (lines : ShownLines) : Type 0 where
  pub all : List Line
  pub state : S
  pub text : List ℕ
  pub told : lines.lines ≡ Some all
  pub lead : LeadTo work (reverse all) state
  pub whole : work.whole state ≡ Ok text
  pub sure : IsTrue lines.sure
