-- The answers that were taken so far, and how a coupled run ends from there.
use Rattle.std.proofs.Common.{◌≡◌, ◌∙◌, refl, sym, ap, ap₂, subst, ℕ, ◌+◌, ◌%◌, ◌^◌, ◌≤◌, List, [], ◌∷◌, ◌++◌, length, reverse, Bool, true, false, Option, Some, Result, Ok, Err, inl, inr, append-nil, length-append, arith}
use Rattle.std.specs.Prelude.{if◌then◌else◌, IsErrAnd, nat_le, codes, IfErr}
use Rattle.std.proofs.lemmas.Bool.Decides.{nat_tests}
use Rattle.std.proofs.lemmas.List.{reverse-append}
use Rattle.eg_base.specs.Outside.{ShownSink}
use Rattle.eg_lines.specs.Lines.{ShownLines}
use Rattle.eg_input.specs.declared.fault.TraceFault.TheVariants as trace_fault
use Rattle.eg_fault.specs.Faults.{IsNoneOrValid}
use Rattle.eg_plant.specs.Foreign.{Foreign}
use Rattle.eg_values.specs.Calibration.{IsAccepted}
use Rattle.eg_record.specs.declared.row.Row.{Row}
use Rattle.eg_input.specs.declared.answered.PartnerAnswer.{PartnerAnswer}
use Rattle.eg_model.specs.Spans.{moments, next}
use Rattle.eg_model.specs.Rows.{row_of, rows_of}
use Rattle.eg_tick.specs.Commanding.{commands_next}
use Rattle.eg_tick.specs.Counting.{count_with}
use Rattle.eg_tick.specs.Kept.{ControllerParts}
use Rattle.eg_tick.specs.Weights.{TickCount, weight_of}
use Rattle.eg_tick.specs.declared.commands.Commands.{Commands}
use Rattle.eg_tick.proofs.RunLemmas.{counted, counted-more}
use Rattle.eg_outcome.specs.Changes.{Change, change}
use Rattle.eg_outcome.specs.Lines.{Line, Come, IsAtEnd, ReadsWell, NoLineComes, LineComes, LinePut, end_of}
use Rattle.eg_outcome.specs.declared.outcome.Outcome.{Outcome}
use Rattle.eg_outcome.specs.declared.outcome.Outcome.TheVariants as outcome
use Rattle.eg_outcome.specs.declared.outcome.Refusal.{Refusal}
use Rattle.eg_outcome.specs.declared.outcome.Refusal.TheVariants as refusal
use Rattle.eg_stream.specs.Streams.{LeadTo, HasWritten, WritesFront, StreamEnds}
use Rattle.eg_stream.specs.Coupled.{CoupledUnit, Objection, NoAnswer, LoadBelowTorque, TorqueWhileOff, entry_by, entries_by, coupled_moments, coupled_rows, lawful, lawful_if_any, taken, AreTaken}
use Rattle.eg_stream.specs.Texts.{coupled_header, first_line, coupled_line, answer_line, coupled_text}
use Rattle.eg_stream.specs.Inner.Running.{IsCoupled, AnswerComes}
use Rattle.eg_stream.specs.Couplings.{most_answers, coupling, refusal_of, answered, couple_step, couple_work, CouplingEnds}
use Rattle.eg_stream.proofs.HeadlineLemmas.{coupled-headline}
use Rattle.eg_stream.proofs.TakenLemmas.{taken-answer}
use Rattle.eg_stream.proofs.RowLemmas.{rows_come_in_turn}
use Rattle.eg_stream.proofs.StreamLemmas.{HasTaken, none-taken, one-more, none-written, front-none, one-written, put-refused, handed_on, ends-unput, ends-unread as stream-unread, ends-refused, ends-done as stream-done, IsOfLines, RefusesLines}

-- ---- answers that are taken ----

-- one that is taken is lawful
pub taken-is_lawful : (unit : CoupledUnit) (before : List PartnerAnswer) (line : Line) (answer : PartnerAnswer) → taken unit before line ≡ Ok answer → lawful unit before answer ≡ Ok answer
unfolding taken lawful_if_any
taken-is_lawful unit before line answer is =
    subst (λ (some : Option PartnerAnswer). lawful_if_any unit before some ≡ Ok answer) (taken-answer unit before line answer is).0 is

-- what comes of a line, by whether as many answers came as may
step-by : (unit : CoupledUnit) (n : ℕ) (before : List PartnerAnswer) (line : Line) (full : Bool) (result : Result PartnerAnswer Objection) →
    nat_le most_answers (length before) ≡ full → taken unit before line ≡ result →
    couple_step unit n before line ≡ (if full then Err (refusal.Check trace_fault.Long) else answered n before result)
unfolding couple_step
step-by unit n before line full result is gives =
    ap (λ (f : Bool). if f then Err (refusal.Check trace_fault.Long) else answered n before (taken unit before line)) is
    ∙ ap (λ (r : Result PartnerAnswer Objection). if full then Err (refusal.Check trace_fault.Long) else answered n before r) gives

-- a line that leads on gives an answer
step-taken : (unit : CoupledUnit) (n : ℕ) (before after : List PartnerAnswer) (line : Line) → couple_step unit n before line ≡ Ok after →
    (answer : PartnerAnswer) × (after ≡ answer ∷ before) × (taken unit before line ≡ Ok answer)
step-taken unit n before after line is =
    go (nat_le most_answers (length before)) (taken unit before line) refl (sym (step-by unit n before line _ _ refl refl) ∙ is)
  where
    go : (full : Bool) (result : Result PartnerAnswer Objection) → taken unit before line ≡ result →
        ◌≡◌ {A = Result (List PartnerAnswer) Refusal} (if full then Err (refusal.Check trace_fault.Long) else answered n before result) (Ok after) →
        (answer : PartnerAnswer) × (after ≡ answer ∷ before) × (taken unit before line ≡ Ok answer)
    go true result gives e = absurd cc
    go false (Ok answer) gives e = (answer, (let same : answer ∷ before ≡ after = cc in sym same), gives)
    go false (Err why) gives e = absurd cc

-- so lines that lead to answers are taken, and give these
pub lead-taken : (unit : CoupledUnit) (lines : List Line) (answers : List PartnerAnswer) → LeadTo (couple_work unit) lines answers → AreTaken unit lines answers
unfolding LeadTo AreTaken
lead-taken unit [] answers is = subst (AreTaken unit []) (sym is) tt
lead-taken unit (line ∷ before) answers (was, lead, is) =
    let (answer, next, gives) = step-taken unit (length before + 1) was answers line is in
    subst (AreTaken unit (line ∷ before)) (sym next) (gives, lead-taken unit before was lead)

-- ---- the rows of their ticks ----

-- one row more is counted
counts_row : (was old new : TickCount) (rows : List Row) (row : Row) → old ≡ count_with was (reverse rows) →
    new.count ≡ (old.count + 1) % 2 ^ 64 → new.weights ≡ (old.weights + weight_of row) % 2 ^ 64 → new ≡ count_with was (reverse (row ∷ rows))
counts_row was old new rows row is count weight =
    let size : length (reverse rows) + 1 ≡ length (reverse rows ++ row ∷ []) = (let long = length-append (reverse rows) (row ∷ []) in omega arith) in
    counted-more was old new (length (reverse rows)) (reverse rows) row is count weight
    ∙ ap (λ n. counted was n (reverse rows ++ row ∷ [])) size ∙ ap (count_with was) (sym (reverse-append (row ∷ []) rows))

-- ---- what was done so far ----

-- As many lines as these answers came and were taken, and a tick was made and counted for each. The controller
-- stands for the answers.
pub record HasMade (unit : CoupledUnit) (answers : List PartnerAnswer) (controller : ControllerParts Foreign)
    (lines : Change ShownLines) (ticks : Change TickCount) : Type 0 where
  pub has : HasTaken (couple_work unit) (length answers) answers lines
  pub stands : IsCoupled unit answers controller
  pub ticked : ticks.after ≡ count_with ticks.before (reverse (coupled_rows unit answers))

-- nothing was done yet
pub none-made : (unit : CoupledUnit) (controller : ControllerParts Foreign) (lines : ShownLines) (ticks : TickCount) →
    IsCoupled unit [] controller → ticks ≡ count_with ticks [] → HasMade unit [] controller (change lines lines) (change ticks ticks)
unfolding coupled_rows coupled_moments entries_by moments rows_of
none-made unit controller lines ticks stands ticked = record {
  has = none-taken (couple_work unit) lines;
  stands = stands;
  ticked = ticked;
}

-- the tick of one answer more was made
pub made-more : (unit : CoupledUnit) (before : List PartnerAnswer) (answer : PartnerAnswer) (row : Row) (controller after : ControllerParts Foreign)
    (a b c : ShownLines) (was old new : TickCount) → HasMade unit before controller (change a b) (change was old) → length before + 1 ≤ most_answers →
    AnswerComes unit before (change b c) (Ok (Some answer)) → IsCoupled unit (answer ∷ before) after →
    row ≡ row_of (length before) (next unit.setting (entry_by unit (length before) answer) (entries_by unit before)) →
    new.count ≡ (old.count + 1) % 2 ^ 64 → new.weights ≡ (old.weights + weight_of row) % 2 ^ 64 →
    HasMade unit (answer ∷ before) after (change a c) (change was new)
made-more unit before answer row controller after a b c was old new so_far few (line, come, is, well) stands row_is count weight = record {
  has = subst (λ (n : ℕ). HasTaken (couple_work unit) n (answer ∷ before) (change a c)) (let e : length before + 1 ≡ length (answer ∷ before) = omega arith in e)
      (one-more (couple_work unit) (length before) before (answer ∷ before) a b c line so_far.has come well
      (step-by unit (length before + 1) before line false (Ok answer) (grind (arith, nat_tests, few)) is));
  stands = stands;
  ticked = counts_row was old new (coupled_rows unit before) row so_far.ticked count weight
      ∙ ap (λ (r : Row). count_with was (reverse (r ∷ coupled_rows unit before))) row_is
      ∙ ap (λ (rows : List Row). count_with was (reverse rows)) (sym (rows_come_in_turn unit before answer));
}

-- ---- what is put ----

-- there is a header in it
header-some : coupled_header ≡ [] → ⊥
unfolding coupled_header
header-some none =
    let first : codes "tick,pedal,speed,raise,plate,charge,torque,limit,path1,path2,on," ≡ [] = front-none _ _ none in absurd cc

text-some : (unit : CoupledUnit) (answers : List PartnerAnswer) → coupled_text unit answers ≡ [] → ⊥
unfolding coupled_text
text-some unit [] none = header-some (front-none coupled_header (first_line (commands_next unit.setting [])) none)
text-some unit (answer ∷ before) none = text-some unit before (front-none (coupled_text unit before) (answer_line unit before answer) none)

-- the header
pub header-put : (line : List ℕ) (a b : ShownSink) → line ≡ coupled_header → LinePut line (change a b) (Ok tt) → HasWritten coupled_header (change a b)
header-put line a b is put = subst (λ (text : List ℕ). HasWritten text (change a b)) is
    (one-written [] line a a b (none-written a) put (λ none. header-some (sym is ∙ none)))

-- the header and the line before the first tick are all that is written of no answers
first-text : (unit : CoupledUnit) (commands : Commands) → commands ≡ commands_next unit.setting (entries_by unit []) →
    coupled_header ++ first_line commands ≡ coupled_text unit []
unfolding coupled_text entries_by
first-text unit commands is = ap (λ (told : Commands). coupled_header ++ first_line told) is

pub first-put : (unit : CoupledUnit) (commands : Commands) (a b c : ShownSink) → HasWritten coupled_header (change a b) →
    commands ≡ commands_next unit.setting (entries_by unit []) → LinePut (first_line commands) (change b c) (Ok tt) → HasWritten (coupled_text unit []) (change a c)
first-put unit commands a b c so_far is put =
    let text = first-text unit commands is in
    subst (λ (t : List ℕ). HasWritten t (change a c)) text
    (one-written coupled_header (first_line commands) a b c so_far put (λ none. text-some unit [] (sym text ∙ none)))

-- of one answer more a line is written
row-text : (unit : CoupledUnit) (before : List PartnerAnswer) (answer : PartnerAnswer) (row : Row) (commands : Commands) →
    row ≡ row_of (length before) (next unit.setting (entry_by unit (length before) answer) (entries_by unit before)) →
    commands ≡ commands_next unit.setting (entries_by unit (answer ∷ before)) →
    coupled_text unit before ++ coupled_line row commands ≡ coupled_text unit (answer ∷ before)
unfolding coupled_text answer_line
row-text unit before answer row commands row_is commands_are =
    ap₂ (λ (made : Row) (told : Commands). coupled_text unit before ++ coupled_line made told) row_is commands_are

pub row-put : (unit : CoupledUnit) (before : List PartnerAnswer) (answer : PartnerAnswer) (row : Row) (commands : Commands) (a b c : ShownSink) →
    HasWritten (coupled_text unit before) (change a b) →
    row ≡ row_of (length before) (next unit.setting (entry_by unit (length before) answer) (entries_by unit before)) →
    commands ≡ commands_next unit.setting (entries_by unit (answer ∷ before)) →
    LinePut (coupled_line row commands) (change b c) (Ok tt) → HasWritten (coupled_text unit (answer ∷ before)) (change a c)
row-put unit before answer row commands a b c so_far row_is commands_are put =
    let text = row-text unit before answer row commands row_is commands_are in
    subst (λ (t : List ℕ). HasWritten t (change a c)) text
    (one-written (coupled_text unit before) (coupled_line row commands) a b c so_far put (λ none. text-some unit (answer ∷ before) (sym text ∙ none)))

-- ---- how the run ends ----

-- as a `?` hands on
pub ends-as : (unit : CoupledUnit) (lines : Change ShownLines) (out : Change ShownSink) (ticks : Change TickCount) (result : Result (Unit {0}) Outcome) (end : Outcome) →
    IsErrAnd result (λ o. o ≡ end) → CouplingEnds unit (coupling lines out ticks) end → CouplingEnds unit (coupling lines out ticks) (end_of result)
ends-as unit lines out ticks result end is ends = handed_on result end (λ r. CouplingEnds unit (coupling lines out ticks) (end_of r)) is ends

module _ (unit : CoupledUnit) (accepted : IsAccepted unit.setting.cal) (valid : IsNoneOrValid unit.setting.fault)
    (answers : List PartnerAnswer) (controller : ControllerParts Foreign) where
  -- the rows of answers that were taken keep the headline
  couples : (lines : Change ShownLines) (out : Change ShownSink) (ticks : Change TickCount) (end : Outcome) →
      ticks.after ≡ count_with ticks.before (reverse (coupled_rows unit answers)) → StreamEnds (couple_work unit) answers lines out end →
      CouplingEnds unit (coupling lines out ticks) end
  couples lines out ticks end ticked ends =
      (answers, ends, ticked, coupled-headline unit (reverse ends.taken) answers accepted valid (lead-taken unit (reverse ends.taken) answers ends.lead))

  -- the output refuses what is put, or memory runs out
  pub ends-put : (lines : Change ShownLines) (out : Change ShownSink) (ticks : Change TickCount) (end : Outcome) → HasMade unit answers controller lines ticks →
      LinePut (coupled_text unit answers) out (Err end) → CouplingEnds unit (coupling lines out ticks) end
  ends-put lines out ticks end so_far put = couples lines out ticks end so_far.ticked
      (ends-unput (couple_work unit) (length answers) answers lines out (coupled_text unit answers) end so_far.has
      (inl (put.0, λ none. absurd (text-some unit answers none))) put)

  module _ (a b c : ShownLines) (out : Change ShownSink) (ticks : Change TickCount) (so_far : HasMade unit answers controller (change a b) ticks)
      (put : HasWritten (coupled_text unit answers) out) where
    -- no line is left
    pub ends-done : Come (change b c) [] × IsAtEnd (change b c) × ReadsWell (change b c) → CouplingEnds unit (coupling (change a c) out ticks) outcome.Done
    ends-done (come, at_end, well) = couples (change a c) out ticks outcome.Done so_far.ticked
        (stream-done (couple_work unit) (length answers) answers a b c out so_far.has (coupled_text unit answers) put come at_end well refl)

    -- reading fails, or memory runs out
    pub ends-unread : (end : Outcome) → NoLineComes (change b c) end → CouplingEnds unit (coupling (change a c) out ticks) end
    ends-unread end none = couples (change a c) out ticks end so_far.ticked
        (stream-unread (couple_work unit) (length answers) answers a b c out so_far.has end put none)

    -- the next line isn't taken, or doesn't come
    pub ends-in_turn : (end : Outcome) → length answers + 1 ≤ most_answers → AnswerComes unit answers (change b c) (Err end) →
        CouplingEnds unit (coupling (change a c) out ticks) end
    ends-in_turn end few (inl (line, why, come, refused, is, well)) =
        subst (CouplingEnds unit (coupling (change a c) out ticks)) (sym is)
        (couples (change a c) out ticks (outcome.Refused (refusal_of (length answers + 1) why)) so_far.ticked
        (ends-refused (couple_work unit) (length answers) answers a b c out so_far.has line (refusal_of (length answers + 1) why) put come well
        (step-by unit (length answers + 1) answers line false (Err why) (grind (arith, nat_tests, few)) refused)))
    ends-in_turn end few (inr none) = ends-unread end none

    -- all that may come came, and perhaps one more
    pub ends-full : (most : ℕ) (buffer : List ℕ) (came : Bool) (result : Result (Unit {0}) Outcome) → length answers ≡ most_answers →
        LineComes most (change b c) buffer (Ok came) →
        result ≡ (if came then Err (outcome.Refused (refusal.Check trace_fault.Long)) else Ok tt) → CouplingEnds unit (coupling (change a c) out ticks) (end_of result)
    ends-full most buffer true result full (line, come, read, well) is =
        subst (λ (r : Result (Unit {0}) Outcome). CouplingEnds unit (coupling (change a c) out ticks) (end_of r)) (sym is)
        (couples (change a c) out ticks (outcome.Refused (refusal.Check trace_fault.Long)) so_far.ticked
        (ends-refused (couple_work unit) (length answers) answers a b c out so_far.has line (refusal.Check trace_fault.Long) put come well
        (step-by unit (length answers + 1) answers line true (taken unit answers line) (grind (arith, nat_tests, full)) refl)))
    ends-full most buffer false result full left is =
        subst (λ (r : Result (Unit {0}) Outcome). CouplingEnds unit (coupling (change a c) out ticks) (end_of r)) (sym is) (ends-done left)

-- ---- by a line that is refused ----

module _ (unit : CoupledUnit) (accepted : IsAccepted unit.setting.cal) (valid : IsNoneOrValid unit.setting.fault) where
  -- the header
  pub header-refused : (controller : ControllerParts Foreign) (lines : ShownLines) (ticks : TickCount) (line : List ℕ) (a b : ShownSink) (end : Outcome) →
      HasMade unit [] controller (change lines lines) (change ticks ticks) → line ≡ coupled_header → LinePut line (change a b) (Err end) →
      CouplingEnds unit (coupling (change lines lines) (change a b) (change ticks ticks)) end
  unfolding coupled_text
  header-refused controller lines ticks line a b end made is put =
      ends-put unit accepted valid [] controller (change lines lines) (change a b) (change ticks ticks) end made
      (put-refused [] coupled_header (first_line (commands_next unit.setting [])) a a b end (none-written a)
      (subst (λ (text : List ℕ). LinePut text (change a b) (Err end)) is put))

  -- the line before the first tick
  pub first-refused : (controller : ControllerParts Foreign) (lines : ShownLines) (ticks : TickCount) (commands : Commands) (a b c : ShownSink) (end : Outcome) →
      HasMade unit [] controller (change lines lines) (change ticks ticks) → HasWritten coupled_header (change a b) →
      commands ≡ commands_next unit.setting (entries_by unit []) → LinePut (first_line commands) (change b c) (Err end) →
      CouplingEnds unit (coupling (change lines lines) (change a c) (change ticks ticks)) end
  first-refused controller lines ticks commands a b c end made so_far is put =
      ends-put unit accepted valid [] controller (change lines lines) (change a c) (change ticks ticks) end made
      (subst (λ (text : List ℕ). LinePut text (change a c) (Err end)) (append-nil (coupled_header ++ first_line commands) ∙ first-text unit commands is)
      (put-refused coupled_header (first_line commands) [] a b c end so_far put))

  -- the line of an answer
  pub row-refused : (before : List PartnerAnswer) (answer : PartnerAnswer) (row : Row) (commands : Commands) (controller : ControllerParts Foreign) (lines : Change ShownLines)
      (ticks : Change TickCount) (a b c : ShownSink) (end : Outcome) → HasMade unit (answer ∷ before) controller lines ticks →
      HasWritten (coupled_text unit before) (change a b) →
      row ≡ row_of (length before) (next unit.setting (entry_by unit (length before) answer) (entries_by unit before)) →
      commands ≡ commands_next unit.setting (entries_by unit (answer ∷ before)) →
      LinePut (coupled_line row commands) (change b c) (Err end) → CouplingEnds unit (coupling lines (change a c) ticks) end
  row-refused before answer row commands controller lines ticks a b c end made so_far row_is commands_are put =
      ends-put unit accepted valid (answer ∷ before) controller lines (change a c) ticks end made
      (subst (λ (text : List ℕ). LinePut text (change a c) (Err end))
      (append-nil (coupled_text unit before ++ coupled_line row commands) ∙ row-text unit before answer row commands row_is commands_are)
      (put-refused (coupled_text unit before) (coupled_line row commands) [] a b c end so_far put))

-- ---- what every call tells ----

-- a coupling is refused by a line
answered-says : (n : ℕ) (before : List PartnerAnswer) (result : Result PartnerAnswer Objection) → IfErr (answered n before result) IsOfLines
answered-says n before (Ok answer) = tt
answered-says n before (Err NoAnswer) = (tt, refl)
answered-says n before (Err LoadBelowTorque) = (tt, refl)
answered-says n before (Err TorqueWhileOff) = (tt, refl)

step-says : (unit : CoupledUnit) (n : ℕ) (before : List PartnerAnswer) (line : Line) → IfErr (couple_step unit n before line) IsOfLines
unfolding couple_step
step-says unit n before line = go (nat_le most_answers (length before))
  where
    go : (full : Bool) → IfErr (if full then Err (refusal.Check trace_fault.Long) else answered n before (taken unit before line)) IsOfLines
    go true = (tt, refl)
    go false = answered-says n before (taken unit before line)

pub couple-refuses : (unit : CoupledUnit) → RefusesLines (couple_work unit)
couple-refuses unit = record { line = step-says unit; end = λ answers. tt }
