-- The laws of what comes line by line: no line is read ahead, bytes lead to bytes, and when the work is done.
use Rattle.std.proofs.Common.{◌≡◌, ◌∙◌, refl, sym, ap, subst, ℕ, ◌+◌, List, [], ◌∷◌, ◌++◌, length, reverse, append_assoc, append-nil, Option, Some, None, Ok, Err, inl, inr}
use Rattle.std.specs.Prelude.{◌⊎◌, Result, option_map, IfSome}
use Rattle.std.proofs.lemmas.List.{append_cancel_right, reverse-append, length-reverse, same_from_push}
use Rattle.eg_base.specs.Outside.{ShownSink, Rose, Appends}
use Rattle.eg_lines.specs.Lines.{ShownLines, lines_in}
use Rattle.eg_outcome.specs.Changes.{Change}
use Rattle.eg_outcome.specs.Lines.{Line, Come, IsAtEnd}
use Rattle.eg_outcome.specs.Outcomes.{IsDoneOrMemory}
use Rattle.eg_outcome.specs.declared.outcome.Outcome.{Outcome}
use Rattle.eg_outcome.specs.declared.outcome.Outcome.TheVariants as outcome
use Rattle.eg_outcome.specs.declared.outcome.Refusal.{Refusal}
use Rattle.eg_outcome.specs.declared.outcome.Role.TheVariants as role
use Rattle.eg_stream.specs.Streams.{LineWork, LeadTo, HasWritten, RefusesNext, StreamEnds, ReadsNoLineAhead, BytesLeadToBytes, HoldsWhole}

-- ---- where lines lead ----

-- lines lead to one state
pub lead-alike : {S : Type 0} (work : LineWork S) (lines : List Line) (s t : S) → LeadTo work lines s → LeadTo work lines t → s ≡ t
unfolding LeadTo
lead-alike work [] s t a b = a ∙ sym b
lead-alike {S} work (line ∷ before) s t (was, lead, is) (other, also, too) =
    let same : was ≡ other = lead-alike work before was other lead also in
    let both : ◌≡◌ {A = Result S Refusal} (Ok s) (Ok t) = sym is ∙ ap (λ (w : S). work.step (length before + 1) w line) same ∙ too in cc

-- so no line leads on that is refused
pub leads-not : {S : Type 0} (work : LineWork S) (good : List Line) (bad : Line) (was state : S) (why : Refusal) → LeadTo work (reverse good) was →
    work.step (length good + 1) was bad ≡ Err why → LeadTo work (bad ∷ reverse good) state → ⊥
unfolding LeadTo
leads-not {S} work good bad was state why lead refused (other, also, is) =
    let same : other ≡ was = lead-alike work (reverse good) other was also lead in
    let number : length (reverse good) ≡ length good = length-reverse good in
    let both : ◌≡◌ {A = Result S Refusal} (Ok state) (Err why) =
    sym is ∙ ap (λ (w : S). work.step (length (reverse good) + 1) w bad) same ∙ ap (λ (n : ℕ). work.step (n + 1) was bad) number ∙ refused in absurd cc

-- of lines that lead somewhere the earlier ones do
pub leads-before : {S : Type 0} (work : LineWork S) (late early : List Line) (state : S) → LeadTo work (late ++ early) state → (was : S) × LeadTo work early was
unfolding LeadTo
leads-before work [] early state lead = (state, lead)
leads-before work (line ∷ late) early state (was, lead, is) = leads-before work late early was lead

-- ---- which lines came ----

-- those before and those behind are told
came-are : (lines : Change ShownLines) (front rest came : List Line) → lines.before.lines ≡ Some (front ++ rest) → lines.after.lines ≡ Some rest →
    Come lines came → came ≡ front
came-are lines front rest came before after come =
    let both : Some (front ++ rest) ≡ Some (came ++ rest) = sym before ∙ come ∙ ap (λ (left : Option (List Line)). option_map (λ l. came ++ l) left) after in
    append_cancel_right came front rest (let same : came ++ rest ≡ front ++ rest = cc in same)

-- they are the first of all
rest-of : (lines : Change ShownLines) (all came : List Line) → lines.before.lines ≡ Some all → Come lines came →
    (rest : List Line) × (all ≡ came ++ rest) × (lines.after.lines ≡ Some rest)
rest-of lines all came told come = go lines.after.lines (sym told ∙ come)
  where
    go : (after : Option (List Line)) → Some all ≡ option_map (λ rest. came ++ rest) after → (rest : List Line) × (all ≡ came ++ rest) × (after ≡ Some rest)
    go None is = absurd cc
    go (Some rest) is = (rest, cc, refl)

-- where none is left they are all
all-came : (lines : Change ShownLines) (all came : List Line) → lines.before.lines ≡ Some all → Come lines came → IsAtEnd lines → came ≡ all
all-came lines all came told come at_end =
    let rest = rest-of lines all came told come in
    let none : rest.0 ≡ [] = subst (λ after. IfSome after (λ left. left ≡ [])) rest.2 at_end in
    sym (rest.1 ∙ ap (λ (left : List Line). came ++ left) none ∙ append-nil came)

-- ---- no line is read ahead ----

module _ {S : Type 0} (work : LineWork S) (state was : S) (lines : Change ShownLines) (out : Change ShownSink) (good rest : List Line) (bad : Line)
    (why : Refusal) (before : lines.before.lines ≡ Some (good ++ bad ∷ rest)) (after : lines.after.lines ≡ Some rest)
    (lead : LeadTo work (reverse good) was) (refused : work.step (length good + 1) was bad ≡ Err why) where
  came : (all : List Line) → Come lines all → all ≡ good ++ bad ∷ []
  came all come = came-are lines (good ++ bad ∷ []) rest all (before ∙ ap (λ l. Some l) (sym (append_assoc good (bad ∷ []) rest))) after come

  -- that line isn't among lines that are taken
  not-taken : (taken : List Line) → Come lines taken → LeadTo work (reverse taken) state → ⊥
  not-taken taken come leads = leads-not work good bad was state why lead refused
      (subst (λ (l : List Line). LeadTo work l state) (ap reverse (came taken come) ∙ reverse-append good (bad ∷ [])) leads)

  abbrev IsRefused : Outcome → Type 0
  IsRefused o = (o ≡ outcome.Refused why) × Appends out.before out.after (work.so_far was)

  -- so it is the one that is refused
  refuses : (taken : List Line) (told : Refusal) → LeadTo work (reverse taken) state → HasWritten (work.so_far state) out →
      RefusesNext work taken state lines told → IsRefused (outcome.Refused told)
  refuses taken told leads written (inr (come, at_end, short)) = absurd (not-taken taken come leads)
  refuses taken told leads written (inl (line, come, is)) =
      let (front, last) = same_from_push taken good line bad (came (taken ++ line ∷ []) come) in
      let same : state ≡ was = lead-alike work (reverse good) state was (subst (λ (l : List Line). LeadTo work (reverse l) state) front leads) lead in
      let step : work.step (length taken + 1) state line ≡ work.step (length good + 1) was bad =
      ap (λ (l : List Line). work.step (length l + 1) state line) front ∙ ap (λ (s : S). work.step (length good + 1) s line) same
      ∙ ap (work.step (length good + 1) was) last in
      let law : ◌≡◌ {A = Result S Refusal} (Err told) (Err why) = sym is ∙ step ∙ refused in (
        ap (λ (w : Refusal). outcome.Refused w) (let one : told ≡ why = cc in one),
        subst (λ (s : S). Appends out.before out.after (work.so_far s)) same written.all,
      )

  by_outcome : (o : Outcome) → StreamEnds work state lines out o → IsRefused o
  by_outcome outcome.Done ends = absurd (not-taken ends.taken ends.ends.1 ends.lead)
  by_outcome (outcome.Refused told) ends = refuses ends.taken told ends.lead ends.ends.1 ends.ends.0
  by_outcome (outcome.ReadFault role.Check) ends = absurd (not-taken ends.taken ends.ends.0 ends.lead)
  by_outcome outcome.WriteFault ends = absurd (not-taken ends.taken ends.ends.0 ends.lead)
  by_outcome outcome.Memory ends = absurd (not-taken ends.taken ends.ends.0 ends.lead)
  by_outcome _ ends = absurd ends.ends

pub reads_no_line_ahead : {S : Type 0} (work : LineWork S) → ReadsNoLineAhead work
reads_no_line_ahead work state was lines out o ends good rest bad why before after lead refused =
    by_outcome work state was lines out good rest bad why before after lead refused o ends

-- ---- from bytes to bytes ----

pub bytes_lead_to_bytes : {S : Type 0} (work : LineWork S) → BytesLeadToBytes work
bytes_lead_to_bytes work state lines out text held before had ends =
    let (whole, come, at_end, is, written, well, still) = ends.ends in
    let all : ends.taken ≡ lines_in text = all-came lines (lines_in text) ends.taken before come at_end in (
      subst (λ (l : List Line). LeadTo work (reverse l) state) all ends.lead,
      (whole, is, written ∙ ap (option_map (λ old. old ++ whole)) had),
    )

-- ---- when the work is done ----

module _ {S : Type 0} (work : LineWork S) (state : S) (lines : Change ShownLines) (out : Change ShownSink) (holds : HoldsWhole work lines.before) where
  -- no line is refused, nor their end
  unrefused : (taken : List Line) (why : Refusal) → LeadTo work (reverse taken) state → RefusesNext work taken state lines why → ⊥
  unrefused taken why leads (inl (bad, come, is)) =
      let rest = rest-of lines holds.all (taken ++ bad ∷ []) holds.told come in
      let turned : reverse holds.all ≡ reverse rest.0 ++ (bad ∷ reverse taken) =
      ap reverse rest.1 ∙ reverse-append (taken ++ bad ∷ []) rest.0 ∙ ap (λ (l : List Line). reverse rest.0 ++ l) (reverse-append taken (bad ∷ [])) in
      let before = leads-before work (reverse rest.0) (bad ∷ reverse taken) holds.state (subst (λ (l : List Line). LeadTo work l holds.state) turned holds.lead) in
      leads-not work taken bad state before.0 why leads is before.1
  unrefused taken why leads (inr (come, at_end, is)) =
      let all : taken ≡ holds.all = all-came lines holds.all taken holds.told come at_end in
      let same : state ≡ holds.state = lead-alike work (reverse holds.all) state holds.state
      (subst (λ (l : List Line). LeadTo work (reverse l) state) all leads) holds.lead in
      let both : ◌≡◌ {A = Result (List ℕ) Refusal} (Err why) (Ok holds.text) = sym is ∙ ap work.whole same ∙ holds.whole in absurd cc

  -- a call over such lines does its work, where what it puts isn't refused, or memory runs out
  pub stream_done : (o : Outcome) → StreamEnds work state lines out o → (Rose out.before.faults out.after.faults → ⊥) → IsDoneOrMemory o
  stream_done outcome.Done ends still = tt
  stream_done outcome.Memory ends still = tt
  stream_done outcome.WriteFault ends still = absurd (still ends.ends.3)
  stream_done (outcome.ReadFault role.Check) ends still = absurd (ends.ends.3 holds.sure)
  stream_done (outcome.Refused why) ends still = absurd (unrefused ends.taken why ends.lead ends.ends.0)
  stream_done _ ends still = absurd ends.ends
