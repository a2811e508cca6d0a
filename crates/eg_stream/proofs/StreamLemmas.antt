-- What a command over lines has done so far, and how it ends from there.
use Rattle.std.proofs.Common.{◌≡◌, ◌∙◌, refl, sym, ap, subst, ℕ, ◌+◌, List, [], ◌∷◌, ◌++◌, length, reverse, Option, Some, None, Ok, Err, inl, inr, append-nil, length-append, arith, IsTrue}
use Rattle.std.specs.Prelude.{◌⊎◌, Result, IsErrAnd, IfErr}
use Rattle.std.proofs.lemmas.List.{reverse-append, length-reverse}
use Rattle.eg_base.specs.Outside.{ShownSink, Rose, Appends, AppendsPrefix}
use Rattle.eg_base.proofs.AppendLemmas.{Appends-append, Appends-nil, AppendsPrefix-append}
use Rattle.eg_lines.specs.Lines.{ShownLines}
use Rattle.eg_outcome.specs.Changes.{Change, change}
use Rattle.eg_outcome.specs.Lines.{Line, Come, IsAtEnd, ReadsWell, NoLineComes, LinePut}
use Rattle.eg_outcome.specs.declared.outcome.Outcome.{Outcome}
use Rattle.eg_outcome.specs.declared.outcome.Outcome.TheVariants as outcome
use Rattle.eg_outcome.specs.declared.outcome.Refusal.{Refusal}
use Rattle.eg_outcome.specs.declared.outcome.Role.TheVariants as role
use Rattle.eg_outcome.specs.Outcomes.{TellsNoMemory}
use Rattle.eg_outcome.specs.Roles.{role_in}
use Rattle.eg_outcome.proofs.ComingLemmas.{Come-then, Come-none, Come-still, ReadsWell-then}
use Rattle.eg_stream.specs.Streams.{LineWork, LeadTo, HasWritten, WritesFront, RefusesNext, StreamEnds}

-- ---- lines that are taken ----

-- So many lines came, were taken, and lead to this state; and no fault of reading was met.
pub record HasTaken {S : Type 0} (work : LineWork S) (count : ℕ) (state : S) (lines : Change ShownLines) : Type 0 where
  pub taken : List Line
  pub many : length taken ≡ count
  pub come : Come lines taken
  pub lead : LeadTo work (reverse taken) state
  pub well : ReadsWell lines

-- none yet
pub none-taken : {S : Type 0} (work : LineWork S) (shown : ShownLines) → HasTaken work 0 work.start (change shown shown)
unfolding LeadTo
none-taken work shown = record {
  taken = [];
  many = refl;
  come = Come-none shown shown refl;
  lead = refl;
  well = record { faults = refl; sure = refl };
}

-- one more
pub one-more : {S : Type 0} (work : LineWork S) (count : ℕ) (was state : S) (a b c : ShownLines) (line : Line) → HasTaken work count was (change a b) →
    Come (change b c) (line ∷ []) → ReadsWell (change b c) → work.step (count + 1) was line ≡ Ok state → HasTaken work (count + 1) state (change a c)
unfolding LeadTo
one-more {S} work count was state a b c line so_far come well is = record {
  taken = so_far.taken ++ line ∷ [];
  many = (let long = length-append so_far.taken (line ∷ []) in let many = so_far.many in omega arith);
  come = Come-then a b c so_far.taken (line ∷ []) so_far.come come;
  lead = subst (λ (lines : List Line). LeadTo work lines state) (sym (reverse-append so_far.taken (line ∷ [])))
      (was, so_far.lead, ap (λ (n : ℕ). work.step (n + 1) was line) (length-reverse so_far.taken ∙ so_far.many) ∙ is);
  well = ReadsWell-then a b c so_far.well well;
}

-- ---- what is written ----

-- nothing yet
pub none-written : (shown : ShownSink) → HasWritten [] (change shown shown)
none-written shown = record { all = Appends-nil shown; no_fault = refl; none = λ empty. refl }

-- a text that is none begins with none
pub front-none : (x y : List ℕ) → x ++ y ≡ [] → x ≡ []
front-none [] y is = refl
front-none (byte ∷ x) y is = absurd cc

-- one line more, which isn't empty
pub one-written : (text line : List ℕ) (a b c : ShownSink) → HasWritten text (change a b) → LinePut line (change b c) (Ok tt) →
    (text ++ line ≡ [] → ⊥) → HasWritten (text ++ line) (change a c)
one-written text line a b c so_far put some = record {
  all = Appends-append a b c text line so_far.all put.0;
  no_fault = put.1 ∙ so_far.no_fault;
  none = λ empty. absurd (some empty);
}

-- where a line is refused, a front is written of all that was to be written, whatever comes behind that line
pub put-refused : (text line rest : List ℕ) (a b c : ShownSink) (end : Outcome) → HasWritten text (change a b) → LinePut line (change b c) (Err end) →
    LinePut ((text ++ line) ++ rest) (change a c) (Err end)
put-refused text line rest a b c end so_far (prefix, why) =
    (AppendsPrefix-append a b c text line rest so_far.all prefix, why_since why)
  where
    why_since : ((end ≡ outcome.WriteFault) × Rose b.faults c.faults) ⊎ ((end ≡ outcome.Memory) × (c.faults ≡ b.faults)) →
        ((end ≡ outcome.WriteFault) × Rose a.faults c.faults) ⊎ ((end ≡ outcome.Memory) × (c.faults ≡ a.faults))
    why_since (inl (e, rose)) = inl (e, subst (λ n. Rose n c.faults) so_far.no_fault rose)
    why_since (inr (e, same)) = inr (e, same ∙ so_far.no_fault)

-- ---- how a call ends ----

-- what a `?` hands on is how the call ends
pub handed_on : {T : Type 0} (result : Result T Outcome) (end : Outcome) (P : Result T Outcome → Type 0) →
    IsErrAnd result (λ o. o ≡ end) → P (Err end) → P result
handed_on (Ok x) end P is holds = absurd is
handed_on (Err o) end P is holds = subst (λ o. P (Err o)) (sym is) holds

-- the output refuses what is put, or memory runs out
pub ends-unput : {S : Type 0} (work : LineWork S) (count : ℕ) (state : S) (lines : Change ShownLines) (out : Change ShownSink) (text : List ℕ) (end : Outcome) →
    HasTaken work count state lines → WritesFront work state lines out → LinePut text out (Err end) → StreamEnds work state lines out end
ends-unput work count state lines out text end so_far front (prefix, inl (is, rose)) = subst (StreamEnds work state lines out) (sym is)
    (record { taken = so_far.taken; lead = so_far.lead; ends = (so_far.come, front, so_far.well.faults, rose) })
ends-unput work count state lines out text end so_far front (prefix, inr (is, same)) = subst (StreamEnds work state lines out) (sym is)
    (record { taken = so_far.taken; lead = so_far.lead; ends = (so_far.come, front, so_far.well.faults, same) })

-- a front of what is to be written so far
pub front-so_far : {S : Type 0} (work : LineWork S) (state : S) (lines : Change ShownLines) (out : Change ShownSink) →
    HasWritten (work.so_far state) out → WritesFront work state lines out
front-so_far work state lines out written =
    inl ((work.so_far state, [], sym (append-nil (work.so_far state)), written.all), written.none)

-- memory runs out, or no more lines are read
pub ends-stopped : {S : Type 0} (work : LineWork S) (count : ℕ) (state : S) (lines : Change ShownLines) (out : Change ShownSink) → HasTaken work count state lines →
    HasWritten (work.so_far state) out → StreamEnds work state lines out outcome.Memory
ends-stopped work count state lines out so_far written = record {
  taken = so_far.taken;
  lead = so_far.lead;
  ends = (so_far.come, front-so_far work state lines out written, so_far.well.faults, written.no_fault);
}

module _ {S : Type 0} (work : LineWork S) (count : ℕ) (state : S) (a b c : ShownLines) (out : Change ShownSink)
    (so_far : HasTaken work count state (change a b)) where
  -- reading fails, or memory runs out
  pub ends-unread : (end : Outcome) → HasWritten (work.so_far state) out → NoLineComes (change b c) end → StreamEnds work state (change a c) out end
  ends-unread end written (inl (is, come, rose, unsure)) = subst (StreamEnds work state (change a c) out) (sym is) (record {
    taken = so_far.taken;
    lead = so_far.lead;
    ends = (
      Come-still a b c so_far.taken so_far.come come,
      written,
      subst (λ n. Rose n c.faults) so_far.well.faults rose,
      subst (λ sure. ¬ IsTrue sure) so_far.well.sure unsure,
    );
  })
  ends-unread end written (inr (is, come, well)) = subst (StreamEnds work state (change a c) out) (sym is) (record {
    taken = so_far.taken;
    lead = so_far.lead;
    ends = (
      Come-still a b c so_far.taken so_far.come come,
      front-so_far work state (change a c) out written,
      well.faults ∙ so_far.well.faults,
      written.no_fault,
    );
  })

  -- the next line is refused
  pub ends-refused : (line : Line) (why : Refusal) → HasWritten (work.so_far state) out → Come (change b c) (line ∷ []) → ReadsWell (change b c) →
      work.step (count + 1) state line ≡ Err why → StreamEnds work state (change a c) out (outcome.Refused why)
  ends-refused line why written come well refused = record {
    taken = so_far.taken;
    lead = so_far.lead;
    ends = (
      inl (line, Come-then a b c so_far.taken (line ∷ []) so_far.come come, ap (λ (n : ℕ). work.step (n + 1) state line) so_far.many ∙ refused),
      written,
      well.faults ∙ so_far.well.faults,
    );
  }

  -- no line is left, and that is refused
  pub ends-short : (why : Refusal) → HasWritten (work.so_far state) out → Come (change b c) [] → IsAtEnd (change b c) → ReadsWell (change b c) →
      work.whole state ≡ Err why → StreamEnds work state (change a c) out (outcome.Refused why)
  ends-short why written come at_end well refused = record {
    taken = so_far.taken;
    lead = so_far.lead;
    ends = (inr (Come-still a b c so_far.taken so_far.come come, at_end, refused), written, well.faults ∙ so_far.well.faults);
  }

  -- no line is left, and all was written
  pub ends-done : (text : List ℕ) → HasWritten text out → Come (change b c) [] → IsAtEnd (change b c) → ReadsWell (change b c) →
      work.whole state ≡ Ok text → StreamEnds work state (change a c) out outcome.Done
  ends-done text written come at_end well is = record {
    taken = so_far.taken;
    lead = so_far.lead;
    ends = (
      text,
      Come-still a b c so_far.taken so_far.come come,
      at_end,
      is,
      written.all,
      well.faults ∙ so_far.well.faults,
      written.no_fault,
    );
  }

-- ---- what every call tells ----

-- a refusal of lines: it doesn't tell that memory ran out, and speaks of standard input
abbrev pub IsOfLines : Refusal → Type 0
IsOfLines why = TellsNoMemory (outcome.Refused why) × (role_in (outcome.Refused why) ≡ Some role.Check)

-- a command that refuses so each line, and the end of the lines
pub record RefusesLines {S : Type 0} (work : LineWork S) : Type 0 where
  pub line : (n : ℕ) (state : S) (line : Line) → IfErr (work.step n state line) IsOfLines
  pub end : (state : S) → IfErr (work.whole state) IsOfLines

-- so its outcome doesn't tell that memory ran out as a refusal, and speaks of no other file
pub stream-says : {S : Type 0} (work : LineWork S) (state : S) (lines : Change ShownLines) (out : Change ShownSink) (o : Outcome) → RefusesLines work →
    StreamEnds work state lines out o → TellsNoMemory o × ((role_in o ≡ None) ⊎ (role_in o ≡ Some role.Check))
stream-says {S} work state lines out (outcome.Refused why) refuses ends = let says = by_next ends.ends.0 in (says.0, inr says.1)
  where
    by_next : RefusesNext work ends.taken state lines why → IsOfLines why
    by_next (inl (bad, come, is)) = subst (λ (r : Result S Refusal). IfErr r IsOfLines) is (refuses.line (length ends.taken + 1) state bad)
    by_next (inr (come, at_end, is)) = subst (λ (r : Result (List ℕ) Refusal). IfErr r IsOfLines) is (refuses.end state)
stream-says work state lines out (outcome.ReadFault role.Check) refuses ends = (tt, inr refl)
stream-says work state lines out outcome.Done refuses ends = (tt, inl refl)
stream-says work state lines out outcome.WriteFault refuses ends = (tt, inl refl)
stream-says work state lines out outcome.Memory refuses ends = (tt, inl refl)
stream-says work state lines out _ refuses ends = absurd ends.ends
