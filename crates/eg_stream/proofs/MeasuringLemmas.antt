-- What `replay` and `signals` have read and written so far, and how they end.
use Rattle.std.proofs.Common.{◌≡◌, ◌∙◌, refl, sym, ap, subst, ℕ, suc, ◌+◌, ◌≤◌, List, [], ◌∷◌, ◌++◌, length, map, reverse, Bool, true, false, None, Some, Result, Ok, Err, inl, inr, append_assoc, append-nil, arith}
use Rattle.std.specs.Prelude.{◌⊎◌, if◌then◌else◌, codes, Option, IfErr}
use Rattle.std.proofs.lemmas.List.{length-map, nil_from_length}
use Rattle.eg_base.specs.Outside.{ShownSink, Rose, Appends, AppendsPrefix}
use Rattle.eg_lines.specs.Lines.{ShownLines}
use Rattle.eg_input.specs.declared.fault.TraceFault.TheVariants as fault
use Rattle.eg_values.specs.Calibration.{CalibrationParts}
use Rattle.eg_model.specs.History.{Moment, Drive}
use Rattle.eg_model.specs.Moments.{moments_in}
use Rattle.eg_model.proofs.TickLemmas.{length-moments_in}
use Rattle.eg_outcome.specs.Changes.{Change, change}
use Rattle.eg_outcome.specs.Lines.{Line, Come, IsAtEnd, ReadsWell, LinePut, end_of}
use Rattle.eg_outcome.proofs.ComingLemmas.{Come-none, Come-still, ReadsWell-then}
use Rattle.eg_outcome.specs.declared.outcome.Outcome.{Outcome}
use Rattle.eg_outcome.specs.declared.outcome.Outcome.TheVariants as outcome
use Rattle.eg_outcome.specs.Outcomes.{PutsNothing}
use Rattle.eg_outcome.specs.declared.outcome.Refusal.{Refusal}
use Rattle.eg_outcome.specs.declared.outcome.Refusal.TheVariants as refusal
use Rattle.eg_input.specs.declared.columns.Columns.{Columns}
use Rattle.eg_input.specs.declared.recorded.Recorded.{Recorded}
use Rattle.eg_input.specs.Recording.{columns_of, recorded_of}
use Rattle.eg_replay.specs.declared.tick_signals.TickSignals.{TickSignals}
use Rattle.eg_replay.specs.declared.findings.Findings.{Findings}
use Rattle.eg_replay.specs.Findings.{findings_of}
use Rattle.eg_replay.specs.Texts.{signals_header, signals_line, signals_lines, signals_text, replay_text}
use Rattle.eg_replay.specs.Replay.{tick_of, alone, replayed, told_of, told_after}
use Rattle.eg_replay.specs.Running.{ReplayParts, IsReplayOf}
use Rattle.eg_stream.specs.declared.recording.Recording.{Recording}
use Rattle.eg_stream.specs.Streams.{LineWork, LeadTo, HasWritten, WritesFront, StreamEnds, HoldsWhole}
use Rattle.eg_stream.specs.Recordings.{Measured, headed, measured_on, recording_work, recording_step, of_ticks, in_all, signals_in, signals_so_far, replay_in, signals_work, replay_work, RecordingEnds, HoldsRecording}
use Rattle.eg_stream.specs.Inner.Reading.{NoHeaderComes, RecordingBegins, RecordingGoesOn, FindingsCome}
use Rattle.eg_stream.proofs.StreamLemmas.{HasTaken, none-taken, one-more, none-written, front-none, one-written, put-refused, ends-unput, ends-stopped, ends-unread, ends-refused, ends-short, ends-done, IsOfLines, RefusesLines}

-- ---- what is told ----

length-told_of : (cal : CalibrationParts) (past : List Moment) → length (told_of cal past) ≡ length past
unfolding told_of
length-told_of cal [] = refl
length-told_of cal (m ∷ past) = ap suc (length-told_of cal past)

length-told : (cal : CalibrationParts) (recorded : List Recorded) → length (told_of cal (replayed cal recorded)) ≡ length recorded
length-told cal recorded = length-told_of cal (replayed cal recorded) ∙ length-moments_in Drive (alone cal) (map tick_of recorded) ∙ length-map recorded tick_of

-- nothing is told of no recordings, and of one more what is told after those before
pub told-none : (cal : CalibrationParts) → told_of cal (replayed cal []) ≡ []
unfolding moments_in told_of
told-none cal = refl

pub told-more : (cal : CalibrationParts) (r : Recorded) (recorded : List Recorded) →
    told_of cal (replayed cal (r ∷ recorded)) ≡ told_after cal r recorded ∷ told_of cal (replayed cal recorded)
unfolding moments_in told_of
told-more cal r recorded = refl

-- of no recordings the header is written
signals_in-none : (cal : CalibrationParts) → signals_header ≡ signals_in cal []
unfolding moments_in told_of signals_text signals_lines
signals_in-none cal = sym (append-nil signals_header)

-- a line more is written
signals_in-more : (cal : CalibrationParts) (recorded : List Recorded) (r : Recorded) (tick : ℕ) → length recorded ≡ tick →
    signals_in cal recorded ++ signals_line tick (told_after cal r recorded) ≡ signals_in cal (r ∷ recorded)
unfolding signals_text signals_lines
signals_in-more cal recorded r tick long =
    ap (λ n. signals_in cal recorded ++ signals_line n (told_after cal r recorded)) (sym long ∙ sym (length-told cal recorded))
    ∙ append_assoc signals_header (signals_lines (told_of cal (replayed cal recorded))) (signals_line (length (told_of cal (replayed cal recorded))) (told_after cal r recorded))
    ∙ ap (λ told. signals_text told) (sym (told-more cal r recorded))

-- there is a header in it
signals_in-some : (cal : CalibrationParts) (recorded : List Recorded) → signals_in cal recorded ≡ [] → ⊥
unfolding signals_text signals_header
signals_in-some cal recorded none =
    let header : codes "tick,used,permitted,actual,excess,pairs,pedal,plate,load,speed,torque,found\n" ≡ [] =
    front-none signals_header (signals_lines (told_of cal (replayed cal recorded))) none in absurd cc

-- ---- what was read so far ----

-- the state behind these recordings
abbrev pub measured : Columns → List Recorded → Option Measured
measured columns recorded = Some (record { columns = columns; recorded = recorded })

-- A header and as many lines below it came as ticks were run, and the replay stands for what they write.
pub record HasRead (so_far : Option Measured → List ℕ) (text : List Recorded → List ℕ) (cal : CalibrationParts) (columns : Columns)
    (recorded : List Recorded) (tick : ℕ) (replay : ReplayParts) (lines : Change ShownLines) : Type 0 where
  pub has : HasTaken (recording_work so_far text) (tick + 1) (measured columns recorded) lines
  pub long : length recorded ≡ tick
  pub by_cal : replay.cal ≡ cal
  pub stands : IsReplayOf replay recorded

-- the first line came
begun : (so_far : Option Measured → List ℕ) (text : List Recorded → List ℕ) (recording : Recording) (a b : ShownLines) →
    RecordingBegins (change a b) (Ok recording) → HasTaken (recording_work so_far text) (0 + 1) (measured recording.columns []) (change a b)
begun so_far text recording a b (first, come, named, well) =
    one-more (recording_work so_far text) 0 None (measured recording.columns []) a a b first (none-taken (recording_work so_far text) a) come well (ap headed named)

pub read-first : (so_far : Option Measured → List ℕ) (text : List Recorded → List ℕ) (cal : CalibrationParts) (recording : Recording) (replay : ReplayParts)
    (a b : ShownLines) → RecordingBegins (change a b) (Ok recording) → replay.cal ≡ cal → IsReplayOf replay [] →
    HasRead so_far text cal recording.columns [] 0 replay (change a b)
read-first so_far text cal recording replay a b begins by_cal stands =
    record { has = begun so_far text recording a b begins; long = refl; by_cal = by_cal; stands = stands }

-- ---- how a call ends before the lines do ----

module _ (so_far : Option Measured → List ℕ) (text : List Recorded → List ℕ) where
  abbrev work : LineWork (Option Measured)
  work = recording_work so_far text

  -- the first line doesn't come, or is no header
  pub ends-at_begin : (a b : ShownLines) (shown : ShownSink) (end : Outcome) → so_far None ≡ [] → RecordingBegins (change a b) (Err end) →
      RecordingEnds work (change a b) (change shown shown) end
  ends-at_begin a b shown end none begins = (None, at begins)
    where
      written : HasWritten (so_far None) (change shown shown)
      written = subst (λ (t : List ℕ). HasWritten t (change shown shown)) (sym none) (none-written shown)

      at : RecordingBegins (change a b) (Err end) → StreamEnds work None (change a b) (change shown shown) end
      at (inl (is, inl (come, at_end), well)) = subst (StreamEnds work None (change a b) (change shown shown)) (sym is)
          (ends-short work 0 None a a b (change shown shown) (none-taken work a) (refusal.Check fault.Header) written come at_end well refl)
      at (inl (is, inr (first, come, bad), well)) = subst (StreamEnds work None (change a b) (change shown shown)) (sym is)
          (ends-refused work 0 None a a b (change shown shown) (none-taken work a) first (refusal.Check fault.Header) written come well (ap headed bad))
      at (inr none_comes) = ends-unread work 0 None a a b (change shown shown) (none-taken work a) end written none_comes

  module _ (cal : CalibrationParts) (columns : Columns) (recorded : List Recorded) (tick : ℕ) (replay : ReplayParts) where
    -- one line more came
    pub read-more : (after : ReplayParts) (a b c : ShownLines) (r : Recorded) → HasRead so_far text cal columns recorded tick replay (change a b) →
        RecordingGoesOn columns tick (change b c) (Ok (Some r)) → after.cal ≡ replay.cal → IsReplayOf after (r ∷ recorded) →
        HasRead so_far text cal columns (r ∷ recorded) (tick + 1) after (change a c)
    read-more after a b c r read (line, come, written, well) by_cal stands = record {
      has = one-more work (tick + 1) (measured columns recorded) (measured columns (r ∷ recorded)) a b c line read.has come well
          (ap (measured_on ((tick + 1) + 1) (record { columns = columns; recorded = recorded })) written);
      long = (let long = read.long in omega arith);
      by_cal = by_cal ∙ read.by_cal;
      stands = stands;
    }

    -- memory runs out, or no more lines are read
    pub stops-early : (lines : Change ShownLines) (out : Change ShownSink) → HasRead so_far text cal columns recorded tick replay lines →
        HasWritten (so_far (measured columns recorded)) out → RecordingEnds work lines out outcome.Memory
    stops-early lines out read written =
        (measured columns recorded, ends-stopped work (tick + 1) (measured columns recorded) lines out read.has written)

    -- the next line doesn't come, or writes nothing
    pub ends-in_turn : (a b c : ShownLines) (out : Change ShownSink) (end : Outcome) → HasRead so_far text cal columns recorded tick replay (change a b) →
        HasWritten (so_far (measured columns recorded)) out → RecordingGoesOn columns tick (change b c) (Err end) → RecordingEnds work (change a c) out end
    ends-in_turn a b c out end read written (inl (is, line, come, refused, well)) = (
      measured columns recorded,
      subst (StreamEnds work (measured columns recorded) (change a c) out)
          (ap (λ (n : ℕ). outcome.Refused (refusal.Check (fault.Row n))) (let e : (tick + 1) + 1 ≡ tick + 2 = omega arith in e) ∙ sym is)
          (ends-refused work (tick + 1) (measured columns recorded) a b c out read.has line (refusal.Check (fault.Row ((tick + 1) + 1))) written come well
          (ap (measured_on ((tick + 1) + 1) (record { columns = columns; recorded = recorded })) refused)),
    )
    ends-in_turn a b c out end read written (inr none_comes) =
        (measured columns recorded, ends-unread work (tick + 1) (measured columns recorded) a b c out read.has end written none_comes)

    -- behind the last line there were no ticks
    pub ends-empty : (a b c : ShownLines) (out : Change ShownSink) → HasRead so_far text cal columns recorded tick replay (change a b) →
        RecordingGoesOn columns tick (change b c) (Ok None) → HasWritten (so_far (measured columns recorded)) out → tick ≡ 0 →
        RecordingEnds work (change a c) out (outcome.Refused (refusal.Check fault.Empty))
    ends-empty a b c out read (come, at_end, well) written none = (
      measured columns recorded,
      ends-short work (tick + 1) (measured columns recorded) a b c out read.has (refusal.Check fault.Empty) written come at_end well
          (ap (of_ticks text) (nil_from_length recorded (read.long ∙ none))),
    )

-- a text of one tick at least is written in all
in_all-some : (text : List Recorded → List ℕ) (recorded : List Recorded) → 1 ≤ length recorded → of_ticks text recorded ≡ Ok (text recorded)
in_all-some text [] some = absurd (omega (arith, some))
in_all-some text (r ∷ before) some = refl

-- ---- `signals` ----

-- the header was written
pub header-written : (cal : CalibrationParts) (line : List ℕ) (a b : ShownSink) → line ≡ signals_header → LinePut line (change a b) (Ok tt) →
    HasWritten (signals_in cal []) (change a b)
header-written cal line a b is put =
    let text = is ∙ signals_in-none cal in
    subst (λ (t : List ℕ). HasWritten t (change a b)) text
    (one-written [] line a a b (none-written a) put (λ none. signals_in-some cal [] (sym text ∙ none)))

-- a text with one row more
with-row : (cal : CalibrationParts) (recorded : List Recorded) (r : Recorded) (tick : ℕ) (told : TickSignals) → length recorded ≡ tick →
    told ≡ told_after cal r recorded → signals_in cal recorded ++ signals_line tick told ≡ signals_in cal (r ∷ recorded)
with-row cal recorded r tick told long is =
    ap (λ t. signals_in cal recorded ++ signals_line tick t) is ∙ signals_in-more cal recorded r tick long

pub row-written : (cal : CalibrationParts) (recorded : List Recorded) (r : Recorded) (tick : ℕ) (told : TickSignals) (a b c : ShownSink) →
    HasWritten (signals_in cal recorded) (change a b) → length recorded ≡ tick → told ≡ told_after cal r recorded →
    LinePut (signals_line tick told) (change b c) (Ok tt) → HasWritten (signals_in cal (r ∷ recorded)) (change a c)
row-written cal recorded r tick told a b c written long is put =
    let text = with-row cal recorded r tick told long is in
    subst (λ (t : List ℕ). HasWritten t (change a c)) text
    (one-written (signals_in cal recorded) (signals_line tick told) a b c written put (λ none. signals_in-some cal (r ∷ recorded) (sym text ∙ none)))

-- a front of its text was written, where a line was refused
signals-front : (cal : CalibrationParts) (columns : Columns) (recorded : List Recorded) (lines : Change ShownLines) (out : Change ShownSink) (end : Outcome) →
    LinePut (signals_in cal recorded) out (Err end) → WritesFront (signals_work cal) (measured columns recorded) lines out
signals-front cal columns recorded lines out end put = inl (put.0, λ none. absurd (signals_in-some cal recorded none))

-- the header is refused
pub header-refused : (cal : CalibrationParts) (recording : Recording) (line : List ℕ) (a b : ShownLines) (out : Change ShownSink) (end : Outcome) →
    line ≡ signals_header → RecordingBegins (change a b) (Ok recording) → LinePut line out (Err end) → RecordingEnds (signals_work cal) (change a b) out end
header-refused cal recording line a b out end is begins put =
    let text = subst (λ (t : List ℕ). LinePut t out (Err end)) (is ∙ signals_in-none cal) put in (
      measured recording.columns [],
      ends-unput (signals_work cal) (0 + 1) (measured recording.columns []) (change a b) out (signals_in cal []) end
          (begun (signals_so_far cal) (signals_in cal) recording a b begins) (signals-front cal recording.columns [] (change a b) out end text) text,
    )

-- a row is refused
pub row-refused : (cal : CalibrationParts) (columns : Columns) (recorded : List Recorded) (r : Recorded) (tick now : ℕ) (told : TickSignals)
    (replay : ReplayParts) (lines : Change ShownLines) (a b c : ShownSink) (end : Outcome) →
    HasRead (signals_so_far cal) (signals_in cal) cal columns (r ∷ recorded) now replay lines → HasWritten (signals_in cal recorded) (change a b) →
    length recorded ≡ tick → told ≡ told_after cal r recorded → LinePut (signals_line tick told) (change b c) (Err end) →
    RecordingEnds (signals_work cal) lines (change a c) end
row-refused cal columns recorded r tick now told replay lines a b c end read written long is put =
    let text = subst (λ (t : List ℕ). LinePut t (change a c) (Err end))
    (append-nil (signals_in cal recorded ++ signals_line tick told) ∙ with-row cal recorded r tick told long is)
    (put-refused (signals_in cal recorded) (signals_line tick told) [] a b c end written put) in (
      measured columns (r ∷ recorded),
      ends-unput (signals_work cal) (now + 1) (measured columns (r ∷ recorded)) lines (change a c) (signals_in cal (r ∷ recorded)) end
          read.has (signals-front cal columns (r ∷ recorded) lines (change a c) end text) text,
    )

-- ---- how it ends behind the last line ----

-- whether there were some ticks
pub by_ticks : {T : Type 0} (P : Result T Outcome → Type 0) (result : Result T Outcome) (none : Bool) (whole : T) →
    result ≡ (if none then Err (outcome.Refused (refusal.Check fault.Empty)) else Ok whole) →
    (none ≡ true → P (Err (outcome.Refused (refusal.Check fault.Empty)))) → (none ≡ false → P (Ok whole)) → P result
by_ticks P result true whole is empty some = subst P (sym is) (empty refl)
by_ticks P result false whole is empty some = subst P (sym is) (some refl)

-- all rows were written
pub signals-ends : (cal : CalibrationParts) (columns : Columns) (recorded : List Recorded) (tick : ℕ) (replay : ReplayParts) (a b c : ShownLines)
    (out : Change ShownSink) → HasRead (signals_so_far cal) (signals_in cal) cal columns recorded tick replay (change a b) →
    RecordingGoesOn columns tick (change b c) (Ok None) → HasWritten (signals_in cal recorded) out → 1 ≤ tick →
    RecordingEnds (signals_work cal) (change a c) out outcome.Done
signals-ends cal columns recorded tick replay a b c out read (come, at_end, well) written some = (
  measured columns recorded,
  ends-done (signals_work cal) (tick + 1) (measured columns recorded) a b c out read.has (signals_in cal recorded) written come at_end well
      (in_all-some (signals_in cal) recorded (let long = read.long in omega arith)),
)

-- the findings come
pub findings-come : (cal : CalibrationParts) (columns : Columns) (recorded : List Recorded) (tick : ℕ) (replay : ReplayParts) (a b c : ShownLines)
    (findings : Findings) → HasRead (λ state. []) (replay_in cal) cal columns recorded tick replay (change a b) →
    RecordingGoesOn columns tick (change b c) (Ok None) → 1 ≤ tick → findings ≡ findings_of (told_of cal (replayed cal recorded)) →
    FindingsCome cal (change a c) (Ok findings)
findings-come cal columns recorded tick replay a b c findings read (come, at_end, well) some are = (
  read.has.taken,
  record { columns = columns; recorded = recorded },
  Come-still a b c read.has.taken read.has.come come,
  at_end,
  read.has.lead,
  (let long = read.long in omega arith),
  are,
  ReadsWell-then a b c read.has.well well,
)

-- and are put
pub findings-put : (cal : CalibrationParts) (lines : Change ShownLines) (out : Change ShownSink) (findings : Findings)
    (result : Result (Unit {0}) Outcome) → FindingsCome cal lines (Ok findings) →
    LinePut (replay_text cal.rules.pair cal.rules.torque findings) out result → RecordingEnds (replay_work cal) lines out (end_of result)
findings-put cal lines out findings result (taken, m, come, at_end, lead, some, are, well) put =
    go result (subst (λ f. LinePut (replay_text cal.rules.pair cal.rules.torque f) out result) are put)
  where
    whole : of_ticks (replay_in cal) m.recorded ≡ Ok (replay_in cal m.recorded)
    whole = in_all-some (replay_in cal) m.recorded some

    go : (result : Result (Unit {0}) Outcome) → LinePut (replay_in cal m.recorded) out result → RecordingEnds (replay_work cal) lines out (end_of result)
    go (Ok _) text = (
      Some m,
      record {
        taken = taken;
        lead = lead;
        ends = (replay_in cal m.recorded, come, at_end, whole, text.0, well.faults, text.1);
      },
    )
    go (Err end) text = (
      Some m,
      ends-unput (replay_work cal) (length taken) (Some m) lines out (replay_in cal m.recorded) end
          (record { taken = taken; many = refl; come = come; lead = lead; well = well }) (inr (replay_in cal m.recorded, at_end, whole, text.0)) text,
    )

-- where a line was to be put, no outcome tells that nothing is put
pub put-puts : (line : List ℕ) (out : Change ShownSink) (result : Result (Unit {0}) Outcome) → LinePut line out result → PutsNothing (end_of result) → ⊥
put-puts line out (Ok _) put nothing = nothing
put-puts line out (Err end) (prefix, inl (is, rose)) nothing = subst PutsNothing is nothing
put-puts line out (Err end) (prefix, inr (is, same)) nothing = subst PutsNothing is nothing

-- ---- what every call tells ----

-- a recording is refused by a line, or as it ends
headed-says : (named : Option Columns) → IfErr (headed named) IsOfLines
headed-says None = (tt, refl)
headed-says (Some columns) = tt

measured-says : (n : ℕ) (m : Measured) (r : Option Recorded) → IfErr (measured_on n m r) IsOfLines
measured-says n m None = (tt, refl)
measured-says n m (Some r) = tt

step-says : (n : ℕ) (state : Option Measured) (line : Line) → IfErr (recording_step n state line) IsOfLines
step-says n None line = headed-says (columns_of line)
step-says n (Some m) line = measured-says n m (recorded_of m.columns line)

ticks-says : (text : List Recorded → List ℕ) (recorded : List Recorded) → IfErr (of_ticks text recorded) IsOfLines
ticks-says text [] = (tt, refl)
ticks-says text (r ∷ before) = tt

whole-says : (text : List Recorded → List ℕ) (state : Option Measured) → IfErr (in_all text state) IsOfLines
whole-says text None = (tt, refl)
whole-says text (Some m) = ticks-says text m.recorded

pub recording-refuses : (so_far : Option Measured → List ℕ) (text : List Recorded → List ℕ) → RefusesLines (recording_work so_far text)
recording-refuses so_far text = record { line = step-says; end = whole-says text }

-- ---- when the work is done ----

-- where the lines of a recording lead doesn't depend on what is written of it
leads-any : (so_far other : Option Measured → List ℕ) (text others : List Recorded → List ℕ) (lines : List Line) (state : Option Measured) →
    LeadTo (recording_work so_far text) lines state → LeadTo (recording_work other others) lines state
unfolding LeadTo
leads-any so_far other text others [] state is = is
leads-any so_far other text others (line ∷ before) state (was, lead, is) = (was, leads-any so_far other text others before was lead, is)

-- so a recording is one for each command
pub holds-any : (so_far : Option Measured → List ℕ) (text : List Recorded → List ℕ) (lines : ShownLines) → HoldsRecording lines →
    HoldsWhole (recording_work so_far text) lines
holds-any so_far text lines holds = record {
  all = holds.all;
  state = holds.state;
  text = (written holds.state holds.whole).0;
  told = holds.told;
  lead = leads-any (λ state. []) so_far (λ recorded. []) text (reverse holds.all) holds.state holds.lead;
  whole = (written holds.state holds.whole).1;
  sure = holds.sure;
}
  where
    of_some : (recorded : List Recorded) → of_ticks (λ r. []) recorded ≡ Ok holds.text → (all : List ℕ) × (of_ticks text recorded ≡ Ok all)
    of_some [] is = absurd cc
    of_some (r ∷ before) is = (text (r ∷ before), refl)

    written : (state : Option Measured) → in_all (λ r. []) state ≡ Ok holds.text → (all : List ℕ) × (in_all text state ≡ Ok all)
    written None is = absurd cc
    written (Some m) is = of_some m.recorded is
