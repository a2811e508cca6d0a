-- The laws of a run, on the row of a tick of a controller that stands for a history.
use Rattle.std.proofs.Common.{◌≡◌, ◌∙◌, refl, sym, ap, subst, ℕ, ◌+◌, ◌-◌, ◌≤◌, ◌||◌, Bool, true, false, List, ◌∷◌, ◌++◌, length, length-append, arith}
use Rattle.std.specs.Prelude.{◌==◌}
use Rattle.eg_num.specs.Drive.{DriveRow}
use Rattle.eg_plant.specs.Engine.{Shown}
use Rattle.eg_answer.specs.Times.{reaction_of}
use Rattle.eg_fault.specs.Faults.{effects}
use Rattle.eg_values.specs.Calibration.{IsAccepted}
use Rattle.eg_record.specs.declared.row.Row.{Row}
use Rattle.eg_model.specs.History.{Setting, Entry, Tick, SpanKind, Drive, Test, drives, Moment}
use Rattle.eg_model.specs.Moments.{moment, moment_in, moments_in, moments_of}
use Rattle.eg_model.specs.Premises.{AreProper, IsProperRun, Follows, is_on_after}
use Rattle.eg_model.specs.Reaction.{OffFrom, is_at_once}
use Rattle.eg_model.specs.Spans.{span_kind, has_passed, kind_at, before_at, moments, next, span_ticks}
use Rattle.eg_model.specs.Rows.{row_of}
use Rattle.eg_model.specs.SpanHistories.{SpanIsHistory}
use Rattle.eg_model.specs.Records.{NeverFails, is_before_onset}
use Rattle.eg_model.proofs.ReactionLaw.{reacts_in_time, reacts_at_once_law}
use Rattle.eg_model.proofs.LapseLaw.{cuts_lapses, lapses_are_short}
use Rattle.eg_model.proofs.TickLemmas.{length-moments_in}
use Rattle.eg_model.proofs.SpanLemmas.{kind-goes_on, ticks_before-begins, ticks_before-goes_on, tick_after, ticks_before, Continues, continues, spans_are_histories}
use Rattle.eg_model.proofs.RecordLaws.{next_passes, next_cuts_sharply}
use Rattle.eg_tick.specs.Kept.{Kept}
use Rattle.eg_tick.specs.Stands.{Stands}
use Rattle.eg_tick.specs.Advancing.{entry_of, RowIsUnpowered, RowCutsSharply, DrivesOn, RowReactsInTime, RowReactsAtOnce, RowCutsStandingExcess, HistoryHasShortExcess}
use Rattle.eg_model.proofs.TickLemmas.{fields_in}

-- ---- the next row of a run ----

module _ (s : Setting) (e : Entry) (h : List Entry) where
  goes : Continues s e h (kind_at e.drive (moments s h)) (ticks_before s e h)
  goes = continues s e h

  row_fresh : (row_of (length h) (next s e h)).fresh ≡ (length (ticks_before s e h) == 0)
  unfolding row_of
  row_fresh = ap (λ (m : Moment). m.fresh) goes.moment_is ∙ (fields_in _ s _ e _).fresh
      ∙ ap (λ n. n == 0) (length-moments_in (kind_at e.drive (moments s h)) s (ticks_before s e h))

  row_on : (row_of (length h) (next s e h)).on
      ≡ (moment_in (kind_at e.drive (moments s h)) s (effects s.fault (length h)) e (before_at e.drive (moments s h))).on
  unfolding row_of
  row_on = ap (λ (m : Moment). m.on) (goes.moment_is
      ∙ ap (moment_in (kind_at e.drive (moments s h)) s (effects s.fault (length h)) e) (sym goes.before_are))

  -- a row of a test span is off
  pub unpowered_row : kind_at e.drive (moments s h) ≡ Test → (row_of (length h) (next s e h)).on ≡ false
  unpowered_row tests = row_on ∙ ap (λ kind. (moment_in kind s (effects s.fault (length h)) e (before_at e.drive (moments s h))).on) tests
      ∙ (unfold moment_in drives in refl)

  -- where the tick isn't the first of its span, this goes on
  goes_on : (row_of (length h) (next s e h)).fresh ≡ false → (e.drive.reset || has_passed (moments s h)) ≡ false
  goes_on later = go (e.drive.reset || has_passed (moments s h)) refl
    where
      clash : true ≡ false → ⊥
      clash f = cc

      go : (b : Bool) → (e.drive.reset || has_passed (moments s h)) ≡ b → (e.drive.reset || has_passed (moments s h)) ≡ false
      go false is = is
      go true is = absurd (clash (sym (row_fresh ∙ ap (λ (ticks : List Tick). length ticks == 0) (ticks_before-begins s e h is)) ∙ later))

  module _ (more before : List Tick) (driven : span_kind (moments s h) ≡ Drive) (are : span_ticks s h ≡ more ++ before)
      (later : (row_of (length h) (next s e h)).fresh ≡ false) where
    ends : SpanIsHistory s h
    ends = spans_are_histories s h

    -- where the span begins
    pub start : ℕ
    start = ends.begin

    ticks_are : ticks_before s e h ≡ more ++ before
    ticks_are = ticks_before-goes_on s e h (goes_on later) ∙ are

    kind_is : kind_at e.drive (moments s h) ≡ Drive
    kind_is = kind-goes_on e.drive (moments s h) (goes_on later) ∙ driven

    follows : Follows s.fault start (tick_after s e h ∷ (more ++ before))
    unfolding Follows tick_after start
    follows = (
      ap (effects s.fault) (sym (let size = ends.size in let long = ap length are in number (length (span_ticks s h)) (length (more ++ before)) long size)),
      subst (Follows s.fault ends.begin) are ends.follows,
    )
      where
        number : (a b : ℕ) → a ≡ b → ends.begin + a ≡ length h → ends.begin + b ≡ length h
        number a b same size = omega (arith, same, size)

    -- the number of the tick after `before`
    pub number_is : start + length before ≡ length h - length more
    unfolding start
    number_is = law (length more) (length before) (length h) ends.begin
        (ap (λ n. ends.begin + n) (sym (ap length are ∙ length-append more before)) ∙ ends.size)
      where
        law : (a b n begin : ℕ) → begin + (a + b) ≡ n → begin + b ≡ n - a
        law a b n begin size = omega (arith, size)

    is_on : (row_of (length h) (next s e h)).on ≡ is_on_after s (more ++ before) (tick_after s e h)
    unfolding row_of is_on_after tick_after moment moments_of
    is_on = ap (λ (m : Moment). m.on) goes.moment_is ∙ both kind_is ticks_are
      where
        both : {kind : SpanKind} {ticks : List Tick} → kind ≡ Drive → ticks ≡ more ++ before →
            (moment_in kind s (effects s.fault (length h)) e (moments_in kind s ticks)).on
            ≡ (moment_in Drive s (effects s.fault (length h)) e (moments_in Drive s (more ++ before))).on
        both {kind} {ticks} driven same = ap (λ kind. (moment_in kind s (effects s.fault (length h)) e (moments_in kind s ticks)).on) driven
            ∙ ap (λ ticks. (moment_in Drive s (effects s.fault (length h)) e (moments_in Drive s ticks)).on) same

    -- where the stages are off from `after` ticks after `before` on, they are off in the row of such a tick
    pub off_row : (after : ℕ) → IsProperRun s h → OffFrom s start before after → after ≤ length more + 1 →
        (row_of (length h) (next s e h)).on ≡ false
    off_row after proper off late = is_on
        ∙ off more (tick_after s e h) follows (subst (AreProper s) are (ends.proper proper driven)) late

-- ---- what a row owes ----

module _ (s : Setting) (c : Kept) (drive : DriveRow) (slices : List ℕ) (shown : Shown) (accepted : IsAccepted c.cal) (row : Row)
    (told : (h : List Entry) → Stands s c h → row ≡ row_of (length h) (next s (entry_of drive slices shown) h)) where
  abbrev e : Entry
  e = entry_of drive slices shown

  -- at its tick no fault has begun
  quiet : (h : List Entry) → Stands s c h → is_before_onset s.fault row.tick ≡ true → is_before_onset s.fault (length h) ≡ true
  quiet h stands early = subst (λ n. is_before_onset s.fault n ≡ true) (ap (λ (r : Row). r.tick) (told h stands) ∙ (unfold row_of in refl)) early

  pub passes : (h : List Entry) → Stands s c h → NeverFails s.fault row
  passes h stands early = ap (λ (r : Row). r.found.start) (told h stands)
      ∙ (unfold row_of in next_passes s (subst IsAccepted stands.cal accepted) e h (quiet h stands early))

  pub sharp : RowCutsSharply s c drive row
  unfolding entry_of
  sharp h stands driven loads early = ap (λ (r : Row). r.on) (told h stands)
      ∙ (unfold row_of in next_cuts_sharply s (subst IsAccepted stands.cal accepted) e h driven loads stands.engine.proper (quiet h stands early))

  pub unpowered : RowIsUnpowered s c drive row
  unfolding entry_of
  unpowered h stands tests = ap (λ (r : Row). r.on) (told h stands) ∙ unpowered_row s e h tests

  -- as late a row is off
  owes : (h : List Entry) (more before : List Tick) (after : ℕ) → DrivesOn s c row h (more ++ before) → after ≤ length more + 1 →
      ((start : ℕ) → start + length before ≡ length h - length more → OffFrom s start before after) → row.on ≡ false
  owes h more before after on late law =
      let is = told h on.stands in
      let later = sym (ap (λ (r : Row). r.fresh) is) ∙ on.goes_on in
      ap (λ (r : Row). r.on) is ∙ off_row s e h more before on.kind on.ticks_are later after on.stands.engine.proper
      (law (start s e h more before on.kind on.ticks_are later) (number_is s e h more before on.kind on.ticks_are later)) late

  fit : (h : List Entry) → Stands s c h → IsAccepted s.cal
  fit h stands = subst IsAccepted stands.cal accepted

  pub reacts : RowReactsInTime s c row
  reacts h more before on listed confirmed late =
      owes h more before (reaction_of s.cal.times) on late (λ start is. reacts_in_time s (fit h on.stands) listed start before confirmed)

  pub at_once : RowReactsAtOnce s c row
  at_once h more before on listed confirmed soon =
      owes h more before 1 on (omega arith)
      (λ start is. reacts_at_once_law s (fit h on.stands) listed start before (subst (λ n. is_at_once s.fault n ≡ true) (sym is) soon) confirmed)

  pub cuts : RowCutsStandingExcess s c row
  cuts h more before periods on bounded lapse whole exceeds =
      owes h more before 1 on (omega arith) (λ start is. cuts_lapses s (fit h on.stands) bounded lapse start periods before whole exceeds)

pub short : (s : Setting) (c : Kept) → IsAccepted c.cal → HistoryHasShortExcess s c
short s c accepted h stands driven bounded lapse n exceeds =
    lapses_are_short s (subst IsAccepted stands.cal accepted) bounded lapse span.begin (span_ticks s h) span.follows
    (span.proper stands.engine.proper driven) n exceeds
  where
    span : SpanIsHistory s h
    span = spans_are_histories s h
