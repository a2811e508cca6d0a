-- The laws for the record of a run on the bench, span by span, for any engine that brings what every engine
-- owes.
use Rattle.std.proofs.Common.{inl, inr, ◌≡◌, ℕ, zero, suc, ◌+◌, ◌≤◌, ◌<◌, Bool, true, false, not, ◌&&◌, ◌||◌, List, [], ◌∷◌, ◌++◌, All, map, length, refl, sym, ap, ap₂, ◌∙◌, arith, Option, Some, None, subst}
use Rattle.eg_model.proofs.SpanRuns.{all_or}
use Rattle.std.proofs.lemmas.List.Elements.{All-head, All-tail, All-cons, All-nil, All-take}
use Rattle.std.proofs.lemmas.Bool.{cases_Bool, ltb-true, lt-ltb}
use Rattle.eg_num.specs.Drive.{DriveRow, IsDrive}
use Rattle.eg_num.specs.Windows.{is_confirmed}
use Rattle.eg_answer.specs.Times.{reaction_of, lapse_bound_of}
use Rattle.eg_values.specs.Calibration.{IsAccepted}
use Rattle.eg_plant.specs.PlantParts.{PlantParts}
use Rattle.eg_plant.specs.Engine.{KeepsLaws}
use Rattle.eg_fault.specs.Effects.{Effects, no_effects}
use Rattle.eg_fault.specs.Faults.{effects, IsNoneOrValid}
use Rattle.eg_fault.specs.Classes.{IsHeldWithin}
use Rattle.eg_fault.specs.declared.class.Fault.{Fault}
use Rattle.eg_fault.proofs.ActingLemmas.{before_onset, listed_valid}
use Rattle.eg_fault.proofs.ClassLemmas.{plates_are_held_within}
use Rattle.eg_record.specs.declared.row.Row.{Row}
use Rattle.eg_record.specs.Excess.{full_excess}
use Rattle.eg_record.specs.Spans.{IsDriveSpan, EachDriveSpan}
use Rattle.eg_model.specs.History.{Setting, Entry, Tick, SpanKind, Drive, Test, drives, Moment}
use Rattle.eg_model.specs.Paths.{reads_back, both_conduct}
use Rattle.eg_model.specs.Level1.{last_world}
use Rattle.eg_model.specs.Moments.{moment, moment_in, moments_in, moments_of}
use Rattle.eg_model.specs.Spans.{has_passed, kind_at, before_at, moment_at, next_after, moments, next, ticks, span_ticks}
use Rattle.eg_model.specs.Engines.{BenchEngine, KeepsBenchLaws, IsOneLoad, ShowsOneLoad}
use Rattle.eg_model.specs.Bench.{Run, no_drive, stepped, engine_after, shown_at, drive_at, entry_at, moments_to, entries_to}
use Rattle.eg_model.specs.Rows.{row_of, rows_of, record_rows}
use Rattle.eg_model.specs.Lapses.{IsLapse, StretchesStayBelow}
use Rattle.eg_model.proofs.LapseLaw.{stretches_are_short}
use Rattle.eg_model.specs.Premises.{IsProper, AreProper, IsProperRun, Follows, is_on_after, full_excesses}
use Rattle.eg_model.specs.SharpCut.{ArePlain}
use Rattle.eg_model.specs.StartUp.{IsUndisturbed}
use Rattle.eg_model.specs.SpanHistories.{SpanIsHistory}
use Rattle.eg_model.specs.Records.{IsRun, NeverFails, is_before_onset, ReactWithin, RowsReactAtOnce, CutOneTickAfter, CutStandingExcess, ExcessIsBelow, CutFromOnset, RecordsReact, RecordsReactAtOnce, RecordsCutSharply, RecordsCutSharplyBefore, RecordsCutStandingExcess, RecordsHaveShortExcess, RecordsCutFromOnset, RecordsTestUnpowered, RecordsPassTests}
use Rattle.eg_model.proofs.StartUpLaws.{tests_pass}
use Rattle.eg_model.proofs.SharpCutLaw.{cuts_sharply}
use Rattle.eg_model.proofs.SpanLemmas.{length-run_moments, kind-goes_on, tick_after, ticks_before, ticks_before-begins, ticks_before-goes_on, continues, spans_are_histories, proper_drive}
use Rattle.eg_model.proofs.SpanRows.{rows_after, SpanRows, LastOf, last_of, row_tick, rows_off, bits_after, full_unnumbered}
use Rattle.eg_model.proofs.SpanLaws.{react_within, react_at_once, cut_lapses, stays_below, cut_from_onset, sharp_after, cut_one_tick_after}
use Rattle.eg_model.proofs.RecordTicks.{length-moments_to, records_are_histories}
use Rattle.eg_model.proofs.RecordSpans.{kind_by, part_of, with_part, SpanTo, SpanIn, span_in}

-- ---- the drive, and faults that haven't begun ----

-- the drive row of each tick is one that may be, also past the end of the drive
drive_is : (r : Run) (t : ℕ) → All IsDrive r.drive → IsDrive (drive_at r t)
unfolding drive_at no_drive
drive_is r t all = all_or IsDrive r.drive t no_drive (omega arith, omega arith, omega arith) all

-- while no fault has begun nothing is out of order
quiet_tick : (f : Option Fault) (t : ℕ) → is_before_onset f t ≡ true → effects f t ≡ no_effects
quiet_tick None t quiet = unfold effects in refl
quiet_tick (Some f) t quiet = before_onset f t (ltb-true _ _ (unfold is_before_onset in quiet))

-- and so at each tick up to it
quiet_up_to : (f : Option Fault) (t u : ℕ) → is_before_onset f t ≡ true → u ≤ t → is_before_onset f u ≡ true
quiet_up_to None t u quiet l = unfold is_before_onset in refl
quiet_up_to (Some f) t u quiet l = unfold is_before_onset in
    lt-ltb _ _ (earlier (ltb-true _ _ (unfold is_before_onset in quiet)))
  where
    earlier : t < f.onset → u < f.onset
    earlier m = omega (arith, m, l)

-- what comes in before the onset is proper, whatever the fault
quiet_held : (f : Option Fault) (t : ℕ) → is_before_onset f t ≡ true → IsHeldWithin (effects f t).held_plate
quiet_held f t quiet = subst (λ x. IsHeldWithin x.held_plate) (sym (quiet_tick f t quiet))
    (unfold no_effects in tt)

-- a plate that is held at one of the first n ticks has an angle within its range
abbrev pub HoldsTo : Run → ℕ → Type 0
HoldsTo r n = (t : ℕ) → t < n → IsHeldWithin (effects r.setting.fault t).held_plate

-- ---- one load ----

abbrev HasOneLoad : Tick → Type 0
HasOneLoad x = IsOneLoad x.entry.shown

-- the ticks of a run show what came in, and so do those of the span that it ends in
loads_of_ticks : (s : Setting) (h : List Entry) → All (λ e. IsOneLoad e.shown) h → All HasOneLoad (ticks s h)
unfolding ticks
loads_of_ticks s [] loads = All-nil HasOneLoad
loads_of_ticks s (e ∷ h) loads = All-cons HasOneLoad (record { effects = effects s.fault (length h); entry = e }) (ticks s h)
    (All-head (λ e. IsOneLoad e.shown) e h loads) (loads_of_ticks s h (All-tail (λ e. IsOneLoad e.shown) e h loads))

loads_of_span : (s : Setting) (h : List Entry) → All (λ e. IsOneLoad e.shown) h → All HasOneLoad (span_ticks s h)
unfolding span_ticks
loads_of_span s h loads = All-take HasOneLoad _ (ticks s h) (loads_of_ticks s h loads)

-- such ticks, at which nothing is out of order
plain_of : (h : List Tick) → All IsUndisturbed h → All HasOneLoad h → ArePlain h
unfolding ArePlain
plain_of [] quiet loads = tt
plain_of (x ∷ h) quiet loads = (
  record { effects = All-head IsUndisturbed x h quiet; loads = All-head HasOneLoad x h loads },
  plain_of h (All-tail IsUndisturbed x h quiet) (All-tail HasOneLoad x h loads),
)

-- ---- before the onset of a fault no test fails, and the cut is sharp ----

quiet_ticks : (s : Setting) (start : ℕ) (h : List Tick) → Follows s.fault start h →
    ((t : ℕ) → t < start + length h → is_before_onset s.fault t ≡ true) → All IsUndisturbed h
unfolding Follows
quiet_ticks s start [] follows quiet = All-nil IsUndisturbed
quiet_ticks s start (x ∷ h) follows quiet = All-cons IsUndisturbed x h
    (follows.0 ∙ quiet_tick s.fault (start + length h) (quiet (start + length h) (omega arith)))
    (quiet_ticks s start h follows.1 (λ t l. quiet t (omega arith)))

never_fails : (kind : SpanKind) (s : Setting) → IsAccepted s.cal → (x : Tick) (h : List Tick) → All IsUndisturbed (x ∷ h) →
    (moment_in kind s x.effects x.entry (moments_in kind s h)).found.start ≡ false
never_fails Drive s accepted x h plain = unfold moment_in reads_back in refl
never_fails Test s accepted x h plain = (tests_pass s accepted x h plain).never_fails

module _ (s : Setting) (accepted : IsAccepted s.cal) (e : Entry) (h : List Entry)
    (quiet : is_before_onset s.fault (length h) ≡ true) where
  -- nothing is out of order in the span of the next tick, up to that tick
  quiet_span : All IsUndisturbed (tick_after s e h ∷ ticks_before s e h)
  quiet_span = subst (All IsUndisturbed) (continues s e h).ticks_are (quiet_ticks s span.begin (span_ticks s (e ∷ h)) span.follows
      (λ t l. quiet_up_to s.fault (length h) t quiet (let size = span.size in omega (arith, l, size))))
    where
      span : SpanIsHistory s (e ∷ h)
      span = spans_are_histories s (e ∷ h)

  pub next_passes : (next s e h).found.start ≡ false
  next_passes = ap (λ (m : Moment). m.found.start) (continues s e h).moment_is
      ∙ (unfold tick_after in never_fails (kind_at e.drive (moments s h)) s accepted (tick_after s e h) (ticks_before s e h) quiet_span)

-- what holds of no tick, and of the span that goes on, holds of the ticks of its span before the next tick
before_next : (P : List Tick → Type 0) (s : Setting) (e : Entry) (h : List Entry) → P [] →
    ((e.drive.reset || has_passed (moments s h)) ≡ false → P (span_ticks s h)) → P (ticks_before s e h)
before_next P s e h none on = elim (cases_Bool (e.drive.reset || has_passed (moments s h))) [
  | inl begins ↦ subst P (sym (ticks_before-begins s e h begins)) none
  | inr goes_on ↦ subst P (sym (ticks_before-goes_on s e h goes_on)) (on goes_on)
]

-- the sharp cut at the next tick of a run, where it stands in a drive span
module _ (s : Setting) (accepted : IsAccepted s.cal) (e : Entry) (h : List Entry) (driven : kind_at e.drive (moments s h) ≡ Drive)
    (loads : All (λ e. IsOneLoad e.shown) h) (proper : IsProperRun s h) (quiet : is_before_onset s.fault (length h) ≡ true) where
  abbrev before : List Tick
  before = ticks_before s e h

  abbrev at_tick : SpanKind → Moment
  at_tick kind = moment_in kind s (effects s.fault (length h)) e (moments_in kind s before)

  plain_before : ArePlain before
  plain_before = plain_of before (All-tail IsUndisturbed (tick_after s e h) before (quiet_span s accepted e h quiet))
      (before_next (All HasOneLoad) s e h (All-nil HasOneLoad) (λ on. loads_of_span s h loads))

  proper_before : AreProper s before
  proper_before = before_next (AreProper s) s e h (unfold AreProper in tt)
      (λ on. proper_drive s h proper (sym (kind-goes_on e.drive (moments s h) on) ∙ driven))

  pub next_cuts_sharply : (next s e h).on ≡ not (is_confirmed s.cal.rules.torque
      (map (full_excess s.cal.rules.kt s.cal.rules.threshold) (rows_of (before_at e.drive (moments s h)))))
  unfolding is_on_after full_excesses moment moments_of tick_after
  next_cuts_sharply = ap (λ (m : Moment). m.on) ((continues s e h).moment_is ∙ ap at_tick driven)
      ∙ cuts_sharply s accepted before plain_before proper_before (tick_after s e h)
      (All-head IsUndisturbed (tick_after s e h) before (quiet_span s accepted e h quiet))
      ∙ ap (λ past. not (is_confirmed s.cal.rules.torque (map (full_excess s.cal.rules.kt s.cal.rules.threshold) (rows_of past))))
      (sym ((continues s e h).before_are ∙ ap (λ kind. moments_in kind s before) driven))

-- what holds of the row that any entry adds holds of all rows
pub each_row : (P : Row → Type 0) (s : Setting) →
    ((e : Entry) (h : List Entry) → P (row_of (length (moments s h)) (next_after s e (moments s h)))) →
    (h : List Entry) → All P (rows_of (moments s h))
unfolding moments rows_of
each_row P s adds [] = All-nil P
each_row P s adds (e ∷ h) = All-cons P (row_of (length (moments s h)) (next_after s e (moments s h))) (rows_of (moments s h))
    (adds e h) (each_row P s adds h)

none_fails : (s : Setting) → IsAccepted s.cal → (h : List Entry) → All (NeverFails s.fault) (rows_of (moments s h))
unfolding row_of next
none_fails s accepted = each_row (NeverFails s.fault) s (λ e h quiet.
    next_passes s accepted e h (subst (λ n. is_before_onset s.fault n ≡ true) (length-run_moments s h) quiet))

-- ---- each drive span ----

module _ {E : Type 0} (b : BenchEngine E) where
  -- a law for the rows of a history holds for each drive span of a record
  pub each_drive : (P : ℕ → List Row → Type 0) (r : Run) →
      ((start count : ℕ) (span : List Row) → SpanIn b r start count Drive span → P start (SpanRows r.setting start (SpanTo b r count))) →
      EachDriveSpan P (record_rows b r)
  each_drive P r law newer span older e is = subst (P (length older)) (sym (rows_are known))
      (law (length older) (length (span ++ older)) span known)
    where
      known : SpanIn b r (length older) (length (span ++ older)) Drive span
      known = unfold kind_by in span_in b r newer span older e is.span false is.drives

      rows_are : SpanIn b r (length older) (length (span ++ older)) Drive span → span ≡ SpanRows r.setting (length older) (SpanTo b r (length (span ++ older)))
      rows_are s = unfold moments_of in s.rows_are

  pub records_cut_from_onset : RecordsCutFromOnset b
  records_cut_from_onset r run valid = each_drive (CutFromOnset r.setting.fault (reaction_of r.setting.cal.times)) r
      (λ start count span is. cut_from_onset r.setting start (SpanTo b r count) run.accepted valid is.follows)

  -- ---- the start-up test ----

  pub records_test_unpowered : RecordsTestUnpowered b
  records_test_unpowered r newer span older e is = subst (All (λ row. row.on ≡ false)) (sym (rows_are known))
      (rows_off r.setting (length older) (SpanTo b r (length (span ++ older))))
    where
      known : SpanIn b r (length older) (length (span ++ older)) Test span
      known = unfold kind_by in span_in b r newer span older e is.span true is.tests

      rows_are : SpanIn b r (length older) (length (span ++ older)) Test span →
          span ≡ rows_after (length older) (moments_in Test r.setting (SpanTo b r (length (span ++ older))))
      rows_are s = s.rows_are

  pub records_pass_tests : RecordsPassTests b
  records_pass_tests r run = subst (All (NeverFails r.setting.fault)) (ap rows_of (sym (records_are_histories b r (length r.drive))) ∙ (unfold record_rows in refl))
      (none_fails r.setting run.accepted (entries_to b r (length r.drive)))

-- a row of a drive span is that of a plain tick, after plain ones
pub record QuietLast (s : Setting) (start : ℕ) (h : List Tick) (row : Row) (before : List Row) : Type 0 where
  pub last : LastOf s start h row before
  pub plain : ArePlain (last.tick ∷ last.past)
  pub proper : AreProper s (last.tick ∷ last.past)

module _ {E : Type 0} {b : BenchEngine E} {Keeps : PlantParts → E → Type 0} (keeps : KeepsBenchLaws b Keeps) where
  -- ---- what comes in on the bench is proper ----

  -- one step more keeps what the engine kept
  kept_next : (s : Setting) (x : Effects) (engine : E) (past : List Moment) (on : Bool) → IsHeldWithin x.held_plate →
      Keeps s.cal.plant engine → Keeps s.cal.plant (stepped b s.cal.plant engine past on x.held_plate)
  unfolding stepped
  kept_next s x engine past on held kept = keeps.goes_on s.cal.plant engine kept
      (last_world past).throttle (last_world past).ignition on x.held_plate held

  -- so it keeps it after each of the first n ticks
  kept_to : (r : Run) → IsRun r → (n : ℕ) → HoldsTo r n →
      Keeps r.setting.cal.plant (engine_after b r.setting (moments_to b r n))
  unfolding moments_to engine_after
  kept_to r run zero holds = keeps.at_first r.setting.cal.plant run.accepted.plant
  kept_to r run (suc t) holds = kept_next r.setting (effects r.setting.fault (length (moments_to b r t)))
      (engine_after b r.setting (moments_to b r t)) _ _
      (subst (λ u. IsHeldWithin (effects r.setting.fault u).held_plate) (sym (length-moments_to b r t)) (holds t (omega arith)))
      (kept_to r run t (λ u l. holds u (omega arith)))

  -- whether the stages are on at the tick with this drive row
  abbrev OnNext : Effects → DriveRow → List Moment → Bool
  OnNext x drive past = drives (kind_at drive past) && both_conduct x (before_at drive past)

  -- after a step with the stages off there is no torque
  shown_off : (s : Setting) (x : Effects) (drive : DriveRow) (past : List Moment) →
      Keeps s.cal.plant (engine_after b s past) → OnNext x drive past ≡ false → (shown_at b s x drive past).torque ≡ 0
  unfolding shown_at stepped
  shown_off s x drive past kept off = ap (λ on. (b.shows (b.step s.cal.plant (engine_after b s past)
      (last_world (before_at drive past)).throttle (last_world (before_at drive past)).ignition on x.held_plate)).torque) off
      ∙ keeps.off s.cal.plant (engine_after b s past) kept (last_world (before_at drive past)).throttle
      (last_world (before_at drive past)).ignition x.held_plate

  proper_entry : (r : Run) → IsRun r → (t : ℕ) → HoldsTo r (suc t) →
      IsProper r.setting (OnNext (effects r.setting.fault t) (drive_at r t) (moments_to b r t)) (entry_at b r t (moments_to b r t))
  unfolding entry_at
  proper_entry r run t holds = record {
    drive = drive_is r t run.drive;
    engine = subst (λ k. KeepsLaws k (shown_at b r.setting x (drive_at r t) past)) (sym run.accepted.together.one_kt)
        (unfold shown_at in keeps.laws r.setting.cal.plant _
        (kept_next r.setting x (engine_after b r.setting past) (before_at (drive_at r t) past) (OnNext x (drive_at r t) past)
        (holds t (omega arith)) kept));
    no_torque = shown_off r.setting x (drive_at r t) past kept;
  }
    where
      x : Effects
      x = effects r.setting.fault t

      past : List Moment
      past = moments_to b r t

      kept : Keeps r.setting.cal.plant (engine_after b r.setting past)
      kept = kept_to r run t (λ u l. holds u (omega arith))

  next_on : (s : Setting) (e : Entry) (past : List Moment) →
      (next_after s e past).on ≡ OnNext (effects s.fault (length past)) e.drive past
  unfolding next_after moment_at moment_in
  next_on s e past = refl

  proper_at : (r : Run) → IsRun r → (t : ℕ) → HoldsTo r (suc t) →
      IsProper r.setting (next r.setting (entry_at b r t (moments_to b r t)) (entries_to b r t)).on (entry_at b r t (moments_to b r t))
  unfolding next
  proper_at r run t holds = subst (λ past. IsProper r.setting (next_after r.setting e past).on e) (records_are_histories b r t)
      (subst (λ on. IsProper r.setting on e) (sym (next_on r.setting e past ∙ same)) (proper_entry r run t holds))
    where
      past : List Moment
      past = moments_to b r t

      e : Entry
      e = entry_at b r t past

      drive_same : e.drive ≡ drive_at r t
      drive_same = unfold entry_at in refl

      same : OnNext (effects r.setting.fault (length past)) e.drive past ≡ OnNext (effects r.setting.fault t) (drive_at r t) past
      same = ap₂ (λ n drive. OnNext (effects r.setting.fault n) drive past) (length-moments_to b r t) drive_same

  pub proper_to : (r : Run) → IsRun r → (n : ℕ) → HoldsTo r n → IsProperRun r.setting (entries_to b r n)
  unfolding entries_to IsProperRun
  proper_to r run zero holds = tt
  proper_to r run (suc t) holds = (proper_at r run t holds, proper_to r run t (λ u l. holds u (omega arith)))

  -- so it is under each valid fault
  pub proper_under : (r : Run) → IsRun r → IsNoneOrValid r.setting.fault → (n : ℕ) → IsProperRun r.setting (entries_to b r n)
  proper_under r run valid n = proper_to r run n (λ t l. plates_are_held_within r.setting.fault valid t)

  -- and so the ticks of each drive span are proper
  pub proper_span : (r : Run) → IsRun r → IsNoneOrValid r.setting.fault → (start count : ℕ) (span : List Row) →
      SpanIn b r start count Drive span → AreProper r.setting (SpanTo b r count)
  proper_span r run valid start count span is =
      proper_drive r.setting (entries_to b r count) (proper_under r run valid count) is.kind_is

  -- ---- the laws of each drive span ----

  pub records_react : RecordsReact b
  records_react r run listed = each_drive b (ReactWithin (reaction_of r.setting.cal.times) r.setting.cal.rules.torque r.setting.cal.rules.threshold) r (λ start count span is.
      react_within r.setting start (SpanTo b r count) run.accepted listed is.follows
      (proper_span r run (listed_valid r.setting.fault listed) start count span is))

  pub records_react_at_once : RecordsReactAtOnce b
  records_react_at_once r run listed = each_drive b (RowsReactAtOnce r.setting.fault r.setting.cal.rules.torque r.setting.cal.rules.threshold) r (λ start count span is.
      react_at_once r.setting start (SpanTo b r count) run.accepted listed is.follows
      (proper_span r run (listed_valid r.setting.fault listed) start count span is))

  pub records_cut_standing_excess : RecordsCutStandingExcess b
  records_cut_standing_excess r run valid bound lapse = each_drive b (CutStandingExcess r.setting.cal) r (λ start count span is.
      cut_lapses r.setting start (SpanTo b r count) run.accepted bound lapse is.follows
      (proper_span r run valid start count span is))

  -- what bounds the stretches of histories bounds those of records
  pub records_stay_below : (r : Run) → IsRun r → IsNoneOrValid r.setting.fault → IsLapse r.setting.fault → (bound : ℕ) →
      StretchesStayBelow r.setting.cal bound →
      EachDriveSpan (ExcessIsBelow r.setting.cal.rules.threshold bound) (record_rows b r)
  records_stay_below r run valid lapse bound stay = each_drive b (ExcessIsBelow r.setting.cal.rules.threshold bound) r (λ start count span is.
      stays_below r.setting start (SpanTo b r count) bound stay lapse is.follows
      (proper_span r run valid start count span is))

  pub records_have_short_excess : RecordsHaveShortExcess b
  records_have_short_excess r run valid bound lapse = records_stay_below r run valid lapse
      (lapse_bound_of r.setting.cal.rules.torque r.setting.cal.times) (stretches_are_short r.setting.cal run.accepted bound)

  -- ---- the sharp cut ----

  module _ (once : ShowsOneLoad b) where
    loads_to : (r : Run) (n : ℕ) → All (λ e. IsOneLoad e.shown) (entries_to b r n)
    unfolding entries_to
    loads_to r zero = All-nil (λ e. IsOneLoad e.shown)
    loads_to r (suc t) = All-cons (λ e. IsOneLoad e.shown) (entry_at b r t (moments_to b r t)) (entries_to b r t)
        (unfold entry_at shown_at in once.loads _) (loads_to r t)

    pub loads_in : (r : Run) (count : ℕ) → All HasOneLoad (SpanTo b r count)
    loads_in r count = loads_of_span r.setting (entries_to b r count) (loads_to r count)

    plain_span : (r : Run) (start count : ℕ) (span : List Row) → SpanIn b r start count Drive span →
        ((t : ℕ) → t < count → is_before_onset r.setting.fault t ≡ true) → ArePlain (SpanTo b r count)
    plain_span r start count span is quiet = plain_of (SpanTo b r count)
        (quiet_ticks r.setting start (SpanTo b r count) is.follows (λ t l. quiet t (let size = is.size in omega (arith, l, size))))
        (loads_in r count)

    proper_quiet : (r : Run) → IsRun r → (start count : ℕ) (span : List Row) → SpanIn b r start count Drive span →
        ((t : ℕ) → t < count → is_before_onset r.setting.fault t ≡ true) → AreProper r.setting (SpanTo b r count)
    proper_quiet r run start count span is quiet = proper_drive r.setting (entries_to b r count)
        (proper_to r run count (λ t l. quiet_held r.setting.fault t (quiet t l))) is.kind_is

    pub records_cut_sharply : RecordsCutSharply b
    records_cut_sharply r run none = each_drive b (CutOneTickAfter r.setting.cal.rules.torque r.setting.cal.rules.kt r.setting.cal.rules.threshold) r (λ start count span is.
        cut_one_tick_after r.setting start (SpanTo b r count) run.accepted
        (plain_span r start count span is (λ t l. quiet t)) (proper_quiet r run start count span is (λ t l. quiet t)))
      where
        quiet : (t : ℕ) → is_before_onset r.setting.fault t ≡ true
        quiet t = rw none (unfold is_before_onset in refl)

    -- the last row of a part of a span, at a tick at which no fault has begun, is that of a plain tick
    pub quiet_last : (r : Run) → IsRun r → (start count : ℕ) (row : Row) (before : List Row) →
        SpanIn b r start count Drive (row ∷ before) → is_before_onset r.setting.fault row.tick ≡ true →
        QuietLast r.setting start (SpanTo b r count) row before
    quiet_last r run start count row before is quiet = record {
      last = last;
      plain = subst ArePlain last.is (plain_span r start count (row ∷ before) is still);
      proper = subst (AreProper r.setting) last.is (proper_quiet r run start count (row ∷ before) is still);
    }
      where
        last : LastOf r.setting start (SpanTo b r count) row before
        last = last_of r.setting start (SpanTo b r count) row before (unfold moments_of in is.rows_are)

        place : count ≡ suc row.tick
        place = let size = is.size in let long = ap length last.is in
            let at = ap (λ (r : Row). r.tick) last.row_is ∙ row_tick r.setting start last.tick last.past in omega (arith, size, long, at)

        still : (t : ℕ) → t < count → is_before_onset r.setting.fault t ≡ true
        still t l = quiet_up_to r.setting.fault row.tick t quiet (omega (arith, l, place))

    sharp_last : (r : Run) → IsRun r → (start count : ℕ) (row : Row) (before : List Row) →
        SpanIn b r start count Drive (row ∷ before) → is_before_onset r.setting.fault row.tick ≡ true →
        row.on ≡ not (is_confirmed r.setting.cal.rules.torque (map (full_excess r.setting.cal.rules.kt r.setting.cal.rules.threshold) before))
    unfolding ArePlain AreProper
    sharp_last r run start count row before is quiet =
        let q = quiet_last r run start count row before is quiet in
        let s = r.setting in
        let bit = full_excess s.cal.rules.kt s.cal.rules.threshold in
        ap (λ (r : Row). r.on) q.last.row_is
        ∙ sharp_after s start run.accepted q.last.tick q.last.past q.plain.0.effects q.plain.1 q.proper.1
        ∙ ap (λ bits. not (is_confirmed s.cal.rules.torque bits))
        (sym (ap (map bit) q.last.before_are ∙ bits_after bit (full_unnumbered s.cal.rules.kt s.cal.rules.threshold) s start q.last.past))

    -- and so at each row of a drive span at which no fault has begun
    module _ (r : Run) (newer span older : List Row) (e : record_rows b r ≡ newer ++ (span ++ older)) (is : IsDriveSpan span)
        (later : List Row) (row : Row) (before : List Row) (split : span ≡ later ++ row ∷ before) where
      pub span_to_row : SpanIn b r (length older) (length ((row ∷ before) ++ older)) Drive (row ∷ before)
      span_to_row = unfold kind_by in span_in b r (newer ++ later) (row ∷ before) older longer part.span false part.drives
        where
          part : IsDriveSpan (row ∷ before)
          part = part_of later row before (subst IsDriveSpan split is)

          longer : record_rows b r ≡ (newer ++ later) ++ ((row ∷ before) ++ older)
          longer = with_part (record_rows b r) newer span older later row before e split

    pub records_cut_sharply_before : RecordsCutSharplyBefore b
    records_cut_sharply_before r run newer span older e is later before row split quiet =
        sharp_last r run (length older) (length ((row ∷ before) ++ older)) row before
        (span_to_row r newer span older e is later row before split) quiet
