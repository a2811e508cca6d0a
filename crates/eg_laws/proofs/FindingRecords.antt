-- What the watches find, by the rows of records: before the stages are off, where a test has failed, in time, and
-- where a word is flipped.
use Rattle.std.proofs.Common.{◌≡◌, ◌∙◌, refl, sym, ap, ap₂, subst, ℕ, suc, ◌+◌, ◌-◌, ◌≤◌, ◌<◌, inl, inr, Bool, true, false, ◌&&◌, ◌||◌, List, [], ◌∷◌, ◌++◌, All, length, Option, Some, None, is_some, arith}
use Rattle.std.specs.Prelude.{◌==◌, if◌then◌else◌}
use Rattle.std.specs.List.{list_any}
use Rattle.std.proofs.lemmas.Bool.{cases_Bool, or_left, or_right, or_parts, and_right, ne_eqb, eq-eqb, cases_lt, leb-false}
use Rattle.std.proofs.lemmas.Bool.Decides.{nat_tests}
use Rattle.eg_num.specs.declared.watches.Watches.{Watches}
use Rattle.eg_num.specs.Windows.{is_confirmed, is_first}
use Rattle.eg_answer.specs.Times.{test_ticks_of, reaction_of}
use Rattle.eg_plant.specs.PlantParts.{PlantParts}
use Rattle.eg_values.specs.Calibration.{IsAccepted}
use Rattle.eg_fault.specs.Effects.{Effects, no_effects}
use Rattle.eg_fault.specs.Faults.{effects_of, effects}
use Rattle.eg_fault.specs.declared.class.Class.{Class}
use Rattle.eg_fault.specs.declared.class.Class.TheVariants.{Flip}
use Rattle.eg_fault.specs.declared.class.Fault.{Fault}
use Rattle.eg_fault.proofs.ActingLemmas.{before_onset, from_onset}
use Rattle.eg_record.specs.declared.row.Row.{Row}
use Rattle.eg_record.specs.declared.watch.Watch.TheVariants.{Start}
use Rattle.eg_record.specs.Detection.{is_found}
use Rattle.eg_record.specs.Excess.{full_excess}
use Rattle.eg_record.specs.Spans.{IsTestSpan}
use Rattle.eg_model.specs.History.{Setting, Entry, Tick, Drive, Test, Moment}
use Rattle.eg_model.specs.Paths.{is_testing, reads_back}
use Rattle.eg_model.specs.Moments.{moment_in, moments_in, moments_of}
use Rattle.eg_model.specs.Spans.{span_so_far, span_kind, has_passed, kind_at, before_at, moment_at, next_after, moments}
use Rattle.eg_model.specs.Premises.{AreProper, full_excesses}
use Rattle.eg_model.specs.SharpCut.{ArePlain}
use Rattle.eg_model.specs.Engines.{BenchEngine, KeepsBenchLaws, ShowsOneLoad}
use Rattle.eg_model.specs.Bench.{Run, entry_at, moments_to, entries_to}
use Rattle.eg_model.specs.Rows.{row_of, record_rows}
use Rattle.eg_model.specs.Records.{IsRun, is_before_onset, row_at}
use Rattle.eg_laws.specs.Findings.{Finds, FindsExcessAlone, is_flip, flips_at, FindsBeforeOff, FindsFromOnset, RecordsFindSharply, RecordsFindBeforeOff, RecordsFindFailures, RecordsFindFromOnset, RecordsTellFlips}
use Rattle.eg_model.proofs.TickLemmas.{parts_of, along, Pedal, Plate, Load, Speed, found_by}
use Rattle.eg_model.proofs.SharpCutLaw.{found_sharply}
use Rattle.eg_model.proofs.SpanLemmas.{before-begins, before-goes_on, kind-goes_on, kind-next, span_so_far-next, by_ticks}
use Rattle.eg_model.proofs.SpanRows.{rows_after, SpanRows, RowAfter, bits_after, full_unnumbered, row_found}
use Rattle.eg_model.proofs.RecordTicks.{length-moments_to, row_tick, all_rows, record_rows-is}
use Rattle.eg_model.proofs.RecordSpans.{kind_by, test_part_of, with_part, SpanTo, SpanIn, span_in}
use Rattle.eg_model.proofs.RecordLaws.{each_drive, quiet_last, span_to_row}
use Rattle.eg_laws.proofs.FindingLaws.{FindsOne, finds_in_rows, find_before_off, find_from_onset}

-- ---- a start-up test that failed ----

abbrev HasFailed : List Moment → Type 0
HasFailed past = list_any (λ m. m.found.start) past ≡ true

-- a test that isn't passed at the tick at which the paths are read back fails at it
fails_now : (s : Setting) (x : Effects) (e : Entry) (before : List Moment) → length before ≡ test_ticks_of s.cal.times →
    (moment_in Test s x e before).passes ≡ false → (moment_in Test s x e before).found.start ≡ true
unfolding moment_in reads_back
fails_now s x e before now unpassed = let reads = eq-eqb _ _ now in grind arith

module _ (s : Setting) where
  -- a test span goes on behind the tick at which the paths are read back
  abbrev IsLate : List Moment → Type 0
  IsLate span = test_ticks_of s.cal.times < length span

  -- what comes before a tick of it, if that is so of the ticks before
  goes_on : (e : Entry) (h : List Entry) → kind_at e.drive (moments s h) ≡ Test → IsLate (before_at e.drive (moments s h)) →
      (span_kind (moments s h) ≡ Test → has_passed (moments s h) ≡ false → IsLate (span_so_far (moments s h)) →
      HasFailed (span_so_far (moments s h))) → HasFailed (before_at e.drive (moments s h))
  goes_on e h kind late rest = elim (cases_Bool (e.drive.reset || has_passed (moments s h))) [
    | inl begins ↦ absurd (let none = ap length (before-begins e.drive (moments s h) begins) in omega (arith, none, late))
    | inr on ↦ (let same = before-goes_on e.drive (moments s h) on in subst HasFailed (sym same)
        (rest (sym (kind-goes_on e.drive (moments s h) on) ∙ kind) (or_parts e.drive.reset _ on).1 (subst IsLate same late)))
  ]

  failed_before : (h : List Entry) → span_kind (moments s h) ≡ Test → has_passed (moments s h) ≡ false →
      IsLate (span_so_far (moments s h)) → HasFailed (span_so_far (moments s h))
  unfolding moments
  failed_before [] kind unpassed late = absurd (let none : length (span_so_far []) ≡ 0 = (unfold span_so_far in refl) in omega (arith, none, late))
  failed_before (e ∷ h) kind unpassed late = subst HasFailed (sym grown) (elim (cases_lt (test_ticks_of s.cal.times) (length before)) [
    | inr now ↦ or_left _ _ (fails (omega (arith, now, subst IsLate grown late)))
    | inl earlier ↦ or_right m.found.start _ (goes_on e h kind_is earlier (failed_before h))
  ])
    where
      past : List Moment
      past = moments s h

      m : Moment
      m = next_after s e past

      before : List Moment
      before = before_at e.drive past

      grown : span_so_far (m ∷ past) ≡ m ∷ before
      grown = span_so_far-next s e past

      kind_is : kind_at e.drive past ≡ Test
      kind_is = (unfold next_after moment_at moment_in span_kind in kind)

      m_is : m ≡ moment_in Test s (effects s.fault (length past)) e before
      m_is = unfold next_after moment_at in ap (λ k. moment_in k s (effects s.fault (length past)) e before) kind_is

      fails : length before ≡ test_ticks_of s.cal.times → m.found.start ≡ true
      fails now = ap (λ (n : Moment). n.found.start) m_is ∙ fails_now s (effects s.fault (length past)) e before now
          (ap (λ (n : Moment). n.passes) (sym m_is) ∙ (unfold has_passed in unpassed))

  -- what comes before a tick of a test span at which no test is running
  failed_at : (e : Entry) (h : List Entry) → kind_at e.drive (moments s h) ≡ Test →
      IsLate (before_at e.drive (moments s h)) → HasFailed (before_at e.drive (moments s h))
  failed_at e h kind late = goes_on e h kind late (failed_before h)

starts : (f : Watches) → f.start ≡ true → FindsOne (Start ∷ []) f
unfolding is_found
starts f found = record { watch = Start; is_one = (0, (omega arith), refl); found = found }

-- ---- a word that is flipped ----

flip_class : (class : Class) (k : ℕ) → is_some (effects_of class k).flip ≡ (is_flip class && k == 0)
unfolding effects_of no_effects is_flip
flip_class (Flip word mask) k = at_first (k == 0)
  where
    at_first : (b : Bool) → is_some {T = ℕ × ℕ} (if b then Some (word, mask) else None) ≡ b
    at_first b = grind arith
flip_class _ k = refl

flip_is : (fault : Option Fault) (t : ℕ) → is_some (effects fault t).flip ≡ flips_at fault t
unfolding flips_at
flip_is None t = unfold effects no_effects in refl
flip_is (Some fault) t = elim (cases_lt t fault.onset) [
  | inl early ↦ ap (λ (x : Effects). is_some x.flip) (before_onset fault t early) ∙ unflipped
      ∙ sym (and_right (is_flip fault.class) _ (ne_eqb t fault.onset (λ e. omega (arith, e, early))))
  | inr late ↦ ap (λ (x : Effects). is_some x.flip) (from_onset fault t late) ∙ flip_class fault.class (t - fault.onset)
      ∙ ap (λ b. is_flip fault.class && b) (none_left t fault.onset late)
]
  where
    unflipped : is_some no_effects.flip ≡ false
    unflipped = unfold no_effects in refl

    none_left : (t o : ℕ) → o ≤ t → (t - o == 0) ≡ (t == o)
    none_left t o l = grind (arith, nat_tests)

-- ---- before the onset of a fault ----

-- what is found at the tick x after these
found_after : (s : Setting) (start : ℕ) → IsAccepted s.cal → (x : Tick) (before : List Tick) → ArePlain (x ∷ before) →
    AreProper s (x ∷ before) → FindsExcessAlone s.cal.rules.torque s.cal.rules.kt s.cal.rules.threshold
    (RowAfter s start x before) (SpanRows s start before)
unfolding full_excesses rows_after moments_of moments_in found_by
found_after s start accepted x before plain proper =
    let found = found_sharply s accepted x before plain proper in
    let is = row_found s start x before in
    let bits = bits_after bit (full_unnumbered s.cal.rules.kt s.cal.rules.threshold) s start (x ∷ before) in
    record {
      torque = ap (λ w. w.torque) is ∙ found.torque ∙ sym (ap (is_first s.cal.rules.torque) bits);
      answers = λ quiet. ap (λ w. w.answers) is ∙ found.answers (sym (ap (is_confirmed s.cal.rules.torque) bits) ∙ quiet);
      mirror = ap (λ w. w.mirror) is ∙ found.mirror;
      pedal = ap (λ w. w.pedal) is ∙ found.pairs Pedal;
      plate = ap (λ w. w.plate) is ∙ found.pairs Plate;
      load = ap (λ w. w.load) is ∙ found.pairs Load;
      speed = ap (λ w. w.speed) is ∙ found.pairs Speed;
    }
  where
    bit : Row → Bool
    bit = full_excess s.cal.rules.kt s.cal.rules.threshold

module _ {E : Type 0} {b : BenchEngine E} {Keeps : PlantParts → E → Type 0} (keeps : KeepsBenchLaws b Keeps)
    (once : ShowsOneLoad b) where
  found_last : (r : Run) → IsRun r → (start count : ℕ) (row : Row) (before : List Row) →
      SpanIn b r start count Drive (row ∷ before) → is_before_onset r.setting.fault row.tick ≡ true →
      FindsExcessAlone r.setting.cal.rules.torque r.setting.cal.rules.kt r.setting.cal.rules.threshold row before
  found_last r run start count row before is quiet =
      let q = quiet_last keeps once r run start count row before is quiet in
      along (FindsExcessAlone r.setting.cal.rules.torque r.setting.cal.rules.kt r.setting.cal.rules.threshold)
      (sym (ap₂ (λ x xs. x ∷ xs) q.last.row_is q.last.before_are)) (found_after r.setting start run.accepted q.last.tick q.last.past q.plain q.proper)

  pub records_find_sharply : RecordsFindSharply b
  records_find_sharply r run newer span older e is later before row split quiet =
      found_last r run (length older) (length ((row ∷ before) ++ older)) row before
      (span_to_row keeps once r newer span older e is later row before split) quiet

-- ---- records ----

module _ {E : Type 0} (b : BenchEngine E) where
  pub records_find_before_off : RecordsFindBeforeOff b
  records_find_before_off r = each_drive b (FindsBeforeOff r.setting.fault) r
      (λ start count span is. find_before_off r.setting start (SpanTo b r count) is.follows)

  pub records_find_from_onset : RecordsFindFromOnset b
  records_find_from_onset r run valid = each_drive b (FindsFromOnset r.setting.fault (reaction_of r.setting.cal.times)) r
      (λ start count span is. find_from_onset r.setting start (SpanTo b r count) run.accepted valid is.follows)

  -- the rows of a test span before one at which no test is running
  failure_in : (r : Run) (start n : ℕ) (row : Row) (before : List Row) → SpanIn b r start (suc n) Test (row ∷ before) →
      row.testing ≡ false → Finds (Start ∷ []) before
  failure_in r start n row before is untested = subst (Finds (Start ∷ [])) (sym rest)
      (finds_in_rows (Start ∷ []) (λ f. f.start) starts start (before_at e.drive past) (failed_at s e h kind_is late))
    where
      s : Setting
      s = r.setting

      h : List Entry
      h = entries_to b r n

      past : List Moment
      past = moments s h

      e : Entry
      e = entry_at b r n (moments_to b r n)

      m : Moment
      m = next_after s e past

      entries_are : entries_to b r (suc n) ≡ e ∷ h
      entries_are = unfold entries_to in refl

      kind_is : kind_at e.drive past ≡ Test
      kind_is = sym (kind-next s e h) ∙ ap (λ g. span_kind (moments s g)) (sym entries_are) ∙ is.kind_is

      moments_are : moments s (e ∷ h) ≡ m ∷ past
      moments_are = unfold moments in refl

      rows_are : row ∷ before ≡ rows_after start (span_so_far (m ∷ past))
      rows_are = is.rows_are ∙ ap (λ kind. rows_after start (moments_in kind s (SpanTo b r (suc n)))) (sym is.kind_is)
          ∙ ap (rows_after start) (sym (by_ticks s (entries_to b r (suc n))))
          ∙ ap (λ g. rows_after start (span_so_far (moments s g))) entries_are ∙ ap (λ ms. rows_after start (span_so_far ms)) moments_are

      one_more : rows_after start (m ∷ before_at e.drive past) ≡ row_of (start + length (before_at e.drive past)) m ∷ rows_after start (before_at e.drive past)
      one_more = unfold rows_after in refl

      parted : row ∷ before ≡ row_of (start + length (before_at e.drive past)) m ∷ rows_after start (before_at e.drive past)
      parted = rows_are ∙ ap (rows_after start) (span_so_far-next s e past) ∙ one_more

      rest : before ≡ rows_after start (before_at e.drive past)
      rest = (parts_of parted).1

      told : m.testing ≡ is_testing (kind_at e.drive past) s.cal.times (length (before_at e.drive past))
      told = unfold next_after moment_at moment_in in refl

      tells : (row_of (start + length (before_at e.drive past)) m).testing ≡ m.testing
      tells = unfold row_of in refl

      tested : is_testing Test s.cal.times (length (before_at e.drive past)) ≡ false
      tested = ap (λ kind. is_testing kind s.cal.times (length (before_at e.drive past))) (sym kind_is) ∙ sym told ∙ sym tells
          ∙ ap (λ (r : Row). r.testing) (sym (parts_of parted).0)
          ∙ untested

      late : test_ticks_of s.cal.times < length (before_at e.drive past)
      late = leb-false _ _ (unfold is_testing in tested)

  pub records_find_failures : RecordsFindFailures b
  records_find_failures r newer span older e is later before row split untested =
      failure_in r (length older) (length (before ++ older)) row before
      (unfold kind_by in span_in b r (newer ++ later) (row ∷ before) older longer part.span true part.tests) untested
    where
      part : IsTestSpan (row ∷ before)
      part = test_part_of later row before (subst IsTestSpan split is)

      longer : record_rows b r ≡ (newer ++ later) ++ ((row ∷ before) ++ older)
      longer = with_part (record_rows b r) newer span older later row before e split

  pub records_tell_flips : RecordsTellFlips b
  records_tell_flips r = subst (All Tells) (sym (record_rows-is b r)) (all_rows b Tells r (length r.drive) (λ t l. tells t))
    where
      Tells : Row → Type 0
      Tells row = row.found.mirror ≡ flips_at r.setting.fault row.tick

      mirror_is : (t : ℕ) → (row_at b r t).found.mirror ≡ is_some (effects r.setting.fault (length (moments_to b r t))).flip
      mirror_is t = unfold row_at row_of next_after moment_at moment_in in refl

      tells : (t : ℕ) → Tells (row_at b r t)
      tells t = mirror_is t ∙ ap (λ n. is_some (effects r.setting.fault n).flip) (length-moments_to b r t)
          ∙ flip_is r.setting.fault t ∙ ap (flips_at r.setting.fault) (sym (row_tick b r t))
