-- What each class of faults is found by, by the rows of records.
use Rattle.std.proofs.Common.{◌≡◌, ◌∙◌, refl, sym, ap, ap₂, ℕ, ◌+◌, ◌-◌, ◌≤◌, Bool, true, ◌&&◌, ◌||◌, List, [], ◌∷◌, ◌++◌, length, arith, Option, Some, None}
use Rattle.std.proofs.lemmas.Bool.{eq-eqb, true≢false}
use Rattle.eg_answer.specs.Times.{reaction_of, test_ticks_of}
use Rattle.eg_fault.specs.Effects.{Effects, no_effects}
use Rattle.eg_fault.specs.Faults.{effects_of, effects}
use Rattle.eg_fault.specs.declared.class.Class.{Class}
use Rattle.eg_fault.specs.declared.class.Class.TheVariants.{Path1Closed, Path2Closed}
use Rattle.eg_fault.specs.declared.class.Fault.{Fault}
use Rattle.eg_fault.specs.declared.paths.TheConstants.{PATH_1, PATH_2}
use Rattle.eg_fault.proofs.ActingLemmas.{from_onset}
use Rattle.eg_record.specs.declared.row.Row.{Row}
use Rattle.eg_model.specs.History.{Setting, Tick, Test, Moment}
use Rattle.eg_model.specs.Paths.{reads_back, latch1, latch2, path1_at, path2_at}
use Rattle.eg_model.specs.Moments.{moment_in, moments_in}
use Rattle.eg_model.specs.Rows.{row_of}
use Rattle.eg_model.specs.Premises.{Follows}
use Rattle.eg_model.specs.Engines.{BenchEngine}
use Rattle.eg_laws.specs.Coverage.{holds_closed, SpoiledOpenPath2, MovedAreCut, ClosedAreFound, FindsAnswersExactly, RecordsOpenPath2, RecordsCutMoved, RecordsFindClosed, RecordsFindAnswers}
use Rattle.eg_model.proofs.TickLemmas.{fields_in, length-moments_in}
use Rattle.eg_model.proofs.SpanRows.{rows_after, length-rows_after}
use Rattle.eg_model.proofs.RecordSpans.{SpanTo, SpanIn, span_in, kind_by}
use Rattle.eg_model.proofs.RecordLaws.{each_drive}
use Rattle.eg_laws.proofs.PathLaws.{EachRow, each_split}
use Rattle.eg_laws.proofs.CoverageLaws.{spoiled_open_path_2, find_answers}
use Rattle.eg_laws.proofs.MovedAnswers.{moved_are_cut}

-- ---- a path that is held closed ----

-- one path conducts whatever its latch
conducts_always : (class : Class) (k : ℕ) (latch_1 latch_2 : Bool) → holds_closed class ≡ true →
    ((effects_of class k).conducts PATH_1 latch_1 || (effects_of class k).conducts PATH_2 latch_2) ≡ true
unfolding holds_closed effects_of no_effects
conducts_always Path1Closed k latch_1 latch_2 holds = refl
conducts_always Path2Closed k latch_1 latch_2 holds = grind arith
conducts_always _ k latch_1 latch_2 holds = absurd (true≢false (sym holds))

module _ (s : Setting) (f : Fault) (is : s.fault ≡ Some f) (holds : holds_closed f.class ≡ true) (start : ℕ) where
  abbrev Past : List Tick → List Moment
  Past h = moments_in Test s h

  abbrev RowThen : Tick → List Tick → Row
  RowThen x h = row_of (start + length (Past h)) (moment_in Test s x.effects x.entry (Past h))

  abbrev Closed : Row → List Row → Type 0
  Closed row before = length before ≡ test_ticks_of s.cal.times → f.onset ≤ row.tick → row.found.start ≡ true

  found_closed : (x : Tick) (h : List Tick) → Follows s.fault start (x ∷ h) → Closed (RowThen x h) (rows_after start (Past h))
  unfolding row_of Follows reads_back path1_at path2_at
  found_closed x h follows place begun = (fields_in Test s x.effects x.entry (Past h)).start
      ∙ ap₂ (λ a b. a && b) (eq-eqb _ _ (sym (length-rows_after start (Past h)) ∙ place))
      (ap₂ (λ a b. a || b) (fields_in Test s x.effects x.entry (Past h)).path1 (fields_in Test s x.effects x.entry (Past h)).path2
      ∙ ap (λ (y : Effects). y.conducts PATH_1 (latch1 (Past h)) || y.conducts PATH_2 (latch2 (Past h))) now
      ∙ conducts_always f.class (start + length h - f.onset) (latch1 (Past h)) (latch2 (Past h)) holds)
    where
      now : x.effects ≡ effects_of f.class (start + length h - f.onset)
      now = follows.0 ∙ ap (λ g. effects g (start + length h)) is
          ∙ from_onset f (start + length h) (let size = length-moments_in Test s h in omega (arith, begun, size))

  all_closed : (h : List Tick) → Follows s.fault start h → EachRow Closed (rows_after start (Past h))
  unfolding EachRow rows_after moments_in Follows
  all_closed [] follows = tt
  all_closed (x ∷ h) follows = (found_closed x h follows, all_closed h follows.1)

module _ {E : Type 0} (b : BenchEngine E) where
  pub records_find_closed : RecordsFindClosed b
  records_find_closed r newer span older e is = go r.setting.fault refl
    where
      known : SpanIn b r (length older) (length (span ++ older)) Test span
      known = unfold kind_by in span_in b r newer span older e is.span true is.tests

      go : (fault : Option Fault) → r.setting.fault ≡ fault →
          ClosedAreFound fault (test_ticks_of r.setting.cal.times) (length older) span
      go None none = tt
      go (Some f) some = λ holds later before row split. each_split
          (Closed r.setting f some holds (length older)) _ later row before
          (all_closed r.setting f some holds (length older) (SpanTo b r (length (span ++ older))) known.follows)
          (sym known.rows_are ∙ split)

  pub records_open_path_2 : RecordsOpenPath2 b
  records_open_path_2 r run valid = each_drive b (SpoiledOpenPath2 r.setting.fault (reaction_of r.setting.cal.times)) r
      (λ start count span is. spoiled_open_path_2 r.setting run.accepted valid start (SpanTo b r count) is.follows)

  pub records_find_answers : RecordsFindAnswers b
  records_find_answers r run listed spares = each_drive b (FindsAnswersExactly r.setting.cal.times r.setting.fault) r
      (λ start count span is. find_answers r.setting run.accepted listed spares start (SpanTo b r count) is.follows)

  pub records_cut_moved : RecordsCutMoved b
  records_cut_moved r run = each_drive b (MovedAreCut r.setting.cal.times r.setting.fault (reaction_of r.setting.cal.times)) r
      (λ start count span is. moved_are_cut r.setting run.accepted start (SpanTo b r count) is.follows)
