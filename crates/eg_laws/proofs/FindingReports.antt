-- What the report names before the stages are off, by the laws of spans: each row stands in a drive span or in a
-- test span.
use Rattle.std.proofs.Common.{◌≡◌, ◌∙◌, refl, sym, ap, subst, ℕ, zero, suc, ◌≤◌, ◌<◌, ◌⊎◌, inl, inr, Bool, true, false, List, [], ◌∷◌, ◌++◌, length, append_assoc, Option, Some, None, arith}
use Rattle.std.specs.Prelude.{IsTrue, Contains}
use Rattle.std.proofs.lemmas.Bool.{cases_Bool, cases_lt}
use Rattle.std.proofs.lemmas.Option.{none-some}
use Rattle.std.proofs.lemmas.List.Elements.{All-nil, All-cons, All-contains, Contains-append_left, Contains-append_right}
use Rattle.eg_fault.specs.declared.class.Fault.{Fault}
use Rattle.eg_answer.specs.Times.{test_ticks_of}
use Rattle.eg_record.specs.declared.row.Row.{Row}
use Rattle.eg_record.specs.declared.watch.Watch.{Watch}
use Rattle.eg_record.specs.declared.watch.Watch.TheVariants.{Start}
use Rattle.eg_record.specs.Rows.{AreRows}
use Rattle.eg_record.specs.Detection.{is_found, first_detection, FindsNothing, IsFirstDetection}
use Rattle.eg_record.specs.Stages.{first_off, IsOffFirst}
use Rattle.eg_record.specs.Spans.{IsSpan, EachDriveSpan, EachTestSpan}
use Rattle.eg_record.specs.Summaries.{summary_of}
use Rattle.eg_record.proofs.GivenLemmas.{AreRows-ticks, Contains-tail}
use Rattle.eg_record.proofs.LawLemmas.{detection_law, off_law}
use Rattle.eg_model.specs.PowerCycles.{SpansBeginInTurn, BeginsInTurn}
use Rattle.eg_model.specs.Engines.{BenchEngine}
use Rattle.eg_model.specs.Bench.{Run}
use Rattle.eg_model.specs.Rows.{record_rows, report_of}
use Rattle.eg_laws.specs.Findings.{cutting, Finds, opens_by_itself, FindsBeforeOff, FindsFailure, IsNamedBefore, ReportsNameWhatCuts}
use Rattle.eg_model.proofs.PowerCycleLaws.{records_begin_in_turn}
use Rattle.eg_model.proofs.WholeRecord.{are_rows}
use Rattle.eg_laws.proofs.FindingRecords.{records_find_before_off, records_find_failures}

-- ---- the span of a row ----

-- the earliest of these rows begins a span
abbrev pub FirstBegins : List Row → Type 0
FirstBegins rows = (newer : List Row) (first : Row) → rows ≡ newer ++ first ∷ [] → first.fresh ≡ true

pub first_begins : (read_back : ℕ) (rows : List Row) → SpansBeginInTurn read_back rows → FirstBegins rows
first_begins read_back rows turns newer first is =
    let begins : BeginsInTurn read_back first [] = turns newer first [] is in
    elim (cases_Bool first.drive.reset) [
      | inl reset ↦ (begins.resets reset).fresh
      | inr goes_on ↦ (begins.first goes_on refl).fresh
    ]

-- a row and those before it begin with a span, or its part up to that row
pub record SpanOf (row : Row) (older : List Row) : Type 0 where
  pub before : List Row
  pub rest : List Row
  pub is : older ≡ before ++ rest
  pub span : IsSpan (row ∷ before)

alone : (row : Row) (older : List Row) → row.fresh ≡ true → SpanOf row older
alone row older fresh = record {
  before = [];
  rest = older;
  is = refl;
  span = record { later = []; first = row; is = refl; begins = fresh; goes_on = All-nil (λ r. r.fresh ≡ false) };
}

longer : (row other : Row) (older : List Row) → row.fresh ≡ false → SpanOf other older → SpanOf row (other ∷ older)
longer row other older later s = record {
  before = other ∷ s.before;
  rest = s.rest;
  is = ap (λ rows. other ∷ rows) s.is;
  span = record {
    later = row ∷ s.span.later;
    first = s.span.first;
    is = ap (λ rows. row ∷ rows) s.span.is;
    begins = s.span.begins;
    goes_on = All-cons (λ r. r.fresh ≡ false) row s.span.later later s.span.goes_on;
  };
}

pub span_of : (row : Row) (older : List Row) → FirstBegins (row ∷ older) → SpanOf row older
span_of row [] first = alone row [] (first [] row refl)
span_of row (other ∷ older) first = elim (cases_Bool row.fresh) [
  | inl fresh ↦ alone row (other ∷ older) fresh
  | inr later ↦ longer row other older later
      (span_of other older (λ newer begin is. first (row ∷ newer) begin (ap (λ rows. row ∷ rows) is)))
]

-- ---- where the stages are off, a watch was found before ----

-- a watch is found at one of these rows
record FindsAny (rows : List Row) : Type 0 where
  pub row : Row
  pub stands : Contains rows row
  pub watch : Watch
  pub found : IsTrue (is_found row.found watch)

any_of : (which : List Watch) (before rest : List Row) → Finds which before → FindsAny (before ++ rest)
any_of which before rest f = record {
  row = f.row;
  stands = Contains-append_left before rest f.row f.stands;
  watch = f.watch;
  found = f.found;
}

module _ (fault : Option Fault) (rows : List Row) (first : FirstBegins rows) (drives : EachDriveSpan (FindsBeforeOff fault) rows)
    (tests : EachTestSpan FindsFailure rows) where
  found_before : (newer : List Row) (row : Row) (older : List Row) → rows ≡ newer ++ row ∷ older → row.on ≡ false →
      row.testing ≡ false → opens_by_itself fault row.tick ≡ false → FindsAny older
  found_before newer row older e off untested spared = subst FindsAny (sym s.is) (by_kind s.span.first.testing refl)
    where
      s : SpanOf row older
      s = span_of row older (λ later begin is. first (newer ++ later) begin
          (e ∙ ap (λ rows. newer ++ rows) is ∙ sym (append_assoc newer later (begin ∷ []))))

      whole : rows ≡ newer ++ ((row ∷ s.before) ++ s.rest)
      whole = e ∙ ap (λ rows. newer ++ (row ∷ rows)) s.is

      by_kind : (b : Bool) → s.span.first.testing ≡ b → FindsAny (s.before ++ s.rest)
      by_kind true tested = any_of (Start ∷ []) s.before s.rest
          (tests newer (row ∷ s.before) s.rest whole (record { span = s.span; tests = tested }) [] s.before row refl untested)
      by_kind false driven = any_of cutting s.before s.rest
          (drives newer (row ∷ s.before) s.rest whole (record { span = s.span; drives = driven }) [] s.before row refl off spared)

-- ---- the first detection ----

-- a row of these, with those before it
record PlaceOf (rows : List Row) (row : Row) : Type 0 where
  pub newer : List Row
  pub older : List Row
  pub is : rows ≡ newer ++ row ∷ older

place_of : (rows : List Row) (row : Row) → Contains rows row → PlaceOf rows row
place_of [] row (k, below, same) = absurd (omega (arith, below))
place_of (other ∷ rows) row (zero, below, same) = record { newer = []; older = rows; is = ap (λ r. r ∷ rows) same }
place_of (other ∷ rows) row (suc k, below, same) = further (place_of rows row (k, (omega (arith, below)), same))
  where
    further : PlaceOf rows row → PlaceOf (other ∷ rows) row
    further p = record { newer = other ∷ p.newer; older = p.older; is = ap (λ rows. other ∷ rows) p.is }

pub rows_behind : (newer rows : List Row) → AreRows (newer ++ rows) → AreRows rows
rows_behind [] rows are = are
rows_behind (row ∷ newer) rows are = rows_behind newer rows are.1

-- a watch that was found before a tick is first detected before it
detected_before : (rows newer : List Row) (row : Row) (older : List Row) → AreRows rows → rows ≡ newer ++ row ∷ older → FindsAny older →
    IsNamedBefore row.tick (first_detection rows)
detected_before rows newer row older whole e any = go (first_detection rows) refl
  where
    parts : (row.tick ≡ length older) × AreRows older
    parts = rows_behind newer (row ∷ older) (subst AreRows e whole)

    early : any.row.tick < row.tick
    early = let l = All-contains (λ r. r.tick < length older) older any.row (AreRows-ticks older parts.1) any.stands in
        let at = parts.0 in omega (arith, l, at)

    stands : Contains rows any.row
    stands = subst (λ all. Contains all any.row) (sym e)
        (Contains-append_right newer (row ∷ older) any.row (Contains-tail row older any.row any.stands))

    law : (d : Option (Watch × ℕ)) → first_detection rows ≡ d → IsFirstDetection rows d
    law d is = (detection_law rows whole d).1 (sym is)

    go : (d : Option (Watch × ℕ)) → first_detection rows ≡ d → IsNamedBefore row.tick (first_detection rows)
    go None is = absurd (All-contains FindsNothing rows any.row (law None is) stands any.watch any.found)
    go (Some d) is = record { detection = d; is = is; earlier = in_time (law (Some d) is) (cases_lt d.1 row.tick) }
      where
        in_time : IsFirstDetection rows (Some d) → (d.1 < row.tick) ⊎ (row.tick ≤ d.1) → d.1 < row.tick
        in_time first (inl l) = l
        in_time first (inr l) = absurd (All-contains (λ other. other.tick < d.1 → FindsNothing other) rows any.row
            first.none_earlier stands (omega (arith, early, l)) any.watch any.found)

-- ---- reports ----

module _ {E : Type 0} (b : BenchEngine E) where
  named_by : (r : Run) (tick : ℕ) → first_off (record_rows b r) ≡ Some tick → opens_by_itself r.setting.fault tick ≡ false →
      IsNamedBefore tick (first_detection (record_rows b r))
  named_by r tick off spared = at_row ((off_law rows (are_rows b r) (Some tick)).1 (sym off))
    where
      rows : List Row
      rows = record_rows b r

      at_place : (row : Row) → row.on ≡ false → row.testing ≡ false → opens_by_itself r.setting.fault row.tick ≡ false →
          PlaceOf rows row → IsNamedBefore row.tick (first_detection rows)
      at_place row out untested quiet p = detected_before rows p.newer row p.older (are_rows b r) p.is
          (found_before r.setting.fault rows (first_begins (test_ticks_of r.setting.cal.times) rows (records_begin_in_turn b r)) (records_find_before_off b r)
          (records_find_failures b r) p.newer row p.older p.is out untested quiet)

      at_row : IsOffFirst rows tick → IsNamedBefore tick (first_detection rows)
      at_row o = subst (λ t. IsNamedBefore t (first_detection rows)) o.at_tick
          (at_place o.row o.off o.untested (subst (λ t. opens_by_itself r.setting.fault t ≡ false) (sym o.at_tick) spared)
          (place_of rows o.row o.stands))

  pub reports_name_what_cuts : ReportsNameWhatCuts b
  unfolding report_of summary_of
  reports_name_what_cuts r name = record {
    named = named_by r;
    unnamed = λ tick none off. elim (cases_Bool (opens_by_itself r.setting.fault tick)) [
      | inl opens ↦ opens
      | inr spared ↦ absurd (let n = named_by r tick off spared in none-some n.detection (sym none ∙ n.is))
    ];
  }
