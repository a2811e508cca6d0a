-- What is told of a run keeps the limits of its calibration: the longest stretch by the law of each span, and the
-- peak by that of each row.
use Rattle.std.proofs.Common.{◌≡◌, ◌∙◌, ℕ, ◌+◌, ◌≤◌, inl, inr, Bool, true, false, List, [], ◌∷◌, ◌++◌, All, length, refl, sym, ap, subst, arith, append_assoc}
use Rattle.std.specs.Prelude.{if◌then◌else◌}
use Rattle.std.proofs.lemmas.Bool.{cases_Bool, le-ltb}
use Rattle.std.proofs.lemmas.List.Elements.{All-nil, All-cons, All-head, All-tail}
use Rattle.eg_num.specs.Windows.{greatest_of}
use Rattle.eg_answer.specs.Times.{test_ticks_of}
use Rattle.eg_plant.specs.declared.engine_kind.EngineKind.{EngineKind}
use Rattle.eg_torque.specs.Excess.{is_excess}
use Rattle.eg_values.specs.Excess.{ticks_to_confirm, longest_stretch}
use Rattle.eg_fault.specs.Faults.{IsNoneOrValid}
use Rattle.eg_record.specs.declared.row.Row.{Row}
use Rattle.eg_record.specs.Excess.{true_excess, lasting, stretch_of}
use Rattle.eg_record.specs.Facts.{facts_of}
use Rattle.eg_record.specs.Spans.{this_span, spans_of, EachDriveSpan, EachTestSpan}
use Rattle.eg_record.proofs.SpanLemmas.{this_span-span}
use Rattle.eg_record.proofs.StretchLemmas.{stretch_of-more}
use Rattle.eg_model.specs.Engines.{BenchEngine, state_of, bench_of}
use Rattle.eg_model.specs.Bench.{Run}
use Rattle.eg_model.specs.Rows.{record_rows}
use Rattle.eg_model.specs.Records.{IsRun, AreOff}
use Rattle.eg_laws.proofs.FindingReports.{FirstBegins, first_begins, SpanOf, span_of}
use Rattle.eg_laws.proofs.InTimeLaws.{spans_in_time, records_react_in_time}
use Rattle.eg_laws.proofs.MissedTickRecords.{records_cut_misses}
use Rattle.eg_laws.proofs.KindLaws.{keeps_of}
use Rattle.eg_model.proofs.PowerCycleLaws.{records_begin_in_turn}
use Rattle.eg_model.proofs.RecordLaws.{records_test_unpowered}
use Rattle.eg_laws.proofs.ShowingLaws.{records_show_runs}
use Rattle.eg_laws.specs.Stretches.{AllExcess, RowsEndStretches}
use Rattle.eg_laws.specs.Limits.{RecordsKeepLimits}
use Rattle.eg_laws.proofs.PeakLaws.{all_below}
use Rattle.eg_laws.proofs.StretchLaws.{at_once_always}
use Rattle.eg_laws.proofs.StretchRows.{records_end_stretches, records_end_stretches_at_once}

-- ---- the rows with an excess up to the last one ----

-- of these rows the last ones have an excess, as many as last
pub record Lasting (threshold : ℕ) (rows : List Row) : Type 0 where
  pub stretch : List Row
  pub before : List Row
  pub is : rows ≡ stretch ++ before
  pub excess : AllExcess threshold stretch
  pub size : lasting threshold rows ≡ length stretch

module _ (t : ℕ) where
  none_lasts : (rows : List Row) → lasting t rows ≡ 0 → Lasting t rows
  none_lasts rows none = record {
    stretch = [];
    before = rows;
    is = refl;
    excess = All-nil (λ row. true_excess t row ≡ true);
    size = none;
  }

  pub lasting_rows : (rows : List Row) → Lasting t rows
  unfolding lasting
  lasting_rows [] = none_lasts [] refl
  lasting_rows (row ∷ before) = elim (cases_Bool (true_excess t row)) [
    | inl bad ↦ (let earlier = lasting_rows before in
        let size = earlier.size in
        let one : lasting t (row ∷ before) ≡ lasting t before + 1 = ap (λ b. if b then lasting t before + 1 else 0) bad in
        record {
          stretch = row ∷ earlier.stretch;
          before = earlier.before;
          is = ap (λ rows. row ∷ rows) earlier.is;
          excess = All-cons (λ r. true_excess t r ≡ true) row earlier.stretch bad earlier.excess;
          size = omega (arith, size, one);
        })
    | inr good ↦ none_lasts (row ∷ before) (ap (λ b. if b then lasting t before + 1 else 0) good)
  ]

  -- where stretches end in a span, no more rows last
  lasting-ends : (longest start : ℕ) (span : List Row) → RowsEndStretches t longest start span → lasting t span ≤ longest
  lasting-ends longest start span ends =
      let last = lasting_rows span in
      let few = ends [] last.stretch last.before last.is last.excess in
      let size = last.size in
      omega (arith, few, size)

  -- none last where the stages are off, as there is no torque then
  lasting-off : (row : Row) (before : List Row) → row.torque ≡ 0 → lasting t (row ∷ before) ≡ 0
  unfolding lasting true_excess is_excess
  lasting-off row before none = ap (λ b. if b then lasting t before + 1 else 0) (le-ltb (row.limit + t) row.torque (omega (arith, none)))

-- ---- the longest stretch of some rows ----

stretch_of-none : (t : ℕ) → stretch_of t [] ≡ 0
unfolding stretch_of spans_of greatest_of
stretch_of-none t = refl

abbrev HasNoTorque : Row → Type 0
HasNoTorque row = row.on ≡ false → row.torque ≡ 0

-- Of rows of which the earliest begins a span, whose stretches end in each drive span, and at which the stages are
-- off in each test span.
module _ (t longest : ℕ) (whole : List Row) (first : FirstBegins whole) (drives : EachDriveSpan (RowsEndStretches t longest) whole)
    (tests : EachTestSpan AreOff whole) where
  -- in the span of a row
  up_to : (newer : List Row) (row : Row) (older : List Row) → whole ≡ newer ++ (row ∷ older) → HasNoTorque row →
      lasting t (this_span (row ∷ older)) ≤ longest
  up_to newer row older e dry = subst (λ span. lasting t span ≤ longest) (sym here) (by_kind s.span.first.testing refl)
    where
      s : SpanOf row older
      s = span_of row older (λ later begin is. first (newer ++ later) begin
          (e ∙ ap (λ rows. newer ++ rows) is ∙ sym (append_assoc newer later (begin ∷ []))))

      parts : row ∷ older ≡ (row ∷ s.before) ++ s.rest
      parts = ap (λ rows. row ∷ rows) s.is

      here : this_span (row ∷ older) ≡ row ∷ s.before
      here = ap this_span parts ∙ this_span-span (row ∷ s.before) s.rest s.span

      at : whole ≡ newer ++ ((row ∷ s.before) ++ s.rest)
      at = e ∙ ap (λ rows. newer ++ rows) parts

      by_kind : (b : Bool) → s.span.first.testing ≡ b → lasting t (row ∷ s.before) ≤ longest
      by_kind true tested =
          let off = All-head (λ r. r.on ≡ false) row s.before
          (tests newer (row ∷ s.before) s.rest at (record { span = s.span; tests = tested })) in
          let none = lasting-off t row s.before (dry off) in
          omega (arith, none)
      by_kind false driven = lasting-ends t longest (length s.rest) (row ∷ s.before)
          (drives newer (row ∷ s.before) s.rest at (record { span = s.span; drives = driven }))

  all_end : (newer rows : List Row) → whole ≡ newer ++ rows → All HasNoTorque rows → stretch_of t rows ≤ longest
  all_end newer [] e dry = let none = stretch_of-none t in omega (arith, none)
  all_end newer (row ∷ before) e dry =
      let more = stretch_of-more t row before in
      let here = up_to newer row before e (All-head HasNoTorque row before dry) in
      let earlier = all_end (newer ++ row ∷ []) before (e ∙ sym (append_assoc newer (row ∷ []) before)) (All-tail HasNoTorque row before dry) in
      omega (arith, more, here, earlier)

-- ---- each record ----

module _ (engine : EngineKind) where
  abbrev b : BenchEngine (state_of engine)
  b = bench_of engine

  stretch_within : (r : Run) → IsRun r → IsNoneOrValid r.setting.fault → (longest : ℕ) →
      EachDriveSpan (RowsEndStretches r.setting.cal.rules.threshold longest) (record_rows b r) →
      stretch_of r.setting.cal.rules.threshold (record_rows b r) ≤ longest
  stretch_within r run valid longest ends = all_end r.setting.cal.rules.threshold longest (record_rows b r)
      (first_begins (test_ticks_of r.setting.cal.times) (record_rows b r) (records_begin_in_turn b r)) ends
      (records_test_unpowered b r) [] (record_rows b r) refl (records_show_runs (keeps_of engine) r run valid).no_torque

  pub records_keep_limits : RecordsKeepLimits (bench_of engine)
  unfolding facts_of
  records_keep_limits r run valid = record {
    reaction = records_react_in_time (keeps_of engine) r run;
    stretch = λ listed. stretch_within r run valid (longest_stretch r.setting.cal)
        (records_end_stretches (keeps_of engine) r run listed);
    at_once = λ listed always. stretch_within r run valid (ticks_to_confirm r.setting.cal)
        (λ newer span older e is later stretch before parts.
        records_end_stretches_at_once (keeps_of engine) r run listed newer span older e is later stretch before parts
        (at_once_always r.setting.fault always _ _ _));
    misses = λ keeps. (
      spans_in_time (bench_of engine) r (λ newer span older e is.
          (records_cut_misses (keeps_of engine) r run valid keeps newer span older e is).reacts),
      stretch_within r run valid (longest_stretch r.setting.cal) (λ newer span older e is.
          (records_cut_misses (keeps_of engine) r run valid keeps newer span older e is).stretches),
    );
    peak =
        let shows = records_show_runs (keeps_of engine) r run valid in
        let below = all_below engine r.setting run.accepted (record_rows b r) shows.engine shows.permitted in
        omega (arith, below);
  }
