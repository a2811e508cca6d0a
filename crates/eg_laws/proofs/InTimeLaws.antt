-- The longest reaction that is told of a run, by the law of each span: first of any rows, then of each record.
use Rattle.std.proofs.Common.{◌≡◌, ◌∙◌, refl, sym, ap, ap₂, subst, ℕ, ◌+◌, ◌-◌, ◌≤◌, ◌<◌, ◌⊎◌, inl, inr, Bool, true, false, List, [], ◌∷◌, ◌++◌, map, min, length, append_assoc, length-append, Option, Some, None, arith}
use Rattle.std.specs.Prelude.{if◌then◌else◌, is_some, nat_lt, option_map}
use Rattle.std.specs.Option.{option_or}
use Rattle.std.specs.List.{All}
use Rattle.std.proofs.lemmas.Bool.{cases_lt, false≢true, true≢false, cases_Bool, lt-ltb, leb-true, le-leb}
use Rattle.std.proofs.lemmas.List.{length-map}
use Rattle.std.proofs.lemmas.List.Elements.{All-head, All-tail, All-weaker}
use Rattle.eg_num.specs.Windows.{WeightParts, is_confirmed, first_index}
use Rattle.eg_num.proofs.FirstIndexLemmas.{first_index_within}
use Rattle.eg_answer.specs.Times.{reaction_of, test_ticks_of}
use Rattle.eg_plant.specs.PlantParts.{PlantParts}
use Rattle.eg_record.specs.declared.row.Row.{Row}
use Rattle.eg_record.specs.declared.reactions.Reactions.{Reactions}
use Rattle.eg_record.specs.Rows.{AreRows}
use Rattle.eg_record.specs.Excess.{true_excess}
use Rattle.eg_record.specs.Stages.{last_on}
use Rattle.eg_record.specs.Spans.{IsSpan, EachDriveSpan, EachTestSpan, in_last, spans_of}
use Rattle.eg_record.specs.Facts.{off_from, reaction_by}
use Rattle.eg_record.specs.Reactions.{confirmed_in, end_of, reaction_in_span, followed_in, greater, less, no_reactions, combined, reactions_in, reactions_of_spans, reactions_of, settled_by, is_settled}
use Rattle.eg_record.proofs.SpanLemmas.{span-not_nil, span-begins, span-goes_on}
use Rattle.eg_record.proofs.ExcessLemmas.{first_index-now}
use Rattle.eg_record.proofs.LastOnLemmas.{last_on-on, last_on-off}
use Rattle.eg_model.specs.Engines.{BenchEngine, KeepsBenchLaws}
use Rattle.eg_model.specs.Bench.{Run}
use Rattle.eg_model.specs.Rows.{record_rows}
use Rattle.eg_model.specs.Records.{ReactWithin, AreOff}
use Rattle.eg_laws.specs.InTime.{IsWithin, IsInTime, RecordsReactInTime}
use Rattle.eg_model.proofs.RecordLaws.{records_react, records_test_unpowered}
use Rattle.eg_model.proofs.PowerCycleLaws.{records_begin_in_turn}
use Rattle.eg_model.proofs.WholeRecord.{are_rows}
use Rattle.eg_laws.proofs.FindingReports.{rows_behind, FirstBegins, first_begins}

-- ---- what is told of two ----

-- the law of one span, over plain numbers
abbrev InTime : (bound : ℕ) → (longest followed : Option ℕ) → Type 0
InTime bound longest followed =
    IsWithin bound longest
    × (settled_by bound followed ≡ true → (ticks : ℕ) → followed ≡ Some ticks → is_some longest ≡ true)

in_time : (bound : ℕ) (r : Reactions) → InTime bound r.longest r.followed → IsInTime bound r
unfolding is_settled
in_time bound r is = record { within = is.0; told = is.1 }

greater_within : (bound : ℕ) (a b : Option ℕ) → IsWithin bound a → IsWithin bound b → IsWithin bound (greater a b)
unfolding greater
greater_within bound None b first second = second
greater_within bound (Some n) None first second = first
greater_within bound (Some n) (Some m) first second = omega arith

greater_some-left : (a b : Option ℕ) → is_some a ≡ true → is_some (greater a b) ≡ true
unfolding greater
greater_some-left None b some = absurd (false≢true some)
greater_some-left (Some n) None some = refl
greater_some-left (Some n) (Some m) some = refl

greater_some-right : (a b : Option ℕ) → is_some b ≡ true → is_some (greater a b) ≡ true
unfolding greater
greater_some-right None b some = some
greater_some-right (Some n) None some = refl
greater_some-right (Some n) (Some m) some = refl

both_in_time : (bound : ℕ) (one other : Option ℕ) (first second : Option ℕ) → InTime bound one first → InTime bound other second →
    InTime bound (greater one other) (less first second)
unfolding less settled_by
both_in_time bound one other None None a b = (greater_within bound one other a.0 b.0, λ settled ticks is. absurd cc)
both_in_time bound one other None (Some m) a b = (
  greater_within bound one other a.0 b.0,
  λ settled ticks is. greater_some-right one other (b.1 settled m refl),
)
both_in_time bound one other (Some n) None a b = (
  greater_within bound one other a.0 b.0,
  λ settled ticks is. greater_some-left one other (a.1 settled n refl),
)
both_in_time bound one other (Some n) (Some m) a b = (
  greater_within bound one other a.0 b.0,
  λ settled ticks is. greater_some-left one other
      (a.1 (le-leb bound n (let low = leb-true bound (min n m) settled in omega arith)) n refl),
)

-- ---- what is told of one ----

-- by the last tick with the stages on, the tick by which the excess is confirmed, and the end of the span
one_in_time : (bound end : ℕ) (last confirmed : Option ℕ) →
    ((c : ℕ) → confirmed ≡ Some c → (off_from last ≤ c + bound) × (c < end)) →
    InTime bound (reaction_by last confirmed end) (option_map (λ c. end - (c + 1)) confirmed)
unfolding settled_by
one_in_time bound end last None off = go (nat_lt (off_from last) end)
  where
    go : (b : Bool) → InTime bound (if b then None else None) None
    go true = (tt, λ settled ticks is. absurd cc)
    go false = (tt, λ settled ticks is. absurd cc)
one_in_time bound end last (Some c) off = go (nat_lt (off_from last) end) refl (off c refl).0 (off c refl).1
  where
    go : (b : Bool) → nat_lt (off_from last) end ≡ b → off_from last ≤ c + bound → c < end →
        InTime bound (if b then Some (off_from last - c) else None) (Some (end - (c + 1)))
    go true is off early = (omega arith, λ settled ticks same. refl)
    go false is off early = (
      tt,
      λ settled ticks same. absurd (let follows = leb-true bound (end - (c + 1)) settled in
          let less : nat_lt (off_from last) end ≡ true = lt-ltb (off_from last) end (omega arith) in
          true≢false (sym less ∙ is)),
    )

-- ---- a span by its rows ----

-- where the stages are off from a tick on, they are last on before it
off_from-below : (n : ℕ) (rows : List Row) → All (λ row. n ≤ row.tick → row.on ≡ false) rows → off_from (last_on rows) ≤ n
unfolding off_from
off_from-below n [] off = unfold last_on in omega arith
off_from-below n (row ∷ before) off = elim (cases_Bool row.on) [
  | inl on ↦ subst (λ last. off_from last ≤ n) (sym (last_on-on row before on)) (early on (cases_lt row.tick n))
  | inr is ↦ subst (λ last. off_from last ≤ n) (sym (last_on-off row before is))
      (off_from-below n before (All-tail (λ r. n ≤ r.tick → r.on ≡ false) row before off))
]
  where
    early : row.on ≡ true → (row.tick < n) ⊎ (n ≤ row.tick) → off_from (Some row.tick) ≤ n
    early on (inr late) = absurd (let is = All-head (λ r. n ≤ r.tick → r.on ≡ false) row before off late in
        true≢false (sym on ∙ is))
    early on (inl less) = omega (arith, less)

-- the tick by which the excess is confirmed is the first place, counted from the begin of the span
module _ (w : WeightParts) (threshold : ℕ) where
  confirmed_in-place : (span older : List Row) → AreRows (span ++ older) →
      confirmed_in w threshold span ≡ option_map (λ c. length older + c) (first_index w (map (true_excess threshold) span))
  unfolding confirmed_in
  confirmed_in-place [] older are = unfold first_index in refl
  confirmed_in-place (row ∷ before) older are =
      ap₂ (λ earlier (t : ℕ). option_or earlier (if is_confirmed w (map (true_excess threshold) (row ∷ before)) then Some t else None))
      (confirmed_in-place before older are.1)
      (are.0 ∙ length-append before older ∙ turned (length before) (length older)
      ∙ ap (λ n. length older + n) (sym (length-map before (true_excess threshold))))
      ∙ pushed (length older) (first_index w (map (true_excess threshold) before)) (length (map (true_excess threshold) before))
      (is_confirmed w (map (true_excess threshold) (row ∷ before)))
      ∙ ap (option_map (λ c. length older + c)) (first_index-now w (true_excess threshold row) (map (true_excess threshold) before))
    where
      turned : (a b : ℕ) → a + b ≡ b + a
      turned a b = omega arith

      pushed : (start : ℕ) (place : Option ℕ) (n : ℕ) (b : Bool) →
          option_or (option_map (λ c. start + c) place) (if b then Some (start + n) else None)
          ≡ option_map (λ c. start + c) (option_or place (if b then Some n else None))
      pushed start None n true = refl
      pushed start None n false = refl
      pushed start (Some c) n b = refl

  end_is : (span older : List Row) → AreRows (span ++ older) → IsSpan span → end_of span ≡ length older + length span
  unfolding end_of
  end_is [] older are is = absurd (span-not_nil is)
  end_is (row ∷ before) older are is = let at = are.0 ∙ length-append before older in omega arith

  -- a span in which the stages are off from `bound` ticks after the excess is confirmed
  span_in_time : (bound : ℕ) (span older : List Row) → AreRows (span ++ older) → IsSpan span →
      ReactWithin bound w threshold (length older) span → IsInTime bound (reactions_in w threshold span)
  unfolding reactions_in reaction_in_span followed_in
  span_in_time bound span older are is react = in_time bound (reactions_in w threshold span)
      (one_in_time bound (end_of span) (last_on span) (confirmed_in w threshold span)
      (λ c confirmed. placed c (first_index w bits) refl (sym (confirmed_in-place span older are) ∙ confirmed)))
    where
      bits : List Bool
      bits = map (true_excess threshold) span

      some_same : (a b : ℕ) → Some a ≡ Some b → a ≡ b
      some_same a b e = cc

      placed : (c : ℕ) (place : Option ℕ) → first_index w bits ≡ place → option_map (λ k. length older + k) place ≡ Some c →
          (off_from (last_on span) ≤ c + bound) × (c < end_of span)
      placed c None is_none e = absurd cc
      placed c (Some k) first e =
          let at = some_same (length older + k) c e in
          let off = off_from-below (length older + k + bound) span (react k first) in
          let within = first_index_within w bits k first in
          let long = length-map span (true_excess threshold) in
          let end = end_is span older are is in
          (omega (arith, at, off), omega (arith, at, within, long, end))

  -- ---- all spans of some rows ----

  module _ (bound : ℕ) (whole : List Row) (are : AreRows whole)
      (first : (newer : List Row) (begin : Row) → whole ≡ newer ++ begin ∷ [] → begin.fresh ≡ true)
      (each : (newer span older : List Row) → whole ≡ newer ++ (span ++ older) → IsSpan span →
      ReactWithin bound w threshold (length older) span) where
    -- the last span of the rows up to some row, and what is told of those before it
    record Parted (rows : List Row) : Type 0 where
      pub span : List Row
      pub older : List Row
      pub spans_are : spans_of rows ≡ span ∷ spans_of older
      pub rows_are : rows ≡ span ++ older
      pub is : IsSpan span
      pub earlier : IsInTime bound (reactions_of_spans w threshold (spans_of older))

    nothing_told : IsInTime bound (reactions_of_spans w threshold (spans_of []))
    unfolding spans_of reactions_of_spans no_reactions
    nothing_told = in_time bound no_reactions (tt, λ settled ticks is. absurd cc)

    plain : (r : Reactions) → IsInTime bound r → InTime bound r.longest r.followed
    unfolding is_settled
    plain r is = (is.within, is.told)

    told_of : (newer rows : List Row) → whole ≡ newer ++ rows → Parted rows →
        IsInTime bound (reactions_of_spans w threshold (spans_of rows))
    unfolding reactions_of_spans combined
    told_of newer rows e p = subst (λ spans. IsInTime bound (reactions_of_spans w threshold spans)) (sym p.spans_are)
        (in_time bound (combined (reactions_in w threshold p.span) (reactions_of_spans w threshold (spans_of p.older)))
        (both_in_time bound _ _ _ _ (plain (reactions_in w threshold p.span) now)
        (plain (reactions_of_spans w threshold (spans_of p.older)) p.earlier)))
      where
        at : whole ≡ newer ++ (p.span ++ p.older)
        at = e ∙ ap (λ rows. newer ++ rows) p.rows_are

        now : IsInTime bound (reactions_in w threshold p.span)
        now = span_in_time bound p.span p.older (rows_behind newer (p.span ++ p.older) (subst AreRows at are)) p.is
            (each newer p.span p.older at p.is)

    -- the row begins a span
    begun : (row : Row) (before : List Row) → row.fresh ≡ true → IsInTime bound (reactions_of_spans w threshold (spans_of before)) →
        Parted (row ∷ before)
    unfolding spans_of
    begun row before fresh earlier = record {
      span = row ∷ [];
      older = before;
      spans_are = ap (λ (b : Bool). if b then (row ∷ []) ∷ spans_of before else in_last row (spans_of before)) fresh;
      rows_are = refl;
      is = span-begins row fresh;
      earlier = earlier;
    }

    -- or the span before it goes on
    gone_further : (row : Row) (before : List Row) → row.fresh ≡ false → Parted before → Parted (row ∷ before)
    unfolding spans_of in_last
    gone_further row before goes_on p = record {
      span = row ∷ p.span;
      older = p.older;
      spans_are = ap (λ (b : Bool). if b then (row ∷ []) ∷ spans_of before else in_last row (spans_of before)) goes_on
          ∙ ap (in_last row) p.spans_are;
      rows_are = ap (λ rows. row ∷ rows) p.rows_are;
      is = span-goes_on row p.span goes_on p.is;
      earlier = p.earlier;
    }

    one_more : (row : Row) (newer before : List Row) → whole ≡ (newer ++ row ∷ []) ++ before → Parted before → Parted (row ∷ before)
    one_more row newer before e p = elim (cases_Bool row.fresh) [
      | inl fresh ↦ begun row before fresh (told_of (newer ++ row ∷ []) before e p)
      | inr goes_on ↦ gone_further row before goes_on p
    ]

    behind : (newer : List Row) (row : Row) (before : List Row) → whole ≡ newer ++ (row ∷ before) → whole ≡ (newer ++ row ∷ []) ++ before
    behind newer row before e = e ∙ sym (append_assoc newer (row ∷ []) before)

    parted : (newer : List Row) (row : Row) (before : List Row) → whole ≡ newer ++ (row ∷ before) → Parted (row ∷ before)
    parted newer row [] e = begun row [] (first newer row e) nothing_told
    parted newer row (other ∷ before) e =
        one_more row newer (other ∷ before) (behind newer row (other ∷ before) e)
        (parted (newer ++ row ∷ []) other before (behind newer row (other ∷ before) e))

    all_in_time : (rows : List Row) → whole ≡ rows → IsInTime bound (reactions_of_spans w threshold (spans_of rows))
    all_in_time [] e = nothing_told
    all_in_time (row ∷ before) e = told_of [] (row ∷ before) e (parted [] row before e)

-- The law of any rows: those of a run, the earliest of which begins a span, with stages that are off so long after
-- an excess in each drive span, and off in each test span.
pub rows_in_time : (bound : ℕ) (w : WeightParts) (threshold : ℕ) (rows : List Row) → AreRows rows → FirstBegins rows →
    EachDriveSpan (ReactWithin bound w threshold) rows → EachTestSpan AreOff rows →
    IsInTime bound (reactions_of w threshold rows)
unfolding reactions_of
rows_in_time bound w threshold rows are first drives tests = all_in_time w threshold bound rows are first each rows refl
  where
    each : (newer span older : List Row) → rows ≡ newer ++ (span ++ older) → IsSpan span →
        ReactWithin bound w threshold (length older) span
    each newer span older e is = by_kind is.first.testing refl
      where
        by_kind : (b : Bool) → is.first.testing ≡ b → ReactWithin bound w threshold (length older) span
        by_kind true tested = λ c place. All-weaker (λ row. row.on ≡ false) (λ row. length older + c + bound ≤ row.tick → row.on ≡ false)
            (λ row off late. off) span (tests newer span older e (record { span = is; tests = tested }))
        by_kind false driven = drives newer span older e (record { span = is; drives = driven })

-- ---- each record ----

-- where the stages are off within R of a confirmed excess in each drive span
pub spans_in_time : {E : Type 0} (b : BenchEngine E) (r : Run) →
    EachDriveSpan (ReactWithin (reaction_of r.setting.cal.times) r.setting.cal.rules.torque r.setting.cal.rules.threshold) (record_rows b r) →
    IsInTime (reaction_of r.setting.cal.times) (reactions_of r.setting.cal.rules.torque r.setting.cal.rules.threshold (record_rows b r))
spans_in_time b r reacts = rows_in_time (reaction_of r.setting.cal.times) r.setting.cal.rules.torque
    r.setting.cal.rules.threshold (record_rows b r) (are_rows b r)
    (first_begins (test_ticks_of r.setting.cal.times) (record_rows b r) (records_begin_in_turn b r)) reacts
    (records_test_unpowered b r)

pub records_react_in_time : {E : Type 0} {b : BenchEngine E} {Keeps : PlantParts → E → Type 0} → KeepsBenchLaws b Keeps → RecordsReactInTime b
records_react_in_time {b = b} keeps r run listed = spans_in_time b r (records_react keeps r run listed)
