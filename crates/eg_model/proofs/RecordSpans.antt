-- The spans of a record: the rows of each are those of a history that stands by itself and begins at its tick.
use Rattle.std.proofs.Common.{◌≡◌, ◌∙◌, refl, sym, ap, ap₂, subst, ℕ, suc, ◌+◌, ◌≤◌, Bool, true, false, ◌||◌, List, [], ◌∷◌, ◌++◌, All, length, length-append, append_assoc, arith}
use Rattle.std.specs.Prelude.{◌==◌}
use Rattle.std.proofs.lemmas.Bool.{false≢true, true≢false, false_from_ne_true, le-leb, eqb-true}
use Rattle.std.proofs.lemmas.List.Elements.{All-head, All-tail}
use Rattle.eg_answer.specs.Times.{test_ticks_of}
use Rattle.eg_fault.specs.Effects.{Effects}
use Rattle.eg_fault.specs.Faults.{effects}
use Rattle.eg_record.specs.declared.row.Row.{Row}
use Rattle.eg_record.specs.Spans.{IsSpan, IsDriveSpan, IsTestSpan}
use Rattle.eg_model.specs.History.{Setting, Entry, Tick, SpanKind, Drive, Test, Moment}
use Rattle.eg_model.specs.Paths.{is_testing}
use Rattle.eg_model.specs.Moments.{moment_in, moments_in}
use Rattle.eg_model.specs.Spans.{span_so_far, span_kind, has_passed, kind_at, before_at, moment_at, next_after, moments, span_ticks}
use Rattle.eg_model.specs.Engines.{BenchEngine}
use Rattle.eg_model.specs.Bench.{Run, entries_to}
use Rattle.eg_model.specs.Rows.{row_of, rows_of, record_rows}
use Rattle.eg_model.specs.Premises.{Follows}
use Rattle.eg_model.proofs.TickLemmas.{parts_of, nothing, length-moments_in}
use Rattle.eg_model.proofs.SpanLemmas.{before-begins, kind-goes_on, kind-next, by_ticks, follows_at}
use Rattle.eg_model.proofs.SpanRows.{rows_after, length-rows_after, Between, between}
use Rattle.eg_model.proofs.RecordTicks.{length-entries, rows_of_entries}

-- ---- the kind of a span, by its first row ----

-- a span whose first row tells a test is a test span
unfoldable pub kind_by : Bool → SpanKind
kind_by true = Test
kind_by false = Drive

kind_of_first : (kind : SpanKind) (s : Setting) (x : Effects) (e : Entry) (past : List Moment) (tests : Bool) →
    (moment_in kind s x e past).fresh ≡ true → (moment_in kind s x e past).testing ≡ tests → kind ≡ kind_by tests
unfolding moment_in kind_by is_testing
kind_of_first Drive s x e past true fresh is = absurd (false≢true is)
kind_of_first Drive s x e past false fresh is = refl
kind_of_first Test s x e past true fresh is = refl
kind_of_first Test s x e past false fresh is = absurd (true≢false (sym (le-leb (length past) (test_ticks_of s.cal.times) early) ∙ is))
  where
    early : length past ≤ test_ticks_of s.cal.times
    early = let none = eqb-true (length past) 0 fresh in omega (arith, none)

-- ---- the rows of a span ----

span_so_far-first : (m : Moment) (past : List Moment) → m.fresh ≡ true → span_so_far (m ∷ past) ≡ m ∷ []
unfolding span_so_far
span_so_far-first m past fresh = rw fresh refl

span_so_far-goes_on : (m : Moment) (past : List Moment) → m.fresh ≡ false → span_so_far (m ∷ past) ≡ m ∷ span_so_far past
unfolding span_so_far
span_so_far-goes_on m past fresh = rw fresh refl

-- a row tells whether it is the first of its span, and whether a test is running
row_fresh : (n : ℕ) (m : Moment) (row : Row) → row_of n m ≡ row → m.fresh ≡ row.fresh
unfolding row_of
row_fresh n m row is = ap (λ (r : Row). r.fresh) is

row_testing : (n : ℕ) (m : Moment) (row : Row) → row_of n m ≡ row → m.testing ≡ row.testing
unfolding row_of
row_testing n m row is = ap (λ (r : Row). r.testing) is

length-rows_of : (past : List Moment) → length (rows_of past) ≡ length past
unfolding rows_of
length-rows_of [] = refl
length-rows_of (m ∷ past) = ap suc (length-rows_of past)

-- these rows are those of the span that the run h ends in, which begins at tick `start`
pub record Covers (s : Setting) (h : List Entry) (span : List Row) (start : ℕ) (tests : Bool) : Type 0 where
  pub rows_are : span ≡ rows_after start (span_so_far (moments s h))
  pub kind_is : span_kind (moments s h) ≡ kind_by tests

module _ (s : Setting) where
  -- the next moment of a run, and its row
  m_of : Entry → List Entry → Moment
  m_of e h = moment_in (kind_at e.drive (moments s h)) s (effects s.fault (length (moments s h))) e (before_at e.drive (moments s h))

  moments-next : (e : Entry) (h : List Entry) → moments s (e ∷ h) ≡ m_of e h ∷ moments s h
  unfolding moments next_after moment_at m_of
  moments-next e h = refl

  rows-next : (e : Entry) (h : List Entry) →
      rows_of (moments s (e ∷ h)) ≡ row_of (length (moments s h)) (m_of e h) ∷ rows_of (moments s h)
  unfolding rows_of moments next_after moment_at m_of
  rows-next e h = refl

  -- the rows of a span that ends with the next tick, by those before it
  rows_with : (e : Entry) (h : List Entry) (row : Row) (span older : List Row) (past : List Moment) →
      row_of (length (moments s h)) (m_of e h) ≡ row → rows_of (moments s h) ≡ span ++ older → span ≡ rows_after (length older) past →
      span_so_far (m_of e h ∷ moments s h) ≡ m_of e h ∷ past → row ∷ span ≡ rows_after (length older) (span_so_far (moments s (e ∷ h)))
  unfolding rows_after
  rows_with e h row span older past is before are grown =
      ap₂ (λ r rows. r ∷ rows) (sym is ∙ ap (λ k. row_of k (m_of e h)) place) are
      ∙ sym (ap (rows_after (length older)) (ap span_so_far (moments-next e h) ∙ grown))
    where
      place : length (moments s h) ≡ length older + length past
      place = omega (
        arith,
        ap length before,
        length-append span older,
        length-rows_of (moments s h),
        ap length are,
        length-rows_after (length older) past,
      )

  -- the first tick of a span
  covers_first : (e : Entry) (h : List Entry) (first : Row) (older : List Row) (tests : Bool) →
      row_of (length (moments s h)) (m_of e h) ≡ first → rows_of (moments s h) ≡ older → first.fresh ≡ true →
      first.testing ≡ tests → Covers s (e ∷ h) (first ∷ []) (length older) tests
  covers_first e h first older tests is before begins told = record {
    rows_are = rows_with e h first [] older [] is before (unfold rows_after in refl)
        (span_so_far-first (m_of e h) (moments s h) fresh);
    kind_is = kind-next s e h ∙ kind_of_first (kind_at e.drive (moments s h)) s (effects s.fault (length (moments s h))) e
        (before_at e.drive (moments s h)) tests (unfold m_of in fresh)
        (unfold m_of in row_testing (length (moments s h)) (m_of e h) first is ∙ told);
  }
    where
      fresh : (m_of e h).fresh ≡ true
      fresh = row_fresh (length (moments s h)) (m_of e h) first is ∙ begins

  -- a span goes on at a tick that isn't fresh
  not_begun : (e : Entry) (h : List Entry) → (m_of e h).fresh ≡ false → (e.drive.reset || has_passed (moments s h)) ≡ false
  not_begun e h fresh = false_from_ne_true _ (λ begins. true≢false (sym (first (before-begins e.drive (moments s h) begins)) ∙ fresh))
    where
      first : before_at e.drive (moments s h) ≡ [] → (m_of e h).fresh ≡ true
      first empty = unfold m_of moment_in in ap (λ (past : List Moment). length past == 0) empty

  -- one tick more of it
  covers_next : (e : Entry) (h : List Entry) (row : Row) (span older : List Row) (tests : Bool) →
      row_of (length (moments s h)) (m_of e h) ≡ row → rows_of (moments s h) ≡ span ++ older → row.fresh ≡ false →
      Covers s h span (length older) tests → Covers s (e ∷ h) (row ∷ span) (length older) tests
  covers_next e h row span older tests is before later c = record {
    rows_are = rows_with e h row span older (span_so_far (moments s h)) is before c.rows_are
        (span_so_far-goes_on (m_of e h) (moments s h) fresh);
    kind_is = kind-next s e h ∙ kind-goes_on e.drive (moments s h) (not_begun e h fresh) ∙ c.kind_is;
  }
    where
      fresh : (m_of e h).fresh ≡ false
      fresh = row_fresh (length (moments s h)) (m_of e h) row is ∙ later

  covers : (h : List Entry) (later : List Row) (first : Row) (older : List Row) (tests : Bool) →
      rows_of (moments s h) ≡ (later ++ first ∷ []) ++ older → first.fresh ≡ true → first.testing ≡ tests →
      All (λ row. row.fresh ≡ false) later → Covers s h (later ++ first ∷ []) (length older) tests
  covers [] [] first older tests e begins told goes_on = absurd (unfold rows_of moments in nothing e)
  covers [] (row ∷ later) first older tests e begins told goes_on = absurd (unfold rows_of moments in nothing e)
  covers (x ∷ h) [] first older tests e begins told goes_on =
      let parts = parts_of (sym (rows-next x h) ∙ e) in covers_first x h first older tests parts.0 parts.1 begins told
  covers (x ∷ h) (row ∷ later) first older tests e begins told goes_on =
      let parts = parts_of (sym (rows-next x h) ∙ e) in
      covers_next x h row (later ++ first ∷ []) older tests parts.0 parts.1
      (All-head (λ row. row.fresh ≡ false) row later goes_on)
      (covers h later first older tests parts.1 begins told (All-tail (λ row. row.fresh ≡ false) row later goes_on))

-- ---- the spans of a record ----

All-rest : {X : Type 0} (P : X → Type 0) (xs ys : List X) → All P (xs ++ ys) → All P ys
All-rest P [] ys all = all
All-rest P (x ∷ xs) ys all = All-rest P xs ys (All-tail P x (xs ++ ys) all)

-- a part of a span up to some tick
part_of_span : (later : List Row) (row : Row) (before : List Row) → IsSpan (later ++ row ∷ before) → IsSpan (row ∷ before)
part_of_span later row before is = record {
  later = cut.more;
  first = is.first;
  is = cut.ends;
  begins = is.begins;
  goes_on = All-rest (λ row. row.fresh ≡ false) later cut.more (subst (All (λ row. row.fresh ≡ false)) cut.front is.goes_on);
}
  where
    cut : Between later (row ∷ before) is.later (is.first ∷ [])
    cut = between later (row ∷ before) is.later (is.first ∷ []) is.is (omega arith)

-- of a drive span, and of a test span
pub part_of : (later : List Row) (row : Row) (before : List Row) → IsDriveSpan (later ++ row ∷ before) → IsDriveSpan (row ∷ before)
unfolding part_of_span
part_of later row before is = record { span = part_of_span later row before is.span; drives = is.drives }

pub test_part_of : (later : List Row) (row : Row) (before : List Row) → IsTestSpan (later ++ row ∷ before) → IsTestSpan (row ∷ before)
unfolding part_of_span
test_part_of later row before is = record { span = part_of_span later row before is.span; tests = is.tests }

-- and such a part of rows, where these are a span of them
pub with_part : (rows newer span older later : List Row) (row : Row) (before : List Row) → rows ≡ newer ++ (span ++ older) →
    span ≡ later ++ row ∷ before → rows ≡ (newer ++ later) ++ ((row ∷ before) ++ older)
with_part rows newer span older later row before e split = e ∙ ap (λ part. newer ++ (part ++ older)) split
    ∙ ap (λ part. newer ++ part) (append_assoc later (row ∷ before) older)
    ∙ sym (append_assoc newer later ((row ∷ before) ++ older))

module _ {E : Type 0} (b : BenchEngine E) where
  -- the ticks of the span that the first `count` ticks of a run end in
  abbrev pub SpanTo : Run → ℕ → List Tick
  SpanTo r count = span_ticks r.setting (entries_to b r count)

  -- these rows are those of a span of this kind that begins at tick `start`, or of its part up to tick `count`
  pub record SpanIn (r : Run) (start count : ℕ) (kind : SpanKind) (span : List Row) : Type 0 where
    pub kind_is : span_kind (moments r.setting (entries_to b r count)) ≡ kind
    pub rows_are : span ≡ rows_after start (moments_in kind r.setting (SpanTo r count))
    pub follows : Follows r.setting.fault start (SpanTo r count)
    pub size : start + length (SpanTo r count) ≡ count

  pub span_in : (r : Run) (newer span older : List Row) → record_rows b r ≡ newer ++ (span ++ older) → (is : IsSpan span) →
      (tests : Bool) → is.first.testing ≡ tests →
      SpanIn r (length older) (length (span ++ older)) (kind_by tests) span
  span_in r newer span older e is tests told = record {
    kind_is = c.kind_is;
    rows_are = rows_are;
    follows = follows_at s h (length older) (size ∙ sym (length-entries b r n));
    size = size;
  }
    where
      s : Setting
      s = r.setting

      n : ℕ
      n = length (span ++ older)

      h : List Entry
      h = entries_to b r n

      c : Covers s h span (length older) tests
      c = subst (λ rows. Covers s h rows (length older) tests) (sym is.is)
          (covers s h is.later is.first older tests
          (rows_of_entries b r newer (span ++ older) e ∙ ap (λ rows. rows ++ older) is.is) is.begins told is.goes_on)

      rows_are : span ≡ rows_after (length older) (moments_in (kind_by tests) s (SpanTo r n))
      rows_are = c.rows_are ∙ ap (rows_after (length older)) (by_ticks s h ∙ ap (λ kind. moments_in kind s (SpanTo r n)) c.kind_is)

      size : length older + length (SpanTo r n) ≡ n
      size = omega (
        arith,
        ap length rows_are,
        length-rows_after (length older) (moments_in (kind_by tests) s (SpanTo r n)),
        length-moments_in (kind_by tests) s (SpanTo r n),
        length-append span older,
      )
