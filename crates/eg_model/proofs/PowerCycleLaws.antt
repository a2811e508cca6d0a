-- The spans of a record begin at the resets of its drive, and after tests that were passed.
use Rattle.std.proofs.Common.{◌≡◌, ◌∙◌, refl, sym, ap, ap₂, subst, arith, ℕ, zero, suc, ◌+◌, ◌==◌, nat_le, Bool, true, false, ◌&&◌, ◌||◌, not, if◌then◌else◌, List, [], ◌∷◌, length}
use Rattle.std.proofs.lemmas.Bool.Decides.{nat_tests}
use Rattle.std.proofs.lemmas.Bool.{false_from_ne_true, false≢true, true≢false, not-true, and_parts, or_parts, or_right, eqb-true, eq-eqb}
use Rattle.eg_answer.specs.Times.{TimeParts, test_ticks_of}
use Rattle.eg_fault.specs.Effects.{Effects}
use Rattle.eg_fault.specs.Faults.{effects}
use Rattle.eg_record.specs.declared.row.Row.{Row}
use Rattle.eg_record.specs.Spans.{this_span}
use Rattle.eg_model.specs.History.{Setting, Entry, SpanKind, Drive, Test, drives, Moment}
use Rattle.eg_model.specs.Detection.{finds}
use Rattle.eg_model.specs.Paths.{is_testing, reads_back, both_conduct}
use Rattle.eg_model.specs.Moments.{moment_in}
use Rattle.eg_model.specs.Spans.{span_so_far, has_passed, span_kind, kind_at, before_at, moment_at, next_after}
use Rattle.eg_model.specs.Engines.{BenchEngine}
use Rattle.eg_model.specs.Bench.{Run, entry_at, moments_to}
use Rattle.eg_model.specs.Rows.{row_of, rows_of, record_rows}
use Rattle.eg_model.specs.PowerCycles.{BeginsTest, BeginsDrive, stands_in_test, IsPassed, IsUnfed, BeginsInTurn, SpansBeginInTurn, RecordsBeginInTurn}
use Rattle.eg_model.proofs.TickLemmas.{parts_of, nothing, along}
use Rattle.eg_model.proofs.SpanLemmas.{before-begins, kind-goes_on, span_so_far-next}

-- ---- numbers ----

zero_le : (n : ℕ) → nat_le 0 n ≡ true
zero_le n = grind arith

not_zero : (n : ℕ) → (suc n == 0) ≡ false
not_zero n = grind arith

le_equal : (n m : ℕ) → (n == m) ≡ true → nat_le n m ≡ true
le_equal n m e = grind arith

-- ---- where a span begins ----

-- where the row resets, a test span
begins_test : (s : Setting) (x : Effects) (e : Entry) (n : ℕ) (past : List Moment) → e.drive.reset ≡ true →
    BeginsTest (row_of n (moment_at s x e past))
unfolding row_of moment_at moment_in kind_at before_at is_testing
begins_test s x e n past resets = record { fresh = rw resets refl; tests = rw resets (zero_le (test_ticks_of s.cal.times)) }

-- where it doesn't, and a test was passed at the tick before, a drive span
begins_drive : (s : Setting) (x : Effects) (e : Entry) (n : ℕ) (past : List Moment) → e.drive.reset ≡ false →
    has_passed past ≡ true → BeginsDrive (row_of n (moment_at s x e past))
unfolding row_of moment_at moment_in kind_at before_at is_testing
begins_drive s x e n past stays passed = record { fresh = rw (stays, passed) refl; drives = rw (stays, passed) refl }

-- whether or not the row resets, a span begins there
begins_fresh : (s : Setting) (x : Effects) (e : Entry) (n : ℕ) (past : List Moment) → has_passed past ≡ true →
    (row_of n (moment_at s x e past)).fresh ≡ true
unfolding row_of moment_at moment_in
begins_fresh s x e n past passed = ap (λ before. length before == 0)
    (before-begins e.drive past (or_right e.drive.reset _ passed))

-- and so at the first tick of a run
begins_first : (s : Setting) (x : Effects) (e : Entry) (n : ℕ) → e.drive.reset ≡ false →
    BeginsDrive (row_of n (moment_at s x e []))
unfolding row_of moment_at moment_in kind_at before_at is_testing has_passed span_kind span_so_far
begins_first s x e n stays = record { fresh = rw stays refl; drives = rw stays refl }

-- At other ticks none begins.
passed_before : (s : Setting) (x : Effects) (e : Entry) (n : ℕ) (m : Moment) (past : List Moment) →
    e.drive.reset ≡ false → (row_of n (moment_at s x e (m ∷ past))).fresh ≡ true → m.passes ≡ true
unfolding row_of moment_at moment_in before_at has_passed span_so_far
passed_before s x e n m past stays fresh = by_passes m.passes
    (subst (λ b. (length (if b || m.passes then [] else m ∷ (if m.fresh then [] else span_so_far past)) == 0) ≡ true)
    stays fresh)
  where
    by_passes : (p : Bool) →
        (length (if p then [] else m ∷ (if m.fresh then [] else span_so_far past)) == 0) ≡ true → p ≡ true
    by_passes true is = refl
    by_passes false is = sym (not_zero (length (if m.fresh then [] else span_so_far past))) ∙ is

-- ---- the span of a row ----

-- how many ticks of its span there are so far
span_length : (past : List Moment) → length (this_span (rows_of past)) ≡ length (span_so_far past)
unfolding this_span rows_of row_of span_so_far
span_length [] = refl
span_length (m ∷ past) = ap suc (go m.fresh (span_length past))
  where
    go : (b : Bool) → length (this_span (rows_of past)) ≡ length (span_so_far past) →
        length (if b then [] else this_span (rows_of past)) ≡ length (if b then [] else span_so_far past)
    go true so = refl
    go false so = so

-- with one moment more: those of its span before it, and itself
span_length-next : (s : Setting) (e : Entry) (past : List Moment) →
    length (this_span (rows_of (next_after s e past ∷ past))) ≡ suc (length (before_at e.drive past))
span_length-next s e past = span_length (next_after s e past ∷ past) ∙ ap length (span_so_far-next s e past)

-- its row stands in a test span exactly if that is what its span is for
abbrev tests_by_kind : List Moment → Type 0
tests_by_kind past = stands_in_test (rows_of past) ≡ not (drives (span_kind past))

tests_by_kind-next : (s : Setting) (e : Entry) (past : List Moment) → tests_by_kind past →
    stands_in_test (rows_of (next_after s e past ∷ past)) ≡ not (drives (kind_at e.drive past))
unfolding stands_in_test rows_of row_of next_after moment_at moment_in is_testing drives
tests_by_kind-next s e past so = by_fresh (length (before_at e.drive past) == 0) refl
  where
    kind : SpanKind
    kind = kind_at e.drive past

    at_begin : (k : SpanKind) → is_testing k s.cal.times 0 ≡ not (drives k)
    at_begin Drive = refl
    at_begin Test = zero_le (test_ticks_of s.cal.times)

    goes_on : (length (before_at e.drive past) == 0) ≡ false → kind ≡ span_kind past
    goes_on later = kind-goes_on e.drive past (false_from_ne_true _ (λ begins.
        true≢false (sym (ap (λ before. length before == 0) (before-begins e.drive past begins)) ∙ later)))

    by_fresh : (b : Bool) → (length (before_at e.drive past) == 0) ≡ b →
        (if b then is_testing kind s.cal.times (length (before_at e.drive past)) else stands_in_test (rows_of past)) ≡ not (drives kind)
    by_fresh true fresh = ap (is_testing kind s.cal.times) (eqb-true (length (before_at e.drive past)) 0 fresh) ∙ at_begin kind
    by_fresh false later = so ∙ ap (λ k. not (drives k)) (sym (goes_on later))

-- a test is running at it by the rows of its span
runs_by_rows : (s : Setting) (e : Entry) (past : List Moment) → tests_by_kind past →
    (next_after s e past).testing ≡ (stands_in_test (rows_of (next_after s e past ∷ past)) &&
    nat_le (length (this_span (rows_of (next_after s e past ∷ past)))) (test_ticks_of s.cal.times + 1))
unfolding next_after moment_at moment_in is_testing drives
runs_by_rows s e past so = by_kind (kind_at e.drive past) ∙ ap₂ (λ tests many. tests && nat_le many (test_ticks_of s.cal.times + 1))
    (sym (tests_by_kind-next s e past so)) (sym (span_length-next s e past))
  where
    later : (n m : ℕ) → nat_le n m ≡ nat_le (suc n) (m + 1)
    later n m = grind arith

    by_kind : (k : SpanKind) → is_testing k s.cal.times (length (before_at e.drive past)) ≡
        (not (drives k) && nat_le (suc (length (before_at e.drive past))) (test_ticks_of s.cal.times + 1))
    by_kind Drive = refl
    by_kind Test = later (length (before_at e.drive past)) (test_ticks_of s.cal.times)

-- the stages are on exactly if the engine is driven and both paths conduct
powered_by_rows : (s : Setting) (e : Entry) (past : List Moment) → tests_by_kind past →
    (next_after s e past).on ≡ (not (stands_in_test (rows_of (next_after s e past ∷ past))) &&
    ((next_after s e past).path1 && (next_after s e past).path2))
unfolding next_after moment_at moment_in both_conduct
powered_by_rows s e past so = ap (λ driven. driven && ((next_after s e past).path1 && (next_after s e past).path2))
    (twice (drives (kind_at e.drive past)) ∙ ap not (sym (tests_by_kind-next s e past so)))
  where
    twice : (b : Bool) → b ≡ not (not b)
    twice b = grind arith

-- and a test is found to have failed exactly if it reads the paths back and one of them conducts
fails_by_rows : (s : Setting) (e : Entry) (past : List Moment) →
    (next_after s e past).found.start ≡ (((next_after s e past).testing &&
    (length (this_span (rows_of (next_after s e past ∷ past))) == test_ticks_of s.cal.times + 1)) &&
    ((next_after s e past).path1 || (next_after s e past).path2))
unfolding next_after moment_at moment_in is_testing reads_back
fails_by_rows s e past = ap (λ read. read && ((next_after s e past).path1 || (next_after s e past).path2))
    (by_kind (kind_at e.drive past) ∙ ap (λ many. is_testing (kind_at e.drive past) s.cal.times (length (before_at e.drive past)) &&
    (many == test_ticks_of s.cal.times + 1)) (sym (span_length-next s e past)))
  where
    last : (n m : ℕ) → (n == m) ≡ (nat_le n m && (suc n == m + 1))
    last n m = grind (arith, nat_tests)

    by_kind : (k : SpanKind) → reads_back k s.cal.times (length (before_at e.drive past)) ≡
        (is_testing k s.cal.times (length (before_at e.drive past)) && (suc (length (before_at e.drive past)) == test_ticks_of s.cal.times + 1))
    by_kind Drive = refl
    by_kind Test = last (length (before_at e.drive past)) (test_ticks_of s.cal.times)

-- in a test span no debounced watch is found
unfed_by_rows : (s : Setting) (e : Entry) (past : List Moment) → tests_by_kind past →
    stands_in_test (rows_of (next_after s e past ∷ past)) ≡ true → IsUnfed (row_of (length past) (next_after s e past))
unfolding row_of next_after moment_at moment_in finds
unfed_by_rows s e past so tests = record {
  pedal = none _ _;
  plate = none _ _;
  load = none _ _;
  speed = none _ _;
  torque = none _ _;
  answers = driven_not _;
}
  where
    driven : drives (kind_at e.drive past) ≡ false
    driven = not-true (drives (kind_at e.drive past)) (sym (tests_by_kind-next s e past so) ∙ tests)

    driven_not : (c : Bool) → (drives (kind_at e.drive past) && c) ≡ false
    driven_not c = ap (λ b. b && c) driven

    none : (f c : Bool) → ((drives (kind_at e.drive past) && f) && c) ≡ false
    none f c = ap (λ b. (b && f) && c) driven

-- ---- a test that was passed ----

record Opened (kind : SpanKind) (times : TimeParts) (local : ℕ) (path1 path2 : Bool) : Type 0 where
  runs : is_testing kind times local ≡ true
  reads : suc local ≡ test_ticks_of times + 1
  opens1 : path1 ≡ false
  opens2 : path2 ≡ false

opened : (kind : SpanKind) (times : TimeParts) (local : ℕ) (path1 path2 : Bool) →
    (reads_back kind times local && not (path1 || path2)) ≡ true → Opened kind times local path1 path2
unfolding reads_back is_testing
opened Drive times local p q is = absurd (false≢true is)
opened Test times local p q is =
    let parts = and_parts (local == test_ticks_of times) (not (p || q)) is in
    let paths = or_parts p q (not-true (p || q) parts.1) in
    record {
      runs = le_equal local (test_ticks_of times) parts.0;
      reads = (let last = eqb-true local (test_ticks_of times) parts.0 in omega arith);
      opens1 = paths.0;
      opens2 = paths.1;
    }

-- by the moment, and so by its row
is_passed : (s : Setting) (e : Entry) (past : List Moment) → (next_after s e past).passes ≡ true →
    IsPassed (test_ticks_of s.cal.times) (row_of (length past) (next_after s e past)) (rows_of past)
unfolding row_of rows_of next_after moment_at moment_in
is_passed s e past passes =
    let both = opened (kind_at e.drive past) s.cal.times (length (before_at e.drive past))
    (next_after s e past).path1 (next_after s e past).path2 passes in
    record { tests = both.runs; reads = span_length-next s e past ∙ both.reads; path1 = both.opens1; path2 = both.opens2 }

-- by its row, and so by the moment
passes : (s : Setting) (e : Entry) (past : List Moment) →
    IsPassed (test_ticks_of s.cal.times) (row_of (length past) (next_after s e past)) (rows_of past) →
    (next_after s e past).passes ≡ true
unfolding row_of rows_of next_after moment_at moment_in is_testing reads_back
passes s e past passed = by_kind (kind_at e.drive past) passed.tests
    (this_tick (sym (span_length-next s e past) ∙ passed.reads))
  where
    local : ℕ
    local = length (before_at e.drive past)

    this_tick : suc local ≡ test_ticks_of s.cal.times + 1 → local ≡ test_ticks_of s.cal.times
    this_tick is = omega arith

    by_kind : (k : SpanKind) → is_testing k s.cal.times local ≡ true → local ≡ test_ticks_of s.cal.times →
        (reads_back k s.cal.times local && not ((next_after s e past).path1 || (next_after s e past).path2)) ≡ true
    by_kind Drive tests is = absurd (false≢true tests)
    by_kind Test tests is = rw (passed.path1, passed.path2, is, eq-eqb (test_ticks_of s.cal.times) (test_ticks_of s.cal.times) refl) refl

-- ---- the rows of a run ----

-- the row of tick t
newest : {E : Type 0} (b : BenchEngine E) (r : Run) (t : ℕ) → Row
newest b r t = let past = moments_to b r t in
    row_of (length past) (next_after r.setting (entry_at b r t past) past)

tests_by_kind-at : {E : Type 0} (b : BenchEngine E) (r : Run) (t : ℕ) → tests_by_kind (moments_to b r t)
unfolding moments_to stands_in_test rows_of span_kind drives next_after moment_at moment_in
tests_by_kind-at b r zero = refl
tests_by_kind-at b r (suc t) =
    let past = moments_to b r t in
    tests_by_kind-next r.setting (entry_at b r t past) past (tests_by_kind-at b r t)

begins_in_turn : {E : Type 0} (b : BenchEngine E) (r : Run) (t : ℕ) →
    BeginsInTurn (test_ticks_of r.setting.cal.times) (newest b r t) (rows_of (moments_to b r t))
unfolding newest rows_of moments_to next_after entry_at row_of moment_at moment_in has_passed
begins_in_turn b r zero = record {
  resets = λ reset. begins_test r.setting (effects r.setting.fault 0) (entry_at b r 0 []) 0 [] reset;
  first = λ stays none. begins_first r.setting (effects r.setting.fault 0) (entry_at b r 0 []) 0 stays;
  later = λ last before stays is fresh. absurd (nothing is);
  passed = λ last before is passed. absurd (nothing is);
  runs = runs_by_rows r.setting (entry_at b r 0 []) [] (tests_by_kind-at b r 0);
  powered = powered_by_rows r.setting (entry_at b r 0 []) [] (tests_by_kind-at b r 0);
  fails = fails_by_rows r.setting (entry_at b r 0 []) [];
  unfed = unfed_by_rows r.setting (entry_at b r 0 []) [] (tests_by_kind-at b r 0);
}
begins_in_turn b r (suc t) =
    let before = moments_to b r t in
    let e = entry_at b r t before in
    let x = effects r.setting.fault (length before) in
    let m = moment_at r.setting x e before in
    let past = m ∷ before in
    let now = entry_at b r (suc t) past in
    let comes = effects r.setting.fault (length past) in
    record {
      resets = λ reset. begins_test r.setting comes now (length past) past reset;
      first = λ stays none. absurd (nothing (sym none));
      later = λ last older stays is fresh.
          let passes = passed_before r.setting comes now (length past) m before stays fresh in (
            begins_drive r.setting comes now (length past) past stays passes,
            along (IsPassed (test_ticks_of r.setting.cal.times)) is (is_passed r.setting e before passes),
          );
      passed = λ last older is passed.
          begins_fresh r.setting comes now (length past) past (passes r.setting e before (along (IsPassed (test_ticks_of r.setting.cal.times)) (sym is) passed));
      runs = runs_by_rows r.setting now past (tests_by_kind-at b r (suc t));
      powered = powered_by_rows r.setting now past (tests_by_kind-at b r (suc t));
      fails = fails_by_rows r.setting now past;
      unfed = unfed_by_rows r.setting now past (tests_by_kind-at b r (suc t));
    }

rows_in_turn : {E : Type 0} (b : BenchEngine E) (r : Run) (t : ℕ) →
    SpansBeginInTurn (test_ticks_of r.setting.cal.times) (rows_of (moments_to b r t))
unfolding rows_of moments_to
rows_in_turn b r zero [] row older is = absurd (nothing is)
rows_in_turn b r zero (other ∷ newer) row older is = absurd (nothing is)
rows_in_turn b r (suc t) [] row older is =
    unfold newest in along (BeginsInTurn (test_ticks_of r.setting.cal.times)) is (begins_in_turn b r t)
rows_in_turn b r (suc t) (other ∷ newer) row older is = rows_in_turn b r t newer row older (parts_of is).1

pub records_begin_in_turn : {E : Type 0} (b : BenchEngine E) → RecordsBeginInTurn b
unfolding record_rows
records_begin_in_turn b r = rows_in_turn b r (length r.drive)
