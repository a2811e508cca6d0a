-- A record that is written as its ticks are made.
use Rattle.std.proofs.Common.{◌≡◌, ◌∙◌, refl, sym, ap, subst, ℕ, suc, ◌+◌, ◌%◌, ◌^◌, ◌<◌, ◌≤◌, List, [], ◌∷◌, ◌++◌, map, length, append_assoc, append-nil, arith}
use Rattle.std.specs.Prelude.{reverse}
use Rattle.std.specs.List.{concat}
use Rattle.std.proofs.lemmas.List.{map-append}
use Rattle.std.proofs.lemmas.List.Folds.{concat-append}
use Rattle.eg_base.specs.Outside.{ShownSink, Appends, AppendsPrefix}
use Rattle.eg_base.proofs.AppendLemmas.{Appends-append}
use Rattle.eg_record.specs.declared.row.Row.{Row}
use Rattle.eg_record.specs.Texts.{record_header, row_line}
use Rattle.eg_model.specs.Engines.{BenchEngine}
use Rattle.eg_model.specs.Bench.{Run}
use Rattle.eg_model.specs.Rows.{record_rows}
use Rattle.eg_model.specs.Records.{row_at, rows_to}
use Rattle.eg_model.proofs.RecordTicks.{no_rows, record_rows-is}
use Rattle.eg_model.proofs.WholeRecord.{rows-suc}
use Rattle.eg_tick.specs.Weights.{TickCount, weight_of}
use Rattle.eg_tick.proofs.RunLemmas.{counted}
use Rattle.eg_tick.proofs.FactLaws.{counted-next, rows-next}
use Rattle.eg_tick.specs.Counting.{count_with}
use Rattle.eg_campaign.specs.Texts.{text_of}
use Rattle.eg_campaign.specs.Recording.{HasLines, IsStopped}
use Rattle.eg_tick.proofs.CountLemmas.{long, front, front-take, counts_front, counts_record}

one_more : (n : ℕ) → suc n ≡ n + 1
one_more n = omega arith

-- ---- texts ----

text-more : (rows more : List Row) → text_of (rows ++ more) ≡ text_of rows ++ concat (map row_line more)
unfolding text_of
text-more rows more = ap (λ l. record_header ++ concat l) (map-append row_line rows more)
    ∙ ap (λ t. record_header ++ t) (concat-append (map row_line rows) (map row_line more))
    ∙ sym (append_assoc record_header (concat (map row_line rows)) (concat (map row_line more)))

text-one : (rows : List Row) (row : Row) → text_of (rows ++ row ∷ []) ≡ text_of rows ++ row_line row
text-one rows row = text-more rows (row ∷ []) ∙ ap (λ t. text_of rows ++ t) (append-nil (row_line row))

text-none : text_of [] ≡ record_header
unfolding text_of
text-none = append-nil record_header

-- one row more
text-next : {S : Type 0} (b : BenchEngine S) (r : Run) (t : ℕ) → text_of (reverse (rows_to b r (t + 1))) ≡ text_of (reverse (rows_to b r t)) ++ row_line (row_at b r t)
text-next b r t = ap text_of (sym (rows-suc b r t (reverse (rows_to b r t)) (row_at b r t) refl refl))
    ∙ text-one (reverse (rows_to b r t)) (row_at b r t)

-- ---- what was written and counted so far ----

-- the header and the lines of the first t ticks stand whole, no fault was met, and these ticks are counted
pub record HasWritten {S : Type 0} (b : BenchEngine S) (r : Run) (t : ℕ) (out now : ShownSink) (was is : TickCount) : Type 0 where
  pub put : Appends out now (text_of (reverse (rows_to b r t)))
  pub faults : now.faults ≡ out.faults
  pub sure : now.sure ≡ out.sure
  pub counts : is ≡ counted was t (rows_to b r t)

-- behind the header
pub has_header : {S : Type 0} (b : BenchEngine S) (r : Run) (out now : ShownSink) (was : TickCount) (header : List ℕ) → header ≡ record_header → Appends out now header →
    now.faults ≡ out.faults → now.sure ≡ out.sure → was ≡ count_with was [] → HasWritten b r 0 out now was was
has_header b r out now was header is put faults sure same = record {
  put = subst (Appends out now) (is ∙ sym text-none ∙ ap (λ (l : List Row). text_of (reverse l)) (sym (no_rows b r))) put;
  faults = faults;
  sure = sure;
  counts = same ∙ ap (counted was 0) (sym (no_rows b r));
}

-- what a tick counts
counts-next : {S : Type 0} (b : BenchEngine S) (r : Run) (t : ℕ) (was old new : TickCount) (row : Row) → row ≡ row_at b r t → old ≡ counted was t (rows_to b r t) →
    new.count ≡ (old.count + 1) % 2 ^ 64 → new.weights ≡ (old.weights + weight_of row) % 2 ^ 64 → new ≡ counted was (t + 1) (rows_to b r (t + 1))
counts-next b r t was old new row is so_far count weight =
    counted-next was old new t (rows_to b r t) row so_far count weight ∙ ap (counted was (t + 1)) (rows-next b r t row is)

-- one tick more, whose line is put whole
pub has_more : {S : Type 0} (b : BenchEngine S) (r : Run) (t : ℕ) (out mid now : ShownSink) (was old new : TickCount) (row : Row) → row ≡ row_at b r t → HasWritten b r t out mid was old →
    Appends mid now (row_line row) → now.faults ≡ mid.faults → now.sure ≡ mid.sure → new.count ≡ (old.count + 1) % 2 ^ 64 →
    new.weights ≡ (old.weights + weight_of row) % 2 ^ 64 → HasWritten b r (t + 1) out now was new
has_more b r t out mid now was old new row is so_far put faults sure count weight = record {
  put = subst (Appends out now) (sym (text-next b r t))
      (Appends-append out mid now (text_of (reverse (rows_to b r t))) (row_line (row_at b r t)) so_far.put (subst (λ (x : Row). Appends mid now (row_line x)) is put));
  faults = faults ∙ so_far.faults;
  sure = sure ∙ so_far.sure;
  counts = counts-next b r t was old new row is so_far.counts count weight;
}

module _ {S : Type 0} (b : BenchEngine S) (r : Run) where
  -- ---- all ticks were made ----

  pub all_written : (t : ℕ) (out now : ShownSink) (was is : TickCount) → t ≡ length r.drive → HasWritten b r t out now was is →
      Appends out now (text_of (reverse (record_rows b r)))
  all_written t out now was is end so_far = subst (Appends out now)
      (ap (λ n. text_of (reverse (rows_to b r n))) end ∙ ap (λ (l : List Row). text_of (reverse l)) (sym (record_rows-is b r)))
      so_far.put

  pub all_counted : (t : ℕ) (out now : ShownSink) (was is : TickCount) → t ≡ length r.drive → HasWritten b r t out now was is →
      is ≡ count_with was (reverse (record_rows b r))
  all_counted t out now was is end so_far = counts_record b r was is
      (so_far.counts ∙ ap (λ n. counted was n (rows_to b r n)) end ∙ ap (counted was (length r.drive)) (sym (record_rows-is b r)))

  -- ---- it was stopped ----

  -- at the header: no tick was made
  pub stopped_at_header : (out now : ShownSink) (was : TickCount) (header : List ℕ) → header ≡ record_header → AppendsPrefix out now header →
      was ≡ count_with was [] → IsStopped (reverse (record_rows b r)) out now was was
  unfolding text_of
  stopped_at_header out now was header is (some, rest, parts, put) same = record {
    front = some;
    rest = rest ++ concat (map row_line (reverse (record_rows b r)));
    ticks = 0;
    parts = ap (λ h. h ++ concat (map row_line (reverse (record_rows b r)))) (sym is ∙ parts) ∙ append_assoc some rest (concat (map row_line (reverse (record_rows b r))));
    appended = put;
    most = omega arith;
    lines = tt;
    counted = counts_front b r 0 was was (omega arith) (same ∙ ap (counted was 0) (sym (no_rows b r)));
  }

  -- the text of a record, cut within the line of a tick
  cut : (t : ℕ) (some rest : List ℕ) → t < length r.drive → row_line (row_at b r t) ≡ some ++ rest →
      (back : List ℕ) × (text_of (reverse (record_rows b r)) ≡ (text_of (reverse (rows_to b r t)) ++ some) ++ back)
  cut t some rest within parts =
      let before = text_of (reverse (rows_to b r t)) in
      let most : t + 1 ≤ length r.drive = omega (arith, within) in
      let (more, e) = front b r (t + 1) most in
      let behind = concat (map row_line more) in (
        rest ++ behind,
        ap text_of e ∙ text-more (reverse (rows_to b r (t + 1))) more ∙ ap (λ l. l ++ behind) (text-next b r t ∙ ap (λ l. before ++ l) parts)
            ∙ pieces before some rest behind,
      )
    where
      pieces : (a b c d : List ℕ) → (a ++ (b ++ c)) ++ d ≡ (a ++ b) ++ (c ++ d)
      pieces a b c d = simp append_assoc

  -- at the line of a tick that was made
  pub stopped_at_line : (t : ℕ) (out mid now : ShownSink) (was old new : TickCount) (row : Row) → t < length r.drive →
      row ≡ row_at b r t → HasWritten b r t out mid was old → AppendsPrefix mid now (row_line row) →
      new.count ≡ (old.count + 1) % 2 ^ 64 → new.weights ≡ (old.weights + weight_of row) % 2 ^ 64 → IsStopped (reverse (record_rows b r)) out now was new
  stopped_at_line t out mid now was old new row within is so_far (some, rest, parts, put) count weight =
      let before = text_of (reverse (rows_to b r t)) in
      let most : t + 1 ≤ length r.drive = omega (arith, within) in
      let (back, whole) = cut t some rest within (ap row_line (sym is) ∙ parts) in
      record {
        front = before ++ some;
        rest = back;
        ticks = t + 1;
        parts = whole;
        appended = Appends-append out mid now before some so_far.put put;
        most = subst (λ n. t + 1 ≤ n) (long b r) most;
        lines = subst (λ n. HasLines n (reverse (record_rows b r)) (before ++ some)) (one_more t)
            (some, ap (λ (l : List Row). text_of l ++ some) (sym (front-take b r t (omega (arith, within)))));
        counted = counts_front b r (t + 1) was new most (counts-next b r t was old new row is so_far.counts count weight);
      }
