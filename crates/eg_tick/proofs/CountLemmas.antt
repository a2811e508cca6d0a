-- What the ticks of rows come to, also where memory ran out among them; and of the rows of a run.
use Rattle.std.proofs.Common.{◌≡◌, ◌∙◌, refl, sym, ap, ap₂, ℕ, zero, suc, ◌+◌, ◌-◌, ◌%◌, ◌^◌, ◌<◌, ◌≤◌, List, [], ◌∷◌, ◌++◌, map, take, drop, length, append_assoc, append-nil, length-append, arith}
use Rattle.std.specs.Prelude.{reverse, Result, Ok, Err, IsErr}
use Rattle.std.specs.List.{sum}
use Rattle.std.proofs.Math.Nat.{mod-eq_of_lt}
use Rattle.std.proofs.lemmas.List.{map-append, take_at, take-append-drop, length-take-le, length-reverse, reverse-append}
use Rattle.std.proofs.lemmas.List.Sums.{sum_by-append}
use Rattle.std.proofs.lemmas.List.Sorted.{sum_by-IsPermutation, IsPermutation-reverse, IsPermutation-map}
use Rattle.eg_record.specs.declared.row.Row.{Row}
use Rattle.eg_model.specs.Engines.{BenchEngine}
use Rattle.eg_model.specs.Bench.{Run}
use Rattle.eg_model.specs.Rows.{record_rows}
use Rattle.eg_model.specs.Records.{row_at, rows_to}
use Rattle.eg_model.proofs.RecordTicks.{rows_to-suc, records_are_rows, record_rows-is}
use Rattle.eg_tick.specs.Weights.{TickCount, weight_of}
use Rattle.eg_tick.proofs.RunLemmas.{counted, more-mod}
use Rattle.eg_tick.specs.Counting.{count_with, RanOutAmong, AreCounted}

-- ---- what rows weigh ----

-- rows weigh the same in any order
pub sum-reverse : (f : Row → ℕ) (rows : List Row) → sum (map f (reverse rows)) ≡ sum (map f rows)
sum-reverse f rows = sum_by-IsPermutation (λ x. x) (map f rows) (map f (reverse rows))
    (IsPermutation-map f rows (reverse rows) (IsPermutation-reverse rows))

weigh-append : (xs ys : List Row) → sum (map weight_of (xs ++ ys)) ≡ sum (map weight_of xs) + sum (map weight_of ys)
weigh-append xs ys = ap sum (map-append weight_of xs ys) ∙ sum_by-append (λ x. x) (map weight_of xs) (map weight_of ys)

-- ---- the count ----

tally : ℕ → ℕ → TickCount
tally n w = record { count = n; weights = w }

-- before the first row
pub counts_none : (was : TickCount) → was.count < 2 ^ 64 → was.weights < 2 ^ 64 → was ≡ count_with was []
unfolding tally
counts_none was count weights = ap₂ tally (low was.count count) (low was.weights weights)
  where
    same : (n : ℕ) → n + 0 ≡ n
    same n = omega arith

    low : (n : ℕ) → n < 2 ^ 64 → n ≡ (n + 0) % 2 ^ 64
    low n l = sym (ap (λ k. k % 2 ^ 64) (same n) ∙ mod-eq_of_lt l)

-- some rows more
pub counts_more : (was mid is : TickCount) (xs ys : List Row) → mid ≡ count_with was xs → is ≡ count_with mid ys → is ≡ count_with was (xs ++ ys)
unfolding tally
counts_more was mid is xs ys before now = now ∙ ap₂ tally
    (more-mod (2 ^ 64) was.count (length xs) mid.count (length ys) (ap (λ (k : TickCount). k.count) before)
    ∙ ap (λ n. (was.count + n) % 2 ^ 64) (sym (length-append xs ys)))
    (more-mod (2 ^ 64) was.weights (sum (map weight_of xs)) mid.weights (sum (map weight_of ys)) (ap (λ (k : TickCount). k.weights) before)
    ∙ ap (λ n. (was.weights + n) % 2 ^ 64) (sym (weigh-append xs ys)))

-- rows that were counted newest first
pub counts_reverse : (was is : TickCount) (n : ℕ) (rows : List Row) → n ≡ length rows → is ≡ counted was n rows → is ≡ count_with was (reverse rows)
unfolding tally
counts_reverse was is n rows long e = e ∙ ap₂ (λ k w. tally ((was.count + k) % 2 ^ 64) ((was.weights + w) % 2 ^ 64))
    (long ∙ sym (length-reverse rows)) (sym (sum-reverse weight_of rows))

-- ---- memory ran out ----

-- behind a front of the rows
pub out_behind : (was is : TickCount) (front rest whole : List Row) → front ++ rest ≡ whole → is ≡ count_with was front → RanOutAmong whole was is
out_behind was is front rest whole parts e =
    let long : length front + length rest ≡ length whole = sym (length-append front rest) ∙ ap length parts in
    record {
      made = length front;
      most = omega (arith, long);
      counted = e ∙ ap (count_with was) (sym (ap (take (length front)) (sym parts) ∙ take_at front rest (length front) refl));
    }

-- before all of them, and behind all
pub out_before : (was : TickCount) (rows : List Row) → was.count < 2 ^ 64 → was.weights < 2 ^ 64 → RanOutAmong rows was was
out_before was rows count weights = out_behind was was [] rows rows refl (counts_none was count weights)

pub out_at_end : (was is : TickCount) (rows : List Row) → is ≡ count_with was rows → RanOutAmong rows was is
out_at_end was is rows e = out_behind was is rows [] rows (append-nil rows) e

-- among some that stand between others
pub out_among : (was mid is : TickCount) (before own rest whole : List Row) → before ++ (own ++ rest) ≡ whole → mid ≡ count_with was before →
    RanOutAmong own mid is → RanOutAmong whole was is
out_among was mid is before own rest whole parts e out =
    let long : length before + (length own + length rest) ≡ length whole =
    ap (λ n. length before + n) (sym (length-append own rest)) ∙ sym (length-append before (own ++ rest)) ∙ ap length parts in
    let most : out.made ≤ length own = out.most in
    record {
      made = length before + out.made;
      most = omega (arith, long, most);
      counted = counts_more was mid is before (take out.made own) e out.counted ∙ ap (count_with was) (front out.made most);
    }
  where
    front : (n : ℕ) → n ≤ length own → before ++ take n own ≡ take (length before + n) whole
    front n within =
        let some : List Row = before ++ take n own in
        let long : length some ≡ length before + n = length-append before (take n own) ∙ ap (λ k. length before + k) (length-take-le n own within) in
        let split : some ++ (drop n own ++ rest) ≡ whole = append_assoc before (take n own) (drop n own ++ rest)
        ∙ ap (λ l. before ++ l) (sym (append_assoc (take n own) (drop n own) rest) ∙ ap (λ l. l ++ rest) (take-append-drop n own)) ∙ parts in
        sym (ap (take (length before + n)) (sym split) ∙ take_at some (drop n own ++ rest) (length before + n) long)

-- ---- how a call ends ----

-- once all were counted
pub counted_all : {T E : Type 0} (rows : List Row) (was is : TickCount) (result : Result T E) → is ≡ count_with was rows → AreCounted rows was is result
counted_all rows was is (Ok value) e = e
counted_all rows was is (Err why) e = out_at_end was is rows e

-- where memory ran out
pub counted_err : {T E : Type 0} (rows : List Row) (was is : TickCount) (result : Result T E) → IsErr result → RanOutAmong rows was is → AreCounted rows was is result
counted_err rows was is (Ok value) never out = absurd cc
counted_err rows was is (Err why) err out = out

-- ---- the rows of a run ----

module _ {S : Type 0} (b : BenchEngine S) (r : Run) where
  -- its record has a row for each tick
  pub long : length r.drive ≡ length (reverse (record_rows b r))
  long = sym (length-reverse (record_rows b r) ∙ ap length (record_rows-is b r) ∙ (records_are_rows b r (length r.drive)).1)

  -- the rows of some ticks stand behind those of later ones
  later : (t k : ℕ) → (more : List Row) × (rows_to b r (k + t) ≡ more ++ rows_to b r t)
  later t zero = ([], ap (rows_to b r) (none t))
    where
      none : (t : ℕ) → 0 + t ≡ t
      none t = omega arith
  later t (suc k) =
      let (more, e) = later t k in
      (row_at b r (k + t) ∷ more, ap (rows_to b r) (next k t) ∙ rows_to-suc b r (k + t) ∙ ap (λ (l : List Row). row_at b r (k + t) ∷ l) e)
    where
      next : (k t : ℕ) → suc k + t ≡ suc (k + t)
      next k t = omega arith

  -- in the order of time they are a front of the record
  pub front : (t : ℕ) → t ≤ length r.drive → (more : List Row) × (reverse (record_rows b r) ≡ reverse (rows_to b r t) ++ more)
  front t within =
      let (more, e) = later t (length r.drive - t) in
      let all : length r.drive ≡ (length r.drive - t) + t = omega (arith, within) in
      (reverse more, ap reverse (record_rows-is b r ∙ ap (rows_to b r) all ∙ e) ∙ reverse-append more (rows_to b r t))

  pub front-take : (t : ℕ) → t ≤ length r.drive → take t (reverse (record_rows b r)) ≡ reverse (rows_to b r t)
  front-take t within =
      let (more, e) = front t within in
      ap (take t) e ∙ take_at (reverse (rows_to b r t)) more t (length-reverse (rows_to b r t) ∙ (records_are_rows b r t).1)

  -- what is counted of a front of it, newest first and in the order of time, and of all of it
  pub counts_front : (t : ℕ) (was is : TickCount) → t ≤ length r.drive → is ≡ counted was t (rows_to b r t) → is ≡ count_with was (take t (reverse (record_rows b r)))
  counts_front t was is within e = counts_reverse was is t (rows_to b r t) (sym (records_are_rows b r t).1) e
      ∙ ap (count_with was) (sym (front-take t within))

  pub counts_rows : (t : ℕ) (was is : TickCount) (rows : List Row) → t ≤ length r.drive → rows ≡ reverse (rows_to b r t) → is ≡ counted was t rows →
      is ≡ count_with was (take t (reverse (record_rows b r)))
  counts_rows t was is rows within are e =
      let size : length rows ≡ t = ap length are ∙ length-reverse (rows_to b r t) ∙ (records_are_rows b r t).1 in
      e ∙ ap (λ n. counted was n rows) (sym size) ∙ ap (count_with was) (are ∙ sym (front-take t within))

  pub counts_record : (was is : TickCount) → is ≡ counted was (length r.drive) (record_rows b r) → is ≡ count_with was (reverse (record_rows b r))
  counts_record was is e = counts_reverse was is (length r.drive) (record_rows b r) (long ∙ length-reverse (record_rows b r)) e
