-- What `table` tells of the rows of a run is what the words say.
use Rattle.std.proofs.Common.{◌≡◌, ◌∙◌, ◌↔◌, ℕ, suc, ◌+◌, ◌-◌, ◌≤◌, ◌<◌, inl, inr, Bool, true, false, List, [], ◌∷◌, ◌++◌, All, map, length, max, Option, Some, None, refl, sym, ap, subst, arith}
use Rattle.std.specs.Prelude.{◌||◌, nat_lt, option_map, if◌then◌else◌}
use Rattle.std.proofs.lemmas.Bool.{cases_Bool, cases_lt, both_ways, true≢false, lt-ltb, ltb-true}
use Rattle.std.proofs.lemmas.Option.{none-some}
use Rattle.std.proofs.lemmas.List.Elements.{All-nil, All-cons, All-head, All-tail, All-weaker}
use Rattle.eg_num.specs.Windows.{WeightParts, is_confirmed, is_reached, greatest_of}
use Rattle.eg_record.specs.declared.row.Row.{Row}
use Rattle.eg_record.specs.Rows.{AreRows}
use Rattle.eg_record.specs.Spans.{in_last, spans_of}
use Rattle.eg_record.specs.Stages.{last_on}
use Rattle.eg_record.specs.Excess.{true_excess, lasting, longest_in, stretch_of, above, peak_of}
use Rattle.eg_record.specs.Facts.{off_from}
use Rattle.eg_record.specs.Reactions.{confirmed_in, end_of, reaction_in_span, greater, no_reactions, combined, reactions_in, reactions_of_spans, reactions_of}
use Rattle.eg_record.proofs.GivenLemmas.{option_or-some, option_or-none, Contains-head, Contains-tail}
use Rattle.eg_record.proofs.LastOnLemmas.{last_on-on, last_on-off}
use Rattle.eg_laws.specs.Stretches.{AllExcess, LastsAtMost}
use Rattle.eg_laws.specs.InWords.{IsLeast, EndsOff, ShowsReaction, IsOffWithin, IsLongestReaction, PeakIsGreatest, StretchIsLongest, ReactionIsLongest}
use Rattle.eg_laws.proofs.LimitLaws.{lasting_rows}

-- ---- the greatest of some numbers ----

none_greater : {X : Type 0} (f : X → ℕ) (n : ℕ) (xs : List X) → greatest_of (map f xs) ≤ n → All (λ x. f x ≤ n) xs
unfolding greatest_of
none_greater f n [] most = All-nil (λ x. f x ≤ n)
none_greater f n (x ∷ xs) most = All-cons (λ x. f x ≤ n) x xs (omega (arith, most)) (none_greater f n xs (omega (arith, most)))

greatest_within : {X : Type 0} (f : X → ℕ) (n : ℕ) (xs : List X) → All (λ x. f x ≤ n) xs → greatest_of (map f xs) ≤ n
unfolding greatest_of
greatest_within f n [] all = omega arith
greatest_within f n (x ∷ xs) all =
    let here = All-head (λ x. f x ≤ n) x xs all in
    let rest = greatest_within f n xs (All-tail (λ x. f x ≤ n) x xs all) in
    omega (arith, here, rest)

-- ---- `peak` ----

above-within : (t n : ℕ) (row : Row) → row.torque ≤ row.limit + t + n → above t row ≤ n
unfolding above
above-within t n row most = omega (arith, most)

within-above : (t n : ℕ) (row : Row) → above t row ≤ n → row.torque ≤ row.limit + t + n
unfolding above
within-above t n row most = omega (arith, most)

pub peak_is_greatest : PeakIsGreatest
unfolding peak_of
peak_is_greatest t rows n = (
  λ rises. greatest_within (above t) n rows
      (All-weaker (λ row. row.torque ≤ row.limit + t + n) (λ row. above t row ≤ n) (above-within t n) rows rises),
  λ most. All-weaker (λ row. above t row ≤ n) (λ row. row.torque ≤ row.limit + t + n) (within-above t n) rows
      (none_greater (above t) n rows most),
)

-- ---- `stretch` ----

module _ (t : ℕ) where
  longest_in-more : (row : Row) (before : List Row) → longest_in t (row ∷ before) ≡ max (lasting t (row ∷ before)) (longest_in t before)
  unfolding longest_in
  longest_in-more row before = refl

  -- a stretch is as long as what lasts up to its last row, or shorter
  stretch_lasts : (stretch before : List Row) → AllExcess t stretch → length stretch ≤ lasting t (stretch ++ before)
  unfolding lasting
  stretch_lasts [] before all = omega arith
  stretch_lasts (row ∷ stretch) before all =
      let bad = All-head (λ r. true_excess t r ≡ true) row stretch all in
      let rest = stretch_lasts stretch before (All-tail (λ r. true_excess t r ≡ true) row stretch all) in
      let one : lasting t (row ∷ (stretch ++ before)) ≡ lasting t (stretch ++ before) + 1 =
      ap (λ b. if b then lasting t (stretch ++ before) + 1 else 0) bad in
      omega (arith, rest, one)

  lasting-longest : (rows : List Row) → lasting t rows ≤ longest_in t rows
  lasting-longest [] = unfold lasting in omega arith
  lasting-longest (row ∷ before) = let more = longest_in-more row before in omega (arith, more)

  longest_in-part : (later rows : List Row) → longest_in t rows ≤ longest_in t (later ++ rows)
  longest_in-part [] rows = omega arith
  longest_in-part (row ∷ later) rows =
      let rest = longest_in-part later rows in
      let more = longest_in-more row (later ++ rows) in
      omega (arith, rest, more)

  no_longer : (n : ℕ) (span : List Row) → longest_in t span ≤ n → LastsAtMost t n span
  no_longer n span few later stretch before is all =
      let long = stretch_lasts stretch before all in
      let lasts = lasting-longest (stretch ++ before) in
      let part = longest_in-part later (stretch ++ before) in
      let same = ap (longest_in t) is in
      omega (arith, few, long, lasts, part, same)

  longest_within : (n : ℕ) (span : List Row) → LastsAtMost t n span → longest_in t span ≤ n
  longest_within n [] ends = unfold longest_in in omega arith
  longest_within n (row ∷ before) ends =
      let last = lasting_rows t (row ∷ before) in
      let here = ends [] last.stretch last.before last.is last.excess in
      let size = last.size in
      let rest = longest_within n before (λ later stretch older is all. ends (row ∷ later) stretch older (ap (λ rows. row ∷ rows) is) all) in
      let more = longest_in-more row before in
      omega (arith, here, size, rest, more)

pub stretch_is_longest : StretchIsLongest
unfolding stretch_of
stretch_is_longest t rows n = (
  λ all. greatest_within (longest_in t) n (spans_of rows)
      (All-weaker (LastsAtMost t n) (λ span. longest_in t span ≤ n) (longest_within t n) (spans_of rows) all),
  λ most. All-weaker (λ span. longest_in t span ≤ n) (LastsAtMost t n) (no_longer t n) (spans_of rows)
      (none_greater (longest_in t) n (spans_of rows) most),
)

-- ---- the ticks of a span rise ----

abbrev AreBelow : (tick : ℕ) → List Row → Type 0
AreBelow tick rows = All (λ row. row.tick < tick) rows

abbrev Rise : List Row → Type 0
Rise [] = Unit {0}
Rise (row ∷ before) = AreBelow row.tick before × Rise before

abbrev RiseBelow : (tick : ℕ) → List Row → Type 0
RiseBelow tick span = Rise span × AreBelow tick span

longer_below : (row : Row) (n : ℕ) → row.tick ≡ n → (span : List Row) → RiseBelow n span → RiseBelow (n + 1) (row ∷ span)
longer_below row n tick span (rise, below) = (
  (All-weaker (λ r. r.tick < n) (λ r. r.tick < row.tick) (λ r low. omega (arith, low, tick)) span below, rise),
  All-cons (λ r. r.tick < n + 1) row span (omega (arith, tick)) (All-weaker (λ r. r.tick < n) (λ r. r.tick < n + 1) (λ r low. omega (arith, low)) span below),
)

higher : (n : ℕ) (spans : List (List Row)) → All (RiseBelow n) spans → All (RiseBelow (n + 1)) spans
higher n = All-weaker (RiseBelow n) (RiseBelow (n + 1))
    (λ span is. (is.0, All-weaker (λ r. r.tick < n) (λ r. r.tick < n + 1) (λ r low. omega (arith, low)) span is.1))

in_last-rise : (row : Row) (n : ℕ) → row.tick ≡ n → (spans : List (List Row)) → All (RiseBelow n) spans → All (RiseBelow (n + 1)) (in_last row spans)
unfolding in_last
in_last-rise row n tick [] all = All-cons (RiseBelow (n + 1)) (row ∷ []) []
    (longer_below row n tick [] (tt, All-nil (λ r. r.tick < n))) (All-nil (RiseBelow (n + 1)))
in_last-rise row n tick (span ∷ earlier) all = All-cons (RiseBelow (n + 1)) (row ∷ span) earlier
    (longer_below row n tick span (All-head (RiseBelow n) span earlier all)) (higher n earlier (All-tail (RiseBelow n) span earlier all))

spans_rise : (rows : List Row) → AreRows rows → All (RiseBelow (length rows)) (spans_of rows)
unfolding spans_of
spans_rise [] are = All-nil (RiseBelow 0)
spans_rise (row ∷ before) are = subst (λ n. All (RiseBelow n) (spans_of (row ∷ before))) (more (length before)) (by_kind row.fresh (spans_rise before are.1))
  where
    more : (n : ℕ) → n + 1 ≡ suc n
    more n = omega arith

    by_kind : (fresh : Bool) → All (RiseBelow (length before)) (spans_of before) →
        All (RiseBelow (length before + 1)) (if fresh then (row ∷ []) ∷ spans_of before else in_last row (spans_of before))
    by_kind true rise = All-cons (RiseBelow (length before + 1)) (row ∷ []) (spans_of before)
        (longer_below row (length before) are.0 [] (tt, All-nil (λ r. r.tick < length before))) (higher (length before) (spans_of before) rise)
    by_kind false rise = in_last-rise row (length before) are.0 (spans_of before) rise

-- ---- from which tick on the stages are off in a span ----

off_from-below : (n : ℕ) (rows : List Row) → All (λ row. n ≤ row.tick → row.on ≡ false) rows → off_from (last_on rows) ≤ n
unfolding off_from
off_from-below n [] off = unfold last_on in omega arith
off_from-below n (row ∷ before) off = elim (cases_Bool row.on) [
  | inl on ↦ subst (λ last. off_from last ≤ n) (sym (last_on-on row before on)) (early on)
  | inr is ↦ subst (λ last. off_from last ≤ n) (sym (last_on-off row before is))
      (off_from-below n before (All-tail (λ r. n ≤ r.tick → r.on ≡ false) row before off))
]
  where
    early : row.on ≡ true → row.tick + 1 ≤ n
    early on = elim (cases_lt row.tick n) [
      | inl less ↦ omega (arith, less)
      | inr late ↦ absurd (both_ways row.on (All-head (λ r. n ≤ r.tick → r.on ≡ false) row before off late) on)
    ]

off_from-on : (rows : List Row) → Rise rows → All (λ row. off_from (last_on rows) ≤ row.tick → row.on ≡ false) rows
unfolding off_from
off_from-on [] rise = All-nil (λ row. off_from (last_on []) ≤ row.tick → row.on ≡ false)
off_from-on (row ∷ before) rise = elim (cases_Bool row.on) [
  | inl on ↦ subst (λ last. All (λ r. off_from last ≤ r.tick → r.on ≡ false) (row ∷ before)) (sym (last_on-on row before on))
      (All-cons (λ r. row.tick + 1 ≤ r.tick → r.on ≡ false) row before (λ late. absurd (omega (arith, late)))
      (All-weaker (λ r. r.tick < row.tick) (λ r. row.tick + 1 ≤ r.tick → r.on ≡ false) (λ r low late. absurd (omega (arith, low, late))) before rise.0))
  | inr off ↦ subst (λ last. All (λ r. off_from last ≤ r.tick → r.on ≡ false) (row ∷ before)) (sym (last_on-off row before off))
      (All-cons (λ r. off_from (last_on before) ≤ r.tick → r.on ≡ false) row before (λ late. off) (off_from-on before rise.1))
]

-- the stages are off at the end of a span exactly if that tick comes before the end
ends_off : (span : List Row) → Rise span → EndsOff span ↔ (off_from (last_on span) < end_of span)
unfolding end_of
ends_off [] rise = (λ ends. absurd ends, λ early. absurd (omega (arith, early)))
ends_off (row ∷ before) rise = (
  λ off. let low = off_from-below row.tick before
      (All-weaker (λ r. r.tick < row.tick) (λ r. row.tick ≤ r.tick → r.on ≡ false) (λ r low late. absurd (omega (arith, low, late))) before rise.0) in
      let same = ap off_from (last_on-off row before off) in omega (arith, low, same),
  λ early. All-head (λ r. off_from (last_on (row ∷ before)) ≤ r.tick → r.on ≡ false) row before (off_from-on (row ∷ before) rise) (omega (arith, early)),
)

-- ---- the tick by which the excess is confirmed in a span ----

module _ (w : WeightParts) (t : ℕ) where
  abbrev IsConfirmed : List Row → Type 0
  IsConfirmed rows = is_confirmed w (map (true_excess t) rows) ≡ true

  -- once it is confirmed it stays so
  stays : (later rows : List Row) → IsConfirmed rows → IsConfirmed (later ++ rows)
  unfolding is_confirmed
  stays [] rows confirmed = confirmed
  stays (row ∷ later) rows confirmed =
      either (is_reached w (map (true_excess t) (row ∷ (later ++ rows)))) (is_confirmed w (map (true_excess t) (later ++ rows))) (stays later rows confirmed)
    where
      either : (a b : Bool) → b ≡ true → (a || b) ≡ true
      either a b is = grind (arith, is)

  none_confirmed : (span : List Row) → confirmed_in w t span ≡ None → ¬ IsConfirmed span
  unfolding confirmed_in is_confirmed
  none_confirmed [] none confirmed = absurd cc
  none_confirmed (row ∷ before) none confirmed = here (is_confirmed w (map (true_excess t) (row ∷ before))) confirmed
      (option_or-none (confirmed_in w t before) _ none).1
    where
      here : (b : Bool) → b ≡ true → (if b then Some row.tick else None) ≡ None → ⊥
      here true is gone = none-some row.tick (sym gone)
      here false is gone = absurd cc

  -- the first row by which it is confirmed, and its tick
  record First (span : List Row) (c : ℕ) : Type 0 where
    later : List Row
    row : Row
    before : List Row
    is : span ≡ later ++ row ∷ before
    tick : row.tick ≡ c
    confirmed : IsConfirmed (row ∷ before)
    earliest : (newer : List Row) (other : Row) (older : List Row) → span ≡ newer ++ other ∷ older → IsConfirmed (other ∷ older) → c ≤ other.tick

  below_head : (row : Row) (before later : List Row) (r : Row) (older : List Row) → AreBelow row.tick before → before ≡ later ++ r ∷ older → r.tick < row.tick
  below_head row before [] r older below is = All-head (λ r. r.tick < row.tick) r older (subst (AreBelow row.tick) is below)
  below_head row before (x ∷ later) r older below is =
      below_head row (later ++ r ∷ older) later r older (All-tail (λ r. r.tick < row.tick) x (later ++ r ∷ older) (subst (AreBelow row.tick) is below)) refl

  first_row : (span : List Row) (c : ℕ) → Rise span → confirmed_in w t span ≡ Some c → First span c
  unfolding confirmed_in
  first_row [] c rise some = absurd (none-some c some)
  first_row (row ∷ before) c rise some = elim (option_or-some (confirmed_in w t before) _ c some) [
    | inl earlier ↦ (let first = first_row before c rise.1 earlier in
        let low = below_head row before first.later first.row first.before rise.0 first.is in
        let tick = first.tick in
        record {
          later = row ∷ first.later;
          row = first.row;
          before = first.before;
          is = ap (λ rows. row ∷ rows) first.is;
          tick = first.tick;
          confirmed = first.confirmed;
          earliest = λ newer other older is confirmed. at_head newer other older is confirmed (omega (arith, low, tick)) first.earliest;
        })
    | inr now ↦ (let here = placed (is_confirmed w (map (true_excess t) (row ∷ before))) now.1 in
        let same = here.1 in
        record {
          later = [];
          row = row;
          before = before;
          is = refl;
          tick = here.1;
          confirmed = here.0;
          earliest = λ newer other older is confirmed. at_head newer other older is confirmed (omega (arith, same))
              (λ later r rest split yes. absurd (none_confirmed before now.0 (subst IsConfirmed (sym split) (stays later (r ∷ rest) yes))));
        })
  ]
    where
      placed : (b : Bool) → (if b then Some row.tick else None) ≡ Some c → (b ≡ true) × (row.tick ≡ c)
      placed true e = (refl, some_same row.tick c e)
        where
          some_same : (a b : ℕ) → Some a ≡ Some b → a ≡ b
          some_same a b e = cc
      placed false e = absurd (none-some c e)

      at_head : (newer : List Row) (other : Row) (older : List Row) → row ∷ before ≡ newer ++ other ∷ older → IsConfirmed (other ∷ older) →
          c ≤ row.tick → ((later : List Row) (r : Row) (rest : List Row) → before ≡ later ++ r ∷ rest → IsConfirmed (r ∷ rest) → c ≤ r.tick) → c ≤ other.tick
      at_head [] other older is confirmed here rest = let same : row ≡ other = cc in let tick = ap (λ (r : Row). r.tick) same in omega (arith, here, tick)
      at_head (x ∷ newer) other older is confirmed here rest = rest newer other older (tails is) confirmed
        where
          tails : row ∷ before ≡ x ∷ (newer ++ other ∷ older) → before ≡ newer ++ other ∷ older
          tails e = cc

  -- ---- the reaction of a span ----

  -- it is the least number of ticks from that row on, and there is none where the span shows none
  abbrev IsReaction : List Row → Option ℕ → Type 0
  IsReaction span None = ¬ ShowsReaction w t span
  IsReaction span (Some n) = ShowsReaction w t span × IsLeast (λ k. IsOffWithin w t k span) n

  least_within : (span : List Row) (c : ℕ) → Rise span → First span c → IsLeast (λ k. IsOffWithin w t k span) (off_from (last_on span) - c)
  least_within span c rise first n = (
    λ off. let tick = first.tick in
        let low = off_from-below (c + n) span (All-weaker (λ r. first.row.tick + n ≤ r.tick → r.on ≡ false) (λ r. c + n ≤ r.tick → r.on ≡ false)
        (λ r is late. is (omega (arith, late, tick))) span (off first.later first.row first.before first.is first.confirmed)) in
        omega (arith, low),
    λ most later row before is confirmed. let from = first.earliest later row before is confirmed in
        All-weaker (λ r. off_from (last_on span) ≤ r.tick → r.on ≡ false) (λ r. row.tick + n ≤ r.tick → r.on ≡ false)
        (λ r off late. off (omega (arith, most, from, late))) span (off_from-on span rise),
  )

  reaction_of : (span : List Row) → Rise span → IsReaction span (reaction_in_span w t span)
  unfolding reaction_in_span
  reaction_of span rise = go (nat_lt (off_from (last_on span)) (end_of span)) (confirmed_in w t span) refl refl
    where
      go : (b : Bool) (o : Option ℕ) → nat_lt (off_from (last_on span)) (end_of span) ≡ b → confirmed_in w t span ≡ o →
          IsReaction span (if b then option_map (λ c. off_from (last_on span) - c) o else None)
      go false o late is = λ shows. true≢false (sym (lt-ltb (off_from (last_on span)) (end_of span) ((ends_off span rise).0 shows.ends)) ∙ late)
      go true None early is = λ shows. none_confirmed span is shows.confirmed
      go true (Some c) early is =
          let first = first_row span c rise is in (
            record {
              confirmed = subst IsConfirmed (sym first.is) (stays first.later (first.row ∷ first.before) first.confirmed);
              ends = (ends_off span rise).1 (ltb-true (off_from (last_on span)) (end_of span) early);
            },
            least_within span c rise first,
          )

  -- ---- the longest of several spans ----

  -- a span that shows none asks for nothing
  shows_none : (n : ℕ) (span : List Row) → ¬ ShowsReaction w t span → EndsOff span → IsOffWithin w t n span
  shows_none n span none ends later row before is confirmed =
      absurd (none (record { confirmed = subst IsConfirmed (sym is) (stays later (row ∷ before) confirmed); ends = ends }))

  module _ (span : List Row) (earlier : List (List Row)) where
    abbrev Within : ℕ → List Row → Type 0
    Within n s = EndsOff s → IsOffWithin w t n s

    one_more : (one other : Option ℕ) → IsReaction span one → IsLongestReaction w t earlier other → IsLongestReaction w t (span ∷ earlier) (greater one other)
    unfolding greater
    one_more None None none nones = All-cons (λ s. ¬ ShowsReaction w t s) span earlier none nones
    one_more None (Some m) none (some, least) = (
      (some.0, Contains-tail span earlier some.0 some.1, some.2),
      λ n. (
        λ all. (least n).0 (All-tail (Within n) span earlier all),
        λ most. All-cons (Within n) span earlier (shows_none n span none) ((least n).1 most),
      ),
    )
    one_more (Some k) None (shows, least) nones = (
      (span, Contains-head span earlier, shows),
      λ n. (
        λ all. (least n).0 (All-head (Within n) span earlier all shows.ends),
        λ most. All-cons (Within n) span earlier (λ ends. (least n).1 most)
            (All-weaker (λ s. ¬ ShowsReaction w t s) (Within n) (shows_none n) earlier nones),
      ),
    )
    one_more (Some k) (Some m) (shows, one) (some, least) = (
      (span, Contains-head span earlier, shows),
      λ n. (
        λ all. let here = (one n).0 (All-head (Within n) span earlier all shows.ends) in
            let rest = (least n).0 (All-tail (Within n) span earlier all) in omega (arith, here, rest),
        λ most. All-cons (Within n) span earlier (λ ends. (one n).1 (omega (arith, most))) ((least n).1 (omega (arith, most))),
      ),
    )

  longest : (bound : ℕ) (spans : List (List Row)) → All (RiseBelow bound) spans → IsLongestReaction w t spans (reactions_of_spans w t spans).longest
  unfolding reactions_of_spans no_reactions combined reactions_in
  longest bound [] rise = All-nil (λ s. ¬ ShowsReaction w t s)
  longest bound (span ∷ earlier) rise = one_more span earlier (reaction_in_span w t span) (reactions_of_spans w t earlier).longest
      (reaction_of span (All-head (RiseBelow bound) span earlier rise).0)
      (longest bound earlier (All-tail (RiseBelow bound) span earlier rise))

pub reaction_is_longest : ReactionIsLongest
unfolding reactions_of
reaction_is_longest w t rows are = longest w t (length rows) (spans_of rows) (spans_rise rows are)
