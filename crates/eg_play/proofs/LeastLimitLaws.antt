-- One play by a limit of the torque's weights tells by which limits up to that one the torque is found. Up to the
-- first tick at which the torque is found by the lower limit the two runs are the same, and the greatest weights are
-- too; at that tick the weight by the higher limit is at least the lower one.
use Rattle.std.proofs.Common.{◌≡◌, ◌∙◌, refl, sym, ap, ap₂, subst, ℕ, zero, suc, ◌≤◌, ◌<◌, ◌↔◌, inl, inr, Bool, true, false, not, ◌&&◌, ◌||◌, List, [], ◌∷◌, map, length, max, arith}
use Rattle.std.specs.Prelude.{nat_le, if◌then◌else◌}
use Rattle.std.specs.List.{filter}
use Rattle.std.proofs.lemmas.Bool.{cases_Bool, and_parts, or_parts, or_left, cases_lt, both_ways}
use Rattle.eg_num.specs.Windows.{WeightParts, weight, is_reached, is_confirmed, is_first, greatest}
use Rattle.eg_num.specs.Counting.{counted}
use Rattle.eg_num.proofs.CounterLemmas.{is_reached-greatest, counted-confirmed, counted-unconfirmed}
use Rattle.eg_answer.specs.Answers.{expected_of, results_of, permitted_result, estimate_result, excess_result, pairs_result}
use Rattle.eg_answer.specs.Formulas.{permitted_torque, estimated_torque, excess_number, disagreeing_pairs}
use Rattle.eg_fault.specs.Effects.{Effects}
use Rattle.eg_fault.specs.Faults.{effects}
use Rattle.eg_values.specs.Calibration.{IsAccepted}
use Rattle.eg_record.specs.declared.watch.Watch.TheVariants as watch
use Rattle.eg_record.specs.Detection.{is_found}
use Rattle.eg_record.specs.Margins.{greatest_weight, margins_of}
use Rattle.eg_model.specs.History.{Setting, Entry, drives, Signals, Moment}
use Rattle.eg_model.specs.Signals.{signals_at}
use Rattle.eg_model.specs.Moments.{is_braking, readings_at, moment_in}
use Rattle.eg_model.specs.Detection.{torque_bit, fed_bits, finds}
use Rattle.eg_model.specs.Spans.{span_so_far, span_kind, kind_at, before_at, moment_at, next_after, moments, next}
use Rattle.eg_model.specs.Engines.{BenchEngine}
use Rattle.eg_model.specs.Bench.{Run, entry_at, moments_to, entries_to}
use Rattle.eg_record.proofs.GivenLemmas.{Contains-tail, Contains-cons_cases}
use Rattle.eg_model.specs.Rows.{row_of, rows_of, record_rows}
use Rattle.eg_model.proofs.TickLemmas.{parts_of, fields_in}
use Rattle.eg_model.proofs.SpanLemmas.{kind-next}
use Rattle.eg_model.proofs.RecordTicks.{records_are_histories}
use Rattle.eg_agree.specs.Standing.{mirror_found, counter_after}
use Rattle.eg_tick.specs.Margins.{counters_in, weighed_of, record_margins}
use Rattle.eg_laws.specs.WeightLimits.{torque_limited, run_in}
use Rattle.eg_laws.proofs.WeightLimitLaws.{by_torque, next-same, entry-same}
use Rattle.eg_play.specs.InWords.{IsFoundIn}
use Rattle.eg_play.specs.LeastLimits.{weight_by, IsFoundBy, RecordsTellLimits, RecordsTellLeastLimit}
use Rattle.eg_play.proofs.MarginLaws as margin

-- the bits that the debouncer of the torque was fed with, one tick more
fed-cons : (m : Moment) (past : List Moment) → fed_bits torque_bit (m ∷ past)
    ≡ (if m.feeds then torque_bit m.signals ∷ fed_bits torque_bit past else fed_bits torque_bit past)
unfolding fed_bits
fed-cons m past = go m.feeds
  where
    go : (feeds : Bool) → map (λ m. torque_bit m.signals) (if feeds then m ∷ filter (λ m. m.feeds) past else filter (λ m. m.feeds) past)
        ≡ (if feeds then torque_bit m.signals ∷ fed_bits torque_bit past else fed_bits torque_bit past)
    go true = refl
    go false = refl

-- ---- the same weights with two limits ----

module _ (w : WeightParts) (low high : ℕ) (positive : 1 ≤ low) (order : low ≤ high) where
  abbrev by_low : WeightParts
  by_low = record w { limit = low }

  abbrev by_high : WeightParts
  by_high = record w { limit = high }

  greatest-same : (bits : List Bool) → greatest by_high bits ≡ greatest by_low bits
  unfolding greatest weight
  greatest-same bits = refl

  reached-lower : (bits : List Bool) → is_reached by_high bits ≡ true → is_reached by_low bits ≡ true
  reached-lower bits reached =
      lower (sym (is_reached-greatest by_high bits (omega (arith, positive, order))) ∙ reached) (greatest-same bits)
      (is_reached-greatest by_low bits positive)
    where
      lower : nat_le high (greatest by_high bits) ≡ true → greatest by_high bits ≡ greatest by_low bits →
          is_reached by_low bits ≡ nat_le low (greatest by_low bits) → is_reached by_low bits ≡ true
      lower over same is = is ∙ grind (arith, over, same, order)

  confirmed-lower : (bits : List Bool) → is_confirmed by_low bits ≡ false → is_confirmed by_high bits ≡ false
  unfolding is_confirmed
  confirmed-lower [] none = refl
  confirmed-lower (b ∷ bits) none =
      let parts = or_parts (is_reached by_low (b ∷ bits)) (is_confirmed by_low bits) none in
      neither (is_reached by_high (b ∷ bits)) (is_confirmed by_high bits)
      (not_true (is_reached by_high (b ∷ bits)) (is_reached by_low (b ∷ bits)) (reached-lower (b ∷ bits)) parts.0)
      (confirmed-lower bits parts.1)
    where
      neither : (a b : Bool) → a ≡ false → b ≡ false → (a || b) ≡ false
      neither a b p q = grind (arith, p, q)

      not_true : (a b : Bool) → (a ≡ true → b ≡ true) → b ≡ false → a ≡ false
      not_true true b goes none = absurd (both_ways b none (goes refl))
      not_true false b goes none = refl

  -- a count that stays below the lower limit is the same by both
  counted-same : (bits : List Bool) → counted by_low bits < low → counted by_high bits ≡ counted by_low bits
  counted-same bits below = elim (cases_Bool (is_confirmed by_low bits)) [
    | inl some ↦ absurd (let there = counted-confirmed by_low bits some in omega (arith, there, below))
    | inr none ↦ counted-unconfirmed by_high bits (confirmed-lower bits none) ∙ greatest-same bits
        ∙ sym (counted-unconfirmed by_low bits none)
  ]

  -- where the last feed reaches the lower limit, the count by the higher one is at least the lower limit
  counted-reached : (bits : List Bool) → is_reached by_low bits ≡ true → low ≤ counted by_high bits
  counted-reached bits reached = elim (cases_Bool (is_confirmed by_high bits)) [
    | inl some ↦ (let there = counted-confirmed by_high bits some in omega (arith, there, order))
    | inr none ↦ (let there = counted-unconfirmed by_high bits none in let same = greatest-same bits in
        let over = at_least (sym (is_reached-greatest by_low bits positive) ∙ reached) in omega (arith, there, same, over))
  ]
    where
      at_least : nat_le low (greatest by_low bits) ≡ true → low ≤ greatest by_low bits
      at_least is = grind (arith, is)

  -- ---- what the debouncer of the torque weighs after the ticks of a span ----

  weighs-same : (span : List Moment) → counter_after by_low torque_bit span < low →
      counter_after by_high torque_bit span ≡ counter_after by_low torque_bit span
  unfolding counter_after
  weighs-same span = go (mirror_found span)
    where
      go : (found : Bool) → (if found then 0 else counted by_low (fed_bits torque_bit span)) < low →
          (if found then 0 else counted by_high (fed_bits torque_bit span))
          ≡ (if found then 0 else counted by_low (fed_bits torque_bit span))
      go true below = refl
      go false below = counted-same (fed_bits torque_bit span) below

  fed-more : (m : Moment) (past : List Moment) → m.feeds ≡ true →
      fed_bits torque_bit (m ∷ past) ≡ torque_bit m.signals ∷ fed_bits torque_bit past
  fed-more m past feeds = fed-cons m past
      ∙ ap (λ (b : Bool). if b then torque_bit m.signals ∷ fed_bits torque_bit past else fed_bits torque_bit past) feeds

  -- a tick at which the torque is found by the lower limit, where no word differs from its complement
  weighs-found : (m : Moment) (past : List Moment) → mirror_found (m ∷ past) ≡ false →
      finds by_low torque_bit m.feeds m.signals past ≡ true → low ≤ counter_after by_high torque_bit (m ∷ past)
  unfolding finds is_first counter_after
  weighs-found m past calm found =
      let parts = and_parts m.feeds (is_reached by_low (torque_bit m.signals ∷ fed_bits torque_bit past)
      && not (is_confirmed by_low (fed_bits torque_bit past))) found in
      let reached = (and_parts _ _ parts.1).0 in
      rw calm (subst (λ bits. low ≤ counted by_high bits) (sym (fed-more m past parts.0))
      (counted-reached (torque_bit m.signals ∷ fed_bits torque_bit past) reached))

  -- a tick at which it is found by the higher limit brings the debouncer to the lower limit at the least
  weighs-reached : (m : Moment) (past : List Moment) → mirror_found (m ∷ past) ≡ false →
      finds by_high torque_bit m.feeds m.signals past ≡ true → counter_after by_low torque_bit (m ∷ past) ≡ low
  unfolding finds is_first counter_after
  weighs-reached m past calm found =
      let parts = and_parts m.feeds (is_reached by_high (torque_bit m.signals ∷ fed_bits torque_bit past)
      && not (is_confirmed by_high (fed_bits torque_bit past))) found in
      let reached = reached-lower (torque_bit m.signals ∷ fed_bits torque_bit past) (and_parts _ _ parts.1).0 in
      rw calm (ap (counted by_low) (fed-more m past parts.0)
      ∙ counted-confirmed by_low _ (unfold is_confirmed in or_left _ _ reached))

-- ---- a run by both limits, whose ticks so far are the same ----

module _ (s : Setting) (accepted : IsAccepted s.cal) (low high : ℕ) (positive : 1 ≤ low) (order : low ≤ high)
    (within : high ≤ 10000) where
  abbrev one : Setting
  one = torque_limited high s

  abbrev two : Setting
  two = torque_limited low s

  accepted-by : (limit : ℕ) → 1 ≤ limit → limit ≤ 10000 → IsAccepted (torque_limited limit s).cal
  unfolding expected_of results_of permitted_result estimate_result excess_result pairs_result
      permitted_torque estimated_torque excess_number disagreeing_pairs
  accepted-by limit some most = record {
    grid = accepted.grid;
    permit = accepted.permit;
    pair = accepted.pair;
    torque = (accepted.torque.0, accepted.torque.1, accepted.torque.2, some, most);
    plant = accepted.plant;
    charge = accepted.charge;
    times = accepted.times;
    answers = accepted.answers;
    at_most_64 = accepted.at_most_64;
    together = record {
      one_kt = accepted.together.one_kt;
      two_questions = accepted.together.two_questions;
      answered = accepted.together.answered;
    };
    words = record { seeds = accepted.words.seeds; values = accepted.words.values };
  }

  first_accepted : IsAccepted one.cal
  first_accepted = accepted-by high (omega (arith, positive, order)) within

  second_accepted : IsAccepted two.cal
  second_accepted = accepted-by low positive (omega (arith, order, within))

  -- the debouncer of the torque in either
  abbrev of_first : margin.IsDebouncer one high watch.Torque (λ c. c.torque)
  of_first = margin.torque one first_accepted

  abbrev of_second : margin.IsDebouncer two low watch.Torque (λ c. c.torque)
  of_second = margin.torque two second_accepted

  -- the greatest weights after these entries
  abbrev first_greatest : List Entry → ℕ
  first_greatest = margin.greatest one high watch.Torque (λ c. c.torque) of_first

  abbrev second_greatest : List Entry → ℕ
  second_greatest = margin.greatest two low watch.Torque (λ c. c.torque) of_second

  -- what they weigh after the last of these entries
  abbrev first_at : List Entry → ℕ
  first_at = margin.at one high watch.Torque (λ c. c.torque) of_first

  abbrev second_at : List Entry → ℕ
  second_at = margin.at two low watch.Torque (λ c. c.torque) of_second

  -- where the second stays below its limit, the first weighs the same
  greatest-alike : (h : List Entry) → moments two h ≡ moments one h → second_greatest h < low →
      first_greatest h ≡ second_greatest h
  unfolding counters_in
  greatest-alike [] same below = margin.greatest-none one high watch.Torque (λ c. c.torque) of_first
      ∙ sym (margin.greatest-none two low watch.Torque (λ c. c.torque) of_second)
  greatest-alike (e ∷ h) same below =
      let earlier : moments two h ≡ moments one h = (parts_of (now_same same)).1 in
      margin.greatest-next one high watch.Torque (λ c. c.torque) of_first e h
      ∙ ap (λ ms. if drives (span_kind ms) then max (first_at (e ∷ h)) (first_greatest h) else first_greatest h) (sym same)
      ∙ go (drives (span_kind (moments two (e ∷ h)))) (greatest-alike h earlier)
      (subst (λ n. n < low) (margin.greatest-next two low watch.Torque (λ c. c.torque) of_second e h) below)
      ∙ sym (margin.greatest-next two low watch.Torque (λ c. c.torque) of_second e h)
    where
      now_same : moments two (e ∷ h) ≡ moments one (e ∷ h) →
          next_after two e (moments two h) ∷ moments two h ≡ next_after one e (moments one h) ∷ moments one h
      now_same = unfold moments in λ is. is

      here : second_at (e ∷ h) < low → first_at (e ∷ h) ≡ second_at (e ∷ h)
      here few = ap (λ ms. counter_after (by_high s.cal.rules.torque low high positive order) torque_bit (span_so_far ms)) (sym same)
          ∙ weighs-same s.cal.rules.torque low high positive order (span_so_far (moments two (e ∷ h))) few

      both : (a b c d : ℕ) → (c < low → a ≡ c) → (d < low → b ≡ d) → max c d < low → max a b ≡ max c d
      both a b c d first rest few = ap₂ max (first (omega (arith, few))) (rest (omega (arith, few)))

      go : (b : Bool) → (second_greatest h < low → first_greatest h ≡ second_greatest h) →
          (if b then max (second_at (e ∷ h)) (second_greatest h) else second_greatest h) < low →
          (if b then max (first_at (e ∷ h)) (first_greatest h) else first_greatest h)
          ≡ (if b then max (second_at (e ∷ h)) (second_greatest h) else second_greatest h)
      go true rest few = both _ _ _ _ here rest few
      go false rest few = rest few

  -- a run in which the second finds no torque: the first weighs less than the lower limit
  unfound_low : (h : List Entry) → moments two h ≡ moments one h → ¬ IsFoundIn watch.Torque (rows_of (moments two h)) →
      first_greatest h < low
  unfound_low h same none =
      let weight = margin.is_weight two low watch.Torque (λ c. c.torque) of_second h in
      let below = not_limit (second_greatest h) weight.within (λ at. none (weight.found.0 at)) in
      subst (λ n. n < low) (sym (greatest-alike h same below)) below
    where
      not_limit : (n : ℕ) → n ≤ low → ¬ (n ≡ low) → n < low
      not_limit n few other = elim (cases_lt n low) [
        | inl below ↦ below
        | inr above ↦ absurd (other (omega (arith, few, above)))
      ]

  -- ---- the next tick ----

  module _ (e : Entry) (h : List Entry) (same : moments two h ≡ moments one h) where
    abbrev past : List Moment
    past = before_at e.drive (moments one h)

    abbrev x : Effects
    x = effects s.fault (length (moments one h))

    abbrev m1 : Moment
    m1 = moment_in (kind_at e.drive (moments one h)) one x e past

    abbrev m2 : Moment
    m2 = moment_in (kind_at e.drive (moments one h)) two x e past

    next-first : next one e h ≡ m1
    unfolding next next_after moment_at
    next-first = refl

    next-second : next two e h ≡ m2
    unfolding next next_after moment_at
    next-second = ap (λ ms. moment_in (kind_at e.drive ms) two (effects s.fault (length ms)) e (before_at e.drive ms)) same

    -- the two ticks read the same, and feed the debouncers alike
    signals-same : m2.signals ≡ m1.signals
    unfolding moment_in readings_at is_braking signals_at permitted_torque estimated_torque excess_number disagreeing_pairs
    signals-same = refl

    feeds-same : m2.feeds ≡ m1.feeds
    unfolding moment_in
    feeds-same = refl

    mirror-same : mirror_found (m2 ∷ past) ≡ mirror_found (m1 ∷ past)
    unfolding moment_in mirror_found
    mirror-same = refl

    weighs-alike : (w : WeightParts) → counter_after w torque_bit (m2 ∷ past) ≡ counter_after w torque_bit (m1 ∷ past)
    unfolding counter_after
    weighs-alike w = ap₂ (λ (found : Bool) bits. if found then 0 else counted w bits) mirror-same
        (fed-cons m2 past ∙ ap₂ (λ (feeds : Bool) (signals : Signals).
        if feeds then torque_bit signals ∷ fed_bits torque_bit past else fed_bits torque_bit past)
        feeds-same signals-same ∙ sym (fed-cons m1 past))

    -- what the two debouncers weigh after it
    first-at : first_at (e ∷ h) ≡ counter_after (by_high s.cal.rules.torque low high positive order) torque_bit (m1 ∷ past)
    unfolding counters_in
    first-at = ap (λ span. counter_after (by_high s.cal.rules.torque low high positive order) torque_bit span)
        (margin.span-next one high watch.Torque (λ c. c.torque) of_first e h ∙ ap (λ m. m ∷ past) next-first)

    second-at : second_at (e ∷ h) ≡ counter_after (by_low s.cal.rules.torque low high positive order) torque_bit (m2 ∷ past)
    unfolding counters_in
    second-at = ap (λ span. counter_after (by_low s.cal.rules.torque low high positive order) torque_bit span)
        (margin.span-next two low watch.Torque (λ c. c.torque) of_second e h
        ∙ ap₂ (λ m ms. m ∷ before_at e.drive ms) next-second same)

    -- a debouncer that weighs something has met no word that differs from its complement
    calm : (w : WeightParts) (ms : List Moment) (n : ℕ) → 1 ≤ n → counter_after w torque_bit ms ≡ n → mirror_found ms ≡ false
    unfolding counter_after
    calm w ms n some is = go (mirror_found ms) is
      where
        go : (found : Bool) → (if found then 0 else counted w (fed_bits torque_bit ms)) ≡ n → found ≡ false
        go true none = absurd (omega (arith, some, none))
        go false there = refl

    driven-same : drives (span_kind (moments two (e ∷ h))) ≡ drives (span_kind (moments one (e ∷ h)))
    driven-same = ap drives (kind-next two e h ∙ ap (kind_at e.drive) same ∙ sym (kind-next one e h))

    -- found by the second: the first weighs the lower limit at the least
    found_low : (next two e h).found.torque ≡ true → low ≤ first_greatest (e ∷ h)
    found_low found =
        let now = margin.now_found two low watch.Torque (λ c. c.torque) of_second e h (unfold is_found in found) in
        let two_calm = calm (by_low s.cal.rules.torque low high positive order) (m2 ∷ past) low positive (sym second-at ∙ now.1) in
        let finds_it = sym (fields_in (kind_at e.drive (moments one h)) two x e past).torque
        ∙ ap (λ (m : Moment). m.found.torque) (sym next-second) ∙ found in
        let low_now = subst (λ n. low ≤ n) (weighs-alike (by_high s.cal.rules.torque low high positive order) ∙ sym first-at)
        (weighs-found s.cal.rules.torque low high positive order m2 past two_calm finds_it) in
        let is = margin.greatest-next one high watch.Torque (λ c. c.torque) of_first e h
        ∙ ap (λ (b : Bool). if b then max (first_at (e ∷ h)) (first_greatest h) else first_greatest h) (sym driven-same ∙ now.0) in
        omega (arith, low_now, is)

    -- not found by the second, and not before: nor by the first
    unfound_later : ¬ IsFoundIn watch.Torque (rows_of (moments two (e ∷ h))) → (next one e h).found.torque ≡ false
    unfound_later none = elim (cases_Bool (next one e h).found.torque) [
      | inl found ↦ absurd (none (by_second found))
      | inr not_found ↦ not_found
    ]
      where
        by_second : (next one e h).found.torque ≡ true → IsFoundIn watch.Torque (rows_of (moments two (e ∷ h)))
        by_second found =
            let now = margin.now_found one high watch.Torque (λ c. c.torque) of_first e h (unfold is_found in found) in
            let one_calm = calm (by_high s.cal.rules.torque low high positive order) (m1 ∷ past) high (omega (arith, positive, order))
            (sym first-at ∙ now.1) in
            let finds_it = sym (fields_in (kind_at e.drive (moments one h)) one x e past).torque
            ∙ ap (λ (m : Moment). m.found.torque) (sym next-first) ∙ found in
            let reached = weighs-reached s.cal.rules.torque low high positive order m1 past one_calm finds_it in
            margin.limit_found two low watch.Torque (λ c. c.torque) of_second (e ∷ h) (driven-same ∙ now.0)
            (second-at ∙ weighs-alike (by_low s.cal.rules.torque low high positive order) ∙ reached)

-- ---- on the bench ----

module _ {E : Type 0} (b : BenchEngine E) (r : Run) (accepted : IsAccepted r.setting.cal) (low high : ℕ)
    (positive : 1 ≤ low) (order : low ≤ high) (within : high ≤ 10000) where
  abbrev first : Run
  first = run_in (torque_limited high r.setting) r

  abbrev second : Run
  second = run_in (torque_limited low r.setting) r

  -- what came in at the first n ticks of the first run, and the greatest weight by it
  abbrev came : ℕ → List Entry
  came = entries_to b first

  abbrev weighs : ℕ → ℕ
  weighs n = first_greatest r.setting accepted low high positive order within (came n)

  -- Either the first n ticks of both runs are the same, and the second finds no torque at them; or it does, and the
  -- first weighs the lower limit at the least.
  data State (n : ℕ) : Type 0 where
    Same : entries_to b second n ≡ came n → moments second.setting (came n) ≡ moments first.setting (came n) →
        ¬ IsFoundIn watch.Torque (rows_of (moments_to b second n)) → State n
    Found : IsFoundIn watch.Torque (rows_of (moments_to b second n)) → low ≤ weighs n → State n

  begins : State 0
  begins = Same (unfold entries_to in refl) (unfold entries_to moments in refl)
      (λ found. let never = found.1.1 in absurd (unfold moments_to rows_of in omega (arith, never)))

  -- the history of the second run, where that of the first is its own
  second_history : (n : ℕ) → entries_to b second n ≡ came n → moments_to b second n ≡ moments second.setting (came n)
  second_history n same = records_are_histories b second n ∙ ap (moments second.setting) same

  module _ (t : ℕ) where
    abbrev h : List Entry
    h = came t

    -- what comes in at tick t
    abbrev e : Entry
    e = entry_at b first t (moments_to b first t)

    -- ---- where both are the same so far ----

    module _ (entries : entries_to b second t ≡ h) (same : moments second.setting h ≡ moments first.setting h)
        (none : ¬ IsFoundIn watch.Torque (rows_of (moments_to b second t))) where
      alike : moments_to b second t ≡ moments_to b first t
      alike = second_history t entries ∙ same ∙ sym (records_are_histories b first t)

      entries-next : entries_to b second (suc t) ≡ came (suc t)
      unfolding entries_to
      entries-next = ap₂ (λ x before. x ∷ before) (ap (entry_at b second t) alike ∙ entry-same b r
          r.setting.cal.rules.pair r.setting.cal.rules.pair first.setting.cal.rules.torque second.setting.cal.rules.torque t
          (moments_to b first t)) entries

      none-so_far : ¬ IsFoundIn watch.Torque (rows_of (moments second.setting h))
      none-so_far found = none (subst (λ ms. IsFoundIn watch.Torque (rows_of ms)) (sym (second_history t entries)) found)

      none-now : (next second.setting e h).found.torque ≡ false → ¬ IsFoundIn watch.Torque (rows_of (moments second.setting (e ∷ h)))
      none-now not_found found =
          elim (Contains-cons_cases (row_of (length (moments second.setting h)) (next_after second.setting e (moments second.setting h)))
          (rows_of (moments second.setting h)) found.0 (unfold moments rows_of in found.1)) [
            | inl is ↦ both_ways _ not_found (unfold is_found in margin.found_row second.setting low watch.Torque (λ c. c.torque)
                (of_second r.setting accepted low high positive order within) e h found.0 is found.2)
            | inr earlier ↦ none-so_far (found.0, earlier, found.2)
          ]

      moments-next : (next second.setting e h).found.torque ≡ false → (next first.setting e h).found.torque ≡ false →
          moments second.setting (e ∷ h) ≡ moments first.setting (e ∷ h)
      unfolding moments next
      moments-next not_found first_none =
          ap (λ ms. next_after second.setting e ms ∷ ms) same
          ∙ ap (λ m. m ∷ moments first.setting h) (next-same r.setting r.setting.cal.rules.pair
          r.setting.cal.rules.pair first.setting.cal.rules.torque second.setting.cal.rules.torque e (moments first.setting h)
          (by_torque r.setting high low e (moments first.setting h) first_none
          (ap (λ ms. (next_after second.setting e ms).found.torque) (sym same) ∙ not_found)))

      goes_on : (next second.setting e h).found.torque ≡ false → State (suc t)
      unfolding entries_to
      goes_on not_found =
          let unfound = none-now not_found in
          let first_none = unfound_later r.setting accepted low high positive order within e h same unfound in
          let now = moments-next not_found first_none in
          Same entries-next now (λ found. unfound (subst (λ ms. IsFoundIn watch.Torque (rows_of ms)) (second_history (suc t) entries-next) found))

      is_found_now : (next second.setting e h).found.torque ≡ true → State (suc t)
      unfolding entries_to
      is_found_now found = Found
          (subst (λ ms. IsFoundIn watch.Torque (rows_of ms)) (sym (second_history (suc t) entries-next))
          (margin.row_found second.setting low watch.Torque (λ c. c.torque)
          (of_second r.setting accepted low high positive order within) e h (unfold is_found in found)))
          (found_low r.setting accepted low high positive order within e h same found)

      either : State (suc t)
      either = elim (cases_Bool (next second.setting e h).found.torque) [
        | inl found ↦ is_found_now found
        | inr not_found ↦ goes_on not_found
      ]

    -- ---- where the second has found it already ----

    stays_found : IsFoundIn watch.Torque (rows_of (moments_to b second t)) → IsFoundIn watch.Torque (rows_of (moments_to b second (suc t)))
    stays_found found = unfold moments_to rows_of in
        (found.0, Contains-tail _ (rows_of (moments_to b second t)) found.0 found.1, found.2)

    stays_enough : low ≤ weighs t → low ≤ weighs (suc t)
    unfolding entries_to
    stays_enough enough = subst (λ n. low ≤ n)
        (sym (margin.greatest-next first.setting high watch.Torque (λ c. c.torque)
        (of_first r.setting accepted low high positive order within) e h))
        (go (drives (span_kind (moments first.setting (e ∷ h)))))
      where
        go : (driven : Bool) → low ≤ (if driven
            then max (first_at r.setting accepted low high positive order within (e ∷ h)) (weighs t) else weighs t)
        go true = omega (arith, enough)
        go false = enough

    next_state : State t → State (suc t)
    next_state (Same entries same none) = either entries same none
    next_state (Found found enough) = Found (stays_found found) (stays_enough enough)

  state : (n : ℕ) → State n
  state zero = begins
  state (suc t) = next_state t (state t)

  -- ---- the law ----

  weight-is : weight_by b high r ≡ weighs (length r.drive)
  unfolding record_margins margins_of margin.greatest
  weight-is = ap (λ ms. greatest_weight (λ c. c.torque) (weighed_of first.setting.cal ms))
      (records_are_histories b first (length r.drive))

  tells_by : (n : ℕ) → State n → (low ≤ weighs n) ↔ IsFoundIn watch.Torque (rows_of (moments_to b second n))
  tells_by n (Same entries same none) =
      let few = unfound_low r.setting accepted low high positive order within (came n) same
      (λ found. none (subst (λ ms. IsFoundIn watch.Torque (rows_of ms)) (sym (second_history n entries)) found)) in
      ((λ enough. absurd (omega (arith, few, enough))), (λ found. absurd (none found)))
  tells_by n (Found found enough) = ((λ _. found), (λ _. enough))

  pub tells : (low ≤ weight_by b high r) ↔ IsFoundBy b low r
  unfolding record_rows
  tells = subst (λ n. (low ≤ n) ↔ IsFoundBy b low r) (sym weight-is) (tells_by (length r.drive) (state (length r.drive)))

pub records_tell_limits : {E : Type 0} (b : BenchEngine E) → RecordsTellLimits b
records_tell_limits b r accepted tried limit some fewer most = tells b r accepted limit tried some fewer most

pub records_tell_least_limit : {E : Type 0} (b : BenchEngine E) → RecordsTellLeastLimit b
records_tell_least_limit b r accepted tried most below = record {
  from_there = λ limit enough within. elim (cases_lt tried limit) [
    | inl above ↦ (λ found.
        -- not found by the limit that was tried, so not by a higher one
        let none : ¬ IsFoundBy b tried r = λ by_tried. (let there = (records_tell_limits b r accepted tried tried
        (omega (arith, below)) (omega arith) most).1 by_tried in omega (arith, there, below)) in
        let there = (records_tell_limits b r accepted limit limit (omega (arith, above)) (omega arith) within).1 found in
        none ((records_tell_limits b r accepted limit tried (omega (arith, below)) (omega (arith, above)) within).0
        (omega (arith, there, above))))
    | inr up_to ↦ (λ found. let there = (records_tell_limits b r accepted tried limit (omega (arith, enough)) up_to most).1 found in
        omega (arith, there, enough))
  ];
  below = λ limit some few. (records_tell_limits b r accepted tried limit some (omega (arith, few, below)) most).0 (omega (arith, few));
}
