-- The greatest weight of a watch is its limit exactly if the watch is found: first of a tick, then of each run.
use Rattle.std.proofs.Common.{◌≡◌, ◌∙◌, refl, sym, ap, ap₂, subst, ℕ, ◌≤◌, ◌⊎◌, inl, inr, Bool, true, false, not, ◌&&◌, ◌||◌, List, [], ◌∷◌, map, length, max, is_some, arith}
use Rattle.std.specs.Prelude.{◌==◌, nat_le, Option, Some, None, if◌then◌else◌}
use Rattle.std.proofs.lemmas.Bool.{cases_Bool, and_parts, both_ways, or_parts, ne_eqb}
use Rattle.eg_num.specs.Windows.{WeightParts, is_confirmed, is_reached, is_first, greatest_of}
use Rattle.eg_num.specs.Counting.{counted}
use Rattle.eg_num.proofs.CounterLemmas.{counted-confirmed, counted_below, counted_within, counted-nil}
use Rattle.eg_answer.specs.Times.{test_ticks_of}
use Rattle.eg_answer.specs.Periods.{with_verdict, is_wrong}
use Rattle.eg_answer.specs.declared.marks.Verdict.{Verdict}
use Rattle.eg_fault.specs.Effects.{Effects}
use Rattle.eg_fault.specs.Faults.{effects}
use Rattle.eg_values.specs.Calibration.{IsAccepted}
use Rattle.eg_record.specs.declared.row.Row.{Row}
use Rattle.eg_record.specs.declared.margins.Counters.{Counters}
use Rattle.eg_record.specs.declared.watch.Watch.{Watch}
use Rattle.eg_record.specs.declared.watch.Watch.TheVariants as watch
use Rattle.eg_record.specs.Detection.{is_found}
use Rattle.eg_record.specs.Margins.{Weighed, rows_in, is_driven, weighed_where, greatest_weight, surplus_of, margins_of}
use Rattle.eg_record.proofs.GivenLemmas.{Contains-head, Contains-tail, Contains-cons_cases}
use Rattle.eg_model.specs.History.{Setting, Entry, Tick, SpanKind, Drive, Test, drives, Moment, Signals}
use Rattle.eg_model.specs.Signals.{tripped}
use Rattle.eg_model.specs.Detection.{pedal_bit, plate_bit, load_bit, speed_bit, torque_bit, feeds_at, fed_bits, finds}
use Rattle.eg_model.specs.Answers.{verdicts_in, confirms_at}
use Rattle.eg_model.specs.Paths.{is_testing}
use Rattle.eg_model.specs.Moments.{moment_in, moments_in}
use Rattle.eg_model.specs.Spans.{span_so_far, span_kind, has_passed, kind_at, before_at, moment_at, next_after, next, moments}
use Rattle.eg_model.specs.Engines.{BenchEngine}
use Rattle.eg_model.specs.Bench.{Run, entries_to}
use Rattle.eg_model.specs.Rows.{row_of, rows_of, record_rows}
use Rattle.eg_model.proofs.RecordTicks.{records_are_histories}
use Rattle.eg_model.proofs.TickLemmas.{Fields, fields_in, Pedal, Plate, Load, Speed, bit_of, found_by}
use Rattle.eg_model.proofs.SpanLemmas.{before-begins, before-goes_on, kind-goes_on, span_so_far-next, kind-next, continues, ticks_before}
use Rattle.eg_agree.specs.Standing.{mirror_found, counter_after}
use Rattle.eg_agree.proofs.HistoryLemmas.{mirror_trips}
use Rattle.eg_tick.specs.Margins.{counters_in, counters_in_run, weighed_of, record_margins}
use Rattle.eg_play.specs.InWords.{IsFoundIn, IsWeightOf, IsSurplus, AreMargins}
use Rattle.eg_play.proofs.SurplusLaws.{is_surplus}

-- ---- one feed more ----

-- a feed that is the first to reach the limit brings the counter there
first_counted : (w : WeightParts) (b : Bool) (bits : List Bool) → is_first w (b ∷ bits) ≡ true → counted w (b ∷ bits) ≡ w.limit
unfolding is_first is_confirmed
first_counted w b bits first = counted-confirmed w (b ∷ bits) (go (is_reached w (b ∷ bits)) (is_confirmed w bits) first)
  where
    go : (reached before : Bool) → (reached && not before) ≡ true → (reached || before) ≡ true
    go reached before is = grind (arith, is)

-- a counter at the limit came there by that feed, or was there before
counted_first : (w : WeightParts) (b : Bool) (bits : List Bool) → 1 ≤ w.limit → counted w (b ∷ bits) ≡ w.limit →
    (is_first w (b ∷ bits) ≡ true) ⊎ (counted w bits ≡ w.limit)
unfolding is_first
counted_first w b bits positive at = elim (cases_Bool (is_confirmed w bits)) [
  | inl before ↦ inr (counted-confirmed w bits before)
  | inr not_before ↦ inl (elim (cases_Bool (is_confirmed w (b ∷ bits))) [
    | inl now ↦ first (is_reached w (b ∷ bits)) (is_confirmed w bits) not_before (confirmed-is now)
    | inr not_now ↦ absurd (let low = counted_below w (b ∷ bits) positive not_now in omega (arith, low, at))
  ])
]
  where
    confirmed-is : is_confirmed w (b ∷ bits) ≡ true → (is_reached w (b ∷ bits) || is_confirmed w bits) ≡ true
    confirmed-is is = unfold is_confirmed in is

    first : (reached before : Bool) → before ≡ false → (reached || before) ≡ true → (reached && not before) ≡ true
    first reached before isnt is = grind (arith, isnt, is)

-- ---- what a debouncer weighs after a tick of a span, and whether its watch is found there ----

module _ (s : Setting) where
  abbrev pub tick_in : SpanKind → Effects → Entry → List Tick → Moment
  tick_in kind x e before = moment_in kind s x e (moments_in kind s before)

  abbrev pub ticks_in : SpanKind → Effects → Entry → List Tick → List Moment
  ticks_in kind x e before = tick_in kind x e before ∷ moments_in kind s before

  -- A debouncer begins at 0 and stays within its limit. It is at the limit where its watch is found; and where it
  -- comes there in a drive span, its watch is found.
  pub record IsDebouncer (limit : ℕ) (name : Watch) (weight : Counters → ℕ) : Type 0 where
    positive : 1 ≤ limit
    none : weight (counters_in s.cal []) ≡ 0
    within : (span : List Moment) → weight (counters_in s.cal span) ≤ limit
    found : (kind : SpanKind) (x : Effects) (e : Entry) (before : List Tick) → is_found (tick_in kind x e before).found name ≡ true →
        (drives kind ≡ true) × (weight (counters_in s.cal (ticks_in kind x e before)) ≡ limit)
    reached : (kind : SpanKind) (x : Effects) (e : Entry) (before : List Tick) → drives kind ≡ true →
        weight (counters_in s.cal (ticks_in kind x e before)) ≡ limit →
        (is_found (tick_in kind x e before).found name ≡ true) ⊎ (weight (counters_in s.cal (moments_in kind s before)) ≡ limit)

  -- ---- those of level 2 ----

  module _ (w : WeightParts) (bit : Signals → Bool) (positive : 1 ≤ w.limit) where
    counter-none : counter_after w bit [] ≡ 0
    unfolding counter_after mirror_found fed_bits
    counter-none = counted-nil w

    counter-within : (span : List Moment) → counter_after w bit span ≤ w.limit
    unfolding counter_after
    counter-within span = go (mirror_found span)
      where
        go : (found : Bool) → (if found then 0 else counted w (fed_bits bit span)) ≤ w.limit
        go true = omega arith
        go false = counted_within w (fed_bits bit span) positive

    module _ (kind : SpanKind) (x : Effects) (e : Entry) (before : List Tick) where
      abbrev past : List Moment
      past = moments_in kind s before

      abbrev m : Moment
      m = moment_in kind s x e past

      is : Fields kind (drives kind) s x e past m
      is = fields_in kind s x e past

      -- what is so where the debouncers are fed
      record IsFed : Type 0 where
        driven : drives kind ≡ true
        calm : (m.found.mirror || mirror_found past) ≡ false

      fed : m.feeds ≡ true → IsFed
      unfolding feeds_at
      fed feeds =
          let parts = and_parts (drives kind) (feeds_at x past) (sym is.feeds ∙ feeds) in
          let rest = parts_of (x.ran 6) (tripped past) (is_some x.flip) parts.1 in
          record { driven = parts.0; calm = neither m.found.mirror (mirror_found past) (is.mirror ∙ rest.1) (not_before (mirror_found past) refl rest.0) }
        where
          parts_of : (a b c : Bool) → (a && not b && not c) ≡ true → (b ≡ false) × (c ≡ false)
          parts_of a b c is = (grind (arith, is), grind (arith, is))

          neither : (a b : Bool) → a ≡ false → b ≡ false → (a || b) ≡ false
          neither a b p q = grind (arith, p, q)

          not_before : (found : Bool) → mirror_found past ≡ found → tripped past ≡ false → mirror_found past ≡ false
          not_before false same quiet = same
          not_before true same quiet = absurd (both_ways (tripped past) quiet (mirror_trips kind s before same))

      mirror-cons : mirror_found (m ∷ past) ≡ (m.found.mirror || mirror_found past)
      unfolding mirror_found
      mirror-cons = refl

      bits-fed : m.feeds ≡ true → fed_bits bit (m ∷ past) ≡ bit m.signals ∷ fed_bits bit past
      unfolding fed_bits
      bits-fed feeds = rw feeds refl

      bits-unfed : m.feeds ≡ false → fed_bits bit (m ∷ past) ≡ fed_bits bit past
      unfolding fed_bits
      bits-unfed rests = rw rests refl

      counter-calm : (span : List Moment) → mirror_found span ≡ false → counter_after w bit span ≡ counted w (fed_bits bit span)
      unfolding counter_after
      counter-calm span calm = rw calm refl

      counter-found : finds w bit m.feeds m.signals past ≡ true → (drives kind ≡ true) × (counter_after w bit (m ∷ past) ≡ w.limit)
      unfolding finds
      counter-found found =
          let parts = and_parts m.feeds (is_first w (bit m.signals ∷ fed_bits bit past)) found in
          let here = fed parts.0 in (
            here.driven,
            counter-calm (m ∷ past) (mirror-cons ∙ here.calm) ∙ ap (counted w) (bits-fed parts.0)
                ∙ first_counted w (bit m.signals) (fed_bits bit past) parts.1,
          )

      counter-reached : counter_after w bit (m ∷ past) ≡ w.limit → (finds w bit m.feeds m.signals past ≡ true) ⊎ (counter_after w bit past ≡ w.limit)
      counter-reached at = elim (cases_Bool (mirror_found (m ∷ past))) [
        | inl found ↦ absurd (let none : counter_after w bit (m ∷ past) ≡ 0 = zero found in omega (arith, none, at, positive))
        | inr calm ↦ (let before = (or_parts m.found.mirror (mirror_found past) (sym mirror-cons ∙ calm)).1 in
            let now : counted w (fed_bits bit (m ∷ past)) ≡ w.limit = sym (counter-calm (m ∷ past) calm) ∙ at in
            elim (cases_Bool m.feeds) [
              | inl feeds ↦ elim (counted_first w (bit m.signals) (fed_bits bit past) positive (ap (counted w) (sym (bits-fed feeds)) ∙ now)) [
                | inl first ↦ inl (unfold finds in rw feeds first)
                | inr earlier ↦ inr (counter-calm past before ∙ earlier)
              ]
              | inr rests ↦ inr (counter-calm past before ∙ ap (counted w) (sym (bits-unfed rests)) ∙ now)
            ])
      ]
        where
          zero : mirror_found (m ∷ past) ≡ true → counter_after w bit (m ∷ past) ≡ 0
          zero found = unfold counter_after in rw found refl

  -- ---- that of the answers ----

  verdicts-cons : (m : Moment) (before : List Moment) → verdicts_in (m ∷ before) ≡ with_verdict m.verdict (verdicts_in before)
  unfolding verdicts_in
  verdicts-cons m before = refl

  module _ (positive : 1 ≤ s.cal.times.weights.limit) (kind : SpanKind) (x : Effects) (e : Entry) (before : List Tick) where
    abbrev weights : WeightParts
    weights = s.cal.times.weights

    abbrev seen : List Moment
    seen = moments_in kind s before

    abbrev now : Moment
    now = moment_in kind s x e seen

    abbrev bits_with : Option Verdict → List Bool
    bits_with verdict = map is_wrong (with_verdict verdict (verdicts_in seen))

    confirmed_now : (verdict : Option Verdict) → confirms_at s.cal.times verdict seen ≡ true → counted weights (bits_with verdict) ≡ weights.limit
    unfolding confirms_at with_verdict
    confirmed_now None confirms = absurd cc
    confirmed_now (Some verdict) confirms = first_counted weights (is_wrong verdict) (map is_wrong (verdicts_in seen)) confirms

    reached_now : (verdict : Option Verdict) → counted weights (bits_with verdict) ≡ weights.limit →
        (confirms_at s.cal.times verdict seen ≡ true) ⊎ (counted weights (map is_wrong (verdicts_in seen)) ≡ weights.limit)
    unfolding confirms_at with_verdict
    reached_now None at = inr at
    reached_now (Some verdict) at = counted_first weights (is_wrong verdict) (map is_wrong (verdicts_in seen)) positive at

    answers-found : now.found.answers ≡ true → (drives kind ≡ true) × (counted weights (map is_wrong (verdicts_in (now ∷ seen))) ≡ weights.limit)
    answers-found found =
        let fields = fields_in kind s x e seen in
        let parts = and_parts (drives kind) now.confirms (sym fields.answers ∙ found) in (
          parts.0,
          ap (λ verdicts. counted weights (map is_wrong verdicts)) (verdicts-cons now seen)
              ∙ confirmed_now now.verdict (sym fields.confirms ∙ parts.1),
        )

    answers-reached : drives kind ≡ true → counted weights (map is_wrong (verdicts_in (now ∷ seen))) ≡ weights.limit →
        (now.found.answers ≡ true) ⊎ (counted weights (map is_wrong (verdicts_in seen)) ≡ weights.limit)
    answers-reached driven at =
        let fields = fields_in kind s x e seen in
        elim (reached_now now.verdict (ap (λ verdicts. counted weights (map is_wrong verdicts)) (sym (verdicts-cons now seen)) ∙ at)) [
          | inl confirms ↦ inl (fields.answers ∙ ap₂ (λ a b. a && b) driven (fields.confirms ∙ confirms))
          | inr earlier ↦ inr earlier
        ]

  -- ---- the six ----

  -- one of level 2, by what it weighs and by when its watch is found
  of_bit : (w : WeightParts) → 1 ≤ w.limit → (bit : Signals → Bool) (name : Watch) (weight : Counters → ℕ) →
      ((span : List Moment) → weight (counters_in s.cal span) ≡ counter_after w bit span) →
      ((kind : SpanKind) (x : Effects) (e : Entry) (past : List Moment) → is_found (moment_in kind s x e past).found name
      ≡ finds w bit (moment_in kind s x e past).feeds (moment_in kind s x e past).signals past) →
      IsDebouncer w.limit name weight
  of_bit w positive bit name weight weighs finds_it = record {
    positive = positive;
    none = weighs [] ∙ counter-none w bit positive;
    within = λ span. subst (λ n. n ≤ w.limit) (sym (weighs span)) (counter-within w bit positive span);
    found = λ kind x e before found.
        let there = counter-found w bit positive kind x e before (sym (finds_it kind x e (moments_in kind s before)) ∙ found) in
        (there.0, weighs (ticks_in kind x e before) ∙ there.1);
    reached = λ kind x e before driven at.
        elim (counter-reached w bit positive kind x e before (sym (weighs (ticks_in kind x e before)) ∙ at)) [
          | inl found ↦ inl (finds_it kind x e (moments_in kind s before) ∙ found)
          | inr earlier ↦ inr (weighs (moments_in kind s before) ∙ earlier)
        ];
  }

  module _ (accepted : IsAccepted s.cal) where
    pedal : IsDebouncer s.cal.rules.pair.limit watch.Pedal (λ c. c.pedal)
    unfolding counters_in is_found bit_of found_by
    pedal = of_bit s.cal.rules.pair accepted.pair.3 pedal_bit watch.Pedal (λ c. c.pedal) (λ span. refl) (λ kind x e past. (fields_in kind s x e past).pair Pedal)

    plate : IsDebouncer s.cal.rules.pair.limit watch.Plate (λ c. c.plate)
    unfolding counters_in is_found bit_of found_by
    plate = of_bit s.cal.rules.pair accepted.pair.3 plate_bit watch.Plate (λ c. c.plate) (λ span. refl) (λ kind x e past. (fields_in kind s x e past).pair Plate)

    load : IsDebouncer s.cal.rules.pair.limit watch.Load (λ c. c.load)
    unfolding counters_in is_found bit_of found_by
    load = of_bit s.cal.rules.pair accepted.pair.3 load_bit watch.Load (λ c. c.load) (λ span. refl) (λ kind x e past. (fields_in kind s x e past).pair Load)

    speed : IsDebouncer s.cal.rules.pair.limit watch.Speed (λ c. c.speed)
    unfolding counters_in is_found bit_of found_by
    speed = of_bit s.cal.rules.pair accepted.pair.3 speed_bit watch.Speed (λ c. c.speed) (λ span. refl) (λ kind x e past. (fields_in kind s x e past).pair Speed)

    pub torque : IsDebouncer s.cal.rules.torque.limit watch.Torque (λ c. c.torque)
    unfolding counters_in is_found
    torque = of_bit s.cal.rules.torque accepted.torque.3 torque_bit watch.Torque (λ c. c.torque) (λ span. refl) (λ kind x e past. (fields_in kind s x e past).torque)

    answers : IsDebouncer s.cal.times.weights.limit watch.Answers (λ c. c.answers)
    unfolding counters_in is_found
    answers = record {
      positive = accepted.answers.3;
      none = (unfold verdicts_in in counted-nil s.cal.times.weights);
      within = λ span. counted_within s.cal.times.weights (map is_wrong (verdicts_in span)) accepted.answers.3;
      found = answers-found accepted.answers.3;
      reached = answers-reached accepted.answers.3;
    }

  -- ---- the rows of a run ----

  abbrev pub rows : List Entry → List Row
  rows h = rows_of (moments s h)

  abbrev pub weighed : List Entry → List Weighed
  weighed h = weighed_of s.cal (moments s h)

  rows-are : (ms : List Moment) → rows_in (weighed_of s.cal ms) ≡ rows_of ms
  unfolding rows_in weighed_of rows_of
  rows-are [] = refl
  rows-are (m ∷ ms) = ap (λ rest. row_of (length ms) m ∷ rest) (rows-are ms)

  -- a row is one of a drive span exactly if the engine is driven in its span
  Driven : List Entry → Type 0
  Driven h = is_driven (rows h) ≡ drives (span_kind (moments s h))

  module _ (e : Entry) (h : List Entry) where
    abbrev kind_now : SpanKind
    kind_now = kind_at e.drive (moments s h)

    abbrev span_before : List Moment
    span_before = before_at e.drive (moments s h)

    driven-row : is_driven (rows (e ∷ h))
        ≡ (if length span_before == 0 then not (is_testing kind_now s.cal.times (length span_before)) else is_driven (rows h))
    unfolding moments next_after moment_at rows_of row_of is_driven
    driven-row =
        let fields = fields_in kind_now s (effects s.fault (length (moments s h))) e span_before in
        ap₂ (λ fresh testing. if fresh then not testing else is_driven (rows h)) fields.fresh fields.testing

    at_first : (kind : SpanKind) → not (is_testing kind s.cal.times 0) ≡ drives kind
    unfolding is_testing drives
    at_first Drive = refl
    at_first Test = always (test_ticks_of s.cal.times)
      where
        always : (n : ℕ) → not (nat_le 0 n) ≡ false
        always n = grind arith

    driven-begins : span_before ≡ [] → Driven (e ∷ h)
    unfolding Driven
    driven-begins none = driven-row
        ∙ ap (λ (p : List Moment). if length p == 0 then not (is_testing kind_now s.cal.times (length p)) else is_driven (rows h)) none
        ∙ at_first kind_now ∙ ap drives (sym (kind-next s e h))

    driven-goes_on : (length span_before == 0) ≡ false → kind_now ≡ span_kind (moments s h) → Driven h → Driven (e ∷ h)
    unfolding Driven
    driven-goes_on some same before = driven-row
        ∙ ap (λ (b : Bool). if b then not (is_testing kind_now s.cal.times (length span_before)) else is_driven (rows h)) some
        ∙ before ∙ ap drives (sym same ∙ sym (kind-next s e h))

  none_so_far : span_so_far (moments s []) ≡ []
  unfolding moments span_so_far
  none_so_far = refl

  some_so_far : (f : Entry) (h : List Entry) → (length (span_so_far (moments s (f ∷ h))) == 0) ≡ false
  unfolding moments span_so_far
  some_so_far f h = ne_eqb _ 0 (λ none. omega arith)

  driven-is : (e : Entry) (h : List Entry) → Driven (e ∷ h)
  driven-is e [] = elim (cases_Bool (e.drive.reset || has_passed (moments s []))) [
    | inl begins ↦ driven-begins e [] (before-begins e.drive (moments s []) begins)
    | inr goes_on ↦ driven-begins e [] (before-goes_on e.drive (moments s []) goes_on ∙ none_so_far)
  ]
  driven-is e (f ∷ h) = elim (cases_Bool (e.drive.reset || has_passed (moments s (f ∷ h)))) [
    | inl begins ↦ driven-begins e (f ∷ h) (before-begins e.drive (moments s (f ∷ h)) begins)
    | inr goes_on ↦ driven-goes_on e (f ∷ h)
        (ap (λ (p : List Moment). length p == 0) (before-goes_on e.drive (moments s (f ∷ h)) goes_on) ∙ some_so_far f h)
        (kind-goes_on e.drive (moments s (f ∷ h)) goes_on) (driven-is f h)
  ]

  -- ---- a watch over a run ----

  module _ (limit : ℕ) (name : Watch) (weight : Counters → ℕ) (d : IsDebouncer limit name weight) where
    abbrev pub at : List Entry → ℕ
    at h = weight (counters_in s.cal (span_so_far (moments s h)))

    pub span-next : (e : Entry) (h : List Entry) → span_so_far (moments s (e ∷ h)) ≡ next s e h ∷ before_at e.drive (moments s h)
    unfolding moments next
    span-next e h = span_so_far-next s e (moments s h)

    -- what it weighs after an entry, by the ticks of the span before
    at-next : (e : Entry) (h : List Entry) → at (e ∷ h)
        ≡ weight (counters_in s.cal (ticks_in (kind_at e.drive (moments s h)) (effects s.fault (length h)) e (ticks_before s e h)))
    at-next e h =
        let c = continues s e h in
        ap (λ span. weight (counters_in s.cal span)) (span-next e h ∙ ap₂ (λ m past. m ∷ past) c.moment_is c.before_are)

    found-next : (e : Entry) (h : List Entry) → (next s e h).found
        ≡ (tick_in (kind_at e.drive (moments s h)) (effects s.fault (length h)) e (ticks_before s e h)).found
    found-next e h = ap (λ (m : Moment). m.found) (continues s e h).moment_is

    pub now_found : (e : Entry) (h : List Entry) → is_found (next s e h).found name ≡ true →
        (drives (span_kind (moments s (e ∷ h))) ≡ true) × (at (e ∷ h) ≡ limit)
    now_found e h found =
        let here = d.found (kind_at e.drive (moments s h)) (effects s.fault (length h)) e (ticks_before s e h)
        (ap (λ f. is_found f name) (sym (found-next e h)) ∙ found) in
        (ap drives (kind-next s e h) ∙ here.0, at-next e h ∙ here.1)

    pub row_found : (e : Entry) (h : List Entry) → is_found (next s e h).found name ≡ true → IsFoundIn name (rows (e ∷ h))
    unfolding next
    row_found e h found = unfold moments rows_of in (
      row_of (length (moments s h)) (next_after s e (moments s h)),
      Contains-head (row_of (length (moments s h)) (next_after s e (moments s h))) (rows h),
      (unfold row_of in found),
    )

    pub found_row : (e : Entry) (h : List Entry) (row : Row) → row_of (length (moments s h)) (next_after s e (moments s h)) ≡ row →
        is_found row.found name ≡ true → is_found (next s e h).found name ≡ true
    unfolding next row_of
    found_row e h row same found = ap (λ (r : Row). is_found r.found name) same ∙ found

    pub row_earlier : (e : Entry) (h : List Entry) → IsFoundIn name (rows h) → IsFoundIn name (rows (e ∷ h))
    row_earlier e h found = unfold moments rows_of in
        (found.0, Contains-tail (row_of (length (moments s h)) (next_after s e (moments s h))) (rows h) found.0 found.1, found.2)

    -- at the limit in a drive span: the watch is found
    pub limit_found : (h : List Entry) → drives (span_kind (moments s h)) ≡ true → at h ≡ limit → IsFoundIn name (rows h)
    limit_found [] driven is = absurd (let none : at [] ≡ 0 = (unfold moments span_so_far in d.none) in let some = d.positive in omega (arith, none, some, is))
    limit_found (e ∷ h) driven is = elim (d.reached (kind_at e.drive (moments s h)) (effects s.fault (length h)) e (ticks_before s e h)
        (ap drives (sym (kind-next s e h)) ∙ driven) (sym (at-next e h) ∙ is)) [
          | inl found ↦ row_found e h (ap (λ f. is_found f name) (found-next e h) ∙ found)
          | inr earlier ↦ row_earlier e h (before (limit_found h) (ap (λ past. weight (counters_in s.cal past)) (continues s e h).before_are ∙ earlier))
        ]
      where
        before : (drives (span_kind (moments s h)) ≡ true → at h ≡ limit → IsFoundIn name (rows h)) →
            weight (counters_in s.cal (before_at e.drive (moments s h))) ≡ limit → IsFoundIn name (rows h)
        before by_earlier there = elim (cases_Bool (e.drive.reset || has_passed (moments s h))) [
          | inl begins ↦ absurd (let none : weight (counters_in s.cal (before_at e.drive (moments s h))) ≡ 0
              = ap (λ past. weight (counters_in s.cal past)) (before-begins e.drive (moments s h) begins) ∙ d.none in
              let some = d.positive in omega (arith, none, some, there))
          | inr goes_on ↦ by_earlier
              (ap drives (sym (kind-goes_on e.drive (moments s h) goes_on) ∙ sym (kind-next s e h)) ∙ driven)
              (ap (λ past. weight (counters_in s.cal past)) (sym (before-goes_on e.drive (moments s h) goes_on)) ∙ there)
        ]

    unfoldable pub greatest : List Entry → ℕ
    greatest h = greatest_weight weight (weighed h)

    pub greatest-none : greatest [] ≡ 0
    unfolding greatest greatest_weight weighed_of moments weighed_where greatest_of
    greatest-none = refl

    greatest-row : (e : Entry) (h : List Entry) →
        greatest (e ∷ h) ≡ (if is_driven (rows_in (weighed (e ∷ h))) then max (at (e ∷ h)) (greatest h) else greatest h)
    unfolding greatest greatest_weight greatest_of moments weighed_of weighed_where counters_in_run
    greatest-row e h = go (is_driven (rows_in (weighed (e ∷ h))))
      where
        w : Weighed
        w = record {
          row = row_of (length (moments s h)) (next_after s e (moments s h));
          counters = counters_in s.cal (span_so_far (next_after s e (moments s h) ∷ moments s h));
        }

        go : (b : Bool) → greatest_of (map (λ (x : Weighed). weight x.counters) (if b then w ∷ weighed_where is_driven (weighed h) else weighed_where is_driven (weighed h)))
            ≡ (if b then max (weight w.counters) (greatest h) else greatest h)
        go true = refl
        go false = refl

    pub greatest-next : (e : Entry) (h : List Entry) → greatest (e ∷ h) ≡ (if drives (span_kind (moments s (e ∷ h))) then max (at (e ∷ h)) (greatest h) else greatest h)
    greatest-next e h = greatest-row e h ∙ ap (λ (b : Bool). if b then max (at (e ∷ h)) (greatest h) else greatest h)
        (ap is_driven (rows-are (moments s (e ∷ h))) ∙ (unfold Driven in driven-is e h))

    greatest-within : (h : List Entry) → greatest h ≤ limit
    greatest-within [] = let none = greatest-none in omega (arith, none)
    greatest-within (e ∷ h) = subst (λ n. n ≤ limit) (sym (greatest-next e h)) (go (drives (span_kind (moments s (e ∷ h)))) (greatest-within h))
      where
        go : (b : Bool) → greatest h ≤ limit → (if b then max (at (e ∷ h)) (greatest h) else greatest h) ≤ limit
        go true rest = let here = d.within (span_so_far (moments s (e ∷ h))) in omega (arith, here, rest)
        go false rest = rest

    greatest_found : (h : List Entry) → greatest h ≡ limit → IsFoundIn name (rows h)
    greatest_found [] is = absurd (let none = greatest-none in let some = d.positive in omega (arith, none, some, is))
    greatest_found (e ∷ h) is = go (drives (span_kind (moments s (e ∷ h)))) refl (sym (greatest-next e h) ∙ is) (greatest_found h)
      where
        which : (a b : ℕ) → a ≤ limit → b ≤ limit → max a b ≡ limit → (a ≡ limit) ⊎ (b ≡ limit)
        which a b low few at_limit = elim (cases_Bool (a == limit)) [
          | inl same ↦ inl (grind (arith, same))
          | inr other ↦ inr (grind (arith, other, low, few, at_limit))
        ]

        go : (b : Bool) → drives (span_kind (moments s (e ∷ h))) ≡ b → (if b then max (at (e ∷ h)) (greatest h) else greatest h) ≡ limit →
            (greatest h ≡ limit → IsFoundIn name (rows h)) → IsFoundIn name (rows (e ∷ h))
        go false rests there by_earlier = row_earlier e h (by_earlier there)
        go true driven there by_earlier = elim (which (at (e ∷ h)) (greatest h) (d.within (span_so_far (moments s (e ∷ h)))) (greatest-within h) there) [
          | inl now ↦ limit_found (e ∷ h) driven now
          | inr earlier ↦ row_earlier e h (by_earlier earlier)
        ]

    found_greatest : (h : List Entry) → IsFoundIn name (rows h) → greatest h ≡ limit
    found_greatest [] found = absurd (let none = found.1.1 in unfold moments rows_of in omega (arith, none))
    found_greatest (e ∷ h) found = elim (Contains-cons_cases (row_of (length (moments s h)) (next_after s e (moments s h))) (rows h) found.0 (unfold moments rows_of in found.1)) [
      | inl same ↦ (let here = now_found e h (found_row e h found.0 same found.2) in
          let is = greatest-next e h ∙ ap (λ (b : Bool). if b then max (at (e ∷ h)) (greatest h) else greatest h) here.0 in
          let limit_is = here.1 in let low = greatest-within h in omega (arith, is, limit_is, low))
      | inr earlier ↦ (let rest = found_greatest h (found.0, earlier, found.2) in
          subst (λ n. n ≡ limit) (sym (greatest-next e h)) (go (drives (span_kind (moments s (e ∷ h)))) rest))
    ]
      where
        go : (b : Bool) → greatest h ≡ limit → (if b then max (at (e ∷ h)) (greatest h) else greatest h) ≡ limit
        go true rest = let here = d.within (span_so_far (moments s (e ∷ h))) in omega (arith, here, rest)
        go false rest = rest

    pub is_weight : (h : List Entry) → IsWeightOf name limit (rows h) (greatest h)
    is_weight h = record { within = greatest-within h; found = (greatest_found h, found_greatest h) }

  -- ---- all six, and the surplus ----

  pub margins_are : IsAccepted s.cal → (h : List Entry) → AreMargins s.cal (rows h) (margins_of (weighed h))
  unfolding margins_of greatest
  margins_are accepted h = record {
    pedal = is_weight s.cal.rules.pair.limit watch.Pedal (λ c. c.pedal) (pedal accepted) h;
    plate = is_weight s.cal.rules.pair.limit watch.Plate (λ c. c.plate) (plate accepted) h;
    load = is_weight s.cal.rules.pair.limit watch.Load (λ c. c.load) (load accepted) h;
    speed = is_weight s.cal.rules.pair.limit watch.Speed (λ c. c.speed) (speed accepted) h;
    torque = is_weight s.cal.rules.torque.limit watch.Torque (λ c. c.torque) (torque accepted) h;
    answers = is_weight s.cal.times.weights.limit watch.Answers (λ c. c.answers) (answers accepted) h;
    surplus = subst (λ rs. IsSurplus rs (surplus_of (weighed h))) (rows-are (moments s h)) (is_surplus (weighed h));
  }

-- of the record of a run
pub record_margins_are : {E : Type 0} (b : BenchEngine E) (r : Run) → IsAccepted r.setting.cal → AreMargins r.setting.cal (record_rows b r) (record_margins b r)
unfolding record_margins record_rows
record_margins_are b r accepted = subst (λ ms. AreMargins r.setting.cal (rows_of ms) (margins_of (weighed_of r.setting.cal ms)))
    (sym (records_are_histories b r (length r.drive))) (margins_are r.setting accepted (entries_to b r (length r.drive)))
