-- No stretch of excess under lapses is longer than `longest_missed` says: what level 2's runs in it leave to wrong
-- verdicts.
use Rattle.std.proofs.Common.{inl, inr, ◌⊎◌, ◌≡◌, ℕ, zero, suc, ◌+◌, ◌-◌, ◌*◌, ◌/◌, ◌%◌, ◌≤◌, ◌<◌, true, false, not, List, [], ◌∷◌, ◌++◌, length, length-append, append_assoc, take, refl, sym, ap, ◌∙◌, subst, arith}
use Rattle.std.specs.Prelude.{if◌then◌else◌}
use Rattle.std.specs.List.{count_by}
use Rattle.std.proofs.lemmas.Nat.{le-div}
use Rattle.std.proofs.lemmas.Bool.{cases_lt, cases_Bool, true≢false, and_parts}
use Rattle.eg_num.specs.Windows.{is_confirmed}
use Rattle.eg_torque.specs.declared.ramp.TheConstants.{NO_RAMP}
use Rattle.eg_answer.specs.Times.{feeds_to_confirm, reaction_of, rights_between, most_wrong, further_ticks, longest_missed_of}
use Rattle.eg_values.specs.Calibration.{IsAccepted}
use Rattle.eg_values.specs.Excess.{BoundsMissed, longest_missed}
use Rattle.eg_fault.specs.declared.paths.TheConstants.{PATH_2}
use Rattle.eg_record.specs.Excess.{true_excess}
use Rattle.eg_model.specs.History.{Setting, Tick, Drive, Moment}
use Rattle.eg_model.specs.Signals.{tripped}
use Rattle.eg_model.specs.Detection.{fed_bits, torque_bit}
use Rattle.eg_model.specs.Moments.{moment, moments_of}
use Rattle.eg_model.specs.Rows.{row_of, rows_of}
use Rattle.eg_model.specs.Premises.{AreProper, Follows, true_excesses}
use Rattle.eg_model.specs.Lapses.{IsLapse, Exceeds}
use Rattle.eg_plant.specs.PlantParts.{PlantParts}
use Rattle.eg_model.specs.Engines.{BenchEngine, KeepsBenchLaws}
use Rattle.eg_model.proofs.RecordLaws.{records_stay_below}
use Rattle.eg_laws.specs.MissedStretch.{MissedStretchesEnd, RecordsEndMissedStretches}
use Rattle.eg_laws.specs.Availability.{misses_tick}
use Rattle.eg_model.specs.Paths.{latch2}
use Rattle.eg_model.specs.Seeing.{SeesExcess}
use Rattle.eg_model.proofs.TickLemmas.{Each, tripped_on}
use Rattle.eg_model.proofs.ClassLemmas.{sees_plain}
use Rattle.eg_model.proofs.Seeing.{stays_low}
use Rattle.eg_model.proofs.SpanRows.{proper-end}
use Rattle.eg_model.proofs.TripLemmas.{trip_from_fed, off_by_latch1}
use Rattle.eg_model.proofs.Silence.{wrongs, TrueRun, run_confirms, longer_run, enough_weight, opens_when_confirmed, off_by_latch2, period_least, send_within}
use Rattle.eg_model.proofs.LapseRuns.{AllOrNone, AllOrNoneEach, lapse_all_or_none, trip_opens, whole-is, runs_in, runs_in-cons, AllExceed, AreLow, low_without_ramp, low_where_held, runs_find}
use Rattle.eg_model.proofs.LapseAnswers.{goods_in, Judged, judged}
use Rattle.eg_model.proofs.LapseLaw.{exceed_behind, off_no_excess, lapsing_history}
use Rattle.eg_laws.proofs.FewVerdicts.{quotient_positive}
use Rattle.eg_laws.proofs.MissedRuns.{Full, Cut, walk}
use Rattle.eg_laws.proofs.OneVerdict.{latched}
use Rattle.eg_laws.proofs.MissTicks.{lapse_tick, counts_as_missed}
use Rattle.eg_laws.proofs.SilentVerdicts.{each_parts}
use Rattle.eg_laws.proofs.WrongVerdicts.{few_wrong, most_in_row, many_within}

-- ---- up to a tick by which neither a trip came nor wrong answers were confirmed ----

pub confirming_verdicts : (s : Setting) → IsAccepted s.cal → 0 < feeds_to_confirm s.cal.times.weights
unfolding feeds_to_confirm
confirming_verdicts s accepted = quotient_positive s.cal.times.weights.limit s.cal.times.weights.up
    (let a = accepted.answers.3 in omega (arith, a)) (let a = accepted.answers.0 in omega (arith, a))

-- where no trip came, and each of level 2's newest runs fed a bit that is set, these are fewer than confirm
pub few_found : (s : Setting) → IsAccepted s.cal → (h : List Tick) (m : ℕ) → tripped (moments_of s h) ≡ false →
    TrueRun (runs_in m (moments_of s h)) (fed_bits torque_bit (moments_of s h)) →
    runs_in m (moments_of s h) < feeds_to_confirm s.cal.rules.torque
few_found s accepted h m untripped found = elim (cases_lt (runs_in m past) runs) [
  | inl less ↦ less
  | inr enough ↦ absurd (true≢false (sym (trip_from_fed s h (confirmed enough)) ∙ untripped))
]
  where
    past : List Moment
    past = moments_of s h

    runs : ℕ
    runs = feeds_to_confirm s.cal.rules.torque

    confirmed : runs ≤ runs_in m past → is_confirmed s.cal.rules.torque (fed_bits torque_bit past) ≡ true
    confirmed enough = run_confirms s.cal.rules.torque runs (fed_bits torque_bit past)
        (let a = accepted.torque.3 in omega (arith, a)) (enough_weight s.cal.rules.torque (let a = accepted.torque.0 in omega (arith, a)))
        (longer_run runs (runs_in m past) (fed_bits torque_bit past) enough found)

-- so it is in a stretch of excess
pub few_runs : (s : Setting) → IsAccepted s.cal → (h : List Tick) → AllOrNoneEach h → AreProper s h → AreLow s h →
    tripped (moments_of s h) ≡ false → (m : ℕ) → AllExceed s m h →
    runs_in m (moments_of s h) < feeds_to_confirm s.cal.rules.torque
few_runs s accepted h each proper low untripped m exceed =
    few_found s accepted h m untripped (runs_find s accepted h low each proper m exceed untripped)

-- the numbers, where the worst-case reaction is r ticks
reaction_is : (s : Setting) → IsAccepted s.cal →
    reaction_of s.cal.times + s.cal.times.send + 1 ≡ (feeds_to_confirm s.cal.times.weights + 1) * s.cal.times.period
unfolding reaction_of
reaction_is s accepted = law (feeds_to_confirm s.cal.times.weights) s.cal.times.period s.cal.times.send (send_within s.cal.times accepted.times)
  where
    law : (n p send : ℕ) → send < p → (n + 1) * p - send - 1 + send + 1 ≡ (n + 1) * p
    law n p send l = let least : p ≤ (n + 1) * p = grind arith in omega (arith, l, least)

-- where one wrong verdict confirms in a row or after right ones: `rights` are at most so many
ends_by_wrong : (m send seen period k rest goods wrong many runs r : ℕ) → m + send + 1 ≤ seen + period + (k * period + rest) → rest < period →
    k + 1 ≤ wrong + goods → seen + period * goods + 1 < runs → r + send + 1 ≡ (many + 1) * period → many ≤ wrong →
    m + 1 ≤ runs - 1 + r + ((wrong - many) * period - 1)
ends_by_wrong m send seen period k rest goods wrong many runs r size room few paid is least =
    let all : (k + 1) * period ≤ (wrong + goods) * period = scaled (k + 1) (wrong + goods) period few in
    let split : wrong ≡ many + (wrong - many) = omega (arith, least) in
    let spread : wrong * period ≡ (many + (wrong - many)) * period = ap (λ n. n * period) split in
    omega (arith, size, room, all, spread, paid, is)
  where
    scaled : (a b p : ℕ) → a ≤ b → a * p ≤ b * p
    scaled a b p l = grind arith

ends_in_a_row : (m send seen period k rest many runs r more : ℕ) → m + send + 1 ≤ seen + period + (k * period + rest) → rest < period →
    k + 1 ≤ many → seen < runs → r + send + 1 ≡ (many + 1) * period → m + 1 ≤ runs - 1 + r + more
ends_in_a_row m send seen period k rest many runs r more size room few paid is =
    let all : (k + 1) * period ≤ many * period = scaled (k + 1) many period few in
    omega (arith, size, room, all, paid, is)
  where
    scaled : (a b p : ℕ) → a ≤ b → a * p ≤ b * p
    scaled a b p l = grind arith

module _ (s : Setting) (accepted : IsAccepted s.cal) (h : List Tick) (each : AllOrNoneEach h) (m : ℕ) (within : m ≤ length h)
    (few : runs_in m (moments_of s h) < feeds_to_confirm s.cal.rules.torque)
    (quiet : is_confirmed s.cal.times.weights (wrongs (moments_of s h)) ≡ false) where
  abbrev past : List Moment
  past = moments_of s h

  abbrev period : ℕ
  period = s.cal.times.period

  abbrev runs : ℕ
  runs = feeds_to_confirm s.cal.rules.torque

  abbrev many : ℕ
  many = feeds_to_confirm s.cal.times.weights

  abbrev reaction : ℕ
  reaction = reaction_of s.cal.times

  abbrev rights : ℕ
  rights = rights_between s.cal.rules.torque s.cal.times

  abbrev wrong : ℕ
  wrong = most_wrong s.cal.times.weights rights

  abbrev Ends : Type 0
  Ends = m + 1 ≤ runs - 1 + reaction + ((wrong - many) * period - 1)

  some : 0 < period
  some = period_least s.cal.times accepted.times

  full_ends : Full s.cal.times past (length h) m → Ends
  full_ends full = law (reaction_is s accepted) (confirming_verdicts s accepted) (send_within s.cal.times accepted.times)
    where
      law : reaction + s.cal.times.send + 1 ≡ (many + 1) * period → 0 < many → s.cal.times.send < period → Ends
      law is one inside =
          let least : 2 * period ≤ (many + 1) * period = scaled 2 (many + 1) period (omega (arith, one)) in
          omega (arith, full.size, full.ran, full.room, few, is, inside, least)
        where
          scaled : (a b p : ℕ) → a ≤ b → a * p ≤ b * p
          scaled a b p l = grind arith

  cut_ends : Cut s.cal.times past (length h) m → Ends
  unfolding rights_between
  cut_ends cut = elim cut.enough [
    | inl paid ↦ ends_by_wrong m s.cal.times.send cut.seen period k rest (goods_in cut.n past) wrong many runs reaction
        (subst (λ n. m + s.cal.times.send + 1 ≤ cut.seen + period + n) split cut.size) room
        (let w = few_wrong s.cal.times.weights accepted.answers k (wrongs past) seen.many quiet rights
        (let r = right in let l = room_for paid in omega (arith, r, l)) in let r = right in omega (arith, w, r))
        (omega (arith, paid, few)) (reaction_is s accepted) (many_within s.cal.times.weights accepted.answers rights)
    | inr free ↦ ends_in_a_row m s.cal.times.send cut.seen period k rest many runs reaction ((wrong - many) * period - 1)
        (subst (λ n. m + s.cal.times.send + 1 ≤ cut.seen + period + n) split cut.size) room
        (let w = few_wrong s.cal.times.weights accepted.answers k (wrongs past) seen.many quiet 0
        (let r = right in let z = free.0 in omega (arith, r, z)) in let r = right in let z = free.0 in
        let l = most_in_row s.cal.times.weights accepted.answers in omega (arith, w, r, z, l))
        (let f = free.2 in omega (arith, f, few)) (reaction_is s accepted)
  ]
    where
      k : ℕ
      k = cut.n / period

      rest : ℕ
      rest = cut.n % period

      split : cut.n ≡ k * period + rest
      split = let p = some in omega (arith, p)

      room : rest < period
      room = let p = some in omega (arith, p)

      seen : Judged past k rest cut.n
      seen = judged s accepted.times h each cut.first k rest cut.n (placed (cut.at ∙ ap (λ n. cut.first * period + n) split)) room split
        where
          placed : length h ≡ cut.first * period + (k * period + rest) → length h ≡ (cut.first + k) * period + rest
          placed e = omega (arith, e)

      right : count_by not (take k (wrongs past)) ≤ goods_in cut.n past
      right = let f = seen.few in omega (arith, f)

      room_for : cut.seen + period * goods_in cut.n past + cut.runs + 1 ≤ runs_in m past → goods_in cut.n past ≤ rights
      room_for paid = le-div (goods_in cut.n past) (runs - 2) period some
          (let f = few in omega (arith, paid, f))

  ends : Ends
  ends = elim (walk s accepted.times h each m within) [
    | inl full ↦ full_ends full
    | inr cut ↦ cut_ends cut
  ]

  pub stretch_ends : m + 1 ≤ longest_missed s.cal
  unfolding longest_missed longest_missed_of further_ticks
  stretch_ends = ends

-- ---- where the stages are on ----

pub untripped_where_on : (s : Setting) (x : Tick) (h : List Tick) → AllOrNoneEach h → AllOrNone x.effects →
    (moment s x.effects x.entry (moments_of s h)).on ≡ true → tripped (moments_of s h) ≡ false
untripped_where_on s x h each one on = elim (cases_Bool (tripped (moments_of s h))) [
  | inl trip ↦ absurd (true≢false (sym on ∙ off_by_latch1 s x.effects x.entry (moments_of s h) (one.obeys 1) (trip_opens s h each trip)))
  | inr none ↦ none
]

pub quiet_where_on : (s : Setting) (x : Tick) (h : List Tick) → AllOrNone x.effects →
    (moment s x.effects x.entry (moments_of s h)).on ≡ true → is_confirmed s.cal.times.weights (wrongs (moments_of s h)) ≡ false
unfolding moments_of
quiet_where_on s x h one on = elim (cases_Bool (is_confirmed s.cal.times.weights (wrongs (moments_of s h)))) [
  | inl confirmed ↦ absurd (true≢false (sym on
      ∙ off_by_latch2 s x.effects x.entry (moments_of s h) (one.obeys PATH_2) (opens_when_confirmed Drive s h confirmed)))
  | inr none ↦ none
]

pub shut_where_on : (s : Setting) (x : Tick) (h : List Tick) → AllOrNone x.effects →
    (moment s x.effects x.entry (moments_of s h)).on ≡ true → latch2 (moments_of s h) ≡ false
shut_where_on s x h one on = elim (cases_Bool (latch2 (moments_of s h))) [
  | inl latched ↦ absurd (true≢false (sym on ∙ off_by_latch2 s x.effects x.entry (moments_of s h) (one.obeys PATH_2) latched))
  | inr none ↦ none
]

-- the longest stretch is no shorter than with a listed fault
longest_least : (s : Setting) (n : ℕ) → n ≤ feeds_to_confirm s.cal.rules.torque - 1 + reaction_of s.cal.times → n ≤ longest_missed s.cal
unfolding longest_missed longest_missed_of
longest_least s n l = omega (arith, l)

low_by : (s : Setting) → IsAccepted s.cal → (s.cal.rules.fall ≡ NO_RAMP) ⊎ (s.cal.rules.fall ≡ 0) → (h : List Tick) → AllOrNoneEach h →
    AreProper s h → AreLow s h
low_by s accepted (inl flat) h each proper = low_without_ramp s flat h
low_by s accepted (inr held) h each proper = low_where_held s accepted held h each proper

-- ---- where one wrong verdict confirms ----

-- a history up to the first tick that level 2 misses, and that tick, if there is one
record FirstMiss (s : Setting) (start : ℕ) (h : List Tick) : Type 0 where
  more : List Tick
  miss : Tick
  base : List Tick
  whole : h ≡ more ++ miss ∷ base
  out : misses_tick s.fault (start + length base) ≡ true
  seen : Each (λ x. SeesExcess x.effects) base

first_miss : (s : Setting) → IsLapse s.fault → (start : ℕ) (h : List Tick) → Follows s.fault start h →
    FirstMiss s start h ⊎ Each (λ x. SeesExcess x.effects) h
unfolding Follows Each
first_miss s lapse start [] follows = inr tt
first_miss s lapse start (x ∷ h) follows = elim (first_miss s lapse start h follows.1) [
  | inl one ↦ inl (record {
    more = x ∷ one.more;
    miss = one.miss;
    base = one.base;
    whole = ap (λ g. x ∷ g) one.whole;
    out = one.out;
    seen = one.seen;
  })
  | inr seen ↦ elim (lapse_tick s.fault lapse (start + length h)) [
    | inr out ↦ inl (record { more = []; miss = x; base = h; whole = refl; out = counts_as_missed s.fault (start + length h) out; seen = seen })
    | inl plain ↦ inr (subst SeesExcess (sym (follows.0 ∙ plain)) sees_plain, seen)
  ]
]

low_where_seen : (s : Setting) → IsAccepted s.cal → (h : List Tick) → Each (λ x. SeesExcess x.effects) h → AreProper s h → AreLow s h
unfolding AreLow AreProper Each
low_where_seen s accepted [] seen proper = tt
low_where_seen s accepted (x ∷ h) seen proper = (inr (stays_low s accepted h seen.1 proper.1), low_where_seen s accepted h seen.1 proper.1)

-- level 2 ran at each tick
all_ran : (s : Setting) (h : List Tick) → AllOrNoneEach h → Each (λ x. SeesExcess x.effects) h → (m : ℕ) → m ≤ length h →
    runs_in m (moments_of s h) ≡ m
unfolding Each moments_of
all_ran s h each seen zero within = unfold runs_in in refl
all_ran s [] each seen (suc m) within = absurd (omega (arith, within))
all_ran s (x ∷ h) each seen (suc m) within =
    runs_in-cons m (moment s x.effects x.entry (moments_of s h)) (moments_of s h)
    ∙ ap (λ b. if b then suc (runs_in m (moments_of s h)) else runs_in m (moments_of s h))
    (whole-is s x (moments_of s h) each.0 ∙ (sym (each.0.ran 0) ∙ seen.0.runs.ran 0))
    ∙ ap suc (all_ran s h each.1 seen.1 m (omega (arith, within)))

-- so fewer ticks of a stretch than confirm come up to there
few_seen : (s : Setting) → IsAccepted s.cal → (h : List Tick) → AllOrNoneEach h → AreProper s h → Each (λ x. SeesExcess x.effects) h →
    tripped (moments_of s h) ≡ false → (m : ℕ) → m ≤ length h → AllExceed s m h → m < feeds_to_confirm s.cal.rules.torque
few_seen s accepted h each proper seen untripped m within exceed = subst (λ n. n < feeds_to_confirm s.cal.rules.torque) (all_ran s h each seen m within)
    (few_runs s accepted h each proper (low_where_seen s accepted h seen proper) untripped m exceed)

single_ends : (s : Setting) → IsAccepted s.cal → feeds_to_confirm s.cal.times.weights ≡ 1 → IsLapse s.fault → (start : ℕ) (h : List Tick) →
    Follows s.fault start h → AreProper s h → tripped (moments_of s h) ≡ false → latch2 (moments_of s h) ≡ false →
    (m : ℕ) → m ≤ length h → AllExceed s m h → m + 1 ≤ feeds_to_confirm s.cal.rules.torque - 1 + reaction_of s.cal.times
single_ends s accepted single lapse start h follows proper untripped shut m within exceed = elim (first_miss s lapse start h follows) [
  | inr seen ↦ (let few = few_seen s accepted h each proper seen untripped m within exceed in
      let r = reaction_is s accepted in let one = confirming_verdicts s accepted in
      let inside = send_within s.cal.times accepted.times in
      law (feeds_to_confirm s.cal.times.weights) s.cal.times.period s.cal.times.send (reaction_of s.cal.times) (feeds_to_confirm s.cal.rules.torque)
      r single inside few)
  | inl miss ↦ elim (cases_lt (start + length h) (start + length miss.base + reaction_of s.cal.times)) [
    | inr late ↦ absurd (true≢false (sym (latched s accepted lapse start (start + length miss.base) (omega arith) miss.out single h follows late) ∙ shut))
    | inl soon ↦ (let few = up_to miss in let sizes = size miss in omega (arith, few, sizes, soon))
  ]
]
  where
    each : AllOrNoneEach h
    each = lapsing_history s lapse start h follows

    law : (n p send r d : ℕ) → r + send + 1 ≡ (n + 1) * p → n ≡ 1 → send < p → m < d → m + 1 ≤ d - 1 + r
    law n p send r d is one inside few = let two : (n + 1) * p ≡ 2 * p = ap (λ k. (k + 1) * p) one in omega (arith, is, two, inside, few)

    size : (miss : FirstMiss s start h) → length h ≡ length miss.more + 1 + length miss.base
    size miss = ap length miss.whole ∙ length-append miss.more (miss.miss ∷ miss.base) ∙ (let e : length miss.more + suc (length miss.base) ≡ length miss.more + 1 + length miss.base = omega arith in e)

    up_to : (miss : FirstMiss s start h) → m ≤ length miss.more + 1 + (feeds_to_confirm s.cal.rules.torque - 1)
    up_to miss = elim (cases_lt m (length miss.more + 1)) [
      | inl less ↦ omega (arith, less)
      | inr more ↦ (let few = few_seen s accepted miss.base
          (each_end miss.more (miss.miss ∷ []) miss.base (subst AllOrNoneEach (parted miss) each))
          (proper-end s (miss.more ++ miss.miss ∷ []) miss.base (subst (AreProper s) (parted miss) proper)) miss.seen
          (untripped_end miss) (m - (length miss.more + 1)) (let z = size miss in omega (arith, z, within, more))
          (exceed_behind s (miss.more ++ miss.miss ∷ []) miss.base m (m - (length miss.more + 1))
          (let z = length-append miss.more (miss.miss ∷ []) in omega (arith, z, more)) (subst (AllExceed s m) (parted miss) exceed)) in
          omega (arith, few, more))
    ]
      where
        parted : (miss : FirstMiss s start h) → h ≡ (miss.more ++ miss.miss ∷ []) ++ miss.base
        parted miss = miss.whole ∙ sym (append_assoc miss.more (miss.miss ∷ []) miss.base)

        each_end : (more one base : List Tick) → AllOrNoneEach ((more ++ one) ++ base) → AllOrNoneEach base
        each_end more one base all = (each_parts (λ x. AllOrNone x.effects) (more ++ one) base all).1

        untripped_end : (miss : FirstMiss s start h) → tripped (moments_of s miss.base) ≡ false
        untripped_end miss = elim (cases_Bool (tripped (moments_of s miss.base))) [
          | inl trip ↦ absurd (true≢false (sym (subst (λ g. tripped (moments_of s g) ≡ true) (sym (parted miss))
              (tripped_on s (miss.more ++ miss.miss ∷ []) miss.base trip)) ∙ untripped))
          | inr none ↦ none
        ]

-- ---- the law ----

missed_ends : (s : Setting) → IsAccepted s.cal → BoundsMissed s.cal → IsLapse s.fault → (start : ℕ) (h : List Tick) →
    Follows s.fault start h → AreProper s h → (n : ℕ) → Exceeds s n h → n < longest_missed s.cal + 1
unfolding Follows AreProper true_excesses moments_of rows_of row_of true_excess
missed_ends s accepted bounds lapse start h follows proper zero exceed = omega arith
missed_ends s accepted bounds lapse start [] follows proper (suc m) exceed = absurd (let w = exceed.within in omega (arith, w))
missed_ends s accepted bounds lapse start (x ∷ h) follows proper (suc m) exceed = elim (cases_Bool now.on) [
  | inr off ↦ absurd (off_no_excess s x past proper.0 off (and_parts _ _ exceed.each).0)
  | inl on ↦ fits (by on bounds (and_parts _ _ exceed.each).1)
]
  where
    past : List Moment
    past = moments_of s h

    now : Moment
    now = moment s x.effects x.entry past

    within : m ≤ length h
    within = let w = exceed.within in omega (arith, w)

    fits : m + 1 ≤ longest_missed s.cal → suc m < longest_missed s.cal + 1
    fits e = omega (arith, e)

    each : AllOrNoneEach h
    each = lapsing_history s lapse start h follows.1

    one : AllOrNone x.effects
    one = subst AllOrNone (sym follows.0) (lapse_all_or_none s.fault lapse (start + length h))

    by : now.on ≡ true → BoundsMissed s.cal → AllExceed s m h → m + 1 ≤ longest_missed s.cal
    by on (inl flat) rest = stretch_ends s accepted h each m within
        (few_runs s accepted h each proper.1 (low_by s accepted flat h each proper.1) (untripped_where_on s x h each one on) m rest)
        (quiet_where_on s x h one on)
    by on (inr single) rest = least s (single_ends s accepted single lapse start h follows.1 proper.1 (untripped_where_on s x h each one on)
        (shut_where_on s x h one on) m within rest)
      where
        least : (s : Setting) → m + 1 ≤ feeds_to_confirm s.cal.rules.torque - 1 + reaction_of s.cal.times → m + 1 ≤ longest_missed s.cal
        least s l = longest_least s (m + 1) l

pub missed_stretches_end : MissedStretchesEnd
missed_stretches_end cal accepted bounds s is lapse start h follows proper n exceed =
    subst (λ c. n < longest_missed c + 1) is
    (missed_ends s (subst IsAccepted (sym is) accepted) (subst BoundsMissed (sym is) bounds) lapse start h follows proper n exceed)

-- ---- of every record ----

module _ {E : Type 0} {b : BenchEngine E} {Keeps : PlantParts → E → Type 0} (keeps : KeepsBenchLaws b Keeps) where
  pub records_end_missed_stretches : RecordsEndMissedStretches b
  records_end_missed_stretches r run valid lapse bounds = records_stay_below keeps r run valid lapse (longest_missed r.setting.cal + 1)
      (missed_stretches_end r.setting.cal run.accepted bounds)
