-- Under any ramp each tick that level 2 misses leaves its permitted torque at most one fall further above the true one.
-- So it sees each excess that is greater than these falls together.
use Rattle.std.proofs.Common.{inl, inr, ◌⊎◌, ◌≡◌, ℕ, zero, suc, ◌+◌, ◌-◌, ◌*◌, ◌≤◌, ◌<◌, Bool, true, false, not, max, min, List, [], ◌∷◌, length, length-append, map, take, None, refl, sym, ap, ◌∙◌, subst, arith}
use Rattle.std.specs.Prelude.{if◌then◌else◌, ◌==◌, slice_index}
use Rattle.std.specs.List.{list_all}
use Rattle.std.proofs.lemmas.Bool.{cases_Bool, cases_lt, and_parts, ltb-true, lt-ltb, eq-eqb}
use Rattle.eg_num.specs.Drive.{DriveRow}
use Rattle.eg_num.specs.Interpolation.{grid_at}
use Rattle.eg_torque.specs.Permit.{permitted, drive_permits}
use Rattle.eg_torque.specs.Ramp.{ramped}
use Rattle.eg_torque.specs.Excess.{is_excess}
use Rattle.eg_torque.specs.declared.ramp.TheConstants.{NO_RAMP}
use Rattle.eg_torque.proofs.PermitLemmas.{grid_at-rises}
use Rattle.eg_sensor.specs.Readings.{has_bit}
use Rattle.eg_sensor.specs.declared.readings.Readings.{Readings}
use Rattle.eg_answer.specs.Times.{feeds_to_confirm}
use Rattle.eg_answer.specs.Formulas.{permitted_torque, excess_number}
use Rattle.eg_answer.specs.declared.modules.TheConstants.{DEBOUNCE, PERMITTED}
use Rattle.eg_values.specs.Calibration.{IsAccepted}
use Rattle.eg_values.specs.Excess.{ticks_to_confirm}
use Rattle.eg_fault.specs.Effects.{Effects}
use Rattle.eg_fault.specs.Faults.{effects}
use Rattle.eg_plant.specs.PlantParts.{PlantParts}
use Rattle.eg_record.specs.Excess.{true_excess}
use Rattle.eg_model.specs.History.{Setting, Tick, Moment}
use Rattle.eg_model.specs.Signals.{tripped, no_signals, last_signals, signal}
use Rattle.eg_model.specs.Detection.{feeds_at, fed_bits, torque_bit}
use Rattle.eg_model.specs.Answers.{is_whole}
use Rattle.eg_model.specs.Paths.{both_conduct}
use Rattle.eg_model.specs.Moments.{effective_drive, readings_at, last_limit, limit_at, demand_at, moment, moment_in, moments_of}
use Rattle.eg_model.specs.Premises.{AreProper, IsProper, Follows}
use Rattle.eg_model.specs.Rows.{row_of, rows_of}
use Rattle.eg_model.specs.Lapses.{IsLapse}
use Rattle.eg_model.specs.Engines.{BenchEngine, KeepsBenchLaws}
use Rattle.eg_model.proofs.TickLemmas.{Each, moment-exceeds, fields, untripped_before, length-moments}
use Rattle.eg_model.proofs.TripLemmas.{exceeds, fed_bits-cons, fed_bits-skip}
use Rattle.eg_model.proofs.Silence.{TrueRun}
use Rattle.eg_model.proofs.Seeing.{ErrsSafely, errs_safely, signal_tripped, actual-is, permitted-is, pedal-is, excess-is}
use Rattle.eg_model.proofs.LapseRuns.{AllOrNone, AllOrNoneEach, lapse_all_or_none, whole-is, sees, runs_in, runs_in-cons}
use Rattle.eg_model.proofs.LapseLaw.{off_no_excess, lapsing_history}
use Rattle.eg_model.proofs.SpanRows.{SpanRows, Split, split, bits_after, true_unnumbered, follows-end, proper-end, length-rows_after}
use Rattle.eg_model.proofs.RecordSpans.{SpanTo}
use Rattle.eg_model.proofs.RecordLaws.{each_drive, proper_span}
use Rattle.eg_laws.specs.Availability.{misses_tick, missed_ticks}
use Rattle.eg_laws.specs.MissedStretch.{GreatExcessEnds, GreatExcessIsShort, RecordsEndGreatExcess}
use Rattle.eg_laws.proofs.MissedStretchLaws.{few_found, untripped_where_on}

-- ---- the ramp ----

-- of two numbers down the ramp the one that stood at most so much higher, and whose demand is at most as high, is at most
-- so much higher
ramped_near : (fall a b c d more : ℕ) → (fall ≡ NO_RAMP) ⊎ (a ≤ b + more) → c ≤ d → ramped fall a c ≤ ramped fall b d + more
unfolding ramped
ramped_near fall a b c d more (inl none) less = rw (eq-eqb fall NO_RAMP none) (omega (arith, less))
ramped_near fall a b c d more (inr low) less = go (fall == NO_RAMP)
  where
    go : (none : Bool) → (if none then c else max c (a - fall)) ≤ (if none then d else max d (b - fall)) + more
    go true = omega (arith, less)
    go false = omega (arith, less, low)

-- down a ramp nothing falls by more than its fall
falls_slowly : (fall b d : ℕ) → (fall == NO_RAMP) ≡ false → b ≤ ramped fall b d + fall
unfolding ramped
falls_slowly fall b d some = rw some (omega arith)

scaled : (a b p : ℕ) → a ≤ b → a * p ≤ b * p
scaled a b p l = grind arith

step : (k p : ℕ) → (1 + k) * p ≡ p + k * p
step k p = grind arith

-- a signal of a module that doesn't run stays
stays_at : (x : Effects) (past : List Moment) (i before value : ℕ) → x.flip ≡ None → x.ran i ≡ false →
    signal x past i before value ≡ before
unfolding signal
stays_at x past i before value unflipped out = rw (unflipped, out) refl

-- ---- a tick at which level 2 runs, before any trip ----

module _ (s : Setting) (x : Tick) (past : List Moment) (one : AllOrNone x.effects) (ran : one.runs ≡ true)
    (untripped : tripped past ≡ false) (accepted : IsAccepted s.cal) (proper : IsProper s (both_conduct x.effects past) x.entry) where
  abbrev now : Moment
  now = moment s x.effects x.entry past

  abbrev reads : Readings
  reads = readings_at s.cal x.effects x.entry

  abbrev effective : DriveRow
  effective = effective_drive s.cal x.entry.drive

  safe : ErrsSafely s.cal.rules.kt reads effective x.entry.shown.torque
  safe = errs_safely s x past (sees s x past one ran) proper

  lower_pedal : now.signals.pedal ≤ min (slice_index reads.pedal 0) (1000 - slice_index reads.pedal 1)
  lower_pedal = let seen = sees s x past one ran in rw (pedal-is s x past seen.runs seen.undisturbed untripped) (grind arith)

  demands_less : permitted_torque s.cal.rules reads now.signals.pedal ≤ drive_permits s.cal.rules.permit effective
  demands_less = unfold permitted_torque permitted drive_permits in lower _ _ _ _ _ safe.raise (at_speed safe.speed)
    where
      up : (p q v : ℕ) → p ≤ q → grid_at s.cal.rules.permit p v ≤ grid_at s.cal.rules.permit q v
      up = grid_at-rises s.cal.rules.permit accepted.grid accepted.permit

      lower : (a b r p q : ℕ) → r ≤ q → (a ≤ p) ⊎ (b ≤ p) → max (min a b) r ≤ max p q
      lower a b r p q hr hab = omega arith

      less : now.signals.pedal ≤ effective.pedal
      less = let a = lower_pedal in let b = safe.pedal in omega (arith, a, b)

      at_speed : (slice_index reads.speed 0 ≡ effective.speed) ⊎ (slice_index reads.speed 1 ≡ effective.speed) →
          (grid_at s.cal.rules.permit now.signals.pedal (slice_index reads.speed 0) ≤ grid_at s.cal.rules.permit effective.pedal effective.speed) ⊎
          (grid_at s.cal.rules.permit now.signals.pedal (slice_index reads.speed 1) ≤ grid_at s.cal.rules.permit effective.pedal effective.speed)
      at_speed (inl same) = inl (rw same (up _ _ _ less))
      at_speed (inr same) = inr (rw same (up _ _ _ less))

  permits_near : (more : ℕ) → (s.cal.rules.fall ≡ NO_RAMP) ⊎ ((last_signals past).permitted ≤ last_limit past + more) →
      now.signals.permitted ≤ now.limit + more
  permits_near more near = let seen = sees s x past one ran in
      rw (permitted-is s x past seen.runs seen.undisturbed untripped, limit-is)
      (ramped_near s.cal.rules.fall _ _ _ _ more near demands_less)
    where
      limit-is : now.limit ≡ ramped s.cal.rules.fall (last_limit past) (drive_permits s.cal.rules.permit effective)
      limit-is = (fields s x.effects x.entry past).limit ∙ (unfold limit_at demand_at in refl)

  -- torque that is more than its permitted torque and the threshold shows in the excess word
  bit_above : now.signals.permitted + s.cal.rules.threshold < x.entry.shown.torque → torque_bit now.signals ≡ true
  bit_above over = let seen = sees s x past one ran in
      unfold torque_bit has_bit in rw (excess-is s x past seen.runs seen.undisturbed untripped, shows) refl
    where
      above : now.signals.permitted + s.cal.rules.threshold < now.signals.actual
      above = let b = safe.load in let seen = sees s x past one ran in
          rw (actual-is s x past seen.runs seen.undisturbed untripped) (omega (arith, over, b))

      shows : excess_number s.cal.rules now.signals.permitted now.signals.actual ≡ 1
      shows = unfold excess_number is_excess in rw (lt-ltb _ _ above) refl

-- ---- up to any tick of a span under a lapse ----

module _ (s : Setting) (accepted : IsAccepted s.cal) (lapse : IsLapse s.fault) (start : ℕ) where
  abbrev fall : ℕ
  fall = s.cal.rules.fall

  abbrev misses : List Tick → ℕ
  misses h = missed_ticks s.fault start (length h)

  -- whether level 2 misses a tick
  misses_out : (x : Tick) (h : List Tick) → x.effects ≡ effects s.fault (start + length h) → (one : AllOrNone x.effects) →
      misses_tick s.fault (start + length h) ≡ not one.runs
  unfolding misses_tick
  misses_out x h is one = ap (λ y. not (is_whole y)) (sym is)
      ∙ ap not (sym (fields s x.effects x.entry (moments_of s h)).whole ∙ whole-is s x (moments_of s h) one)

  counted : (x : Tick) (h : List Tick) → x.effects ≡ effects s.fault (start + length h) → (one : AllOrNone x.effects) →
      misses (x ∷ h) ≡ (if not one.runs then 1 else 0) + misses h
  unfolding missed_ticks
  counted x h is one = ap (λ b. (if b then 1 else 0) + misses h) (misses_out x h is one)

  -- ---- level 2's permitted torque ----

  abbrev IsNear : List Tick → Type 0
  IsNear h = (fall ≡ NO_RAMP) ⊎ ((last_signals (moments_of s h)).permitted ≤ last_limit (moments_of s h) + misses h * fall)

  near_now : (fall == NO_RAMP) ≡ false → (x : Tick) (h : List Tick) → x.effects ≡ effects s.fault (start + length h) → (one : AllOrNone x.effects) →
      IsProper s (both_conduct x.effects (moments_of s h)) x.entry →
      (last_signals (moments_of s h)).permitted ≤ last_limit (moments_of s h) + misses h * fall →
      (moment s x.effects x.entry (moments_of s h)).signals.permitted
      ≤ (moment s x.effects x.entry (moments_of s h)).limit + misses (x ∷ h) * fall
  near_now some x h is one proper before = elim (cases_Bool one.runs) [
    | inr out ↦ rw ((fields s x.effects x.entry past).permitted ∙ stays_at x.effects past PERMITTED _ _ one.unflipped (one.ran PERMITTED ∙ out), limit-is)
        (one_more _ _ _ (misses h) (misses (x ∷ h)) (counted x h is one ∙ ap (λ b. (if not b then 1 else 0) + misses h) out) before
        (falls_slowly fall (last_limit past) (demand_at s.cal x.entry.drive) some))
    | inl runs ↦ subst (λ k. (moment s x.effects x.entry past).signals.permitted ≤ (moment s x.effects x.entry past).limit + k * fall)
        (sym (none_more (misses (x ∷ h)) (misses h) (counted x h is one ∙ ap (λ b. (if not b then 1 else 0) + misses h) runs)))
        (elim (cases_Bool (tripped past)) [
          | inl after ↦ rw ((fields s x.effects x.entry past).permitted
              ∙ signal_tripped x.effects past PERMITTED _ _ (sees s x past one runs).runs after) (omega arith)
          | inr untripped ↦ permits_near s x past one runs untripped accepted proper (misses h * fall) (inr before)
        ])
  ]
    where
      past : List Moment
      past = moments_of s h

      limit-is : (moment s x.effects x.entry past).limit ≡ ramped s.cal.rules.fall (last_limit past) (demand_at s.cal x.entry.drive)
      limit-is = (fields s x.effects x.entry past).limit ∙ (unfold limit_at in refl)

      none_more : (k' k : ℕ) → k' ≡ 0 + k → k' ≡ k
      none_more k' k e = omega (arith, e)

      one_more : (p was limit k k' : ℕ) → k' ≡ 1 + k → p ≤ was + k * fall → was ≤ limit + fall → p ≤ limit + k' * fall
      one_more p was limit k k' e l m = let c : k' * fall ≡ (1 + k) * fall = ap (λ n. n * fall) e in
          let d = step k fall in omega (arith, c, d, l, m)

  near_some : (fall == NO_RAMP) ≡ false → (h : List Tick) → AllOrNoneEach h → Follows s.fault start h → AreProper s h →
      (last_signals (moments_of s h)).permitted ≤ last_limit (moments_of s h) + misses h * fall
  unfolding Each Follows AreProper moments_of last_signals last_limit no_signals
  near_some some [] each follows proper = omega arith
  near_some some (x ∷ h) each follows proper = near_now some x h follows.0 each.0 proper.0 (near_some some h each.1 follows.1 proper.1)

  near : (h : List Tick) → AllOrNoneEach h → Follows s.fault start h → AreProper s h → IsNear h
  near h each follows proper = elim (cases_Bool (fall == NO_RAMP)) [
    | inl none ↦ inl (flat none)
    | inr some ↦ inr (near_some some h each follows proper)
  ]
    where
      flat : (fall == NO_RAMP) ≡ true → fall ≡ NO_RAMP
      flat none = grind (arith, none)

  -- ---- a great excess ----

  bit_is : (t : ℕ) (x : Tick) (past : List Moment) (tick : ℕ) → true_excess t (row_of tick (moment s x.effects x.entry past))
      ≡ is_excess x.entry.shown.torque (limit_at s.cal x.entry.drive past) t
  unfolding true_excess row_of moment moment_in
  bit_is t x past tick = refl

  over : (t : ℕ) (x : Tick) (past : List Moment) (tick : ℕ) → true_excess t (row_of tick (moment s x.effects x.entry past)) ≡ true →
      (moment s x.effects x.entry past).limit + t < x.entry.shown.torque
  over t x past tick great = rw ((fields s x.effects x.entry past).limit) (ltb-true _ _ (unfold is_excess in sym (bit_is t x past tick) ∙ great))

  -- so it is one above the threshold
  exceeds_too : (more : ℕ) (x : Tick) (past : List Moment) →
      (moment s x.effects x.entry past).limit + (s.cal.rules.threshold + more) < x.entry.shown.torque →
      exceeds s (moment s x.effects x.entry past) ≡ true
  unfolding is_excess
  exceeds_too more x past great = moment-exceeds s x.effects x.entry past ∙ lt-ltb _ _ (omega (arith, great))

  bit_now : (missed : ℕ) (x : Tick) (h : List Tick) (each : AllOrNoneEach h) (one : AllOrNone x.effects) → one.runs ≡ true → Follows s.fault start h →
      IsProper s (both_conduct x.effects (moments_of s h)) x.entry → AreProper s h → misses h ≤ missed →
      (moment s x.effects x.entry (moments_of s h)).limit + (s.cal.rules.threshold + missed * fall) < x.entry.shown.torque →
      tripped (moments_of s h) ≡ false → torque_bit (moment s x.effects x.entry (moments_of s h)).signals ≡ true
  bit_now missed x h each one runs follows now_proper proper few great untripped =
      bit_above s x (moments_of s h) one runs untripped accepted now_proper
      (let below = permits_near s x (moments_of s h) one runs untripped accepted now_proper (misses h * fall) (near h each follows proper) in
      let most = scaled (misses h) missed fall few in omega (arith, great, below, most))

  -- at each of these ticks the excess is so great
  abbrev AllGreat : (missed n : ℕ) → List Tick → Type 0
  AllGreat missed n h = list_all (λ excess. excess) (take n (map (true_excess (s.cal.rules.threshold + missed * fall)) (rows_of (moments_of s h)))) ≡ true

  feeds_is : (x : Tick) (past : List Moment) (one : AllOrNone x.effects) → tripped past ≡ false → (moment s x.effects x.entry past).feeds ≡ one.runs
  feeds_is x past one untripped = (fields s x.effects x.entry past).feeds
      ∙ (unfold feeds_at in rw (one.ran DEBOUNCE, untripped, one.unflipped) (grind arith))

  -- each run of level 2 among them feeds a bit that is set
  runs_find : (missed : ℕ) (h : List Tick) → AllOrNoneEach h → Follows s.fault start h → AreProper s h → misses h ≤ missed → (n : ℕ) →
      AllGreat missed n h → tripped (moments_of s h) ≡ false → TrueRun (runs_in n (moments_of s h)) (fed_bits torque_bit (moments_of s h))
  unfolding Each Follows AreProper moments_of rows_of missed_ticks runs_in TrueRun
  runs_find missed h each follows proper few zero great u = tt
  runs_find missed [] each follows proper few (suc n) great u = tt
  runs_find missed (x ∷ h) each follows proper few (suc n) great u =
      let past = moments_of s h in
      let now = moment s x.effects x.entry past in
      let before = untripped_before now past u in
      let fewer : misses h ≤ missed = omega (arith, few) in
      let found = runs_find missed h each.1 follows.1 proper.1 fewer n (and_parts _ _ great).1 before in
      elim (cases_Bool each.0.runs) [
        | inl runs ↦ more now past n (whole-is s x past each.0 ∙ runs) (feeds_is x past each.0 before ∙ runs)
            (bit_now missed x h each.1 each.0 runs follows.1 proper.0 proper.1 fewer
            (over (s.cal.rules.threshold + missed * fall) x past (length past) (and_parts _ _ great).0) before) found
        | inr out ↦ same now past n (whole-is s x past each.0 ∙ out) (feeds_is x past each.0 before ∙ out) found
      ]
    where
      as_run : {k k' : ℕ} {bs bs' : List Bool} → k' ≡ k → bs' ≡ bs → TrueRun k bs → TrueRun k' bs'
      as_run {k} {k'} {bs} {bs'} p q t = subst (λ n. TrueRun n bs') (sym p) (subst (λ l. TrueRun k l) (sym q) t)

      more : (m : Moment) (past : List Moment) (n : ℕ) → m.whole ≡ true → m.feeds ≡ true → torque_bit m.signals ≡ true →
          TrueRun (runs_in n past) (fed_bits torque_bit past) → TrueRun (runs_in (suc n) (m ∷ past)) (fed_bits torque_bit (m ∷ past))
      more m past n w f b before = as_run (runs_in-cons n m past ∙ ap (λ x. if x then suc (runs_in n past) else runs_in n past) w)
          (fed_bits-cons torque_bit m past f) (b, before)

      same : (m : Moment) (past : List Moment) (n : ℕ) → m.whole ≡ false → m.feeds ≡ false →
          TrueRun (runs_in n past) (fed_bits torque_bit past) → TrueRun (runs_in (suc n) (m ∷ past)) (fed_bits torque_bit (m ∷ past))
      same m past n w f before = as_run (runs_in-cons n m past ∙ ap (λ x. if x then suc (runs_in n past) else runs_in n past) w)
          (fed_bits-skip torque_bit m past f) before

  -- level 2 ran at all of the newest ticks but those that it missed
  ran_more : (x : Tick) (h : List Tick) (one : AllOrNone x.effects) → x.effects ≡ effects s.fault (start + length h) → (m : ℕ) →
      m ≤ runs_in m (moments_of s h) + misses h → suc m ≤ runs_in (suc m) (moment s x.effects x.entry (moments_of s h) ∷ moments_of s h) + misses (x ∷ h)
  ran_more x h one is m before = rw (runs_in-cons m (moment s x.effects x.entry (moments_of s h)) (moments_of s h), whole-is s x (moments_of s h) one)
      (law one.runs (runs_in m (moments_of s h)) (misses h) (misses (x ∷ h)) (counted x h is one) before)
    where
      law : (b : Bool) (r k k' : ℕ) → k' ≡ (if not b then 1 else 0) + k → m ≤ r + k → suc m ≤ (if b then suc r else r) + k'
      law true r k k' e l = omega (arith, e, l)
      law false r k k' e l = omega (arith, e, l)

  ran_at : (h : List Tick) → AllOrNoneEach h → Follows s.fault start h → (m : ℕ) → m ≤ length h → m ≤ runs_in m (moments_of s h) + misses h
  unfolding Each Follows moments_of
  ran_at h each follows zero within = omega arith
  ran_at [] each follows (suc m) within = absurd (omega (arith, within))
  ran_at (x ∷ h) each follows (suc m) within = ran_more x h each.0 follows.0 m (ran_at h each.1 follows.1 m (omega (arith, within)))

  ends : (missed : ℕ) (h : List Tick) → Follows s.fault start h → AreProper s h → misses h ≤ missed → (n : ℕ) → n ≤ length h →
      AllGreat missed n h → n ≤ ticks_to_confirm s.cal + missed
  unfolding Follows AreProper moments_of rows_of missed_ticks ticks_to_confirm
  ends missed h follows proper few zero within great = omega arith
  ends missed [] follows proper few (suc m) within great = absurd (omega (arith, within))
  ends missed (x ∷ h) follows proper few (suc m) within great = elim (cases_Bool (moment s x.effects x.entry (moments_of s h)).on) [
    | inr off ↦ absurd (off_no_excess s x (moments_of s h) proper.0 off
        (exceeds_too (missed * fall) x (moments_of s h) (over (s.cal.rules.threshold + missed * fall) x (moments_of s h) _ (and_parts _ _ great).0)))
    | inl on ↦ (let fewer : misses h ≤ missed = omega (arith, few) in
        let inside : m ≤ length h = omega (arith, within) in
        let each = lapsing_history s lapse start h follows.1 in
        let one = subst AllOrNone (sym follows.0) (lapse_all_or_none s.fault lapse (start + length h)) in
        let untripped = untripped_where_on s x h each one on in
        let seen = few_found s accepted h m untripped
        (runs_find missed h each follows.1 proper.1 fewer m (and_parts _ _ great).1 untripped) in
        fits (runs_in m (moments_of s h)) (misses h) seen (ran_at h each follows.1 m inside) fewer)
  ]
    where
      fits : (runs k : ℕ) → runs < feeds_to_confirm s.cal.rules.torque → m ≤ runs + k → k ≤ missed →
          suc m ≤ feeds_to_confirm s.cal.rules.torque + missed
      fits runs k seen all fewer = omega (arith, seen, all, fewer)

length-rows_of : (past : List Moment) → length (rows_of past) ≡ length past
unfolding rows_of
length-rows_of [] = refl
length-rows_of (m ∷ past) = ap suc (length-rows_of past)

pub great_excess_ends : GreatExcessEnds
great_excess_ends s accepted lapse start h follows proper missed few n great =
    ends s accepted lapse start missed h follows proper few n
    (let w = great.within in let a = length-rows_of (moments_of s h) in let b = length-moments s h in omega (arith, w, a, b)) great.each

-- ---- of every record ----

no_fewer : (s : Setting) (start m n : ℕ) → m ≤ n → missed_ticks s.fault start m ≤ missed_ticks s.fault start n
unfolding missed_ticks
no_fewer s start zero n l = (let none : missed_ticks s.fault start 0 ≡ 0 = refl in omega (arith, none))
no_fewer s start (suc m) zero l = absurd (omega (arith, l))
no_fewer s start (suc m) (suc n) l = elim (cases_lt m n) [
  | inl less ↦ (let a = no_fewer s start (suc m) n (omega (arith, less)) in omega (arith, a))
  | inr last ↦ (let e : suc m ≡ suc n = omega (arith, last, l) in subst (λ k. missed_ticks s.fault start (suc m) ≤ missed_ticks s.fault start k) e (omega arith))
]

module _ (s : Setting) (start : ℕ) (h : List Tick) where
  stays_short : IsAccepted s.cal → IsLapse s.fault → Follows s.fault start h → AreProper s h → (missed : ℕ) →
      GreatExcessIsShort s missed start (SpanRows s start h)
  stays_short accepted lapse follows proper missed few later before n e last =
      fits (ends s accepted lapse start missed parts.rest
      (follows-end s.fault start parts.more parts.rest (subst (Follows s.fault start) parts.whole follows))
      (proper-end s parts.more parts.rest (subst (AreProper s) parts.whole proper)) fewer n
      (let w = last.within in omega (arith, w, same)) great)
    where
      parts : Split s start h later before
      parts = split s start h later before e

      fits : n ≤ ticks_to_confirm s.cal + missed → n < ticks_to_confirm s.cal + missed + 1
      fits l = omega (arith, l)

      same : length before ≡ length parts.rest
      same = ap length parts.rows_are ∙ length-rows_after start (moments_of s parts.rest) ∙ length-moments s parts.rest

      all : length (SpanRows s start h) ≡ length later + length before
      all = ap length e ∙ length-append later before

      fewer : missed_ticks s.fault start (length parts.rest) ≤ missed
      fewer = let a = no_fewer s start (length parts.rest) (length (SpanRows s start h)) (omega (arith, same, all)) in omega (arith, a, few)

      great : AllGreat s accepted lapse start missed n parts.rest
      great = subst (λ bits. list_all (λ excess. excess) (take n bits) ≡ true)
          (bits_after (true_excess (s.cal.rules.threshold + missed * s.cal.rules.fall)) (true_unnumbered (s.cal.rules.threshold + missed * s.cal.rules.fall)) s start parts.rest)
          (subst (λ rows. list_all (λ excess. excess) (take n (map (true_excess (s.cal.rules.threshold + missed * s.cal.rules.fall)) rows)) ≡ true) parts.rows_are last.each)

pub records_end_great_excess : {E : Type 0} {b : BenchEngine E} {Keeps : PlantParts → E → Type 0} → KeepsBenchLaws b Keeps → RecordsEndGreatExcess b
records_end_great_excess {b = b} keeps r run valid lapse missed = each_drive b (GreatExcessIsShort r.setting missed) r (λ start count span is.
    stays_short r.setting start (SpanTo b r count) run.accepted lapse is.follows (proper_span keeps r run valid start count span is) missed)
