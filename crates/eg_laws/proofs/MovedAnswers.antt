-- Where the send tick is moved out of the window no verdict is right from the first period on whose usual send tick
-- hasn't passed by then. So path 2 is open from R ticks on, and a watch that cuts has been found by then.
use Rattle.std.proofs.Common.{◌≡◌, ◌≢◌, ◌∙◌, refl, sym, ap, subst, ℕ, zero, suc, ◌+◌, ◌-◌, ◌*◌, ◌/◌, ◌%◌, ◌≤◌, ◌<◌, Bool, true, false, not, ◌&&◌, List, [], ◌∷◌, length, take, arith, inl, inr, ◌⊎◌, Option, Some, None, nat_le, max}
use Rattle.std.specs.Prelude.{if◌then◌else◌}
use Rattle.std.proofs.lemmas.Bool.{cases_lt, true≢false, true_from_ne_false, and_parts, and_left, and_right, eqb-true}
use Rattle.eg_answer.specs.Times.{TimeParts, AreTimes, feeds_to_confirm, reaction_of}
use Rattle.eg_answer.specs.Periods.{place_of, is_send_tick, is_in_window, MarkedAnswer, verdict_of}
use Rattle.eg_answer.specs.declared.marks.AnswerMark.{AnswerMark}
use Rattle.eg_answer.specs.declared.marks.AnswerMark.TheVariants.{Absent, Good, Bad}
use Rattle.eg_answer.specs.declared.marks.Verdict.TheVariants.{Right, Wrong}
use Rattle.eg_values.specs.Calibration.{IsAccepted}
use Rattle.eg_fault.specs.Effects.{Effects, no_effects, sends_in, sends_at}
use Rattle.eg_fault.specs.Faults.{effects_of, effects, opens_path}
use Rattle.eg_fault.specs.Classes.{closes}
use Rattle.eg_fault.specs.declared.class.Class.{Class}
use Rattle.eg_fault.specs.declared.class.Class.TheVariants.{Timing}
use Rattle.eg_fault.specs.declared.class.Fault.{Fault}
use Rattle.eg_fault.specs.declared.paths.TheConstants.{PATH_2}
use Rattle.eg_fault.proofs.ActingLemmas.{before_onset, from_onset}
use Rattle.eg_fault.proofs.ClassLemmas.{others_obey_latches}
use Rattle.eg_model.specs.History.{Setting, Tick, Drive, Moment}
use Rattle.eg_model.specs.Answers.{is_sent, mark_at, with_answer, answers_in}
use Rattle.eg_model.specs.Paths.{latch2}
use Rattle.eg_model.specs.Moments.{moment, moments_of}
use Rattle.eg_model.specs.Premises.{Follows, is_on_after}
use Rattle.eg_laws.specs.Findings.{opens_by_itself}
use Rattle.eg_laws.specs.Coverage.{sends_outside, IsCutInTime, MovedAreCut}
use Rattle.eg_model.proofs.PeriodLemmas.{at_place, period_room, counts_from, enough_periods}
use Rattle.eg_model.proofs.TickLemmas.{length-moments, fields}
use Rattle.eg_model.proofs.Silence.{EachAnswer, TrueRun, period_least, send_within, verdict_some, wrongs, runs_more, run_confirms, longer_run, enough_weight, opens_when_confirmed, off_by_latch2}
use Rattle.eg_model.proofs.SpanRows.{follows-end, SpanRows, RowAfter, row_tick, all_rows}
use Rattle.eg_model.proofs.SpanLaws.{reaction_least}
use Rattle.eg_laws.proofs.FindingLaws.{found_by_off}
use Rattle.eg_laws.proofs.CoverageLaws.{open_at}

-- ---- the class ----

-- a class that moves the send tick out of the window, and where it moves it
record Moves (times : TimeParts) (class : Class) : Type 0 where
  pub offset : ℕ
  pub is : class ≡ Timing offset
  pub out : (nat_le times.first offset && nat_le offset times.last) ≡ false

moves : (times : TimeParts) (class : Class) → sends_outside times class ≡ true → Moves times class
unfolding sends_outside
moves times (Timing offset) e = record { offset = offset; is = refl; out = opposite _ e }
  where
    opposite : (b : Bool) → not b ≡ true → b ≡ false
    opposite b f = grind arith
moves times _ e = absurd (true≢false (sym e))

-- at each tick of a history answers are sent at the moved tick of a period from tick u on, and at the usual one
-- before; and the monitoring module isn't wild
unfoldable MovedFrom : (u offset : ℕ) → List Tick → Type 0
MovedFrom u offset [] = Unit {0}
MovedFrom u offset (x ∷ h) = ((u ≤ length h → x.effects.send ≡ Some offset) × (length h < u → x.effects.send ≡ None) ×
    (x.effects.wild ≡ None)) × MovedFrom u offset h

moved_of : (f : Fault) (offset : ℕ) → f.class ≡ Timing offset → (start : ℕ) (h : List Tick) → Follows (Some f) start h →
    MovedFrom (max f.onset start - start) offset h
unfolding Follows MovedFrom
moved_of f offset is start [] follows = tt
moved_of f offset is start (x ∷ h) follows = (
  (
    (λ late. ap (λ (y : Effects). y.send) (acts (omega (arith, late))) ∙ (unfold effects_of no_effects in refl)),
    (λ soon. ap (λ (y : Effects). y.send) (plain (omega (arith, soon))) ∙ (unfold no_effects in refl)),
    tame,
  ),
  moved_of f offset is start h follows.1,
)
  where
    acts : f.onset ≤ start + length h → x.effects ≡ effects_of (Timing offset) (start + length h - f.onset)
    acts begun = follows.0 ∙ from_onset f (start + length h) begun ∙ ap (λ c. effects_of c (start + length h - f.onset)) is

    plain : start + length h < f.onset → x.effects ≡ no_effects
    plain early = follows.0 ∙ before_onset f (start + length h) early

    tame : x.effects.wild ≡ None
    tame = elim (cases_lt (start + length h) f.onset) [
      | inl early ↦ ap (λ (y : Effects). y.wild) (plain early) ∙ (unfold no_effects in refl)
      | inr late ↦ ap (λ (y : Effects). y.wild) (acts late) ∙ (unfold effects_of no_effects in refl)
    ]

-- ---- the answers of a period ----

-- an answer comes at the moved tick, or before tick u at the usual one, and no earlier than tick `low`
abbrev IsMoved : TimeParts → (u offset low : ℕ) → MarkedAnswer → Type 0
IsMoved times u offset low a = (low ≤ a.tick) × ((a.tick % times.period ≡ offset)
    ⊎ ((a.tick % times.period ≡ times.send) × (a.tick < u)))

-- an answer is sent only where that is asked
sent_when : (times : TimeParts) (x : Effects) (trip : Bool) (past : List Moment) → mark_at times x trip past ≢ Absent →
    sends_in x.send times (length past) ≡ true
unfolding mark_at is_sent sends_at
sent_when times x trip past sent =
    let is : is_sent times x trip past ≡ true = true_from_ne_false _ (λ e. sent (rw e refl)) in
    (and_parts _ _ (and_parts _ _ is).0).0

placed_at : (times : TimeParts) (x : Effects) (past : List Moment) (t u offset : ℕ) → length past ≡ t →
    (u ≤ t → x.send ≡ Some offset) → (t < u → x.send ≡ None) → sends_in x.send times (length past) ≡ true →
    (t % times.period ≡ offset) ⊎ ((t % times.period ≡ times.send) × (t < u))
unfolding sends_in is_send_tick place_of
placed_at times x past t u offset size late soon sends = elim (cases_lt t u) [
  | inl before ↦ inr (eqb-true _ _ (let e : sends_in None times t ≡ true = rw (soon before, size) at sends in e), before)
  | inr after ↦ inl (eqb-true _ _ (let e : sends_in (Some offset) times t ≡ true = rw (late after, size) at sends in e))
]

each_with : (P : MarkedAnswer → Type 0) (t : ℕ) (mark : AnswerMark) (these : List MarkedAnswer) →
    (mark ≢ Absent → (good : Bool) → P (record { tick = t; good = good })) → EachAnswer P these →
    EachAnswer P (with_answer t mark these)
unfolding with_answer EachAnswer
each_with P t Absent these now before = before
each_with P t Good these now before = (now (λ e. cc) true, before)
each_with P t Bad these now before = (now (λ e. cc) false, before)

answers_moved : (s : Setting) (u offset : ℕ) (h : List Tick) → MovedFrom u offset h → (n low : ℕ) → low + n ≤ length h →
    EachAnswer (IsMoved s.cal.times u offset low) (answers_in (take n (moments_of s h)))
unfolding moments_of answers_in MovedFrom
answers_moved s u offset h moved zero low l = unfold EachAnswer in tt
answers_moved s u offset [] moved (suc n) low l = unfold EachAnswer in tt
answers_moved s u offset (x ∷ h) moved (suc n) low l =
    each_with (IsMoved s.cal.times u offset low) m.tick m.mark (answers_in (take n past)) now
    (answers_moved s u offset h moved.1 n low (omega (arith, l)))
  where
    past : List Moment
    past = moments_of s h

    m : Moment
    m = moment s x.effects x.entry past

    at : m.tick ≡ length h
    at = (fields s x.effects x.entry past).tick ∙ length-moments s h

    now : m.mark ≢ Absent → (good : Bool) → IsMoved s.cal.times u offset low (record { tick = m.tick; good = good })
    now sent good = (
      omega (arith, at, l),
      subst (λ t. (t % s.cal.times.period ≡ offset) ⊎ ((t % s.cal.times.period ≡ s.cal.times.send) × (t < u))) (sym at)
          (placed_at s.cal.times x.effects past (length h) u offset (length-moments s h) moved.0.0 moved.0.1
          (sent_when s.cal.times x.effects m.trip past (λ none. sent ((fields s x.effects x.entry past).mark ∙ none)))),
    )

-- such answers don't make a verdict right, in a period whose usual send tick comes at tick u or later
never_right : (times : TimeParts) (u offset p : ℕ) → 0 < times.period →
    (nat_le times.first offset && nat_le offset times.last) ≡ false →
    u ≤ p * times.period + times.send → (these : List MarkedAnswer) →
    EachAnswer (IsMoved times u offset (p * times.period)) these →
    verdict_of times these ≡ Wrong
unfolding verdict_of EachAnswer is_in_window place_of
never_right times u offset p some out late [] each = refl
never_right times u offset p some out late (a ∷ b ∷ others) each = refl
never_right times u offset p some out late (a ∷ []) each = ap (λ right. if right then Right else Wrong)
    (and_left (is_in_window times a.tick) a.good outside)
  where
    outside : is_in_window times a.tick ≡ false
    outside = elim each.0.1 [
      | inl moved ↦ ap (λ place. nat_le times.first place && nat_le place times.last) moved ∙ out
      | inr usual ↦ absurd (let from = at_place times.period p a.tick times.send some each.0.0 usual.0 in
          let before = usual.1 in omega (arith, from, before, late))
    ]

-- ---- the verdicts ----

-- where period k or a later one closes its verdict is wrong
closes_moved : (s : Setting) → AreTimes s.cal.times → (u offset : ℕ) →
    (nat_le s.cal.times.first offset && nat_le offset s.cal.times.last) ≡ false → (x : Tick) (h : List Tick) →
    MovedFrom u offset (x ∷ h) →
    (length h + 1) % s.cal.times.period ≡ 0 →
    u ≤ (length h / s.cal.times.period) * s.cal.times.period + s.cal.times.send →
    (moment s x.effects x.entry (moments_of s h)).verdict ≡ Some Wrong
closes_moved s are u offset out x h moved ends late = (fields s x.effects x.entry past).verdict
    ∙ verdict_some times are x.effects m.mark past (unfold MovedFrom in moved.0.2)
    (ap (λ n. (n + 1) % times.period) (length-moments s h) ∙ ends)
    ∙ ap (λ t. Some (verdict_of times (with_answer t m.mark (answers_in (take (times.period - 1) past)))))
    (sym (fields s x.effects x.entry past).tick)
    ∙ ap Some (never_right times u offset p (period_least times are) out late _ each)
  where
    times : TimeParts
    times = s.cal.times

    past : List Moment
    past = moments_of s h

    m : Moment
    m = moment s x.effects x.entry past

    p : ℕ
    p = length h / times.period

    each : EachAnswer (IsMoved times u offset (p * times.period))
        (with_answer m.tick m.mark (answers_in (take (times.period - 1) past)))
    each = unfold moments_of answers_in in answers_moved s u offset (x ∷ h) moved (suc (times.period - 1)) (p * times.period)
        (period_room times.period (length h) (period_least times are) ends)

module _ (s : Setting) (are : AreTimes s.cal.times) (u offset : ℕ)
    (out : (nat_le s.cal.times.first offset && nat_le offset s.cal.times.last) ≡ false) where
  abbrev period : ℕ
  period = s.cal.times.period

  -- the first period that counts
  abbrev first : ℕ
  first = (u + period - 1 - s.cal.times.send) / period

  -- each that has closed since then was judged wrong
  moved_run : (h : List Tick) → MovedFrom u offset h → TrueRun (length h / period - first) (wrongs (moments_of s h))
  unfolding MovedFrom
  moved_run [] moved = subst (λ n. TrueRun n (wrongs (moments_of s []))) (sym none) (unfold TrueRun in tt)
    where
      none : 0 / period - first ≡ 0
      none = let z = period_least s.cal.times are in omega (arith, z)
  moved_run (x ∷ h) moved = subst (λ n. TrueRun (n / period - first) (wrongs (moments_of s (x ∷ h)))) one_more
      (runs_more s are x h first (λ ends counts. closes_moved s are u offset out x h (unfold MovedFrom in moved) ends
      (counts_from period s.cal.times.send u (length h / period) (period_least s.cal.times are)
      (send_within s.cal.times are) counts))
      (moved_run h moved.1))
    where
      one_more : length h + 1 ≡ suc (length h)
      one_more = omega arith

-- so from R ticks after tick u on path 2 is ordered open
moved_opens : (s : Setting) → IsAccepted s.cal → (u offset : ℕ) →
    (nat_le s.cal.times.first offset && nat_le offset s.cal.times.last) ≡ false → (h : List Tick) → MovedFrom u offset h →
    u + reaction_of s.cal.times ≤ length h → latch2 (moments_of s h) ≡ true
unfolding reaction_of
moved_opens s accepted u offset out h moved late = unfold moments_of in opens_when_confirmed Drive s h
    (run_confirms s.cal.times.weights n (wrongs (moments_of s h)) (omega (arith, accepted.answers.3))
    (enough_weight s.cal.times.weights (omega (arith, accepted.answers.0)))
    (longer_run n (length h / period - first) (wrongs (moments_of s h)) (omega (arith, whole))
    (moved_run s accepted.times u offset out h moved)))
  where
    n : ℕ
    n = feeds_to_confirm s.cal.times.weights

    period : ℕ
    period = s.cal.times.period

    first : ℕ
    first = (u + period - 1 - s.cal.times.send) / period

    whole : first + n ≤ length h / period
    whole = enough_periods period s.cal.times.send u n (length h) (period_least s.cal.times accepted.times)
        (send_within s.cal.times accepted.times) late

-- ---- by the rows ----

module _ (s : Setting) (accepted : IsAccepted s.cal) (f : Fault) (is : s.fault ≡ Some f)
    (bad : sends_outside s.cal.times f.class ≡ true)
    (start : ℕ) where
  told : Moves s.cal.times f.class
  told = moves s.cal.times f.class bad

  abbrev bound : ℕ
  bound = reaction_of s.cal.times

  obeys : closes f.class PATH_2 ≡ false
  obeys = subst (λ c. closes c PATH_2 ≡ false) (sym told.is) (unfold closes in refl)

  opened : (h : List Tick) → Follows s.fault start h → max f.onset start + bound ≤ start + length h →
      latch2 (moments_of s h) ≡ true
  opened h follows late = moved_opens s accepted (max f.onset start - start) told.offset told.out h
      (moved_of f told.offset told.is start h (subst (λ g. Follows g start h) is follows)) (omega (arith, late))

  spared : (tick : ℕ) → opens_by_itself s.fault tick ≡ false
  spared tick = ap (λ k. opens_by_itself k tick) is ∙ (unfold opens_by_itself in
      and_right _ (opens_path f.class) (ap opens_path told.is ∙ (unfold opens_path in refl)))

  off_now : (x : Tick) (g : List Tick) → Follows s.fault start (x ∷ g) → max f.onset start + bound ≤ start + length g →
      is_on_after s g x ≡ false
  unfolding is_on_after Follows
  off_now x g follows late = off_by_latch2 s x.effects x.entry (moments_of s g)
      (ap (λ (y : Effects). y.conducts PATH_2 true) (follows.0 ∙ ap (λ k. effects k (start + length g)) is)
      ∙ others_obey_latches f (start + length g) PATH_2 obeys) (opened g follows.1 late)

  open_now : (x : Tick) (before : List Tick) → Follows s.fault start (x ∷ before) →
      max f.onset start + bound ≤ start + length before → (RowAfter s start x before).path2 ≡ false
  open_now x before follows late = open_at s f is obeys start x before follows (opened before (unfold Follows in follows.1) late)

  cut_in_time : (h : List Tick) → Follows s.fault start h → IsCutInTime f.onset bound start (SpanRows s start h)
  cut_in_time h follows = record {
    opens = all_rows (λ row. max f.onset start + bound ≤ row.tick → row.path2 ≡ false) s start h (λ newer x before whole late.
        open_now x before (follows-end s.fault start newer (x ∷ before) (subst (Follows s.fault start) whole follows))
        (subst (λ n. max f.onset start + bound ≤ n) (row_tick s start x before) late));
    found = found_by_off s start h follows spared (max f.onset start + bound)
        (let some = reaction_least s.cal.times accepted.times accepted.answers in omega (arith, some)) off_now;
  }

pub moved_are_cut : (s : Setting) → IsAccepted s.cal → (start : ℕ) (h : List Tick) → Follows s.fault start h →
    MovedAreCut s.cal.times s.fault (reaction_of s.cal.times) start (SpanRows s start h)
moved_are_cut s accepted start h follows = go s.fault refl
  where
    go : (fault : Option Fault) → s.fault ≡ fault → MovedAreCut s.cal.times fault (reaction_of s.cal.times) start
        (SpanRows s start h)
    go None is = tt
    go (Some f) is = λ bad. cut_in_time s accepted f is bad start h follows
