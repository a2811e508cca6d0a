-- One tick of level 2 over its words is one tick of the model.
use Rattle.std.proofs.Common.{◌≡◌, ℕ, ◌≤◌, Bool, true, false, ◌||◌, ◌&&◌, List, ◌∷◌, length, refl, sym, subst, ap, ◌∙◌, arith, suc, zero}
use Rattle.std.specs.Prelude.{if◌then◌else◌, is_some}
use Rattle.eg_num.specs.declared.watches.Watches.{Watches}
use Rattle.eg_sensor.specs.declared.readings.Readings.{Readings}
use Rattle.eg_answer.specs.declared.rules.TestRow.{TestRow}
use Rattle.eg_values.specs.Calibration.{IsAccepted}
use Rattle.eg_fault.specs.Effects.{Effects}
use Rattle.eg_fault.specs.Classes.{ChecksFlips}
use Rattle.eg_level2.specs.declared.phase.Phase.{Phase}
use Rattle.eg_level2.specs.Words.{Words, is_set}
use Rattle.eg_level2.specs.Modules.{debounced, no_watches, opens_now, answers_now, answer_of, number_of, debounce_step, react_step}
use Rattle.eg_level2.specs.Ticks.{Doing, after_modules, after_tick, answer_at, orders_at, finds_at}
use Rattle.eg_model.specs.History.{Setting, Entry, SpanKind, Signals, Moment}
use Rattle.eg_model.specs.Signals.{tripped, last_signals, signal, signals_at}
use Rattle.eg_model.specs.Answers.{is_answer, is_sent}
use Rattle.eg_model.specs.Paths.{orders_open}
use Rattle.eg_model.specs.Level1.{seen, seen_signals}
use Rattle.eg_model.specs.Moments.{readings_at, moment_in, moments_in}
use Rattle.eg_model.specs.Rows.{signal_list}
use Rattle.eg_agree.specs.Doings.{phase_at, doing_at}
use Rattle.eg_agree.specs.Standing.{signals_of, trip_after, KeepsWords}
use Rattle.eg_agree.specs.Ticking.{found_in_level2, IsTick, TickLaw}
use Rattle.eg_agree.proofs.BoolLaws.{if-part, if-same, if-false, is_set-bit, sent-law}
use Rattle.eg_model.proofs.TickLemmas.{length-moments_in, fields_in}
use Rattle.eg_agree.proofs.MomentLemmas.{phase-tells, moment_in-answer}
use Rattle.eg_agree.proofs.HistoryLemmas.{mirror_trips}
use Rattle.eg_agree.proofs.ModuleLemmas.{row, steps}
use Rattle.eg_agree.proofs.SignalLemmas.{seen_by, fed_of, fed_after, MirrorTrips, Between, seen-begin, check-between, pedal-between, permitted-between, actual-between, excess-between, pairs-between}
use Rattle.eg_agree.proofs.DebounceLemmas.{debounce-fed, debounce-found}

-- a property of each place up to 8
up_to_8 : (P : ℕ → Type 0) → P 0 → P 1 → P 2 → P 3 → P 4 → P 5 → P 6 → P 7 → P 8 → (j : ℕ) → j ≤ 8 → P j
up_to_8 P p0 p1 p2 p3 p4 p5 p6 p7 p8 zero within = p0
up_to_8 P p0 p1 p2 p3 p4 p5 p6 p7 p8 (suc zero) within = p1
up_to_8 P p0 p1 p2 p3 p4 p5 p6 p7 p8 (suc (suc zero)) within = p2
up_to_8 P p0 p1 p2 p3 p4 p5 p6 p7 p8 (suc (suc (suc zero))) within = p3
up_to_8 P p0 p1 p2 p3 p4 p5 p6 p7 p8 (suc (suc (suc (suc zero)))) within = p4
up_to_8 P p0 p1 p2 p3 p4 p5 p6 p7 p8 (suc (suc (suc (suc (suc zero))))) within = p5
up_to_8 P p0 p1 p2 p3 p4 p5 p6 p7 p8 (suc (suc (suc (suc (suc (suc zero)))))) within = p6
up_to_8 P p0 p1 p2 p3 p4 p5 p6 p7 p8 (suc (suc (suc (suc (suc (suc (suc zero))))))) within = p7
up_to_8 P p0 p1 p2 p3 p4 p5 p6 p7 p8 (suc (suc (suc (suc (suc (suc (suc (suc zero)))))))) within = p8
up_to_8 P p0 p1 p2 p3 p4 p5 p6 p7 p8 (suc (suc (suc (suc (suc (suc (suc (suc (suc j))))))))) within =
    absurd (omega arith)

-- path 1 is ordered open where a trip stands, or react is told to
turned : (runs set told opens tripped : Bool) → set ≡ tripped → opens ≡ told →
    (runs && (set || opens)) ≡ (runs && (told || tripped))
turned runs set told opens tripped es eo = grind arith

-- a flip is met by module 0, which runs
met : (flip runs : Bool) → (flip ≡ true → runs ≡ true) → (runs && flip) ≡ flip
met flip runs checks = grind arith

module _ (kind : SpanKind) (s : Setting) (accepted : IsAccepted s.cal) (x : Effects) (e : Entry)
    (past : List Moment) (trips : MirrorTrips past) (checks : ChecksFlips x) (w : Words)
    (keeps : KeepsWords s w past) where
  abbrev reads : Readings
  reads = readings_at s.cal x e

  abbrev phase : Phase
  phase = phase_at kind s.cal.times x (length past)

  abbrev d : Doing
  d = doing_at kind s x reads (length past)

  abbrev m : Moment
  m = moment_in kind s x e past

  abbrev after : ℕ → Words
  after j = after_modules d j w

  abbrev test : TestRow
  test = row kind s x reads (length past) w

  abbrev before : Signals
  before = last_signals past

  abbrev Stands : ℕ → Words → Type 0
  Stands = Between s x reads past

  -- ---- the words after each module ----

  stands-1 : Stands 1 (after 1)
  stands-1 = subst (Stands 1) (sym (steps kind s x reads (length past) w).check)
      (check-between s x reads past checks w test.seed (length past) keeps)

  stands-2 : Stands 2 (after 2)
  stands-2 = subst (Stands 2) (sym (steps kind s x reads (length past) w).pedal)
      (pedal-between s x reads past trips (after 1) test stands-1)

  stands-3 : Stands 3 (after 3)
  stands-3 = subst (Stands 3) (sym (steps kind s x reads (length past) w).permitted)
      (permitted-between s x reads past (after 2) test stands-2)

  stands-4 : Stands 4 (after 4)
  stands-4 = subst (Stands 4) (sym (steps kind s x reads (length past) w).actual)
      (actual-between s x reads past (after 3) test stands-3)

  stands-5 : Stands 5 (after 5)
  stands-5 = subst (Stands 5) (sym (steps kind s x reads (length past) w).excess)
      (excess-between s x reads past (after 4) test stands-4)

  stands-6 : Stands 6 (after 6)
  stands-6 = subst (Stands 6) (sym (steps kind s x reads (length past) w).pairs)
      (pairs-between s x reads past (after 5) test stands-5)

  abbrev now : Signals
  now = signals_at s.cal.rules x reads past

  signals-7 : signals_of (after 7) ≡ seen_by (is_some x.flip) before now 7
  unfolding debounce_step signals_of seen_by seen
  signals-7 = ap signals_of (steps kind s x reads (length past) w).debounce
      ∙ if-same signals_of (x.ran 6) (debounce_step s.cal.rules phase (after 6)) (after 6) _ refl stands-6.signals

  fed-7 : fed_of (after 7) ≡ fed_after s.cal.rules false (m ∷ past)
  fed-7 = ap fed_of (steps kind s x reads (length past) w).debounce
      ∙ debounce-fed kind s accepted x e past trips (after 6) stands-6

  signals-8 : signals_of (after 8) ≡ seen_by (is_some x.flip) before now 8
  unfolding react_step signals_of seen_by seen
  signals-8 = ap signals_of (steps kind s x reads (length past) w).react
      ∙ if-same signals_of (x.ran 7) (react_step phase (after 7)) (after 7) _ refl signals-7

  fed-8 : fed_of (after 8) ≡ fed_after s.cal.rules false (m ∷ past)
  unfolding react_step fed_of
  fed-8 = ap fed_of (steps kind s x reads (length past) w).react
      ∙ if-same fed_of (x.ran 7) (react_step phase (after 7)) (after 7) _ refl fed-7

  -- ---- what the tick tells ----

  -- where a word is flipped the signals are 0 anyhow
  settles : signals_of (after 8) ≡ last_signals (m ∷ past)
  unfolding last_signals
  settles = signals-8 ∙ settled (is_some x.flip) refl ∙ sym (fields_in kind s x e past).signals
    where
      settled : (flip : Bool) → is_some x.flip ≡ flip → seen_by flip before now 8 ≡ now
      settled true met = unfold seen_by seen signals_at signal in rw met refl
      settled false met = unfold seen_by seen in refl

  keeps-next : KeepsWords s (after_tick d w) (m ∷ past)
  unfolding after_tick fed_of fed_after trip_after
  keeps-next = record {
    signals = settles;
    pedal = ap (λ f. f.pedal) fed-8;
    plate = ap (λ f. f.plate) fed-8;
    load = ap (λ f. f.load) fed-8;
    speed = ap (λ f. f.speed) fed-8;
    torque = ap (λ f. f.torque) fed-8;
    limp = ap (λ f. f.limp) fed-8;
    trip = ap (λ f. f.trip) fed-8;
  }

  trip-7 : (after 7).trip ≡ trip_after (m ∷ past)
  unfolding fed_of fed_after trip_after
  trip-7 = ap (λ f. f.trip) fed-7

  trip-is : is_set (after 7).trip ≡ tripped (m ∷ past)
  unfolding trip_after
  trip-is = ap is_set trip-7 ∙ is_set-bit (tripped (m ∷ past))

  order-is : orders_at d w ≡ m.orders
  unfolding orders_at doing_at opens_now orders_open tripped
  order-is =
      turned (x.ran 7) (is_set (after 7).trip) _ _ (m.trip || tripped past) trip-is
      (phase-tells kind s.cal.times x (length past)).orders
      ∙ sym (fields_in kind s x e past).orders

  answer-is : is_some (answer_at d w) ≡ is_answer m.mark
  unfolding answer_at doing_at answer_of answers_now trip_after tripped is_sent
  answer-is =
      sent-law (x.ran 7) _ _ _ (m.trip || tripped past) (after 7).trip
      (number_of (after 7)) trip-7 (phase-tells kind s.cal.times x (length past)).sends
      ∙ sym (moment_in-answer kind s x e past)

  -- a watch by what debounce finds of it where it runs
  watch-is : (part : Watches → Bool) (told : Bool) → part no_watches ≡ false →
      (x.ran 6 && part (debounced s.cal.rules phase (after 6))) ≡ told
      → part (if x.ran 6 then debounced s.cal.rules phase (after 6) else no_watches) ≡ told
  watch-is part told none found =
      if-part part (x.ran 6) _ _
      ∙ ap (λ b. if x.ran 6 then part (debounced s.cal.rules phase (after 6)) else b) none
      ∙ if-false (x.ran 6) _ ∙ found

  found-is : finds_at d w ≡ found_in_level2 m
  unfolding finds_at doing_at found_in_level2 debounced no_watches
  found-is =
      let found = debounce-found kind s accepted x e past trips (after 6) stands-6 in
      λ i. record {
        mirror = (met (is_some x.flip) (x.ran 0) checks ∙ sym (fields_in kind s x e past).mirror) i;
        pedal = watch-is (λ f. f.pedal) m.found.pedal refl found.pedal i;
        plate = watch-is (λ f. f.plate) m.found.plate refl found.plate i;
        load = watch-is (λ f. f.load) m.found.load refl found.load i;
        speed = watch-is (λ f. f.speed) m.found.speed refl found.speed i;
        torque = watch-is (λ f. f.torque) m.found.torque refl found.torque i;
        answers = if-same (λ (f : Watches). f.answers) (x.ran 6) (debounced s.cal.rules phase (after 6)) no_watches false refl refl i;
        start = if-same (λ (f : Watches). f.start) (x.ran 6) (debounced s.cal.rules phase (after 6)) no_watches false refl refl i;
      }

  seen-is : (j : ℕ) → j ≤ 8 → signal_list (signals_of (after j))
      ≡ seen_signals (is_some x.flip) j before m.signals
  unfolding after_modules
  seen-is = up_to_8 (λ j. signal_list (signals_of (after j)) ≡ seen_signals (is_some x.flip) j before m.signals)
      (list 0 (seen-begin s x reads past w keeps))
      (list 1 stands-1.signals)
      (list 2 stands-2.signals)
      (list 3 stands-3.signals)
      (list 4 stands-4.signals)
      (list 5 stands-5.signals)
      (list 6 stands-6.signals)
      (list 7 signals-7)
      (list 8 signals-8)
    where
      shown : (j : ℕ) → signal_list (seen_by (is_some x.flip) before now j) ≡ seen_signals (is_some x.flip) j before now
      shown j = unfold signal_list seen_by seen_signals in refl

      list : (j : ℕ) → signals_of (after j) ≡ seen_by (is_some x.flip) before now j →
          signal_list (signals_of (after j)) ≡ seen_signals (is_some x.flip) j before m.signals
      list j are = ap signal_list are ∙ shown j ∙ ap (seen_signals (is_some x.flip) j before) (sym (fields_in kind s x e past).signals)

  pub is_tick : IsTick s x d w m past
  is_tick = record {
    words = keeps-next;
    seen = seen-is;
    trip = trip-is;
    order = order-is;
    found = found-is;
    answer = answer-is;
  }

-- ---- the laws ----

-- the tick that comes after these, by the number that it has
at-number : (kind : SpanKind) (s : Setting) (x : Effects) (e : Entry) (w : Words) (past : List Moment) (n : ℕ) →
    length past ≡ n
    → IsTick s x (doing_at kind s x (readings_at s.cal x e) (length past)) w (moment_in kind s x e past) past →
    IsTick s x (doing_at kind s x (readings_at s.cal x e) n) w (moment_in kind s x e past) past
at-number kind s x e w past n same is =
    subst (λ n. IsTick s x (doing_at kind s x (readings_at s.cal x e) n) w (moment_in kind s x e past) past) same is

pub tick_law : TickLaw
tick_law kind s accepted h x e checks w keeps =
    let past = moments_in kind s h in
    at-number kind s x e w past (length h) (length-moments_in kind s h)
    (is_tick kind s accepted x e past (mirror_trips kind s h) checks w keeps)
