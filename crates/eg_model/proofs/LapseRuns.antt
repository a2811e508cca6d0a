-- Under lapses level 2 runs as a whole or not at all, and each of its runs in a stretch of excess finds the
-- excess.
use Rattle.std.proofs.Common.{inr, ◌≡◌, ℕ, zero, suc, ◌+◌, ◌≤◌, Bool, true, false, not, ◌||◌, cond, List, [], ◌∷◌, take, refl, sym, ap, ◌∙◌, subst, arith, Option, None, is_some, inl}
use Rattle.std.specs.Prelude.{if◌then◌else◌}
use Rattle.std.specs.List.{list_all, count_by}
use Rattle.std.proofs.lemmas.List.Sums.{sum_by-cons}
use Rattle.std.proofs.lemmas.Bool.{cases_Bool, false≢true, or_right, and_left, and_parts}
use Rattle.eg_num.specs.Windows.{WeightParts}
use Rattle.eg_torque.specs.Ramp.{ramped}
use Rattle.eg_torque.specs.declared.ramp.TheConstants.{NO_RAMP}
use Rattle.eg_answer.specs.declared.modules.TheConstants.{DEBOUNCE, PERMITTED, REACT}
use Rattle.eg_values.specs.Calibration.{IsAccepted}
use Rattle.eg_fault.specs.Effects.{Effects, no_effects}
use Rattle.eg_fault.specs.Faults.{is_left_out, effects_of, effects}
use Rattle.eg_fault.specs.Classes.{IsSound, IsRegular}
use Rattle.eg_fault.specs.declared.class.Class.TheVariants.{Lapse}
use Rattle.eg_fault.specs.declared.class.Fault.{Fault}
use Rattle.eg_fault.proofs.ActingLemmas.{of_class}
use Rattle.eg_record.specs.Excess.{true_excess}
use Rattle.eg_model.specs.History.{Setting, Tick, Drive, Moment, Signals}
use Rattle.eg_model.specs.Signals.{tripped, no_signals, last_signals, signal}
use Rattle.eg_model.specs.Detection.{feeds_at, fed_bits, finds, torque_bit}
use Rattle.eg_answer.specs.Modules.{modules_before_react, modules}
use Rattle.eg_model.specs.Answers.{is_whole}
use Rattle.eg_model.specs.Paths.{latch1, both_conduct}
use Rattle.eg_model.specs.Moments.{demand_at, last_limit, limit_at, moment, moments_of}
use Rattle.eg_model.specs.Rows.{row_of, rows_of}
use Rattle.eg_model.specs.Premises.{AreProper, IsProper, true_excesses}
use Rattle.eg_model.specs.Lapses.{IsLapse}
use Rattle.eg_model.specs.Seeing.{IsUndisturbed, SeesExcess}
use Rattle.eg_model.proofs.TickLemmas.{Each, Fields, fields, no_trip, tripped-cons, untripped_before}
use Rattle.eg_model.proofs.TripLemmas.{fed_bits-cons, fed_bits-skip, latch1-cons, latch1_from_trip}
use Rattle.eg_model.proofs.Seeing.{IsLow, errs_safely, signal_tripped, permitted-below, excess_seen}
use Rattle.eg_model.proofs.Silence.{TrueRun}

-- ---- what lapses leave as it is ----

-- all modules of level 2 run at a tick or none does, and all else is in order
pub record AllOrNone (x : Effects) : Type 0 where
  pub runs : Bool
  pub ran : (i : ℕ) → x.ran i ≡ runs
  pub unflipped : x.flip ≡ None
  pub undisturbed : IsUndisturbed x
  pub sound : (i : ℕ) → IsSound x i
  pub regular : IsRegular x
  pub obeys : (path : ℕ) → x.conducts path true ≡ false

all_or_none : (runs : Bool) → AllOrNone (record no_effects { ran = λ i. runs })
unfolding no_effects
all_or_none runs = record {
  runs = runs;
  ran = λ i. refl;
  unflipped = refl;
  undisturbed = λ i. refl;
  sound = λ i v. refl;
  regular = record { sends = refl; judged = refl };
  obeys = λ path. refl;
}

-- so it is at each tick of a run with a lapse
pub lapse_all_or_none : (f : Option Fault) → IsLapse f → (t : ℕ) → AllOrNone (effects f t)
unfolding effects_of no_effects
lapse_all_or_none f lapse t = subst (λ g. AllOrNone (effects g t)) (sym lapse.is)
    (of_class AllOrNone (record { onset = lapse.onset; class = Lapse lapse.after lapse.every })
    (all_or_none true) (λ k. all_or_none (not (is_left_out lapse.after lapse.every k))) t)

abbrev pub AllOrNoneEach : List Tick → Type 0
AllOrNoneEach h = Each (λ x. AllOrNone x.effects) h

-- ---- one tick ----

module _ (s : Setting) (x : Tick) (past : List Moment) (one : AllOrNone x.effects) where
  abbrev now : Moment
  now = moment s x.effects x.entry past

  pub whole-is : now.whole ≡ one.runs
  whole-is = (fields s x.effects x.entry past).whole ∙ all x.effects one.runs one.ran
    where
      all : (x : Effects) (b : Bool) → ((i : ℕ) → x.ran i ≡ b) → is_whole x ≡ b
      all x true r = unfold is_whole modules modules_before_react in rw (r 0, r 1, r 2, r 3, r 4, r 5, r 6, r 7) refl
      all x false r = unfold is_whole modules modules_before_react in and_left _ _ (r 0)

  feeds-is : tripped past ≡ false → now.feeds ≡ one.runs
  feeds-is u = (fields s x.effects x.entry past).feeds
      ∙ (unfold feeds_at in rw (one.ran DEBOUNCE, u, one.unflipped) (grind arith))

  feeds_out : one.runs ≡ false → now.feeds ≡ false
  feeds_out out = (fields s x.effects x.entry past).feeds
      ∙ (unfold feeds_at in and_left _ _ (and_left _ _ (one.ran DEBOUNCE ∙ out)))

  -- where level 2 doesn't run it finds nothing
  pub trip_out : one.runs ≡ false → now.trip ≡ false
  trip_out out =
      let f = fields s x.effects x.entry past in
      no_trip f (f.mirror ∙ ap (λ flip. is_some flip) one.unflipped) (λ p. f.pair p ∙ none _ _) (f.torque ∙ none _ _)
    where
      none : (w : WeightParts) (bit : Signals → Bool) → finds w bit now.feeds now.signals past ≡ false
      none w bit = unfold finds in and_left _ _ (feeds_out out)

  -- where it runs it sees an excess
  pub sees : one.runs ≡ true → SeesExcess x.effects
  sees runs = record {
    runs = record { ran = λ i. one.ran i ∙ runs; unflipped = one.unflipped };
    undisturbed = one.undisturbed;
    pedal = inl (one.sound 0);
    load = inl (one.sound 4);
    speed = inl (one.sound 6);
    brake = inl (one.sound 8);
  }

-- a trip comes where react runs, so it opens path 1
pub trip_opens : (s : Setting) (h : List Tick) → AllOrNoneEach h → tripped (moments_of s h) ≡ true →
    latch1 (moments_of s h) ≡ true
unfolding Each moments_of
trip_opens s [] each u = absurd (false≢true (unfold tripped in u))
trip_opens s (x ∷ h) each u = elim (cases_Bool each.0.runs) [
  | inl runs ↦ latch1_from_trip s x h (each.0.ran REACT ∙ runs) u
  | inr out ↦ latch1-cons _ _ ∙ or_right _ _ (trip_opens s h each.1
      (sym (ap (λ b. b || tripped (moments_of s h)) (trip_out s x (moments_of s h) each.0 out)) ∙ sym (tripped-cons _ _) ∙ u))
]

-- ---- how often level 2 ran ----

pub count-cons : {X : Type 0} (p : X → Bool) (x : X) (xs : List X) →
    count_by p (x ∷ xs) ≡ (if p x then suc (count_by p xs) else count_by p xs)
count-cons p x xs = sum_by-cons _ x xs ∙ go (p x) (count_by p xs)
  where
    go : (b : Bool) (n : ℕ) → cond b 1 0 + n ≡ (if b then suc n else n)
    go b n = grind arith

-- at how many of the newest n ticks it ran
unfoldable pub runs_in : ℕ → List Moment → ℕ
runs_in n ms = count_by (λ m. m.whole) (take n ms)

pub runs_in-cons : (n : ℕ) (m : Moment) (past : List Moment) →
    runs_in (suc n) (m ∷ past) ≡ (if m.whole then suc (runs_in n past) else runs_in n past)
unfolding runs_in
runs_in-cons n m past = count-cons (λ x. x.whole) m (take n past)

-- as many of the newest fed torque bits are set as level 2 had runs at the newest n ticks
abbrev RunsFind : ℕ → List Moment → Type 0
RunsFind n ms = TrueRun (runs_in n ms) (fed_bits torque_bit ms)

as_run : {k k' : ℕ} {bs bs' : List Bool} → k' ≡ k → bs' ≡ bs → TrueRun k bs → TrueRun k' bs'
as_run {k} {k'} {bs} {bs'} p q t = subst (λ n. TrueRun n bs') (sym p) (subst (λ l. TrueRun k l) (sym q) t)

run_more : (m : Moment) (past : List Moment) (n : ℕ) → m.whole ≡ true → m.feeds ≡ true →
    torque_bit m.signals ≡ true →
    RunsFind n past → RunsFind (suc n) (m ∷ past)
unfolding TrueRun
run_more m past n w f b ih = as_run
    (runs_in-cons n m past ∙ ap (λ x. if x then suc (runs_in n past) else runs_in n past) w)
    (fed_bits-cons torque_bit m past f) (b, ih)

run_same : (m : Moment) (past : List Moment) (n : ℕ) → m.whole ≡ false → m.feeds ≡ false → RunsFind n past →
    RunsFind (suc n) (m ∷ past)
run_same m past n w f ih = as_run
    (runs_in-cons n m past ∙ ap (λ x. if x then suc (runs_in n past) else runs_in n past) w)
    (fed_bits-skip torque_bit m past f) ih

-- there is true excess at each of the newest n ticks
abbrev pub AllExceed : Setting → ℕ → List Tick → Type 0
AllExceed s n h = list_all (λ excess. excess) (take n (true_excesses s h)) ≡ true

-- ---- level 2's permitted torque beside the true one ----

-- it lies at most as high before each tick, or there is no ramp
unfoldable pub AreLow : Setting → List Tick → Type 0
AreLow s [] = Unit {0}
AreLow s (x ∷ h) = IsLow s (moments_of s h) × AreLow s h

pub low_without_ramp : (s : Setting) → s.cal.rules.fall ≡ NO_RAMP → (h : List Tick) → AreLow s h
unfolding AreLow
low_without_ramp s flat [] = tt
low_without_ramp s flat (x ∷ h) = (inl flat, low_without_ramp s flat h)

-- a signal of a module that doesn't run stays
signal_stays : (x : Effects) (past : List Moment) (i before value : ℕ) → x.flip ≡ None → x.ran i ≡ false →
    signal x past i before value ≡ before
unfolding signal
signal_stays x past i before value unflipped out = rw (unflipped, out) refl

-- down a ramp that never comes down nothing falls
never_falls : (fall b d : ℕ) → fall ≡ 0 → b ≤ ramped fall b d
unfolding ramped
never_falls fall b d none = rw none (omega arith)

low_now : (s : Setting) → IsAccepted s.cal → s.cal.rules.fall ≡ 0 → (x : Tick) (h : List Tick) → AllOrNone x.effects →
    IsProper s (both_conduct x.effects (moments_of s h)) x.entry →
    (last_signals (moments_of s h)).permitted ≤ last_limit (moments_of s h) →
    (moment s x.effects x.entry (moments_of s h)).signals.permitted ≤ (moment s x.effects x.entry (moments_of s h)).limit
low_now s a held x h one proper before = elim (cases_Bool one.runs) [
  | inr out ↦ rw (now.permitted ∙ signal_stays x.effects past PERMITTED _ _ one.unflipped (one.ran PERMITTED ∙ out), limit-is)
      (omega (arith, before, never_falls s.cal.rules.fall (last_limit past) (demand_at s.cal x.entry.drive) held))
  | inl runs ↦ (let seen = sees s x past one runs in
      elim (cases_Bool (tripped past)) [
        | inl after ↦ rw (now.permitted ∙ signal_tripped x.effects past PERMITTED _ _ seen.runs after) (omega arith)
        | inr untripped ↦ permitted-below s x past seen.runs seen.undisturbed untripped a (inr before) (errs_safely s x past seen proper)
      ])
]
  where
    past : List Moment
    past = moments_of s h

    now : Fields Drive true s x.effects x.entry past (moment s x.effects x.entry past)
    now = fields s x.effects x.entry past

    limit-is : (moment s x.effects x.entry past).limit ≡ ramped s.cal.rules.fall (last_limit past) (demand_at s.cal x.entry.drive)
    limit-is = now.limit ∙ (unfold limit_at in refl)

stands_low : (s : Setting) → IsAccepted s.cal → s.cal.rules.fall ≡ 0 → (h : List Tick) → AllOrNoneEach h → AreProper s h →
    (last_signals (moments_of s h)).permitted ≤ last_limit (moments_of s h)
unfolding AreProper Each moments_of last_signals last_limit no_signals
stands_low s a held [] each proper = omega arith
stands_low s a held (x ∷ h) each proper = low_now s a held x h each.0 proper.0 (stands_low s a held h each.1 proper.1)

-- so it is where the ramp never comes down: at a tick that level 2 misses its own stays as it was
pub low_where_held : (s : Setting) → IsAccepted s.cal → s.cal.rules.fall ≡ 0 → (h : List Tick) → AllOrNoneEach h → AreProper s h →
    AreLow s h
unfolding AreLow AreProper Each
low_where_held s a held [] each proper = tt
low_where_held s a held (x ∷ h) each proper = (inr (stands_low s a held h each.1 proper.1), low_where_held s a held h each.1 proper.1)

-- and then each run in a stretch of excess feeds a bit that is set
pub runs_find : (s : Setting) → IsAccepted s.cal → (h : List Tick) → AreLow s h → AllOrNoneEach h →
    AreProper s h → (n : ℕ) → AllExceed s n h →
    tripped (moments_of s h) ≡ false → RunsFind n (moments_of s h)
unfolding Each AreProper AreLow moments_of true_excesses rows_of row_of true_excess runs_in TrueRun
runs_find s a h low each proper zero over u = tt
runs_find s a [] low each proper (suc n) over u = tt
runs_find s a (x ∷ h) low each proper (suc n) over u =
    let past = moments_of s h in
    let now = moment s x.effects x.entry past in
    let before = untripped_before now past u in
    let found = runs_find s a h low.1 each.1 proper.1 n (and_parts _ _ over).1 before in
    elim (cases_Bool each.0.runs) [
      | inl runs ↦ (let seen = sees s x past each.0 runs in
          run_more now past n (whole-is s x past each.0 ∙ runs) (feeds-is s x past each.0 before ∙ runs)
          (excess_seen s x past seen.runs seen.undisturbed before a low.0
          (errs_safely s x past seen proper.0) (and_parts _ _ over).0) found)
      | inr out ↦ run_same now past n (whole-is s x past each.0 ∙ out) (feeds-is s x past each.0 before ∙ out) found
    ]
