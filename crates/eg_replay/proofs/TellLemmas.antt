-- What level 2 tells of a tick doesn't depend on the number of the tick, nor on the question that is asked, nor
-- on whether an answer is sent: these move the token, the flow, the last tick and the fold alone.
use Rattle.std.proofs.Common.{◌≡◌, ◌∙◌, refl, sym, ap, ℕ, zero, suc, ◌<◌, ◌≤◌, ◌==◌, ◌&&◌, ◌||◌, Bool, true, false, not, List, arith}
use Rattle.std.specs.Prelude.{if◌then◌else◌}
use Rattle.eg_sensor.specs.declared.readings.Readings.{Readings}
use Rattle.eg_answer.specs.declared.rules.Rules.{Rules}
use Rattle.eg_answer.specs.declared.questions.Question.{Question}
use Rattle.eg_answer.specs.declared.modules.TheConstants.{CHECK}
use Rattle.eg_level2.specs.declared.phase.Phase.{Phase}
use Rattle.eg_level2.specs.Phases.{feeds}
use Rattle.eg_level2.specs.Words.{Words, is_set}
use Rattle.eg_level2.specs.Inputs.{Inputs}
use Rattle.eg_level2.specs.Modules.{check_step, written, pedal_step, permitted_step, actual_step, excess_step, pairs_step, pedal_bit, plate_bit, load_bit, speed_bit, torque_bit, feeds_now, counted, is_found, debounced, limits, trips, debounce_step, react_step, module_step, given_up, no_watches}
use Rattle.eg_level2.specs.Ticks.{Doing, inputs_for, after_module, after_modules, after_tick, finds_at}
use Rattle.eg_num.specs.declared.watches.Watches.{Watches}
use Rattle.eg_model.specs.History.{Setting, Moment}
use Rattle.eg_agree.specs.Standing.{signals_of, KeepsWords}

-- the words without those four
abbrev pub told : Words → Words
told w = record w { token = 0; flow = 0; last = 0; sign = 0 }

-- ---- one module ----

-- debounce, by whether it may feed
abbrev debounced_by : Bool → Rules → Words → Words
debounced_by may rules w =
    let feeding = may && not (is_set w.trip) in
    record w {
      pedal_counter = counted feeding rules.pair w.pedal_counter (pedal_bit w);
      plate_counter = counted feeding rules.pair w.plate_counter (plate_bit w);
      load_counter = counted feeding rules.pair w.load_counter (load_bit w);
      speed_counter = counted feeding rules.pair w.speed_counter (speed_bit w);
      torque_counter = counted feeding rules.torque w.torque_counter (torque_bit w);
      limp = if is_found feeding rules.pair w.pedal_counter (pedal_bit w) then 1 else w.limp;
      trip = if is_found feeding rules.pair w.plate_counter (plate_bit w)
          || is_found feeding rules.pair w.load_counter (load_bit w)
          || is_found feeding rules.pair w.speed_counter (speed_bit w)
          || is_found feeding rules.torque w.torque_counter (torque_bit w) then 1 else w.trip;
      token = 0;
      flow = 0;
      last = 0;
      sign = 0;
    }

debounce-told : (rules : Rules) (p : Phase) (w : Words) → told (debounce_step rules p w) ≡ debounced_by (feeds p) rules w
unfolding debounce_step debounced feeds_now limits trips
debounce-told rules p w = refl

debounced_by-told : (may : Bool) (rules : Rules) (w : Words) → debounced_by may rules w ≡ debounced_by may rules (told w)
unfolding pedal_bit plate_bit load_bit speed_bit torque_bit
debounced_by-told may rules w = refl

module _ (rules : Rules) (reads : Readings) (mixed : ℕ) (some others : List Question) (asked other tick at : ℕ) (p q : Phase) (feeding : feeds p ≡ feeds q) where
  abbrev one : Inputs
  one = record { rules = rules; questions = some; readings = reads; asked = asked; tick = tick; phase = p; disturbance = mixed }

  abbrev two : Inputs
  two = record { rules = rules; questions = others; readings = reads; asked = other; tick = at; phase = q; disturbance = mixed }

  below_8 : (P : ℕ → Type 0) → P 0 → P 1 → P 2 → P 3 → P 4 → P 5 → P 6 → P 7 → (i : ℕ) → i < 8 → P i
  below_8 P a b c d e f g h zero below = a
  below_8 P a b c d e f g h (suc zero) below = b
  below_8 P a b c d e f g h (suc (suc zero)) below = c
  below_8 P a b c d e f g h (suc (suc (suc zero))) below = d
  below_8 P a b c d e f g h (suc (suc (suc (suc zero)))) below = e
  below_8 P a b c d e f g h (suc (suc (suc (suc (suc zero))))) below = f
  below_8 P a b c d e f g h (suc (suc (suc (suc (suc (suc zero)))))) below = g
  below_8 P a b c d e f g h (suc (suc (suc (suc (suc (suc (suc zero))))))) below = h
  below_8 P a b c d e f g h (suc (suc (suc (suc (suc (suc (suc (suc i)))))))) below = absurd (omega (arith, below))

  step-told : (i : ℕ) → i < 8 → (w : Words) → told (module_step one i w) ≡ told (module_step two i (told w))
  unfolding module_step check_step pedal_step permitted_step actual_step excess_step pairs_step react_step written
  step-told i below w = below_8 (λ i. told (module_step one i w) ≡ told (module_step two i (told w)))
      refl refl refl refl refl refl
      (debounce-told rules p w ∙ debounced_by-told (feeds p) rules w ∙ ap (λ may. debounced_by may rules (told w)) feeding ∙ sym (debounce-told rules q (told w)))
      refl i below

-- ---- all eight ----

-- two ticks are alike: rules, readings and disturbances are the same, the debouncers are fed at both or at
-- neither, all modules run, and no word differs from its complement
pub record AreAlike (d e : Doing) : Type 0 where
  pub rules : d.rules ≡ e.rules
  pub readings : d.readings ≡ e.readings
  pub disturbance : (i : ℕ) → d.disturbance i ≡ e.disturbance i
  pub feeding : feeds d.phase ≡ feeds e.phase
  pub ran : (i : ℕ) → d.ran i ≡ true
  pub ran_too : (i : ℕ) → e.ran i ≡ true
  pub whole : d.differs ≡ false
  pub whole_too : e.differs ≡ false

pub and-false : (a b : Bool) → b ≡ false → (a && b) ≡ false
and-false true b is = is
and-false false b is = refl

then-true : {A : Type 0} (test : Bool) (x y : A) → test ≡ true → (if test then x else y) ≡ x
then-true true x y is = refl
then-true false x y is = absurd (let clash : false ≡ true = is in cc)

else-false : {A : Type 0} (test : Bool) (x y : A) → test ≡ false → (if test then x else y) ≡ y
else-false false x y is = refl
else-false true x y is = absurd (let clash : true ≡ false = is in cc)

pub plain-module : (d : Doing) → ((i : ℕ) → d.ran i ≡ true) → d.differs ≡ false → (i : ℕ) (w : Words) → after_module d i w ≡ module_step (inputs_for d i) i w
unfolding after_module
plain-module d ran whole i w =
    then-true (d.ran i) _ w (ran i) ∙ else-false (i == CHECK && d.differs) (given_up d.tick) _ (and-false (i == CHECK) d.differs whole)

module _ (d e : Doing) (alike : AreAlike d e) where
  -- what goes into a module of e, with what is the same from d
  into-same : (i : ℕ) → two d.rules d.readings (d.disturbance i) d.questions e.questions d.asked e.asked d.tick e.tick d.phase e.phase alike.feeding ≡ inputs_for e i
  unfolding inputs_for
  into-same i = λ k. record {
    rules = alike.rules k;
    questions = e.questions;
    readings = alike.readings k;
    asked = e.asked;
    tick = e.tick;
    phase = e.phase;
    disturbance = alike.disturbance i k;
  }

  of-one : (i : ℕ) → i < 8 → (w : Words) → told (module_step (inputs_for d i) i w) ≡ told (module_step (inputs_for e i) i (told w))
  unfolding inputs_for
  of-one i below w =
      step-told d.rules d.readings (d.disturbance i) d.questions e.questions d.asked e.asked d.tick e.tick d.phase e.phase alike.feeding i below w
      ∙ ap (λ into. told (module_step into i (told w))) (into-same i)

  of-two : (i : ℕ) → i < 8 → (w : Words) → told (module_step (inputs_for e i) i w) ≡ told (module_step (inputs_for e i) i (told w))
  unfolding inputs_for
  of-two i below w = step-told e.rules e.readings (e.disturbance i) e.questions e.questions e.asked e.asked e.tick e.tick e.phase e.phase refl i below w

  module-told : (i : ℕ) → i < 8 → (w v : Words) → told w ≡ told v → told (after_module d i w) ≡ told (after_module e i v)
  module-told i below w v same =
      ap told (plain-module d alike.ran alike.whole i w) ∙ of-one i below w
      ∙ ap (λ t. told (module_step (inputs_for e i) i t)) same
      ∙ sym (of-two i below v) ∙ sym (ap told (plain-module e alike.ran_too alike.whole_too i v))

  pub modules-told : (i : ℕ) → i ≤ 8 → (w : Words) → told (after_modules d i w) ≡ told (after_modules e i w)
  unfolding after_modules
  modules-told zero most w = refl
  modules-told (suc i) most w = module-told i (omega (arith, most)) _ _ (modules-told i (omega (arith, most)) w)

  pub tick-told : (w : Words) → told (after_tick d w) ≡ told (after_tick e w)
  unfolding after_tick
  tick-told w = modules-told 8 (omega arith) w

-- ---- what is found ----

abbrev found_if : Bool → Rules → Words → Watches
found_if may rules w =
    let feeding = may && not (is_set w.trip) in
    record no_watches {
      pedal = is_found feeding rules.pair w.pedal_counter (pedal_bit w);
      plate = is_found feeding rules.pair w.plate_counter (plate_bit w);
      load = is_found feeding rules.pair w.load_counter (load_bit w);
      speed = is_found feeding rules.pair w.speed_counter (speed_bit w);
      torque = is_found feeding rules.torque w.torque_counter (torque_bit w);
    }

debounced-is : (rules : Rules) (p : Phase) (w : Words) → debounced rules p w ≡ found_if (feeds p) rules w
unfolding debounced feeds_now no_watches
debounced-is rules p w = refl

found_if-told : (may : Bool) (rules : Rules) (w : Words) → found_if may rules w ≡ found_if may rules (told w)
unfolding pedal_bit plate_bit load_bit speed_bit torque_bit
found_if-told may rules w = refl

found-by : (rules others : Rules) (p q : Phase) (w v : Words) → rules ≡ others → feeds p ≡ feeds q → told w ≡ told v → debounced rules p w ≡ debounced others q v
found-by rules others p q w v same feeding alike =
    debounced-is rules p w ∙ found_if-told (feeds p) rules w ∙ (λ k. found_if (feeding k) (same k) (alike k))
    ∙ sym (found_if-told (feeds q) others v) ∙ sym (debounced-is others q v)

finds-plain : (d : Doing) → ((i : ℕ) → d.ran i ≡ true) → d.differs ≡ false → (w : Words) →
    finds_at d w ≡ record (debounced d.rules d.phase (after_modules d 6 w)) { mirror = false }
unfolding finds_at
finds-plain d ran whole w = λ k. record (then-true (d.ran 6) (debounced d.rules d.phase (after_modules d 6 w)) no_watches (ran 6) k) {
  mirror = and-false (d.ran 0) d.differs whole k;
}

pub finds-same : (d e : Doing) → AreAlike d e → (w : Words) → finds_at d w ≡ finds_at e w
finds-same d e alike w = finds-plain d alike.ran alike.whole w
    ∙ ap (λ (found : Watches). record found { mirror = false })
    (found-by d.rules e.rules d.phase e.phase (after_modules d 6 w) (after_modules e 6 w) alike.rules alike.feeding (modules-told d e alike 6 (omega arith) w))
    ∙ sym (finds-plain e alike.ran_too alike.whole_too w)

-- ---- what the words stand for ----

pub keeps-told : (s : Setting) (w v : Words) (past : List Moment) → told w ≡ told v → KeepsWords s v past → KeepsWords s w past
unfolding signals_of
keeps-told s w v past same keeps = record {
  signals = ap (λ (t : Words). signals_of t) same ∙ keeps.signals;
  pedal = ap (λ (t : Words). t.pedal_counter) same ∙ keeps.pedal;
  plate = ap (λ (t : Words). t.plate_counter) same ∙ keeps.plate;
  load = ap (λ (t : Words). t.load_counter) same ∙ keeps.load;
  speed = ap (λ (t : Words). t.speed_counter) same ∙ keeps.speed;
  torque = ap (λ (t : Words). t.torque_counter) same ∙ keeps.torque;
  limp = ap (λ (t : Words). t.limp) same ∙ keeps.limp;
  trip = ap (λ (t : Words). t.trip) same ∙ keeps.trip;
}
