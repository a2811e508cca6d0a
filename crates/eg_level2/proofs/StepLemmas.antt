-- A run of a module by its number, as its callers see it, and that no counter passes its limit.
use Rattle.std.proofs.Common.{◌≡◌, ◌∙◌, refl, sym, ap, subst, ℕ, ◌+◌, ◌-◌, ◌≤◌, ◌<◌, Bool, true, false, List, arith}
use Rattle.std.proofs.lemmas.Bool.{eqb-true}
use Rattle.std.proofs.lemmas.Result.{on_ok_weaker, on_err_weaker, IfOk-weaker}
use Rattle.std.specs.Prelude.{min, if◌then◌else◌, ◌==◌, Result, OnOk}
use Rattle.eg_num.specs.Windows.{WeightParts}
use Rattle.eg_num.specs.Counting.{fed}
use Rattle.eg_guard.specs.Memory.{ShownMemory}
use Rattle.eg_guard.proofs.KeepsLemmas.{clash}
use Rattle.eg_answer.specs.declared.rules.Rules.{Rules}
use Rattle.eg_level2.specs.declared.phase.Phase.{Phase}
use Rattle.eg_level2.specs.declared.step.Step.{Step}
use Rattle.eg_level2.specs.Words.{Words, start, named, word_at, words_of, AreMirrored, AreWithin}
use Rattle.eg_level2.specs.Inputs.{Level2Parts, Inputs, asked_of, inputs_of, row_of}
use Rattle.eg_level2.specs.Modules.{feeds_now, check_step, given_up, pedal_bit, plate_bit, load_bit, speed_bit, torque_bit, counted, pedal_step, permitted_step, actual_step, excess_step, pairs_step, debounced, debounce_step, reacted, react_step, module_step, answer_after, order_after, no_watches, mirror_alone, found_by, step_of, finding, quiet_step}
use Rattle.eg_level2.specs.Inner.Stores.{RunMakes}
use Rattle.eg_level2.specs.Stores.{Store}
use Rattle.eg_level2.specs.Order.{check_stores, debounce_stores, react_stores, stores_of, given_up_stores}
use Rattle.eg_level2.specs.Runs.{IsModuleRun}
use Rattle.eg_level2.proofs.StoreLemmas.{same_outside}
use Rattle.eg_level2.proofs.OrderLemmas.{stores-make, given_up-make, told-run, told-given_up, told-set}

pub same_rules : (one other : Level2Parts) → one ≡ other → one.rules ≡ other.rules
same_rules one other e = ap (λ (parts : Level2Parts). parts.rules) e

-- ---- a module by its number ----

pub check_run : {E : Type 0} {a b : ShownMemory} {result : Result Step E} (parts : Level2Parts) (memory : List ℕ) (tick : ℕ) (phase : Phase) (d : ℕ) (words : Words) {n seed : ℕ} → n ≡ 0
    → seed ≡ (row_of parts.questions (asked_of memory)).seed → RunMakes (check_stores (check_step seed tick words)) quiet_step a b result
    → (let inputs = inputs_of parts memory tick phase d in RunMakes (stores_of inputs n words) (step_of inputs n words) a b result)
unfolding stores_of module_step inputs_of step_of order_after answer_after found_by
check_run parts memory tick phase d words en es run = rw (en, sym es) run

pub signal_run : {E : Type 0} {a b : ShownMemory} {result : Result Step E} {stores : List Store} (inputs : Inputs) (n : ℕ) (words : Words) → n ≤ 5 → RunMakes stores quiet_step a b result
    → RunMakes stores (step_of inputs n words) a b result
unfolding step_of order_after answer_after found_by
signal_run {a = a} {b = b} {result = result} {stores = stores} inputs n words to run =
    subst (λ step. RunMakes stores step a b result) (by (n == 6) (n == 7) refl refl) run
  where
    by : (six seven : Bool) → (n == 6) ≡ six → (n == 7) ≡ seven → quiet_step ≡ step_of inputs n words
    by false false sixth seventh = rw (sixth, seventh) refl
    by true seven sixth seventh = absurd (let is = eqb-true n 6 sixth in omega arith)
    by six true sixth seventh = absurd (let is = eqb-true n 7 seventh in omega arith)

pub debounce_run : {E : Type 0} {a b : ShownMemory} {result : Result Step E} (parts : Level2Parts) (memory : List ℕ) (tick : ℕ) (phase : Phase) (d : ℕ) (words : Words) {n : ℕ} {rules : Rules} → n ≡ 6
    → rules ≡ parts.rules → RunMakes (debounce_stores rules phase words) (finding (debounced rules phase words)) a b result
    → (let inputs = inputs_of parts memory tick phase d in RunMakes (stores_of inputs n words) (step_of inputs n words) a b result)
unfolding stores_of module_step inputs_of step_of order_after answer_after found_by
debounce_run parts memory tick phase d words en er run = rw (en, sym er) run

pub react_run : {E : Type 0} {a b : ShownMemory} {result : Result Step E} (parts : Level2Parts) (memory : List ℕ) (tick : ℕ) (phase : Phase) (d : ℕ) (words : Words) {n : ℕ} → n ≡ 7
    → RunMakes (react_stores (react_step phase words)) (reacted phase words) a b result
    → (let inputs = inputs_of parts memory tick phase d in RunMakes (stores_of inputs n words) (step_of inputs n words) a b result)
unfolding stores_of module_step inputs_of step_of order_after answer_after found_by reacted
react_run parts memory tick phase d words en run = rw en run

-- ---- no counter passes its limit ----

kept : (rules : Rules) (words next : Words) → AreWithin rules words → next.pedal_counter ≡ words.pedal_counter → next.plate_counter ≡ words.plate_counter
    → next.load_counter ≡ words.load_counter → next.speed_counter ≡ words.speed_counter → next.torque_counter ≡ words.torque_counter → AreWithin rules next
kept rules words next within pedal plate load speed torque = record {
  pedal = rw pedal within.pedal;
  plate = rw plate within.plate;
  load = rw load within.load;
  speed = rw speed within.speed;
  torque = rw torque within.torque;
}

pub given_up-within : (rules : Rules) (tick : ℕ) → AreWithin rules (given_up tick)
unfolding given_up
given_up-within rules tick = record { pedal = omega arith; plate = omega arith; load = omega arith; speed = omega arith; torque = omega arith }

fed-within : (weights : WeightParts) (value : ℕ) (bad : Bool) → value ≤ weights.limit → fed weights value bad ≤ weights.limit
unfolding fed
fed-within weights value bad within = cases (value == weights.limit) bad
  where
    cases : (full bad : Bool) → (if full then weights.limit else if bad then min weights.limit (value + weights.up) else value - weights.down) ≤ weights.limit
    cases true bad = omega arith
    cases false true = omega arith
    cases false false = omega arith

counted-within : (feeding : Bool) (weights : WeightParts) (value : ℕ) (bad : Bool) → value ≤ weights.limit → counted feeding weights value bad ≤ weights.limit
unfolding counted
counted-within true weights value bad within = fed-within weights value bad within
counted-within false weights value bad within = within

debounce-within : (rules : Rules) (phase : Phase) (words : Words) → AreWithin rules words → AreWithin rules (debounce_step rules phase words)
unfolding debounce_step
debounce-within rules phase words within = record {
  pedal = counted-within (feeds_now phase words) rules.pair words.pedal_counter (pedal_bit words) within.pedal;
  plate = counted-within (feeds_now phase words) rules.pair words.plate_counter (plate_bit words) within.plate;
  load = counted-within (feeds_now phase words) rules.pair words.load_counter (load_bit words) within.load;
  speed = counted-within (feeds_now phase words) rules.pair words.speed_counter (speed_bit words) within.speed;
  torque = counted-within (feeds_now phase words) rules.torque words.torque_counter (torque_bit words) within.torque;
}

either : (rules : Rules) (b : Bool) (x y : Words) → AreWithin rules x → AreWithin rules y → AreWithin rules (if b then x else y)
either rules true x y p q = p
either rules false x y p q = q

pub step-within : (parts : Level2Parts) (memory : List ℕ) (tick : ℕ) (phase : Phase) (d n : ℕ) (words : Words) → AreWithin parts.rules words
    → AreWithin parts.rules (module_step (inputs_of parts memory tick phase d) n words)
unfolding module_step inputs_of check_step pedal_step permitted_step actual_step excess_step pairs_step react_step
step-within parts memory tick phase d n words within =
    let same : (next : Words) → next.pedal_counter ≡ words.pedal_counter → next.plate_counter ≡ words.plate_counter → next.load_counter ≡ words.load_counter
    → next.speed_counter ≡ words.speed_counter → next.torque_counter ≡ words.torque_counter → AreWithin parts.rules next
    = λ next. kept parts.rules words next within in
    either parts.rules (n == 0) _ _ (same _ refl refl refl refl refl)
    (either parts.rules (n == 1) _ _ (same _ refl refl refl refl refl)
    (either parts.rules (n == 2) _ _ (same _ refl refl refl refl refl)
    (either parts.rules (n == 3) _ _ (same _ refl refl refl refl refl)
    (either parts.rules (n == 4) _ _ (same _ refl refl refl refl refl)
    (either parts.rules (n == 5) _ _ (same _ refl refl refl refl refl)
    (either parts.rules (n == 6) _ _ (debounce-within parts.rules phase words within) (same _ refl refl refl refl refl)))))))

pub start-within : (rules : Rules) (words : Words) → words ≡ start → AreWithin rules words
unfolding start
start-within rules words e = kept rules start words (record { pedal = omega arith; plate = omega arith; load = omega arith; speed = omega arith; torque = omega arith })
    (ap (λ (w : Words). w.pedal_counter) e) (ap (λ (w : Words). w.plate_counter) e) (ap (λ (w : Words). w.load_counter) e)
    (ap (λ (w : Words). w.speed_counter) e) (ap (λ (w : Words). w.torque_counter) e)

-- ---- a run, as its callers see it ----

-- no module but the first finds Mirror
finds_no_mirror : (inputs : Inputs) (n : ℕ) (words : Words) → (step_of inputs n words).found.mirror ≡ false
unfolding step_of found_by debounced no_watches
finds_no_mirror inputs n words = pick (n == 6)
  where
    pick : (b : Bool) → (if b then debounced inputs.rules inputs.phase words else no_watches).mirror ≡ false
    pick true = refl
    pick false = refl

-- where each word has its complement
pub orderly_run : {E : Type 0} {old new : ShownMemory} {result : Result Step E} (parts : Level2Parts) (tick : ℕ) (phase : Phase) (d n : ℕ) → n < 8 → AreMirrored old.words
    → (let inputs = inputs_of parts old.words tick phase d in RunMakes (stores_of inputs n (words_of old.words)) (step_of inputs n (words_of old.words)) old new result)
    → IsModuleRun parts n tick phase d old new result
unfolding step_of
orderly_run {old = old} {new = new} {result = result} parts tick phase d n within are run =
    let inputs = inputs_of parts old.words tick phase d in
    let words : OnOk result (words_of new.words ≡ module_step inputs n (words_of old.words)) =
    on_ok_weaker result (λ e. ap named e ∙ stores-make inputs (word_at old.words) n within) run.makes.stored in
    record {
      words = λ are. words;
      answer = IfOk-weaker result _ _ (λ step e. ap (λ (s : Step). s.answer) e) run.answers;
      order = IfOk-weaker result _ _ (λ step e. ap (λ (s : Step). s.open_path) e) run.answers;
      found = λ are. IfOk-weaker result _ _ (λ step e. ap (λ (s : Step). s.found) e) run.answers;
      given_up = λ differs. absurd (differs are);
      mirror_alone = λ differs. absurd (differs are);
      mirror = IfOk-weaker result _ _ (λ step e. (
        λ found. absurd (clash (sym (ap (λ (s : Step). s.found.mirror) e ∙ finds_no_mirror inputs n (words_of old.words)) ∙ found)),
        λ differs. absurd (differs are),
      )) run.answers;
      mirrored = run.makes.keeps.mirrored are;
      within = λ within. on_ok_weaker result
          (λ e. subst (AreWithin parts.rules) (sym e) (step-within parts old.words tick phase d n (words_of old.words) (within are))) words;
      stopped = λ are. run.makes.stopped;
      given_up_stopped = λ differs. absurd (differs are);
      told = λ tells. on_err_weaker result (λ first. told-run inputs n old.words new.words within are tells first) run.makes.stopped;
      set_told = λ are is. on_err_weaker result (λ first. told-set inputs n old.words new.words within is first) run.makes.stopped;
      outside = λ address other. same_outside old.words new.words address run.makes.keeps.outside other;
      sure = run.makes.keeps.memory.sure;
      stays_sure = run.makes.keeps.memory.stays_sure;
      are_words = run.makes.keeps.memory.are_words;
    }

-- where one differs from it
pub given_up_run : {E : Type 0} {old new : ShownMemory} {result : Result Step E} (parts : Level2Parts) (tick : ℕ) (phase : Phase) (d n : ℕ) → n ≡ 0 → ¬ AreMirrored old.words
    → RunMakes (given_up_stores tick) (finding mirror_alone) old new result → OnOk result (AreMirrored new.words) → IsModuleRun parts n tick phase d old new result
unfolding answer_after order_after mirror_alone
given_up_run {old = old} {new = new} {result = result} parts tick phase d n first differs run mirrored =
    let words : OnOk result (words_of new.words ≡ given_up tick) = on_ok_weaker result (λ e. ap named e ∙ given_up-make tick (word_at old.words)) run.makes.stored in
    record {
      words = λ are. absurd (differs are);
      answer = IfOk-weaker result _ _ (λ step e. ap (λ (s : Step). s.answer) e ∙ rw first refl) run.answers;
      order = IfOk-weaker result _ _ (λ step e. ap (λ (s : Step). s.open_path) e ∙ rw first refl) run.answers;
      found = λ are. absurd (differs are);
      given_up = λ differs. words;
      mirror_alone = λ differs. IfOk-weaker result _ _ (λ step e. ap (λ (s : Step). s.found) e) run.answers;
      mirror = IfOk-weaker result _ _ (λ step e. (λ found. differs, λ differs. ap (λ (s : Step). s.found.mirror) e)) run.answers;
      mirrored = mirrored;
      within = λ within. on_ok_weaker result (λ e. subst (AreWithin parts.rules) (sym e) (given_up-within parts.rules tick)) words;
      stopped = λ are. absurd (differs are);
      given_up_stopped = λ differs. run.makes.stopped;
      told = λ tells. on_err_weaker result (λ first. told-given_up tick old.words new.words first differs) run.makes.stopped;
      set_told = λ are is. absurd (differs are);
      outside = λ address other. same_outside old.words new.words address run.makes.keeps.outside other;
      sure = run.makes.keeps.memory.sure;
      stays_sure = run.makes.keeps.memory.stays_sure;
      are_words = run.makes.keeps.memory.are_words;
    }
