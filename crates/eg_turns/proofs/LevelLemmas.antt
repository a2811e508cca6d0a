-- What a call for one slice, or for one module, makes of what stands midway.
use Rattle.std.proofs.Common.{◌≡◌, ◌∙◌, refl, sym, ap, ℕ, ◌+◌, ◌<◌, ◌==◌, ◌&&◌, Bool, true, false, List, length, slice_index}
use Rattle.std.specs.Prelude.{if◌then◌else◌, Result, Ok, Err, OnOk, IfOk}
use Rattle.eg_guard.specs.Memory.{AreWords, SameOutside}
use Rattle.eg_word.specs.declared.registers.Registers.{Registers}
use Rattle.eg_word.specs.Memory.{is_level1_own}
use Rattle.eg_word.specs.World.{View, world_of, Shows}
use Rattle.eg_host.specs.Slices.{world_slice}
use Rattle.eg_fault.specs.Effects.{Effects}
use Rattle.eg_level2.specs.declared.step.Step.{Step}
use Rattle.eg_level2.specs.Words.{words_of, AreMirrored, is_level2_own}
use Rattle.eg_level2.specs.Inputs.{Level2Parts, Inputs, inputs_of}
use Rattle.eg_level2.specs.Modules.{module_step, step_of, answer_after, order_after, found_by, quiet_step, given_up, finding, mirror_alone}
use Rattle.eg_level2.specs.Ticks.{inputs_for, after_module, after_modules}
use Rattle.eg_turns.specs.declared.working.Task.{Task}
use Rattle.eg_turns.specs.Inner.Midway.{step_at}
use Rattle.eg_turns.specs.Midway.{Work, IsSet, IsMidway, Meets}
use Rattle.eg_turns.proofs.MidwayLemmas.{slice-midway, module-midway}

-- ---- a slice ----

pub slice_result : {T E : Type 0} (result : Result T E) (w : Work) (j budget : ℕ) (m n : Registers) (old new : List ℕ) → w.level1 ≡ true → j < length w.slices
    → slice_index w.slices j ≡ budget → (AreWords old → AreWords new) → SameOutside is_level1_own old new
    → ((view : View) → Shows old view → OnOk result (world_of n new ≡ world_slice view budget (world_of m old)))
    → IsMidway w j j m old → OnOk result (IsMidway w (j + 1) j n new)
slice_result (Ok x) w j budget m n old new runs within row are same made is =
    slice-midway w j m n old new runs within (are is.set.are_words) same
    (λ view shows. made view shows ∙ ap (λ count. world_slice view count (world_of m old)) (sym row)) is
slice_result (Err x) w j budget m n old new runs within row are same made is = tt

-- ---- a module ----

-- what goes into a module is what the tick says
inputs-same : (parts : Level2Parts) (x : Effects) (task : Task) (w : Work) (j : ℕ) (memory : List ℕ) (mixed : ℕ) → mixed ≡ x.disturbance j → Meets parts x task w.doing
    → IsSet w memory → inputs_of parts memory task.local task.phase mixed ≡ inputs_for w.doing j
unfolding inputs_of inputs_for
inputs-same parts x task w j memory mixed mixes meets set = λ i. record {
  rules = sym meets.rules i;
  questions = sym meets.questions i;
  readings = set.readings i;
  asked = set.asked i;
  tick = sym meets.at i;
  phase = sym meets.phase_now i;
  disturbance = (mixes ∙ ap (λ (f : ℕ → ℕ). f j) (sym meets.disturbance)) i;
}

runs-plain : {A : Type 0} (ran up : Bool) (gone plain idle : A) → ran ≡ true → up ≡ false → (if ran then (if up then gone else plain) else idle) ≡ plain
runs-plain true false gone plain idle r u = refl
runs-plain true true gone plain idle r u = absurd (let clash : true ≡ false = u in cc)
runs-plain false up gone plain idle r u = absurd (let clash : false ≡ true = r in cc)

runs-not : {A : Type 0} (ran : Bool) (made idle : A) → ran ≡ false → (if ran then made else idle) ≡ idle
runs-not false made idle r = refl
runs-not true made idle r = absurd (let clash : true ≡ false = r in cc)

module _ (parts : Level2Parts) (x : Effects) (task : Task) (w : Work) (i j : ℕ) (m : Registers) (old : List ℕ)
    (meets : Meets parts x task w.doing) (plain : (j == 0 && w.doing.differs) ≡ false) (is : IsMidway w i j m old) where
  ran-is : (b : Bool) → x.ran j ≡ b → w.doing.ran j ≡ b
  ran-is b same = ap (λ (f : ℕ → Bool). f j) meets.ran ∙ same

  -- a module that doesn't run changes nothing
  idle-words : x.ran j ≡ false → words_of old ≡ after_module w.doing j (words_of old)
  unfolding after_module
  idle-words idle = sym (runs-not (w.doing.ran j) _ (words_of old) (ran-is false idle))

  pub idle_module : x.ran j ≡ false → IsMidway w i (j + 1) m old
  idle_module idle = module-midway w i j m old old is.set.are_words (λ address outside. refl) is.mirrored (idle-words idle) is

  pub idle_step : x.ran j ≡ false → quiet_step ≡ step_at w.doing j w.words
  unfolding step_at
  idle_step idle = sym (runs-not (w.doing.ran j) _ quiet_step (ran-is false idle))

  module _ (mixed : ℕ) (mixes : mixed ≡ x.disturbance j) where
    abbrev inputs : Inputs
    inputs = inputs_of parts old task.local task.phase mixed

    inputs-are : inputs ≡ inputs_for w.doing j
    inputs-are = inputs-same parts x task w j old mixed mixes meets is.set

    pub module_result : {T E : Type 0} (result : Result T E) (new : List ℕ) → x.ran j ≡ true → (AreWords old → AreWords new) → SameOutside is_level2_own old new
        → OnOk result (AreMirrored new) → (AreMirrored old → OnOk result (words_of new ≡ module_step inputs j (words_of old)))
        → OnOk result (IsMidway w i (j + 1) m new)
    unfolding after_module
    module_result (Ok y) new runs are same mirrored made =
        module-midway w i j m old new (are is.set.are_words) same mirrored
        (made is.mirrored ∙ ap (λ into. module_step into j (words_of old)) inputs-are
        ∙ sym (runs-plain (w.doing.ran j) (j == 0 && w.doing.differs) (given_up w.doing.tick) (module_step (inputs_for w.doing j) j (words_of old)) (words_of old) (ran-is true runs) plain)) is
    module_result (Err y) new runs are same mirrored made = tt

    pub step_result : {E : Type 0} (result : Result Step E) → x.ran j ≡ true → IfOk result (λ step. step.answer ≡ answer_after inputs j (words_of old))
        → IfOk result (λ step. step.open_path ≡ order_after inputs j (words_of old)) → (AreMirrored old → IfOk result (λ step. step.found ≡ found_by inputs j (words_of old)))
        → IfOk result (λ step. step ≡ step_at w.doing j w.words)
    unfolding step_at step_of
    step_result (Ok step) runs answer order found =
        let whole : step ≡ step_of inputs j (words_of old) = λ k. record { open_path = order k; answer = answer k; found = found is.mirrored k } in
        whole ∙ ap (λ into. step_of into j (words_of old)) inputs-are ∙ ap (step_of (inputs_for w.doing j) j) is.words
        ∙ sym (runs-plain (w.doing.ran j) (j == 0 && w.doing.differs) (finding mirror_alone) (step_of (inputs_for w.doing j) j (after_modules w.doing j w.words)) quiet_step (ran-is true runs) plain)
    step_result (Err e) runs answer order found = tt
