-- Module 0 at the tick at which a word is flipped: it gives all up, and finds that alone.
use Rattle.std.proofs.Common.{◌≡◌, ◌∙◌, refl, sym, ap, ℕ, Bool, true, false, List}
use Rattle.std.specs.Prelude.{if◌then◌else◌, is_some, Option, Result, Ok, Err, OnOk, IfOk}
use Rattle.eg_guard.specs.Memory.{AreWords, SameOutside}
use Rattle.eg_word.specs.declared.registers.Registers.{Registers}
use Rattle.eg_fault.specs.Faults.{effects}
use Rattle.eg_fault.specs.declared.class.Fault.{Fault}
use Rattle.eg_level2.specs.declared.step.Step.{Step}
use Rattle.eg_level2.specs.Words.{Words, words_of, AreMirrored, is_level2_own}
use Rattle.eg_level2.specs.Inputs.{Level2Parts, Inputs}
use Rattle.eg_level2.specs.Modules.{answer_after, order_after, given_up, finding, mirror_alone}
use Rattle.eg_level2.specs.Ticks.{after_module}
use Rattle.eg_fault.proofs.ClassLemmas.{faults_check_flips}
use Rattle.eg_turns.specs.declared.working.Task.{Task}
use Rattle.eg_turns.specs.Inner.Midway.{step_at}
use Rattle.eg_turns.specs.Midway.{Work, IsMidway, Meets}
use Rattle.eg_turns.proofs.MidwayLemmas.{module-midway}

runs-flipped : {A : Type 0} (ran up : Bool) (gone plain idle : A) → ran ≡ true → up ≡ true → gone ≡ (if ran then (if up then gone else plain) else idle)
runs-flipped true true gone plain idle r u = refl
runs-flipped true false gone plain idle r u = absurd (let clash : false ≡ true = u in cc)
runs-flipped false up gone plain idle r u = absurd (let clash : false ≡ true = r in cc)

module _ (parts : Level2Parts) (fault : Option Fault) (task : Task) (w : Work) (i : ℕ) (m : Registers) (old : List ℕ)
    (meets : Meets parts (effects fault task.tick) task w.doing) (is : IsMidway w i 0 m old) (flips : is_some (effects fault task.tick).flip ≡ true) where
  differs : w.doing.differs ≡ true
  differs = meets.differs ∙ flips

  runs : w.doing.ran 0 ≡ true
  runs = ap (λ (f : ℕ → Bool). f 0) meets.ran ∙ faults_check_flips fault task.tick flips

  gives-up : (words : Words) → given_up task.local ≡ after_module w.doing 0 words
  unfolding after_module
  gives-up words = ap given_up (sym meets.at) ∙ runs-flipped (w.doing.ran 0) w.doing.differs (given_up w.doing.tick) _ words runs differs

  pub flipped_module : {T E : Type 0} (result : Result T E) (flipped new : List ℕ) → AreWords new
      → SameOutside is_level2_own old flipped → SameOutside is_level2_own flipped new → OnOk result (AreMirrored new)
      → OnOk result (words_of new ≡ given_up task.local) → OnOk result (IsMidway w i 1 m new)
  flipped_module (Ok y) flipped new are before after mirrored made =
      module-midway w i 0 m old new are (λ address outside. after address outside ∙ before address outside) mirrored (made ∙ gives-up (words_of old)) is
  flipped_module (Err y) flipped new are before after mirrored made = tt

  pub flipped_step : {E : Type 0} (result : Result Step E) (inputs : Inputs) (words : Words) → IfOk result (λ step. step.answer ≡ answer_after inputs 0 words)
      → IfOk result (λ step. step.open_path ≡ order_after inputs 0 words) → IfOk result (λ step. step.found ≡ mirror_alone)
      → IfOk result (λ step. step ≡ step_at w.doing 0 w.words)
  unfolding step_at answer_after order_after
  flipped_step (Ok step) inputs words answer order found =
      let whole : step ≡ finding mirror_alone = λ k. record { open_path = order k; answer = answer k; found = found k } in
      whole ∙ runs-flipped (w.doing.ran 0) w.doing.differs (finding mirror_alone) _ _ runs differs
  flipped_step (Err e) inputs words answer order found = tt
