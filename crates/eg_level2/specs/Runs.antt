-- What a run of a module by its number makes of a memory, and what it answers.
use Rattle.std.specs.Prelude.{◌≡◌, ◌↔◌, ◌⊎◌, ℕ, Result, IsTrue, IsOk, OnOk, OnErr, IfOk}
use Rattle.eg_guard.specs.Memory.{ShownMemory, AreWords, SameOutside}
use Rattle.eg_level2.specs.declared.phase.Phase.{Phase}
use Rattle.eg_level2.specs.declared.step.Step.{Step}
use Rattle.eg_level2.specs.Words.{word_at, words_of, AreMirrored, AreWithin, is_set, is_level2_own}
use Rattle.eg_level2.specs.Inputs.{Level2Parts, inputs_of}
use Rattle.eg_level2.specs.Stores.{AreFirst}
use Rattle.eg_level2.specs.Order.{stores_of, given_up_stores, TellsTrip}
use Rattle.eg_level2.specs.Modules.{given_up, module_step, answer_after, order_after, mirror_alone, found_by}

-- The run of the module of that number at a tick of that phase, with what disturbs it.
pub record IsModuleRun {E : Type 0} (parts : Level2Parts) (number tick : ℕ) (phase : Phase) (disturbance : ℕ)
    (old new : ShownMemory) (result : Result Step E) : Type 0 where
  -- the words after it, and what it answers, orders and finds, where each word had its complement
  pub words : AreMirrored old.words → OnOk result (words_of new.words
      ≡ module_step (inputs_of parts old.words tick phase disturbance) number (words_of old.words))
  pub answer : IfOk result (λ step. step.answer
      ≡ answer_after (inputs_of parts old.words tick phase disturbance) number (words_of old.words))
  pub order : IfOk result (λ step. step.open_path
      ≡ order_after (inputs_of parts old.words tick phase disturbance) number (words_of old.words))
  pub found : AreMirrored old.words → IfOk result (λ step. step.found
      ≡ found_by (inputs_of parts old.words tick phase disturbance) number (words_of old.words))
  -- Where a word differed from its complement, module 0 gives all words up, and the watch `mirror` alone is
  -- found. It is found exactly there.
  pub given_up : ¬ AreMirrored old.words → OnOk result (words_of new.words ≡ given_up tick)
  pub mirror_alone : ¬ AreMirrored old.words → IfOk result (λ step. step.found ≡ mirror_alone)
  pub mirror : IfOk result (λ step. IsTrue step.found.mirror ↔ ¬ AreMirrored old.words)
  -- each word has its complement afterwards, and no counter passes its limit
  pub mirrored : OnOk result (AreMirrored new.words)
  pub within : (AreMirrored old.words → AreWithin parts.rules (words_of old.words)) →
      OnOk result (AreWithin parts.rules (words_of new.words))
  -- Where memory ran out, the run's stores were made up to some point, in their order, and no other.
  pub stopped : AreMirrored old.words → OnErr result (AreFirst
      (stores_of (inputs_of parts old.words tick phase disturbance) number (words_of old.words))
      (word_at old.words) (word_at new.words))
  pub given_up_stopped : ¬ AreMirrored old.words →
      OnErr result (AreFirst (given_up_stores tick) (word_at old.words) (word_at new.words))
  -- Then, where a trip stood or a word differed from its complement, a trip stands or a word differs still.
  -- The same is so where the run sets a trip, unless nothing was stored at all.
  pub told : TellsTrip old.words → OnErr result (TellsTrip new.words)
  pub set_told : AreMirrored old.words → IsTrue (is_set
      (module_step (inputs_of parts old.words tick phase disturbance) number (words_of old.words)).trip) →
      OnErr result (TellsTrip new.words ⊎ (word_at new.words ≡ word_at old.words))
  -- No word outside results and protected changes. NoMemory never comes over a sure memory.
  pub outside : SameOutside is_level2_own old.words new.words
  pub sure : IsTrue old.sure → IsOk result
  pub stays_sure : new.sure ≡ old.sure
  pub are_words : AreWords old.words → AreWords new.words
