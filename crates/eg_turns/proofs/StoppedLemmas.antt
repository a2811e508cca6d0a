-- A tick at which neither level 1 nor level 2 runs: each of its turns changes nothing.
use Rattle.std.proofs.Common.{◌≡◌, ◌∙◌, refl, sym, ap, subst, ℕ, zero, suc, ◌+◌, ◌&&◌, Bool, true, false, length, arith}
use Rattle.std.specs.Prelude.{◌==◌, is_some, Result, Ok}
use Rattle.eg_base.specs.declared.no_memory.NoMemory.{NoMemory}
use Rattle.eg_guard.specs.Memory.{ShownMemory}
use Rattle.eg_fault.specs.Effects.{Effects}
use Rattle.eg_fault.proofs.RunningLemmas.{Stops}
use Rattle.eg_level2.specs.Inputs.{Level2Parts, IsPrepared, asked_of}
use Rattle.eg_level2.specs.Modules.{quiet_step}
use Rattle.eg_level2.specs.declared.step.Step.{Step}
use Rattle.eg_turns.specs.Inner.Midway.{IsTurn, RunLevels}
use Rattle.eg_turns.specs.Midway.{Work, IsMidway, IsReady, IsDue}
use Rattle.eg_host.specs.Level1.{Level1Parts}
use Rattle.eg_turns.specs.declared.working.Task.{Task}
use Rattle.eg_turns.proofs.MidwayLemmas.{idle-midway}
use Rattle.eg_turns.proofs.LevelLemmas.{idle_module, idle_step}
use Rattle.eg_turns.proofs.StepLemmas.{steps-all, quiet-after}
use Rattle.eg_turns.proofs.TurnLemmas.{SoFar, begun, next}

never : (b : Bool) → (b && false) ≡ false
never true = refl
never false = refl

module _ (parts : Level2Parts) (x : Effects) (task : Task) (level1 : Level1Parts) (a : ShownMemory) (still : x.level1 ≡ false) (stops : Stops x)
    (ready : IsReady parts.rules level1.program a.words) (prepared : IsPrepared parts (asked_of a.words) task.prepared) where
  plain : (w : Work) (j : ℕ) → IsDue parts x task w → (j == 0 && w.doing.differs) ≡ false
  plain w j due = ap (λ differs. j == 0 && differs) (due.meets.differs ∙ ap is_some stops.flip) ∙ never (j == 0)

  slice : (w : Work) (j : ℕ) → IsDue parts x task w → IsMidway w j j level1.registers a.words → IsMidway w (j + 1) j level1.registers a.words
  slice w j due midway = idle-midway w j _ _ (due.level1 ∙ still) midway

  turn : (j : ℕ) → (let done : Result Step NoMemory = Ok quiet_step in IsTurn parts x task j level1 level1 a a done)
  turn j = record {
    midway = λ w due midway. idle_module parts x task w (j + 1) j _ _ due.meets (plain w j due) (slice w j due midway) (stops.none j);
    step = λ w due midway. idle_step parts x task w j j _ _ due.meets (plain w j due) midway (stops.none j);
    ready = ready;
    prepared = prepared;
    keeps = record { sure = λ sure. refl; stays_sure = refl; are_words = λ are. are };
  }

  turns_done : (turns : ℕ) → SoFar parts x task turns quiet_step level1 level1 a a
  turns_done zero = begun refl
  turns_done (suc turns) = subst (λ n. SoFar parts x task n quiet_step level1 level1 a a) (let one_more : turns + 1 ≡ suc turns = omega arith in one_more)
      (next (turns_done turns) (turn turns) (sym (quiet-after quiet_step)))

  pub stopped_tick : {result : Result Step NoMemory} → result ≡ Ok quiet_step → length task.slices ≡ 9 → RunLevels parts x task level1 level1 a a result
  stopped_tick is nine = subst (RunLevels parts x task level1 level1 a a) (sym is) (record {
    midway = λ w due midway. slice w 8 due ((turns_done 8).midway w due midway);
    step = λ w due midway. (turns_done 8).step w due midway ∙ steps-all w.doing w.words;
    nine = nine;
    ready = ready;
    keeps = (turns_done 8).keeps;
  })
