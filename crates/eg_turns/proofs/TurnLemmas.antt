-- The turns of a tick, one after another, where they are done and where memory runs out.
use Rattle.std.proofs.Common.{◌≡◌, ◌∙◌, refl, sym, ap, subst, ℕ, ◌+◌, ◌<◌, true, length, slice_index, arith}
use Rattle.std.specs.Prelude.{Result, Ok, Err, IsErr}
use Rattle.std.proofs.lemmas.Result.{IfOk-from_err}
use Rattle.eg_base.specs.declared.no_memory.NoMemory.{NoMemory}
use Rattle.eg_guard.specs.Memory.{ShownMemory, KeepsMemory}
use Rattle.eg_guard.proofs.KeepsLemmas.{keeps_then, keeps_done, keeps_refused}
use Rattle.eg_fault.specs.Effects.{Effects}
use Rattle.eg_level2.specs.Inputs.{Level2Parts}
use Rattle.eg_level2.specs.Modules.{quiet_step}
use Rattle.eg_level2.specs.declared.step.Step.{Step}
use Rattle.eg_turns.specs.Inner.Midway.{IsTurn, RunLevels, joined}
use Rattle.eg_turns.specs.Midway.{Work, IsMidway, IsReady, IsDue}
use Rattle.eg_host.specs.Level1.{Level1Parts}
use Rattle.eg_turns.specs.declared.working.Task.{Task}
use Rattle.eg_turns.proofs.StepLemmas.{steps_at, steps-begin, steps-more, steps-all}

-- a turn whose slice ended early
pub refused : {T E F : Type 0} {parts : Level2Parts} {x : Effects} {task : Task} {number : ℕ} {before after : Level1Parts} {a b : ShownMemory} {e : E} (result : Result Step F)
    → IsErr result → (let refused : Result T E = Err e in KeepsMemory a b refused) → IsTurn parts x task number before after a b result
refused {a = a} {b = b} {e = e} result is keeps = record {
  midway = λ w due midway. IfOk-from_err result _ is;
  step = λ w due midway. IfOk-from_err result _ is;
  ready = IfOk-from_err result _ is;
  prepared = IfOk-from_err result _ is;
  keeps = keeps_refused a b e result is keeps;
}

-- after this many turns, whose steps are `whole` together
pub record SoFar (parts : Level2Parts) (x : Effects) (task : Task) (turns : ℕ) (whole : Step) (before after : Level1Parts) (a b : ShownMemory) : Type 0 where
  pub midway : (w : Work) → IsDue parts x task w → IsMidway w 0 0 before.registers a.words → IsMidway w turns turns after.registers b.words
  pub step : (w : Work) → IsDue parts x task w → IsMidway w 0 0 before.registers a.words → whole ≡ steps_at w.doing turns w.words
  pub keeps : (let done : Result Step NoMemory = Ok whole in KeepsMemory a b done)

module _ {parts : Level2Parts} {x : Effects} {task : Task} {before : Level1Parts} {a : ShownMemory} where
  pub begun : {whole : Step} → whole ≡ quiet_step → SoFar parts x task 0 whole before before a a
  begun e = record {
    midway = λ w due midway. midway;
    step = λ w due midway. e ∙ steps-begin w.doing w.words;
    keeps = record { sure = λ sure. refl; stays_sure = refl; are_words = λ are. are };
  }

  pub next : {turns : ℕ} {whole more step : Step} {now after : Level1Parts} {b d : ShownMemory} → SoFar parts x task turns whole before now a b
      → (let done : Result Step NoMemory = Ok step in IsTurn parts x task turns now after b d done) → more ≡ joined whole step → SoFar parts x task (turns + 1) more before after a d
  next {turns = turns} {whole = whole} {more = more} {step = step} {b = b} {d = d} so_far turn e = record {
    midway = λ w due midway. turn.midway w due (so_far.midway w due midway);
    step = λ w due midway. e ∙ steps-more w.doing w.words turns whole step (so_far.step w due midway) (turn.step w due (so_far.midway w due midway));
    keeps = keeps_then a b d whole (Ok more) so_far.keeps (keeps_done b d step more turn.keeps);
  }

  -- the last slice is done
  pub ended : {T : Type 0} {y : Effects} {whole : Step} {now after : Level1Parts} {b d : ShownMemory} {made : T} {budget : ℕ} → x ≡ y → SoFar parts x task 8 whole before now a b
      → x.level1 ≡ true → length task.slices ≡ 9 → budget ≡ slice_index task.slices 8
      → ((w : Work) (j : ℕ) → w.level1 ≡ true → j < length w.slices → slice_index w.slices j ≡ budget → IsMidway w j j now.registers b.words
      → IsMidway w (j + 1) j after.registers d.words)
      → IsReady parts.rules after.program d.words → (let done : Result T NoMemory = Ok made in KeepsMemory b d done)
      → (let done : Result Step NoMemory = Ok whole in RunLevels parts y task before after a d done)
  ended {y = y} {whole = whole} {after = after} {b = b} {d = d} {made = made} same so_far level1 nine budget slice ready keeps =
      subst (λ y. (let done : Result Step NoMemory = Ok whole in RunLevels parts y task before after a d done)) same (record {
        midway = λ w due midway. slice w 8 (due.level1 ∙ level1)
            (let long : length w.slices ≡ 9 = ap length due.budgets ∙ nine in omega arith)
            (ap (λ slices. slice_index slices 8) due.budgets ∙ sym budget) (so_far.midway w due midway);
        step = λ w due midway. so_far.step w due midway ∙ steps-all w.doing w.words;
        nine = nine;
        ready = ready;
        keeps = keeps_then a b d whole (Ok whole) so_far.keeps (keeps_done b d made whole keeps);
      })
