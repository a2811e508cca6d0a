-- Which modules run under a valid fault.
use Rattle.std.proofs.Common.{ℕ, ◌≤◌, ◌<◌, ◌⊎◌, inl, inr, Option, Some, None}
use Rattle.eg_answer.specs.Modules.{AllRun, OthersRun}
use Rattle.eg_fault.specs.Faults.{effects}
use Rattle.eg_fault.specs.Running.{RunsWhole}
use Rattle.eg_fault.specs.declared.class.Fault.{Fault}
use Rattle.eg_fault.proofs.ClassLemmas.{one_of_eight_is_left_out}
use Rattle.eg_fault.proofs.RunningLemmas.{running_law}
use Rattle.eg_fault.specs.Faults.{IsNoneOrValid}

-- one of the eight modules is left out from a tick on, and before it all run
pub record LeavesOneOut (fault : Option Fault) : Type 0 where
  pub one : ℕ
  pub below : one < 8
  pub onset : ℕ
  pub before : (tick : ℕ) → tick < onset → AllRun (effects fault tick).ran
  pub after : (tick : ℕ) → onset ≤ tick → OthersRun one (effects fault tick).ran

pub shape : (fault : Option Fault) → IsNoneOrValid fault → RunsWhole fault ⊎ LeavesOneOut fault
unfolding IsNoneOrValid
shape None valid = inl running_law.0
shape (Some fault) valid = elim (running_law.1 fault) [
  | inl whole ↦ inl whole
  | inr found ↦ inr (record {
    one = found.0;
    below = one_of_eight_is_left_out fault valid found.0 found.1;
    onset = fault.onset;
    before = found.1.before;
    after = found.1.after;
  })
]
