-- A controller of a run on the bench, and its branch: where the one has come to in the run without a fault the
-- other has come to in the run under it.
use Rattle.std.proofs.Common.{◌≡◌, ◌∙◌, sym, ap, subst, ℕ, Bool, length, Option, None}
use Rattle.std.specs.Prelude.{if◌then◌else◌}
use Rattle.eg_fault.specs.declared.class.Fault.{Fault}
use Rattle.eg_guard.specs.Memory.{ShownMemory}
use Rattle.eg_record.specs.Facts.{facts_of}
use Rattle.eg_model.specs.Premises.{IsProperRun}
use Rattle.eg_model.specs.Rows.{rows_of, first_trap, record_rows, record_trap}
use Rattle.eg_model.specs.Engines.{BenchEngine}
use Rattle.eg_model.specs.Bench.{Run, entries_to}
use Rattle.eg_model.specs.Branching.{BeginsFrom, under, BeginAlike}
use Rattle.eg_model.proofs.RecordTicks.{length-entries}
use Rattle.eg_model.proofs.BranchLaws.{records_branch}
use Rattle.eg_tick.specs.Benched.{ComeTo}
use Rattle.eg_tick.specs.Kept.{ControllerParts}
use Rattle.eg_tick.specs.Run.{IsAt}
use Rattle.eg_record.specs.declared.run_facts.RunFacts.{RunFacts}
use Rattle.eg_record.specs.Reactions.{reactions_of}
use Rattle.eg_record.specs.Margins.{margins_of, no_margins}
use Rattle.eg_tick.specs.Margins.{weighed_of, record_margins}
use Rattle.eg_tick.specs.Facts.{record_facts, IsToldOf}
use Rattle.eg_tick.specs.Stands.{Stands}
use Rattle.eg_tick.proofs.BranchLemmas.{proper_run-under, branch_of, branch_stands}

module _ {S E : Type 0} (b : BenchEngine S) (come_to : ComeTo S E) (r : Run) (none : r.setting.fault ≡ None) (fault : Option Fault) where
  pub branch_at : (t : ℕ) (c branch : ControllerParts E) (memory : ShownMemory) → BeginsFrom t fault → branch.kept ≡ branch_of c.kept fault memory →
      memory.words ≡ c.kept.memory.words → branch.engine ≡ c.engine → IsAt b come_to r t c →
      IsAt b come_to (record r { setting = under fault r.setting }) t branch
  branch_at t c branch memory from kept words engine is = record {
    stands = subst (Stands (under fault r.setting) branch.kept) (sym alike.entries_are)
        (subst (λ k. Stands (under fault r.setting) k (entries_to b r t)) (sym kept)
        (branch_stands r.setting c.kept fault memory (entries_to b r t) (is.stands.fault ∙ none)
        (subst (λ n. BeginsFrom n fault) (sym (is.stands.count ∙ length-entries b r t)) from) words is.stands));
    engine = engine ∙ is.engine ∙ ap (come_to r.setting.cal.plant) (sym alike.engine_is);
  }
    where
      alike : BeginAlike b r (record r { setting = under fault r.setting }) t
      alike = records_branch b r none fault t from

  -- and where the fault begins after the run, what the one comes to the other does
  pub told_under : (weighed : Bool) (is_told : RunFacts) → BeginsFrom (length r.drive) fault → IsToldOf weighed b r is_told →
      IsToldOf weighed b (record r { setting = under fault r.setting }) is_told
  unfolding record_facts record_rows record_trap record_margins
  told_under weighed is_told from told = record {
    is = told.is ∙ ap (λ past. record {
      facts = facts_of r.setting.cal.rules.torque r.setting.cal.rules.threshold (rows_of past);
      reactions = reactions_of r.setting.cal.rules.torque r.setting.cal.rules.threshold (rows_of past);
      margins = if weighed then margins_of (weighed_of r.setting.cal past) else no_margins;
      trap = first_trap past;
    }) (sym alike.moments_are);
    proper = subst (IsProperRun (under fault r.setting)) (sym alike.entries_are)
        (proper_run-under r.setting none fault (entries_to b r (length r.drive))
        (subst (λ n. BeginsFrom n fault) (sym (length-entries b r (length r.drive))) from) told.proper);
  }
    where
      alike : BeginAlike b r (record r { setting = under fault r.setting }) (length r.drive)
      alike = records_branch b r none fault (length r.drive) from
