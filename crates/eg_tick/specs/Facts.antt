-- Of a run whose rows aren't kept there are told the facts of its record, the reactions in its spans, how
-- near it came to a cut, where it is weighed, and its trap. For drives that never reset the unit stands here
-- too what the facts tell of the reaction: a run without a reset is one drive span from tick 0 on.
use Rattle.std.specs.Prelude.{◌≡◌, ℕ, ◌+◌, ◌<◌, Bool, true, false, List, All, length, Option, IfSome, IsSomeAnd, MatchOption, if◌then◌else◌}
use Rattle.eg_num.specs.Drive.{DriveRow}
use Rattle.eg_fault.specs.declared.class.Fault.{Fault}
use Rattle.eg_record.specs.declared.facts.Facts.{Facts}
use Rattle.eg_record.specs.declared.run_facts.RunFacts.{RunFacts}
use Rattle.eg_record.specs.Facts.{facts_of}
use Rattle.eg_record.specs.Reactions.{reactions_of}
use Rattle.eg_record.specs.Margins.{no_margins}
use Rattle.eg_model.specs.Premises.{IsProperRun}
use Rattle.eg_model.specs.Reaction.{is_at_once}
use Rattle.eg_model.specs.Engines.{BenchEngine}
use Rattle.eg_model.specs.Bench.{Run, entries_to}
use Rattle.eg_model.specs.Rows.{record_rows, record_trap}
use Rattle.eg_tick.specs.Margins.{record_margins}

-- the facts of the record of a run of this engine
unfoldable pub record_facts : {S : Type 0} → BenchEngine S → Run → Facts
record_facts b r = facts_of r.setting.cal.rules.torque r.setting.cal.rules.threshold (record_rows b r)

-- what is told of it: the facts of its record, the reactions in its spans, how near it came to a cut, where
-- it is weighed, and its trap
abbrev pub told_of : {S : Type 0} → (weighed : Bool) → BenchEngine S → Run → RunFacts
told_of weighed b r = record {
  facts = record_facts b r;
  reactions = reactions_of r.setting.cal.rules.torque r.setting.cal.rules.threshold (record_rows b r);
  margins = if weighed then record_margins b r else no_margins;
  trap = record_trap b r;
}

-- This is told of a run of this engine. What came in at each of its ticks was proper.
pub record IsToldOf {S : Type 0} (weighed : Bool) (b : BenchEngine S) (r : Run)
    (told : RunFacts) : Type 0 where
  pub is : told ≡ told_of weighed b r
  pub proper : IsProperRun r.setting (entries_to b r (length r.drive))

-- ---- the reaction ----

-- no row of the drive resets the unit
abbrev pub IsWithoutReset : List DriveRow → Type 0
IsWithoutReset drive = All (λ row. row.reset ≡ false) drive

-- from `bound` ticks after the first tick by which the true excess is confirmed, the stages are off
abbrev pub FactsReactWithin : (bound : ℕ) → Facts → Type 0
FactsReactWithin bound facts = IfSome facts.confirmed (λ c. IfSome facts.last_on (λ last. last < c + bound))

-- where the fault, if any, is one under which the reaction is then at once, the stages are off from the next
-- tick on
abbrev pub FactsReactAtOnce : Option Fault → Facts → Type 0
FactsReactAtOnce fault facts =
    IfSome facts.confirmed (λ c. is_at_once fault (c + 1) ≡ true →
    IfSome facts.last_on (λ last. last < c + 1))

-- The stages are on from the first tick on, go off once at most, and never come on again: the last tick at
-- which they are on is right before the first at which they are off, or is the last of the run.
abbrev pub GoOffOnce : Facts → Type 0
GoOffOnce facts =
    IsSomeAnd facts.last_on (λ last. MatchOption facts.off (last + 1 ≡ facts.ticks) (λ off. last + 1 ≡ off))
