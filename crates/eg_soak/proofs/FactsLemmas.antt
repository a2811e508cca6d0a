-- The run that is played, and what counts of it.
use Rattle.std.proofs.Common.{◌≡◌, ap₂}
use Rattle.std.specs.Prelude.{Bool, Option, Some, None, IfSome, is_some}
use Rattle.eg_fault.specs.declared.class.Fault.{Fault}
use Rattle.eg_fault.specs.Faults.{IsValid, IsNoneOrValid}
use Rattle.eg_record.specs.declared.facts.Facts.{Facts}
use Rattle.eg_model.specs.Engines.{gasoline}
use Rattle.eg_model.specs.Bench.{Run}
use Rattle.eg_model.specs.Rows.{record_trap}
use Rattle.eg_tick.specs.Facts.{record_facts}
use Rattle.eg_soak.specs.Soak.{on_gasoline}
use Rattle.eg_soak.specs.Facts.{facts_in, drawn_facts}

pub any_fault : (fault : Option Fault) → IfSome fault IsValid → IsNoneOrValid fault
unfolding IsNoneOrValid
any_fault None valid = tt
any_fault (Some fault) valid = valid

-- what counts of a run by the facts of its record
pub facts_told : (r : Run) (facts : Facts) (is_trapped : Bool) → facts ≡ record_facts gasoline r → is_trapped ≡ is_some (record_trap gasoline r) →
    facts_in facts is_trapped ≡ drawn_facts (on_gasoline r)
unfolding drawn_facts
facts_told r facts is_trapped are is = ap₂ facts_in are is
