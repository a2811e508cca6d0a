-- The summary of a run, which a report tells, has its name, first detection, first tick off, trap, first
-- confirmed true excess, and worst-case reaction.
use Rattle.std.specs.Prelude.{ℕ, List, Option}
use Rattle.eg_num.specs.Windows.{WeightParts}
use Rattle.eg_word.specs.declared.registers.Trap.{Trap}
use Rattle.eg_record.specs.declared.row.Row.{Row}
use Rattle.eg_record.specs.declared.summary.Summary.{Summary}
use Rattle.eg_record.specs.Detection.{first_detection}
use Rattle.eg_record.specs.Excess.{first_confirmed}
use Rattle.eg_record.specs.Stages.{first_off}

-- Of the rows it tells the first detection, the first tick at which the stages are off and no start-up test
-- is running, and the first tick at which the true excess is confirmed within its span. Name, trap and
-- worst-case reaction are handed in.
unfoldable pub summary_of : (name : List ℕ) → List Row → (trap : Option (Trap × ℕ)) → (threshold : ℕ) →
    WeightParts → (bound : ℕ) → Summary
summary_of name rows trap threshold weights bound = record {
  name = name;
  first = first_detection rows;
  off = first_off rows;
  trap = trap;
  confirmed = first_confirmed weights threshold rows;
  bound = bound;
}
