-- A row of a record is what its moment says, with its place in the run as its tick; a report is the summary
-- of the rows and the trap.
use Rattle.std.specs.Prelude.{ℕ, List, [], ◌∷◌, length, Option, Some, None}
use Rattle.std.specs.Option.{option_or}
use Rattle.eg_answer.specs.Times.{reaction_of}
use Rattle.eg_word.specs.declared.registers.Trap.{Trap}
use Rattle.eg_word.specs.declared.registers.State.{State}
use Rattle.eg_word.specs.declared.registers.State.TheVariants.{Running, Waiting, Trapped}
use Rattle.eg_record.specs.declared.row.Row.{Row}
use Rattle.eg_record.specs.declared.summary.Summary.{Summary}
use Rattle.eg_record.specs.Summaries.{summary_of}
use Rattle.eg_model.specs.History.{Signals, Moment}
use Rattle.eg_model.specs.Engines.{BenchEngine}
use Rattle.eg_model.specs.Bench.{Run, moments_to}

-- the five signals in their order
unfoldable pub signal_list : Signals → List ℕ
signal_list s = s.pedal ∷ s.permitted ∷ s.actual ∷ s.excess ∷ s.pairs ∷ []

-- the row of a moment, with its place in the record as its tick
unfoldable pub row_of : ℕ → Moment → Row
row_of tick m = record {
  tick = tick;
  drive = m.entry.drive;
  plate = m.entry.shown.position;
  charge = m.entry.shown.load_1;
  torque = m.entry.shown.torque;
  limit = m.limit;
  path1 = m.path1;
  path2 = m.path2;
  on = m.on;
  signals = signal_list m.signals;
  throttle = m.world.throttle;
  ignition = m.world.ignition;
  found = m.found;
  answer = m.mark;
  verdict = m.verdict;
  testing = m.testing;
  fresh = m.fresh;
}

-- the rows of these ticks
unfoldable pub rows_of : List Moment → List Row
rows_of [] = []
rows_of (m ∷ past) = row_of (length past) m ∷ rows_of past

-- the trap of a state of level 1, if it is trapped, with the tick
unfoldable pub trap_in : State → ℕ → Option (Trap × ℕ)
trap_in Running tick = None
trap_in Waiting tick = None
trap_in (Trapped kind) tick = Some (kind, tick)

-- the first of these ticks after which level 1 is trapped, with the kind of its trap
unfoldable pub first_trap : List Moment → Option (Trap × ℕ)
first_trap [] = None
first_trap (m ∷ past) = option_or (first_trap past) (trap_in m.world.registers.state (length past))

-- the rows of a run, newest first, and its trap
unfoldable pub record_rows : {E : Type 0} → BenchEngine E → Run → List Row
record_rows b r = rows_of (moments_to b r (length r.drive))

unfoldable pub record_trap : {E : Type 0} → BenchEngine E → Run → Option (Trap × ℕ)
record_trap b r = first_trap (moments_to b r (length r.drive))

-- what the report says of a run of this name
unfoldable pub report_of : {E : Type 0} → BenchEngine E → List ℕ → Run → Summary
report_of b name r =
    summary_of name (record_rows b r) (record_trap b r) r.setting.cal.rules.threshold
    r.setting.cal.rules.torque (reaction_of r.setting.cal.times)
