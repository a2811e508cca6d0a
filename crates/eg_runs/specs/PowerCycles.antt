-- Runs with several power cycles, and what is told of their ticks by their number in the run.
use Rattle.std.specs.Prelude.{ℕ, ◌-◌, Bool, true, false, List, [], ◌∷◌, ◌++◌, map, filter, replicate, Option, None}
use Rattle.eg_num.specs.Drive.{DriveRow}
use Rattle.eg_answer.specs.declared.marks.AnswerMark.{AnswerMark}
use Rattle.eg_word.specs.declared.registers.State.{State}
use Rattle.eg_word.specs.declared.registers.State.TheVariants.{Running, Waiting, Trapped}
use Rattle.eg_word.specs.declared.registers.Trap.{Trap}
use Rattle.eg_fault.specs.declared.class.Class.TheVariants.{Plate}
use Rattle.eg_record.specs.declared.row.Row.{Row}
use Rattle.eg_record.specs.declared.summary.Summary.{Summary}
use Rattle.eg_record.specs.declared.watch.Watch.{Watch}
use Rattle.eg_model.specs.Answers.{is_answer}
use Rattle.eg_model.specs.Bench.{Run}
use Rattle.eg_values.specs.Reference.{reference_rules}
use Rattle.eg_model.specs.Examples.{full, storing, at_rest, resetting, short_test, fault_from, run_of, tested_run, reported, moments_in_time, rows_in_time}

-- ---- drives: the pedal at rest ----

-- a power cycle of this many ticks: the unit is reset at the first of them
abbrev pub cycle : ℕ → List DriveRow
cycle ticks = resetting ∷ replicate (ticks - 1) at_rest

-- this many ticks without a reset
abbrev pub rest : ℕ → List DriveRow
rest ticks = replicate ticks at_rest

-- ---- runs ----

-- Level 1 waits at the first tick, and at the next tries to store to the word of a signal. It has
-- instructions in slice 0 alone.
abbrev pub trapping_run : Run
trapping_run =
    record (run_of (0xf000 ∷ storing) None (rest 3 ++ cycle 3)) { plan = (100 ∷ replicate 8 0) ∷ [] }

-- The plate is held open, and the reset at tick 7 comes after three ticks with true excess. A good tick takes
-- nothing from the counter of the torque, so that these three would still count if it weren't begun anew.
abbrev pub excess_goes_on : Run
excess_goes_on =
    let cal = record short_test {
      rules = record reference_rules { torque = record { up = 1; down = 0; limit = 5 } };
    } in
    record (tested_run full (fault_from 0 (Plate 1000)) (rest 7 ++ cycle 18)) {
      setting = record { cal = cal; image = full; fault = fault_from 0 (Plate 1000) };
    }

-- ---- what is told of a run, by its ticks ----

-- the ticks whose rows `passes` is true of
abbrev pub ticks_where : (Row → Bool) → Run → List ℕ
ticks_where passes r = map (λ row. row.tick) (filter passes (rows_in_time r))

-- the answers that are sent
abbrev pub sent_in : Run → List (ℕ × AnswerMark)
sent_in r = map (λ row. (row.tick, row.answer)) (filter (λ row. is_answer row.answer) (rows_in_time r))

-- whether level 1 is trapped after each tick
unfoldable pub is_trapped : State → Bool
is_trapped Running = false
is_trapped Waiting = false
is_trapped (Trapped kind) = true

abbrev pub traps_of : Run → List Bool
traps_of r = map (λ m. is_trapped m.world.registers.state) (moments_in_time r)

-- the report of a run with the short test
abbrev pub short_report : Option (Watch × ℕ) → Option ℕ → Option (Trap × ℕ) → Option ℕ → Summary
short_report first off trap excess = record (reported first off trap excess) { bound = 14 }
