-- What facts tell of the reaction, at worked facts and at such that come otherwise by one tick.
use Rattle.std.proofs.Common.{◌≡◌, refl, true, false, Some, None, ℕ, arith}
use Rattle.std.specs.Prelude.{Option}
use Rattle.eg_fault.specs.declared.class.Class.{Class}
use Rattle.eg_fault.specs.declared.class.Class.TheVariants.{Path1Closed, Halt}
use Rattle.eg_fault.specs.declared.class.Fault.{Fault}
use Rattle.eg_record.specs.declared.facts.Facts.{Facts}
use Rattle.eg_record.specs.declared.watch.Watch.TheVariants.{Torque}
use Rattle.eg_model.specs.Reaction.{is_at_once, reacts_at_once}
use Rattle.eg_tick.specs.Facts.{FactsReactWithin, FactsReactAtOnce, GoOffOnce}

-- a run of 60 ticks at full throttle, whose stages are off at tick 10 and last on at this one
abbrev full_until : Option ℕ → Facts
full_until last = record { first = Some (Torque, 9); cut = Some (Torque, 9); off = Some 10; last_on = last; confirmed = Some 9; stretch = 5; peak = 500; ticks = 60 }

abbrev from : ℕ → Class → Option Fault
from onset class = Some (record { onset = onset; class = class })

-- confirmed at tick 9, off from tick 43 on: 34 ticks later
in_time : FactsReactWithin 34 (full_until (Some 42))
in_time = omega arith

too_late : ¬ FactsReactWithin 34 (full_until (Some 43))
too_late late = omega arith

-- off from the next tick on, unless path 1 is closed, or both levels have halted by the tick of the excess
next_tick : FactsReactAtOnce None (full_until (Some 9))
next_tick now = omega arith

not_next_tick : ¬ FactsReactAtOnce None (full_until (Some 10))
unfolding is_at_once
not_next_tick late = let tick = late refl in omega arith

path_1_closed : FactsReactAtOnce (from 0 Path1Closed) (full_until (Some 39))
unfolding is_at_once reacts_at_once
path_1_closed now = absurd (let f : false ≡ true = now in cc)

halted_later : ¬ FactsReactAtOnce (from 10 Halt) (full_until (Some 10))
unfolding is_at_once reacts_at_once
halted_later late = let tick = late refl in omega arith

halted_before : FactsReactAtOnce (from 9 Halt) (full_until (Some 42))
unfolding is_at_once reacts_at_once
halted_before now = absurd (let f : false ≡ true = now in cc)

-- off at tick 10 and not on again; on again; never off; and off from the first tick on
off_once : GoOffOnce (full_until (Some 9))
off_once = refl

off_twice : ¬ GoOffOnce (full_until (Some 39))
off_twice again = absurd (omega arith)

never_off : GoOffOnce (record (full_until (Some 59)) { off = None })
never_off = refl

never_on : ¬ GoOffOnce (record (full_until None) { off = Some 0 })
never_on none = none
