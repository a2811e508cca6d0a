-- Words for runs that are worked out.
use Rattle.std.specs.Prelude.{ℕ, Option, Some}
use Rattle.eg_num.specs.Drive.{DriveRow, driven}
use Rattle.eg_fault.specs.declared.class.Class.{Class}
use Rattle.eg_fault.specs.declared.class.Fault.{Fault}
use Rattle.eg_draw.specs.Runs.{drawn_run, state_after}

-- a row of a drive: pedal, speed and raise
abbrev pub row : ℕ → ℕ → ℕ → DriveRow
row = driven

-- a fault of this class from this tick on
abbrev pub from_tick : ℕ → Class → Option Fault
from_tick onset class = Some (record { onset = onset; class = class })

-- how the run that is drawn in a state ends: its fault, and the state after it
abbrev pub ends : ℕ → Option Fault × ℕ
ends x = ((drawn_run x).fault, state_after x)
