-- What a controller is made of: what contracts see of it.
use Rattle.std.specs.Prelude.{ℕ, Bool, Option}
use Rattle.eg_plant.specs.Engine.{Shown}
use Rattle.eg_word.specs.declared.registers.Trap.{Trap}
use Rattle.eg_word.specs.declared.registers.Registers.{Registers}
use Rattle.eg_guard.specs.Memory.{ShownMemory}
use Rattle.eg_fault.specs.declared.class.Fault.{Fault}
use Rattle.eg_values.specs.Calibration.{CalibrationParts}
use Rattle.eg_tick.specs.declared.span.Span.{Span}

-- All but the engine itself. The calibration and the fault, if any, are those of the run, `ticks` is how many
-- ticks of it were made, and `trap` is level 1's first trap in it with its tick, if any. `span` is what is
-- kept of the span of ticks that the run is in, besides level 1's registers and what the memory shows.
-- `shown` is what the engine shows, and `kt` its torque of a load of 1000. `lost` tells that memory ran out.
pub record Kept : Type 0 where
  pub cal : CalibrationParts
  pub fault : Option Fault
  pub ticks : ℕ
  pub span : Span
  pub memory : ShownMemory
  pub registers : Registers
  pub trap : Option (Trap × ℕ)
  pub kt : ℕ
  pub shown : Shown
  pub lost : Bool

-- a controller: its engine, and all else
pub record ControllerParts (E : Type 0) : Type 0 where
  pub engine : E
  pub kept : Kept
