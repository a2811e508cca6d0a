-- An engine elsewhere makes its steps outside the program. What it shows after a step is told before that
-- step is made here, and is shown then.
use Rattle.std.specs.Prelude.{◌≡◌, ℕ, Bool, Option, if◌then◌else◌}
use Rattle.eg_plant.specs.Engine.{Shown, KeepsLaws}

-- an engine elsewhere: `kt`, what it shows, and what it is to show after its next step
pub record Foreign : Type 0 where
  pub kt : ℕ
  pub shown : Shown
  pub next : Shown

unfoldable pub nothing : Shown
nothing = record { position = 0; load_1 = 0; load_2 = 0; torque = 0 }

-- before anything was told
unfoldable pub at_rest : (kt : ℕ) → Foreign
at_rest kt = record { kt = kt; shown = nothing; next = nothing }

-- C19: no torque while the stages are off, whatever was told
unfoldable pub powered : (on : Bool) → Shown → Shown
powered on told = if on then told else record told { torque = 0 }

-- A step shows what was told. What is commanded, and where the plate is held, has come to the engine already.
abbrev pub StepsAsTold : Foreign → ℕ → ℕ → Bool → Option ℕ → Foreign → Type 0
StepsAsTold old throttle ignition on held new = new ≡ record old { shown = powered on old.next }

-- what it shows, and what it is to show, keeps the laws of engines
pub record KeepsTold (e : Foreign) : Type 0 where
  pub shown : KeepsLaws e.kt e.shown
  pub next : KeepsLaws e.kt e.next
