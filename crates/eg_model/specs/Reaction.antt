-- Whatever level 1 does, and under each listed fault, the stages are off from R ticks after a confirmed
-- torque excess to the end of the drive span. This is the reaction theorem. Under most faults they are off
-- from the next tick; and where a module of level 2 is skipped or disturbed, or both levels halt, from R
-- ticks after the onset, whatever the torque.
use Rattle.std.specs.Prelude.{◌≡◌, ℕ, ◌+◌, ◌≤◌, Bool, true, false, nat_le, List, ◌∷◌, ◌++◌, length, Option, Some, None}
use Rattle.eg_answer.specs.Times.{reaction_of}
use Rattle.eg_values.specs.Calibration.{CalibrationParts, IsAccepted}
use Rattle.eg_fault.specs.Faults.{IsValid, IsListed}
use Rattle.eg_fault.specs.declared.class.Class.{Class}
use Rattle.eg_fault.specs.declared.class.Class.TheVariants.{Skip, Disturb, Halt, Path1Closed}
use Rattle.eg_fault.specs.declared.class.Fault.{Fault}
use Rattle.eg_model.specs.History.{Setting, Tick}
use Rattle.eg_model.specs.Premises.{AreProper, Follows, is_on_after, IsExcessConfirmed}

-- After h, the stages are off at each tick x that comes `after` ticks or more after the last of h. (`more`
-- are the ticks between h and x.) It has two premises. `Follows`: the ticks begin at tick `start` of a run,
-- and at each of them what the fault puts out of order there is out of order, and nothing else. `AreProper`:
-- each drive row keeps its limits, the plate stands at 1000 at most, the estimate of neither load lies below
-- the torque, and where the stages are off there is no torque.
abbrev pub OffFrom : Setting → (start : ℕ) → List Tick → (after : ℕ) → Type 0
OffFrom s start h after =
    (more : List Tick) (x : Tick) → Follows s.fault start (x ∷ more ++ h) → AreProper s (more ++ h) →
    after ≤ length more + 1 → is_on_after s (more ++ h) x ≡ false

-- A calibration reacts by n ticks: let there be no fault or a listed one, let h be a history that begins at
-- any tick of a run, and let the true excess be confirmed by the last tick of h. Then the stages are off at
-- each tick that comes n ticks or more after that one.
abbrev pub ReactsBy : CalibrationParts → ℕ → Type 0
ReactsBy cal n =
    (s : Setting) → s.cal ≡ cal → IsListed s.fault →
    (start : ℕ) (h : List Tick) → IsExcessConfirmed s h → OffFrom s start h n

-- The theorem: each accepted calibration reacts by R ticks.
abbrev pub ReactsInTime : Type 0
ReactsInTime = (cal : CalibrationParts) → IsAccepted cal → ReactsBy cal (reaction_of cal.times)

-- Whether the stages are off already from `tick` on, the tick after the one by which the excess is confirmed.
-- Under most faults they are. Where path 1 is held closed they needn't be; and where a module of level 2 is
-- skipped or disturbed, or both levels halt, they are if the fault begins at `tick` or later.
unfoldable pub reacts_at_once : Class → (onset tick : ℕ) → Bool
reacts_at_once Path1Closed onset tick = false
reacts_at_once (Skip index) onset tick = nat_le tick onset
reacts_at_once (Disturb index mask) onset tick = nat_le tick onset
reacts_at_once Halt onset tick = nat_le tick onset
reacts_at_once _ onset tick = true

-- the same of a fault or none: without a fault they always are
unfoldable pub is_at_once : Option Fault → ℕ → Bool
is_at_once None tick = true
is_at_once (Some fault) tick = reacts_at_once fault.class fault.onset tick

-- The theorem for those faults: there the stages are off from the tick after the confirmed excess.
abbrev pub ReactsAtOnce : Type 0
ReactsAtOnce =
    (s : Setting) → IsAccepted s.cal → IsListed s.fault →
    (start : ℕ) (h : List Tick) → is_at_once s.fault (start + length h) ≡ true → IsExcessConfirmed s h →
    OffFrom s start h 1

-- ---- whatever the torque ----

-- a class under which no answer is good any more
unfoldable pub spoils_answers : Class → Bool
spoils_answers (Skip index) = true
spoils_answers (Disturb index mask) = true
spoils_answers Halt = true
spoils_answers _ = false

-- Where a module of level 2 is skipped or disturbed, or both levels halt, the stages are off from R ticks
-- after the onset, whatever the torque. (Here h is any history that ends with the tick before the onset or
-- later, and x comes R ticks or more after the tick behind h.)
abbrev pub CutsFromOnset : Type 0
CutsFromOnset =
    (s : Setting) (fault : Fault) → IsAccepted s.cal → s.fault ≡ Some fault → IsValid fault →
    spoils_answers fault.class ≡ true → (start : ℕ) (h more : List Tick) (x : Tick) →
    fault.onset ≤ start + length h → Follows s.fault start (x ∷ more ++ h) →
    reaction_of s.cal.times ≤ length more → is_on_after s (more ++ h) x ≡ false
