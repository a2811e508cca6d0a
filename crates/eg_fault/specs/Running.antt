-- Which modules of level 2 run under a fault. At each tick all of them run, or none does, or all but one; and
-- where one is left out, it is the same one at each tick from the onset on.
use Rattle.std.specs.Prelude.{ℕ, ◌-◌, ◌≡◌, ◌≤◌, ◌<◌, ◌==◌, ◌⊎◌, nat_le, Bool, true, false, not, ◌&&◌, if◌then◌else◌, Option, Some, None}
use Rattle.eg_answer.specs.Modules.{AllRun, NoneRuns, OthersRun}
use Rattle.eg_answer.specs.declared.modules.TheConstants.{MODULES}
use Rattle.eg_fault.specs.Effects.{Effects}
use Rattle.eg_fault.specs.Faults.{is_left_out, effects}
use Rattle.eg_fault.specs.declared.class.Class.{Class}
use Rattle.eg_fault.specs.declared.class.Class.TheVariants.{Skip, Disturb, Flip, Halt, Lapse}
use Rattle.eg_fault.specs.declared.class.Fault.{Fault}
use Rattle.eg_fault.specs.declared.runs.ModuleRuns.{ModuleRuns}

-- one module is left out from the onset on
pub record LeavesOut (fault : Fault) (one : ℕ) : Type 0 where
  pub before : (tick : ℕ) → tick < fault.onset → AllRun (effects (Some fault) tick).ran
  pub after : (tick : ℕ) → fault.onset ≤ tick → OthersRun one (effects (Some fault) tick).ran

-- level 2 runs whole or not at all
abbrev pub RunsWhole : Option Fault → Type 0
RunsWhole fault = (tick : ℕ) → AllRun (effects fault tick).ran ⊎ NoneRuns (effects fault tick).ran

-- the law: without a fault and under any fault level 2 runs whole or not at all, at each tick, or one module
-- is left out from the onset on
abbrev pub RunningLaw : Type 0
RunningLaw = RunsWhole None × ((fault : Fault) → RunsWhole (Some fault) ⊎ ((one : ℕ) × LeavesOut fault one))

-- Level 1 and level 2 run alike: whether they run, what is mixed in, and which word is flipped. What they
-- read may differ.
pub record RunAlike (x y : Effects) : Type 0 where
  pub level1 : x.level1 ≡ y.level1
  pub ran : x.ran ≡ y.ran
  pub disturbance : x.disturbance ≡ y.disturbance
  pub flip : x.flip ≡ y.flip

-- All else is alike: what is read, where the plate is held, when answers are sent, what the monitoring module
-- asks and orders, and which paths conduct.
pub record ElseAlike (x y : Effects) : Type 0 where
  pub track : x.track ≡ y.track
  pub raise : x.raise ≡ y.raise
  pub held_plate : x.held_plate ≡ y.held_plate
  pub send : x.send ≡ y.send
  pub wild : x.wild ≡ y.wild
  pub opens : x.opens ≡ y.opens
  pub conducts : x.conducts ≡ y.conducts

-- the classes under which level 1 and level 2 may run otherwise than without a fault
unfoldable pub may_change_levels : Class → Bool
may_change_levels (Skip index) = true
may_change_levels (Disturb index mask) = true
may_change_levels (Flip word mask) = true
may_change_levels Halt = true
may_change_levels (Lapse after every) = true
may_change_levels _ = false

-- whether a class makes level 1 and level 2 run otherwise than without a fault, k ticks after the onset: a
-- flip does at the onset alone, and a lapse where it leaves level 2 out
unfoldable pub changes_levels : Class → ℕ → Bool
changes_levels (Skip index) k = true
changes_levels (Disturb index mask) k = true
changes_levels (Flip word mask) k = k == 0
changes_levels Halt k = true
changes_levels (Lapse after every) k = is_left_out after every k
changes_levels _ k = false

-- the fault, if at a tick it has begun and makes level 1 and level 2 run otherwise than without a fault
unfoldable pub of_levels : Option Fault → ℕ → Option Fault
of_levels None tick = None
of_levels (Some fault) tick =
    if nat_le fault.onset tick && changes_levels fault.class (tick - fault.onset) then Some fault else None

-- the fault, if at a tick it has begun and is of a class that may change all else
unfoldable pub beyond_levels : Option Fault → ℕ → Option Fault
beyond_levels None tick = None
beyond_levels (Some fault) tick =
    if nat_le fault.onset tick && not (may_change_levels fault.class) then Some fault else None

-- ---- as it is worked out for a tick ----

-- all modules run, and none is disturbed
unfoldable pub all_run : ModuleRuns
all_run = record { none = false; left_out = 255; disturbed = 0; mask = 0 }

-- how the modules run under a class, k ticks after the onset
unfoldable pub runs_of : Class → ℕ → ModuleRuns
runs_of (Skip index) k = record all_run { left_out = index }
runs_of (Disturb index mask) k = record all_run { disturbed = index; mask = mask }
runs_of Halt k = record all_run { none = true }
runs_of (Lapse after every) k = record all_run { none = is_left_out after every k }
runs_of _ k = all_run

-- a record of how the modules run says what is out of order at a tick: which of the eight run, and what each
-- mixes in
pub record IsRunning (x : Effects) (r : ModuleRuns) : Type 0 where
  pub ran : (i : ℕ) → i < MODULES → (not r.none && not (i == r.left_out)) ≡ x.ran i
  pub disturbance : (i : ℕ) → (if i == r.disturbed then r.mask else 0) ≡ x.disturbance i
