-- A tick of a controller, from a history that it stands for to the history with one entry more; and what its
-- row owes to the laws of a run.
use Rattle.std.specs.Prelude.{◌≡◌, ℕ, ◌+◌, ◌-◌, ◌*◌, ◌≤◌, ◌<◌, ◌⊎◌, Bool, true, false, not, List, ◌∷◌, ◌++◌, All, map, length, Option, Result, IsTrue, IsOk, IsErr, IfOk, OnOk, OnErr}
use Rattle.eg_num.specs.Drive.{DriveRow}
use Rattle.eg_num.specs.Windows.{is_confirmed}
use Rattle.eg_plant.specs.Engine.{Shown}
use Rattle.eg_answer.specs.Times.{reaction_of, lapse_periods, lapse_bound_of}
use Rattle.eg_values.specs.Excess.{BoundsLapses}
use Rattle.eg_fault.specs.Effects.{Effects}
use Rattle.eg_fault.specs.Faults.{effects, IsListed}
use Rattle.eg_word.specs.declared.registers.Trap.{Trap}
use Rattle.eg_word.specs.declared.registers.State.TheVariants.{Trapped}
use Rattle.eg_word.specs.World.{World}
use Rattle.eg_record.specs.declared.row.Row.{Row}
use Rattle.eg_record.specs.Excess.{full_excess}
use Rattle.eg_model.specs.History.{Setting, Entry, Tick, Drive, Test}
use Rattle.eg_model.specs.Level1.{last_world}
use Rattle.eg_model.specs.Premises.{IsExcessConfirmed}
use Rattle.eg_model.specs.Reaction.{is_at_once}
use Rattle.eg_model.specs.Lapses.{IsLapse, Exceeds}
use Rattle.eg_model.specs.Spans.{span_kind, kind_at, before_at, moments, next, span_ticks}
use Rattle.eg_model.specs.Rows.{rows_of, row_of}
use Rattle.eg_model.specs.Engines.{IsOneLoad}
use Rattle.eg_model.specs.Records.{is_before_onset}
use Rattle.eg_tick.specs.Kept.{Kept, ControllerParts}
use Rattle.eg_tick.specs.Stands.{Stands, IsController}
use Rattle.eg_tick.specs.Entering.{StaysOrBegins}

-- what is out of order at the tick after a history
unfoldable pub effects_after : Setting → List Entry → Effects
effects_after s h = effects s.fault (length h)

-- what comes in at a tick of this drive row and this slice row, after which the engine shows this
unfoldable pub entry_of : DriveRow → List ℕ → Shown → Entry
entry_of drive slices shown = record { drive = drive; slices = slices; shown = shown }

-- Level 1's world as the tick of this drive row begins, after a history: as the tick before left it, or anew
-- where a span begins.
unfoldable pub world_before : Setting → DriveRow → List Entry → World
world_before s drive h = last_world (before_at drive (moments s h))

-- In a tick of this drive row and this slice row, after a history, in which memory ran out, an engine stayed
-- as it was, or made its one step (`steps`, as its type has it): by the commands as the tick before left them
-- in this span, with the stages on or off as the model says of the tick.
abbrev pub StaysOrSteps : {E : Type 0} → (steps : E → ℕ → ℕ → Bool → Option ℕ → E → Type 0) → Setting →
    DriveRow → List ℕ → Shown → List Entry → (old new : E) → Type 0
StaysOrSteps steps s drive slices shown h old new =
    (new ≡ old) ⊎ steps old (world_before s drive h).throttle (world_before s drive h).ignition
    (next s (entry_of drive slices shown) h).on (effects_after s h).held_plate new

-- A tick of this drive row and this slice row, after which the controller is `new`; `steps` is the relation
-- of the engine's type, and `shows` what it shows.
pub record IsTick {E X : Type 0} (shows : E → Shown) (steps : E → ℕ → ℕ → Bool → Option ℕ → E → Type 0)
    (drive : DriveRow) (slices : List ℕ) (old new : ControllerParts E) (result : Result Row X) : Type 0 where
  -- Whichever history it stood for, it stands for the history with this tick, whose row is the model's.
  pub stands : (s : Setting) (h : List Entry) → Stands s old.kept h →
      OnOk result (Stands s new.kept (entry_of drive slices new.kept.shown ∷ h))
  pub row : (s : Setting) (h : List Entry) → Stands s old.kept h →
      IfOk result (λ row. row ≡ row_of (length h) (next s (entry_of drive slices new.kept.shown) h))
  -- The engine made a step of its own, by the commands as the tick before left them in this span.
  pub engine : (s : Setting) (h : List Entry) → Stands s old.kept h → OnOk result
      (steps old.engine (world_before s drive h).throttle (world_before s drive h).ignition
      (next s (entry_of drive slices new.kept.shown) h).on (effects_after s h).held_plate new.engine)
  pub shown : new.kept.shown ≡ shows new.engine
  pub ticks : OnOk result (new.kept.ticks ≡ old.kept.ticks + 1)
  -- It stays a controller of its run.
  pub fault : new.kept.fault ≡ old.kept.fault
  pub cal : new.kept.cal ≡ old.kept.cal
  pub keeps : IsController new.kept
  -- Once memory has run out every later tick says so. Over a sure memory it never does.
  pub lost : old.kept.lost ≡ true → IsErr result
  pub loses : OnErr result (new.kept.lost ≡ true)
  pub rests : old.kept.lost ≡ true → new ≡ old
  pub same_ticks : OnErr result (new.kept.ticks ≡ old.kept.ticks)
  pub same_trap : OnErr result (new.kept.trap ≡ old.kept.trap)
  pub sure : IsTrue old.kept.memory.sure → IsOk result
  pub stays_sure : new.kept.memory.sure ≡ old.kept.memory.sure
  -- In a tick in which memory runs out the engine stays, or makes its one step; and what is kept of the span,
  -- the latches of the paths too, stays as it was, or is the span that begins with this tick.
  pub same_or_stepped : (s : Setting) (h : List Entry) → Stands s old.kept h → OnErr result
      (StaysOrSteps steps s drive slices new.kept.shown h old.engine new.engine)
  pub same_or_begun : OnErr result (StaysOrBegins drive.reset old.kept.span new.kept.span)

-- level 1 is trapped in this world
pub record IsTrapped (world : World) : Type 0 where
  pub kind : Trap
  pub is : world.registers.state ≡ Trapped kind

-- the outputs of a row are those of this world
pub record HoldsOutputs (world : World) (row : Row) : Type 0 where
  pub throttle : row.throttle ≡ world.throttle
  pub ignition : row.ignition ≡ world.ignition

-- ---- the laws of a run, for a row ----

-- At each tick of a test span the stages are off.
abbrev pub RowIsUnpowered : Setting → Kept → DriveRow → Row → Type 0
RowIsUnpowered s c drive row =
    (h : List Entry) → Stands s c h → kind_at drive (moments s h) ≡ Test → row.on ≡ false

-- The sharp cut, over an engine that showed one load twice at each tick so far. At a row of a drive span at
-- which no fault has begun, the stages are on exactly if the full-efficiency excess isn't confirmed by the
-- ticks of the span before it.
abbrev pub RowCutsSharply : Setting → Kept → DriveRow → Row → Type 0
RowCutsSharply s c drive row =
    (h : List Entry) → Stands s c h → kind_at drive (moments s h) ≡ Drive →
    All (λ e. IsOneLoad e.shown) h → is_before_onset s.fault row.tick ≡ true →
    row.on ≡ not (is_confirmed s.cal.rules.torque
    (map (full_excess s.cal.rules.kt s.cal.rules.threshold) (rows_of (before_at drive (moments s h)))))

-- The controller c stood for the history h before the tick of this row, which goes on with a drive span:
-- these are the ticks of it so far.
pub record DrivesOn (s : Setting) (c : Kept) (row : Row) (h : List Entry) (span : List Tick) : Type 0 where
  pub stands : Stands s c h
  pub kind : span_kind (moments s h) ≡ Drive
  pub ticks_are : span_ticks s h ≡ span
  pub goes_on : row.fresh ≡ false

-- In the laws the span is cut in two: `before` ends with the tick by which the true excess is confirmed, and
-- `more` are the ticks since then, newest first. So the tick of the row comes length more + 1 ticks after
-- that one.

-- The reaction theorem: where the row comes R ticks or more after the confirmed excess, the stages are off at
-- the row, under each listed fault.
abbrev pub RowReactsInTime : Setting → Kept → Row → Type 0
RowReactsInTime s c row =
    (h : List Entry) (more before : List Tick) → DrivesOn s c row h (more ++ before) →
    IsListed s.fault → IsExcessConfirmed s before →
    reaction_of s.cal.times ≤ length more + 1 → row.on ≡ false

-- Under most faults the stages are off already at each tick after the one by which the excess was confirmed.
-- (The tick after `before` has the number length h - length more in the run.)
abbrev pub RowReactsAtOnce : Setting → Kept → Row → Type 0
RowReactsAtOnce s c row =
    (h : List Entry) (more before : List Tick) → DrivesOn s c row h (more ++ before) →
    IsListed s.fault → IsExcessConfirmed s before →
    is_at_once s.fault (length h - length more) ≡ true → row.on ≡ false

-- Under a lapse, excess that stands is cut: where `before` ends with the last tick of a period, and there was
-- true excess at each tick of its last `lapse_periods` periods, the stages are off at the row.
-- (`CutsStandingExcess` of `eg_model` says by which calibrations no excess stands so long.)
abbrev pub RowCutsStandingExcess : Setting → Kept → Row → Type 0
RowCutsStandingExcess s c row =
    (h : List Entry) (more before : List Tick) (periods : ℕ) → DrivesOn s c row h (more ++ before) →
    BoundsLapses s.cal → IsLapse s.fault →
    length before ≡ periods * s.cal.times.period →
    Exceeds s (lapse_periods s.cal.rules.torque s.cal.times * s.cal.times.period) before →
    row.on ≡ false

-- In each history that the controller stands for and that ends in a drive span: the ticks in a row with true
-- excess at its end are fewer than the bound for lapses.
abbrev pub HistoryHasShortExcess : Setting → Kept → Type 0
HistoryHasShortExcess s c =
    (h : List Entry) → Stands s c h → span_kind (moments s h) ≡ Drive →
    BoundsLapses s.cal → IsLapse s.fault →
    (n : ℕ) → Exceeds s n (span_ticks s h) → n < lapse_bound_of s.cal.rules.torque s.cal.times
