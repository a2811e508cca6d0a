-- A run is made of a calibration, an image, a fault or none, and what comes in at each tick; a moment is all
-- that is true of one tick. A history is a list of ticks from a start on; it stands newest first, so the past
-- of a tick is the rest of the list behind it, and the number of a tick is the length of its past.
use Rattle.std.specs.Prelude.{ℕ, Bool, true, false, List, Option}
use Rattle.eg_num.specs.Drive.{DriveRow}
use Rattle.eg_num.specs.declared.watches.Watches.{Watches}
use Rattle.eg_sensor.specs.declared.readings.Readings.{Readings}
use Rattle.eg_plant.specs.Engine.{Shown}
use Rattle.eg_answer.specs.declared.marks.AnswerMark.{AnswerMark}
use Rattle.eg_answer.specs.declared.marks.Verdict.{Verdict}
use Rattle.eg_word.specs.World.{World}
use Rattle.eg_fault.specs.Effects.{Effects}
use Rattle.eg_fault.specs.declared.class.Fault.{Fault}
use Rattle.eg_values.specs.Calibration.{CalibrationParts}

-- what a run has besides drive and slice plan: the calibration, the image of level 1, and the fault, if any
pub record Setting : Type 0 where
  pub cal : CalibrationParts
  pub image : List ℕ
  pub fault : Option Fault

-- What comes in at one tick: the drive row; the slice row, which is how many instructions level 1 may do
-- before each module and after the last; and what the engine shows after its step.
pub record Entry : Type 0 where
  pub drive : DriveRow
  pub slices : List ℕ
  pub shown : Shown

-- one tick of a history that stands by itself: what is out of order at it, and what comes in
pub record Tick : Type 0 where
  pub effects : Effects
  pub entry : Entry

-- What a span is for: in a drive span the engine is driven, in a test span the two shut-off paths are tested.
-- (A span is a stretch of a run's ticks that is a history of its own.)
pub data SpanKind : Type 0 where
  Drive : SpanKind
  Test : SpanKind

-- whether the engine is driven in such a span: only then are stages on, debouncers fed and answers sent
unfoldable pub drives : SpanKind → Bool
drives Drive = true
drives Test = false

-- the five signals of level 2
pub record Signals : Type 0 where
  pub pedal : ℕ
  pub permitted : ℕ
  pub actual : ℕ
  pub excess : ℕ
  pub pairs : ℕ

-- what is true of one tick
pub record Moment : Type 0 where
  -- what its span is for, whether it is the first tick of it, its number in it, and what came in
  pub kind : SpanKind
  pub fresh : Bool
  pub tick : ℕ
  pub entry : Entry
  -- the readings that both levels are given, and the permitted torque
  pub reads : Readings
  pub limit : ℕ
  -- whether a start-up test is running, and whether it is passed now
  pub testing : Bool
  pub passes : Bool
  -- whether each path conducts, and whether the power stages are on
  pub path1 : Bool
  pub path2 : Bool
  pub on : Bool
  -- the signals of level 2 after the tick, whether its debouncers are fed, which watches are found, and
  -- whether one of them trips
  pub signals : Signals
  pub feeds : Bool
  pub found : Watches
  pub trip : Bool
  -- whether react orders path 1 open, and whether all eight modules run
  pub orders : Bool
  pub whole : Bool
  -- the answer and the verdict, if any
  pub mark : AnswerMark
  pub verdict : Option Verdict
  -- whether wrong answers are confirmed now, for the first time, and whether a wild monitoring module orders
  -- path 2 open
  pub confirms : Bool
  pub opens : Bool
  -- level 1's world after the tick
  pub world : World
