-- Closed and open loop agree: what level 2 told in a drive span, a replay tells of the readings that level 2
-- was given in it. All that is asked is that level 2 ran as without a fault. What it read may be wrong, and
-- what level 1, the engine and level 3 did doesn't count.
use Rattle.std.specs.Prelude.{◌≡◌, ℕ, ◌-◌, ◌≤◌, ◌<◌, false, List, All, map, length, None, Some}
use Rattle.eg_sensor.specs.Brake.{sound_contacts}
use Rattle.eg_values.specs.Calibration.{CalibrationParts}
use Rattle.eg_fault.specs.Effects.{Effects}
use Rattle.eg_fault.specs.Faults.{effects}
use Rattle.eg_fault.specs.Running.{may_change_levels}
use Rattle.eg_fault.specs.declared.class.Fault.{Fault}
use Rattle.eg_model.specs.History.{Setting, Tick, Drive, Moment}
use Rattle.eg_model.specs.Moments.{moments_in}
use Rattle.eg_model.specs.Seeing.{Runs, IsUndisturbed}
use Rattle.eg_model.specs.Spans.{span_so_far, span_kind}
use Rattle.eg_model.specs.Engines.{BenchEngine}
use Rattle.eg_model.specs.Bench.{Run, drive_at, moments_to}
use Rattle.eg_input.specs.declared.recorded.Recorded.{Recorded}
use Rattle.eg_num.specs.declared.watches.Watches.{Watches}
use Rattle.eg_record.specs.declared.row.Row.{Row}
use Rattle.eg_model.specs.Rows.{rows_of}
use Rattle.eg_replay.specs.declared.tick_signals.TickSignals.{TickSignals}
use Rattle.eg_replay.specs.Replay.{replayed, told_of}

-- What is recorded at a tick: the readings that level 2 was given. Where the brake was taken as pressed they
-- are gated already, so the contacts are those of a brake that isn't pressed.
unfoldable pub recorded_at : Moment → Recorded
recorded_at m = record { readings = m.reads; contacts = sound_contacts false }

-- a replay of what was recorded at these ticks tells of each what was told of it
abbrev pub TellsTheSame : CalibrationParts → List Moment → Type 0
TellsTheSame cal past = told_of cal (replayed cal (map recorded_at past)) ≡ told_of cal past

-- level 2 runs as without a fault: all its modules run, nothing disturbs them, and no word is flipped
pub record RunsFreely (x : Effects) : Type 0 where
  pub runs : Runs x
  pub undisturbed : IsUndisturbed x

-- ---- the laws ----

-- after each history of a drive span at whose ticks level 2 runs so
abbrev pub SpansAgree : Type 0
SpansAgree =
    (s : Setting) (h : List Tick) → All (λ (x : Tick). RunsFreely x.effects) h →
    TellsTheSame s.cal (moments_in Drive s h)

-- level 2 runs so at each tick of a run from tick `first` to the one before tick n
abbrev pub RunsFreelyIn : Run → (first n : ℕ) → Type 0
RunsFreelyIn r first n = (t : ℕ) → first ≤ t → t < n → RunsFreely (effects r.setting.fault t)

-- on the bench: of the drive span that the first n ticks of a run end in, whatever was before it
abbrev pub RunsAgree : {E : Type 0} → BenchEngine E → Type 0
RunsAgree b =
    (r : Run) (n : ℕ) → let span = span_so_far (moments_to b r n) in
    RunsFreelyIn r (n - length span) n → span_kind (moments_to b r n) ≡ Drive →
    TellsTheSame r.setting.cal span

-- and of all these ticks, where none of them resets the unit
abbrev pub RunsWithoutResetAgree : {E : Type 0} → BenchEngine E → Type 0
RunsWithoutResetAgree b =
    (r : Run) (n : ℕ) → RunsFreelyIn r 0 n → ((t : ℕ) → t < n → (drive_at r t).reset ≡ false) →
    TellsTheSame r.setting.cal (moments_to b r n)

-- what a row of a record shows of level 2: its signals, and its watches but the wrong answers and a start-up
-- test that fails, which level 2 doesn't find
unfoldable pub shown_by : Row → List ℕ × Watches
shown_by row = (row.signals, record row.found { answers = false; start = false })

-- what is told of these ticks, but for the weights, is what their rows show
abbrev pub RowsShowTheSame : Type 0
RowsShowTheSame =
    (cal : CalibrationParts) (past : List Moment) →
    map (λ (t : TickSignals). (t.signals, t.found)) (told_of cal past) ≡ map shown_by (rows_of past)

-- Level 2 runs so at each tick without a fault, at each before the onset of one, and at each under a class
-- that doesn't change how the levels run: each but skip, disturb, flip, halt and lapse.
pub record FaultsSpareLevel2 : Type 0 where
  pub without : (t : ℕ) → RunsFreely (effects None t)
  pub before : (fault : Fault) (t : ℕ) → t < fault.onset → RunsFreely (effects (Some fault) t)
  pub under : (fault : Fault) (t : ℕ) → may_change_levels fault.class ≡ false →
      RunsFreely (effects (Some fault) t)
