-- A replay is level 2 alone over readings that were recorded: it begins as new, at each tick all eight
-- modules run, nothing is out of order but what the sensors read, and no answer is asked for. So its moments
-- are those of a drive span whose effects give these readings. Lists stand newest first.
use Rattle.std.specs.Prelude.{ℕ, ◌-◌, List, [], ◌∷◌, map, false, ◌&&◌, if◌then◌else◌, None, slice_index}
use Rattle.eg_sensor.specs.Brake.{is_pressed, gated}
use Rattle.eg_sensor.specs.declared.readings.Readings.{Readings}
use Rattle.eg_values.specs.Calibration.{CalibrationParts}
use Rattle.eg_fault.specs.Effects.{Effects, no_effects}
use Rattle.eg_input.specs.declared.recorded.Recorded.{Recorded}
use Rattle.eg_model.specs.History.{Setting, Entry, Tick, Drive, Moment}
use Rattle.eg_model.specs.Moments.{moments_in}
use Rattle.eg_model.specs.Detection.{pedal_bit, plate_bit, load_bit, speed_bit, torque_bit}
use Rattle.eg_model.specs.Rows.{signal_list}
use Rattle.eg_agree.specs.Standing.{counter_after}
use Rattle.eg_agree.specs.Replies.{moment_after}
use Rattle.eg_agree.specs.Ticking.{found_in_level2}
use Rattle.eg_replay.specs.declared.tick_signals.TickSignals.{TickSignals}
use Rattle.eg_replay.specs.declared.tick_signals.Counters.{Counters}

-- ---- the ticks ----

-- what was recorded, by the numbers of the tracks
unfoldable pub tracks_of : Recorded → List ℕ
tracks_of r =
    slice_index r.readings.pedal 0 ∷ slice_index r.readings.pedal 1
    ∷ slice_index r.readings.plate 0 ∷ slice_index r.readings.plate 1
    ∷ slice_index r.readings.load 0 ∷ slice_index r.readings.load 1
    ∷ slice_index r.readings.speed 0 ∷ slice_index r.readings.speed 1
    ∷ slice_index r.contacts 0 ∷ slice_index r.contacts 1 ∷ []

-- what is out of order: each track, and the raise, read what was recorded, whatever sound ones would read
unfoldable pub effects_of : Recorded → Effects
effects_of r = record no_effects {
  track = λ i x. slice_index (tracks_of r) i;
  raise = λ x. r.readings.raise;
}

-- What comes in: of the drive row only the raise counts, with which the check word comes that was recorded.
-- What the engine shows doesn't count, and level 1 does nothing.
unfoldable pub entry_of : Recorded → Entry
entry_of r = record {
  drive = record {
    pedal = 0;
    speed = 0;
    raise = 65535 - r.readings.raise_check;
    reset = false;
    brake = false;
  };
  slices = [];
  shown = record { position = 0; load_1 = 0; load_2 = 0; torque = 0 };
}

-- the tick at which this was recorded
abbrev pub tick_of : Recorded → Tick
tick_of r = record { effects = effects_of r; entry = entry_of r }

-- this calibration, without an image and without a fault
abbrev pub alone : CalibrationParts → Setting
alone cal = record { cal = cal; image = []; fault = None }

-- the moments of the ticks at which these were recorded
abbrev pub replayed : CalibrationParts → List Recorded → List Moment
replayed cal seen = moments_in Drive (alone cal) (map tick_of seen)

-- ---- what is told of a tick ----

-- what the five debouncers weigh after the last of these ticks
unfoldable pub counters_after : CalibrationParts → List Moment → Counters
counters_after cal past = record {
  pedal = counter_after cal.rules.pair pedal_bit past;
  plate = counter_after cal.rules.pair plate_bit past;
  load = counter_after cal.rules.pair load_bit past;
  speed = counter_after cal.rules.pair speed_bit past;
  torque = counter_after cal.rules.torque torque_bit past;
}

-- what is told of tick m, which comes after these: its signals, the weights after it, and what level 2 finds
unfoldable pub told_at : CalibrationParts → Moment → List Moment → TickSignals
told_at cal m past = record {
  signals = signal_list m.signals;
  counters = counters_after cal (m ∷ past);
  found = found_in_level2 m;
}

-- what is told of each of these ticks
unfoldable pub told_of : CalibrationParts → List Moment → List TickSignals
told_of cal [] = []
told_of cal (m ∷ past) = told_at cal m past ∷ told_of cal past

-- what is told of the tick at which this was recorded, after these
abbrev pub told_after : CalibrationParts → Recorded → (before : List Recorded) → TickSignals
told_after cal r before =
    told_at cal (moment_after Drive (alone cal) (tick_of r) (map tick_of before)) (replayed cal before)

-- the readings that level 2 is given: those of pedal and raise are gated where the brake counts and is taken
-- as pressed
abbrev pub given_readings : CalibrationParts → Recorded → Readings
given_readings cal r = if cal.brake && is_pressed r.contacts then gated r.readings else r.readings
