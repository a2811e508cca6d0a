-- Histories with the reference calibration, for the worked values of this crate and for what C67 says of
-- premises that are needed.
use Rattle.std.specs.Prelude.{◌≡◌, ℕ, ◌==◌, Bool, true, not, List, ◌∷◌, ◌++◌, map, replicate, reverse, Some, if◌then◌else◌}
use Rattle.std.specs.List.{flat_map}
use Rattle.eg_num.specs.Arithmetic.{estimate}
use Rattle.eg_num.specs.Drive.{DriveRow, driven}
use Rattle.eg_sensor.specs.declared.tracks.TheConstants.{PEDAL_1, PEDAL_2, LOAD_1, LOAD_2, SPEED_1, SPEED_2, BRAKE_1, BRAKE_2}
use Rattle.eg_answer.specs.declared.modules.TheConstants.{PERMITTED, EXCESS, DEBOUNCE}
use Rattle.eg_values.specs.Calibration.{CalibrationParts}
use Rattle.eg_values.specs.Reference.{reference_rules, reference_parts}
use Rattle.eg_fault.specs.Effects.{Effects, no_effects}
use Rattle.eg_fault.specs.Faults.{effects_of}
use Rattle.eg_fault.specs.declared.class.Class.TheVariants.{Path1Closed, Path2Closed}
use Rattle.eg_record.specs.Excess.{true_excess, first_confirmed}
use Rattle.eg_model.specs.History.{Entry, Tick, Moment}
use Rattle.eg_model.specs.Moments.{moments_of}
use Rattle.eg_model.specs.Rows.{rows_of}
use Rattle.eg_model.specs.Premises.{AreProper}
use Rattle.eg_model.specs.Examples.{at_rest}
use Rattle.eg_laws.specs.LeastReaction.{closed_setting, giving, until_confirmed, quiet, quiet_after}
use Rattle.eg_laws.specs.Stretches.{exceeding_after, faultless_setting}
use Rattle.eg_laws.specs.LeastLapse.{missing_all, lapse_setting, before_lapse, missed_excess}

-- the history of `LeastReaction` with the pedal at rest and a load of 1000: 17 ticks, and 34 after them
abbrev pub latest_cut : List Moment
latest_cut =
    moments_of (closed_setting reference_parts)
    (replicate 34 (quiet_after at_rest) ++ until_confirmed reference_parts at_rest 1000)

-- the history of `LeastLapse` with the same: 16 ticks before the lapse, 34 under it, and a quiet one
abbrev pub longest_excess : List Moment
longest_excess =
    moments_of (lapse_setting reference_parts)
    (quiet (effects_of missing_all 0) at_rest ∷ replicate 34 (missed_excess reference_parts at_rest 1000)
    ++ before_lapse reference_parts at_rest 1000)

-- the history of `Stretches` with the same: the 17 ticks of `LeastReaction`, 33 of excess, and a quiet one
abbrev pub longest_closed : List Moment
longest_closed =
    moments_of (closed_setting reference_parts)
    (quiet_after at_rest ∷ replicate 33 (exceeding_after reference_parts at_rest 1000)
    ++ until_confirmed reference_parts at_rest 1000)

-- ---- several things are out of order ----

-- a load of which the engine gives all its torque
abbrev pub loaded : DriveRow → (load : ℕ) → Entry
loaded drive load = giving drive load (estimate reference_rules.kt load)

abbrev pub excess_under : Effects → Tick
excess_under x = record { effects = x; entry = loaded at_rest 1000 }

-- By this calibration these 60 ticks are proper, there is excess at each, and the stages stay on.
pub record StaysOn (cal : CalibrationParts) (h : List Tick) : Type 0 where
  pub proper : AreProper (faultless_setting cal) h
  pub excess : map (true_excess cal.rules.threshold) (rows_of (moments_of (faultless_setting cal) h))
      ≡ replicate 60 true
  pub on : map (λ m. m.on) (moments_of (faultless_setting cal) h) ≡ replicate 60 true

-- these two tracks read these two values, whatever is true
abbrev pub reading : (track_1 track_2 : ℕ) → (value_1 value_2 : ℕ) → Effects
reading track_1 track_2 value_1 value_2 = record no_effects {
  track = λ i v. if i == track_1 then value_1 else if i == track_2 then value_2 else v;
}

-- Both tracks say that the pedal is pressed down, while it is at rest: 200.0 Nm, where 20.0 Nm are permitted.
abbrev pub high_pedal : List Tick
high_pedal =
    replicate 60 (record { effects = reading PEDAL_1 PEDAL_2 1000 0; entry = loaded at_rest 800 })

-- both tracks of the load read 0
abbrev pub low_loads : List Tick
low_loads = replicate 60 (excess_under (reading LOAD_1 LOAD_2 0 0))

-- both tracks of the speed read 800 rpm at 6000 rpm: 37.5 Nm, where nothing is permitted
abbrev pub low_speeds : List Tick
low_speeds = replicate 60 (record {
  effects = reading SPEED_1 SPEED_2 800 800;
  entry = loaded (driven 0 6000 0) 150;
})

-- the reference calibration, but the brake counts
abbrev pub braked_parts : CalibrationParts
braked_parts = record reference_parts { brake = true }

-- The driver presses pedal and brake, and both contacts read that the brake isn't pressed: 200.0 Nm, where
-- 20.0 Nm are permitted.
abbrev pub unseen_brake : List Tick
unseen_brake = replicate 60 (record {
  effects = reading BRAKE_1 BRAKE_2 0 1;
  entry = loaded (record (driven 1000 800 0) { brake = true }) 800;
})

-- module 4 is left out, and path 2 is stuck closed
abbrev pub left_out : List Tick
left_out = replicate 60 (excess_under (record (effects_of Path2Closed 0) { ran = λ i. not (i == EXCESS) }))

-- module 4 is disturbed, so that its signal says that there is no excess where there is one
abbrev pub disturbed : Effects
disturbed = record no_effects { disturbance = λ i. if i == EXCESS then 1 else 0 }

-- six periods of ten ticks, in each of which module 4 is disturbed at all ticks but the send tick, the sixth
abbrev pub disturbed_between : List Tick
disturbed_between = flat_map (λ period. period) (replicate 6
    (replicate 4 (excess_under disturbed)
    ++ (excess_under no_effects ∷ replicate 5 (excess_under disturbed))))

-- both paths conduct whatever is ordered
abbrev pub both_closed : List Tick
both_closed = replicate 60 (excess_under (record no_effects { conducts = λ path is_open. true }))

-- path 1 conducts whatever is ordered, and level 3 is wild and never orders path 2 open
abbrev pub closed_and_wild : List Tick
closed_and_wild = replicate 60 (excess_under (record (effects_of Path1Closed 0) { wild = Some 0 }))

-- 10 quiet ticks, 5 of excess, and 36 quiet ones. At the last tick of the excess debounce is left out.
abbrev pub missed_last : List Tick
missed_last =
    replicate 36 (quiet no_effects at_rest)
    ++ (excess_under (record no_effects { ran = λ i. not (i == DEBOUNCE) })
    ∷ replicate 4 (excess_under no_effects))
    ++ replicate 10 (quiet no_effects at_rest)

-- path 1 is stuck closed, and answers are sent one tick before the usual one
abbrev pub closed_and_early : Effects
closed_and_early = record (effects_of Path1Closed 0) { send = Some 4 }

-- under that: 11 quiet ticks, 5 of excess that end right after a tick at which an answer is sent, 35 quiet
-- ones
abbrev pub cut_late : List Tick
cut_late =
    replicate 35 (quiet closed_and_early at_rest)
    ++ replicate 5 (excess_under closed_and_early)
    ++ replicate 11 (quiet closed_and_early at_rest)

-- the reference calibration with a ramp of 5.0 Nm a tick
abbrev pub ramped_parts : CalibrationParts
ramped_parts = record reference_parts { rules = record reference_rules { fall = 50 } }

-- the highest bit of level 2's permitted torque is flipped
abbrev pub disturbed_permit : Effects
disturbed_permit = record no_effects { disturbance = λ i. if i == PERMITTED then 0x8000 else 0 }

-- The permitted torque is so disturbed at the eleventh tick alone, a quiet one: 10 quiet ticks stand before
-- it, and 40 of excess behind it.
abbrev pub disturbed_once : List Tick
disturbed_once =
    replicate 40 (excess_under no_effects)
    ++ (quiet disturbed_permit at_rest ∷ replicate 10 (quiet no_effects at_rest))

-- By this calibration these ticks are proper, and the excess is first confirmed at tick `confirmed`. `stages`
-- says in the order of time whether the stages are on.
pub record Shows (cal : CalibrationParts) (h : List Tick) (confirmed : ℕ) (stages : List Bool) : Type 0 where
  pub proper : AreProper (faultless_setting cal) h
  pub confirms : first_confirmed cal.rules.torque cal.rules.threshold
      (rows_of (moments_of (faultless_setting cal) h)) ≡ Some confirmed
  pub on : map (λ m. m.on) (reverse (moments_of (faultless_setting cal) h)) ≡ stages
