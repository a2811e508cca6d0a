-- Two ticks by the reference calibration, and what a replay tells of the readings that were recorded at them,
-- computed from the definitions alone. A replay doesn't tell the same where level 2 didn't run at a tick, and
-- where the engine wasn't driven.
use Rattle.std.proofs.Common.{◌≡◌, ℕ, true, false, List, [], ◌∷◌, map, refl}
use Rattle.std.specs.Prelude.{if◌then◌else◌, ◌==◌}
use Rattle.eg_num.specs.Drive.{DriveRow, driven}
use Rattle.eg_num.specs.Windows.{greatest_of, greatest}
use Rattle.eg_num.specs.Counting.{fed, counted}
use Rattle.eg_values.specs.Calibration.{CalibrationParts}
use Rattle.eg_values.specs.Reference.{reference_rules, reference_parts}
use Rattle.eg_fault.specs.Effects.{Effects, no_effects}
use Rattle.eg_model.specs.History.{Tick, SpanKind, Drive, Test}
use Rattle.eg_model.specs.Moments.{moments_in}
use Rattle.eg_model.proofs.WholeModel.{whole_model}
use Rattle.eg_agree.specs.Standing.{mirror_found, counter_after}
use Rattle.eg_agree.specs.Ticking.{found_in_level2}
use Rattle.eg_replay.specs.declared.tick_signals.TickSignals.{TickSignals}
use Rattle.eg_replay.specs.Replay.{tracks_of, effects_of, entry_of, alone, replayed, counters_after, told_at, told_of}
use Rattle.eg_replay.specs.Agreement.{recorded_at}

-- every definition of a replay besides those of the model
told : ℕ
unfolding tracks_of effects_of entry_of counters_after told_at told_of recorded_at found_in_level2 mirror_found counter_after counted fed greatest greatest_of
told = 0

-- the brake counts
abbrev cal : CalibrationParts
cal = record reference_parts { brake = true }

abbrev tick : Effects → DriveRow → Tick
tick x drive = record {
  effects = x;
  entry = record {
    drive = drive;
    slices = [];
    shown = record { position = 0; load_1 = 500; load_2 = 500; torque = 0 };
  };
}

-- the driver brakes, and steps on the pedal too; then a load track reads 0
abbrev braking : Tick
braking = tick no_effects (record (driven 500 800 100) { brake = true })

abbrev load_off : Tick
load_off = tick (record no_effects { track = λ i sound. if i == 4 then 0 else sound }) (driven 500 800 100)

abbrev left_out : Tick
left_out = tick (record no_effects { ran = λ i. false }) (driven 500 800 100)

-- what was told by a calibration, and what a replay tells
abbrev closed_by : CalibrationParts → SpanKind → List Tick → List TickSignals
closed_by by kind h = told_of by (moments_in kind (alone by) h)

abbrev open_loop_by : CalibrationParts → SpanKind → List Tick → List TickSignals
open_loop_by by kind h = told_of by (replayed by (map recorded_at (moments_in kind (alone by) h)))

abbrev closed : SpanKind → List Tick → List TickSignals
closed = closed_by cal

abbrev open_loop : SpanKind → List Tick → List TickSignals
open_loop = open_loop_by cal

-- what the debouncers of load and torque weigh, and the five signals
abbrev numbers : List TickSignals → List (List ℕ)
numbers = map (λ (t : TickSignals). t.counters.load ∷ t.counters.torque ∷ t.signals)

-- the readings are gated at the first of these ticks, and a track is wrong at the second
was : numbers (closed Drive (load_off ∷ braking ∷ []))
    ≡ (2 ∷ 2 ∷ 500 ∷ 1000 ∷ 1250 ∷ 1 ∷ 4 ∷ []) ∷ (0 ∷ 1 ∷ 0 ∷ 200 ∷ 1250 ∷ 1 ∷ 0 ∷ []) ∷ []
unfolding whole_model told
was = refl

agrees : open_loop Drive (load_off ∷ braking ∷ []) ≡ closed Drive (load_off ∷ braking ∷ [])
unfolding whole_model told
agrees = refl

-- down a ramp of 50 in a tick, from the 1000 that the pedal permits to the 200 that it permits when braking
abbrev ramping : CalibrationParts
ramping = record cal { rules = record reference_rules { fall = 50 } }

abbrev released : List Tick
released = braking ∷ braking ∷ tick no_effects (driven 500 800 100) ∷ []

ramp-was : numbers (closed_by ramping Drive released)
    ≡ (0 ∷ 3 ∷ 0 ∷ 900 ∷ 1250 ∷ 1 ∷ 0 ∷ [])
    ∷ (0 ∷ 2 ∷ 0 ∷ 950 ∷ 1250 ∷ 1 ∷ 0 ∷ [])
    ∷ (0 ∷ 1 ∷ 500 ∷ 1000 ∷ 1250 ∷ 1 ∷ 0 ∷ []) ∷ []
unfolding whole_model told
ramp-was = refl

ramp-agrees : open_loop_by ramping Drive released ≡ closed_by ramping Drive released
unfolding whole_model told
ramp-agrees = refl

-- ---- where it doesn't tell the same ----

-- where level 2 doesn't run all stays, and a replay runs it
left_out-was : numbers (closed Drive (left_out ∷ load_off ∷ []))
    ≡ (2 ∷ 1 ∷ 500 ∷ 1000 ∷ 1250 ∷ 1 ∷ 4 ∷ []) ∷ (2 ∷ 1 ∷ 500 ∷ 1000 ∷ 1250 ∷ 1 ∷ 4 ∷ []) ∷ []
unfolding whole_model told
left_out-was = refl

left_out-again : numbers (open_loop Drive (left_out ∷ load_off ∷ []))
    ≡ (1 ∷ 2 ∷ 500 ∷ 1000 ∷ 1250 ∷ 1 ∷ 0 ∷ []) ∷ (2 ∷ 1 ∷ 500 ∷ 1000 ∷ 1250 ∷ 1 ∷ 4 ∷ []) ∷ []
unfolding whole_model told
left_out-again = refl

-- in a test span no debouncer is fed, and a replay feeds them
test-was : numbers (closed Test (load_off ∷ [])) ≡ (0 ∷ 0 ∷ 500 ∷ 1000 ∷ 1250 ∷ 1 ∷ 4 ∷ []) ∷ []
unfolding whole_model told
test-was = refl

test-again : numbers (open_loop Test (load_off ∷ [])) ≡ (2 ∷ 1 ∷ 500 ∷ 1000 ∷ 1250 ∷ 1 ∷ 4 ∷ []) ∷ []
unfolding whole_model told
test-again = refl
