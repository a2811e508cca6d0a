-- What the words stand for after some histories with the reference calibration, and the words that eight
-- modules a tick make of the start over the same histories: both computed from the definitions alone.
use Rattle.std.proofs.Common.{◌≡◌, ℕ, false, List, [], ◌∷◌, ◌++◌, map, replicate, refl}
use Rattle.std.specs.Prelude.{if◌then◌else◌, ◌==◌, length, Some, None}
use Rattle.eg_num.specs.Windows.{greatest_of, greatest}
use Rattle.eg_num.specs.Counting.{fed, counted}
use Rattle.eg_num.specs.Drive.{DriveRow, driven}
use Rattle.eg_sensor.specs.Readings.{has_bit}
use Rattle.eg_answer.specs.Formulas.{permitted_torque, estimated_torque, excess_number, disagreeing_pairs}
use Rattle.eg_values.specs.Reference.{reference_rules, reference_parts}
use Rattle.eg_fault.specs.Effects.{Effects, no_effects}
use Rattle.eg_level2.specs.Words.{Words, is_set, start}
use Rattle.eg_level2.specs.Phases.{feeds, sends, orders}
use Rattle.eg_level2.specs.Modules as module_of
use Rattle.eg_level2.specs.Ticks.{inputs_for, after_module, after_modules, after_tick}
use Rattle.eg_model.specs.Detection.{pedal_bit, load_bit}
use Rattle.eg_model.specs.History.{Setting, Tick, SpanKind, Drive, Test}
use Rattle.eg_model.specs.Signals.{last_signals}
use Rattle.eg_model.specs.Moments.{last_limit, readings_at, moments_in}
use Rattle.eg_model.specs.Examples.{idle, at_rest}
use Rattle.eg_model.proofs.WholeModel.{whole_model}
use Rattle.eg_agree.specs.Doings.{phase_at, doing_at}
use Rattle.eg_agree.specs.Standing.{mirror_found, counter_after, limp_after, trip_after}

-- ticks at which nothing happens, a pedal track reads 1000, a load track reads 0, a word is flipped, or
-- level 2 is left out
abbrev setting : Setting
setting = record { cal = reference_parts; image = idle; fault = None }

abbrev tick : Effects → Tick
tick x = record {
  effects = x;
  entry =
      record {
        drive = at_rest;
        slices = [];
        shown =
            record { position = 0; load_1 = 100; load_2 = 100; torque = 0 };
      };
}

abbrev reading : ℕ → ℕ → Tick
reading track value = tick (record no_effects { track = λ i sound. if i == track then value else sound })

abbrev calm : Tick
calm = tick no_effects

abbrev pedal_off : Tick
pedal_off = reading 0 1000

abbrev load_off : Tick
load_off = reading 4 0

abbrev flip : Tick
flip = tick (record no_effects { flip = Some (3, 1) })

abbrev left_out : Tick
left_out = tick (record no_effects { ran = λ i. false })

-- two counters, limp and trip, as they stand for a history, newest first
abbrev standing : SpanKind → List Tick → List ℕ
standing kind h =
    let past = moments_in kind setting h in
    counter_after reference_parts.rules.pair pedal_bit past ∷ counter_after reference_parts.rules.pair load_bit past ∷ limp_after past ∷ trip_after past ∷ []

-- the words after it, by eight modules a tick
words_after : Setting → SpanKind → List Tick → Words
words_after s kind [] = start
words_after s kind (x ∷ h) =
    after_tick (doing_at kind s x.effects (readings_at s.cal x.effects x.entry) (length h)) (words_after s kind h)

abbrev holding : Words → List ℕ
holding w = w.pedal_counter ∷ w.load_counter ∷ w.limp ∷ w.trip ∷ []

-- every definition of the eight modules that these words go through
modules : ℕ
unfolding start is_set feeds sends orders phase_at doing_at inputs_for after_module after_modules after_tick module_of.module_step module_of.check_step module_of.given_up module_of.written module_of.pedal_step module_of.permitted_step module_of.actual_step module_of.excess_step module_of.pairs_step has_bit module_of.pedal_bit module_of.plate_bit module_of.load_bit module_of.speed_bit module_of.torque_bit module_of.feeds_now module_of.counted module_of.is_found module_of.debounced module_of.limits module_of.trips module_of.debounce_step module_of.react_step permitted_torque estimated_torque excess_number disagreeing_pairs fed
modules = 0

-- the histories: up 2, down 1, limit 10
abbrev histories : List (List Tick)
histories =
    (load_off ∷ calm ∷ load_off ∷ load_off ∷ [])
    ∷ (left_out ∷ replicate 3 load_off)
    ∷ (replicate 5 load_off)
    ∷ (calm ∷ calm ∷ replicate 5 load_off)
    ∷ (calm ∷ calm ∷ replicate 5 pedal_off)
    ∷ (flip ∷ replicate 5 pedal_off)
    ∷ (pedal_off ∷ flip ∷ replicate 4 pedal_off)
    ∷ []

abbrev expected : List (List ℕ)
expected =
    (0 ∷ 5 ∷ 0 ∷ 0 ∷ [])
    ∷ (0 ∷ 6 ∷ 0 ∷ 0 ∷ [])
    ∷ (0 ∷ 10 ∷ 0 ∷ 1 ∷ [])
    ∷ (0 ∷ 10 ∷ 0 ∷ 1 ∷ [])
    ∷ (10 ∷ 0 ∷ 1 ∷ 0 ∷ [])
    ∷ (0 ∷ 0 ∷ 0 ∷ 1 ∷ [])
    ∷ (0 ∷ 0 ∷ 0 ∷ 1 ∷ [])
    ∷ []

stands : map (standing Drive) histories ≡ expected
unfolding whole_model mirror_found counter_after limp_after trip_after counted greatest greatest_of
stands = refl

holds : map (λ h. holding (words_after setting Drive h)) histories ≡ expected
unfolding whole_model words_after modules
holds = refl

-- in a test of the shut-off paths no counter is fed, but a word that differs from its complement trips
abbrev tests : List (List Tick)
tests = (replicate 5 load_off) ∷ (flip ∷ replicate 5 pedal_off) ∷ []

abbrev tested : List (List ℕ)
tested = (0 ∷ 0 ∷ 0 ∷ 0 ∷ []) ∷ (0 ∷ 0 ∷ 0 ∷ 1 ∷ []) ∷ []

stands-test : map (standing Test) tests ≡ tested
unfolding whole_model mirror_found counter_after limp_after trip_after counted greatest greatest_of
stands-test = refl

holds-test : map (λ h. holding (words_after setting Test h)) tests ≡ tested
unfolding whole_model words_after modules
holds-test = refl

-- ---- down a ramp ----

-- the reference calibration with a fall of 50 in a tick
abbrev ramping : Setting
ramping = record setting { cal = record reference_parts { rules = record reference_rules { fall = 50 } } }

-- a tick of this drive row, at which nothing is out of order
abbrev driving : DriveRow → Tick
driving row = record calm { entry = record calm.entry { drive = row } }

-- the pedal at 500, which demands 1000, and a raise of 1200; at the other ticks 200 is demanded
abbrev pressed : Tick
pressed = driving (driven 500 800 0)

abbrev raised : Tick
raised = driving (driven 0 800 1200)

abbrev ramps : List (List Tick)
ramps =
    (calm ∷ [])
    ∷ (calm ∷ pressed ∷ [])
    ∷ (calm ∷ calm ∷ pressed ∷ [])
    ∷ (raised ∷ calm ∷ pressed ∷ [])
    ∷ (replicate 16 calm ++ pressed ∷ [])
    ∷ (calm ∷ left_out ∷ pressed ∷ [])
    ∷ (flip ∷ calm ∷ pressed ∷ [])
    ∷ []

-- level 2's permitted torque after each: it stays where level 2 is left out, and is 0 after a flip
abbrev falling : List ℕ
falling = 200 ∷ 950 ∷ 900 ∷ 1200 ∷ 200 ∷ 950 ∷ 0 ∷ []

falls : map (λ h. (last_signals (moments_in Drive ramping h)).permitted) ramps ≡ falling
unfolding whole_model
falls = refl

holds-falling : map (λ h. (words_after ramping Drive h).permitted) ramps ≡ falling
unfolding whole_model words_after modules
holds-falling = refl

-- and the permitted torque itself, which falls at each tick
permits : map (λ h. last_limit (moments_in Drive ramping h)) ramps ≡ 200 ∷ 950 ∷ 900 ∷ 1200 ∷ 200 ∷ 900 ∷ 900 ∷ []
unfolding whole_model
permits = refl
