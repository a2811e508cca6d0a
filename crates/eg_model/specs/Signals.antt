-- A signal is 0 where a word is flipped, else as before where its module doesn't run, else 0 after a trip,
-- else what its module computes, disturbed or not. So the signals are what level 2 makes of the readings at a
-- tick.
use Rattle.std.specs.Prelude.{ℕ, Bool, not, is_some, List, [], ◌∷◌, bit_xor, if◌then◌else◌}
use Rattle.std.specs.List.{list_any}
use Rattle.eg_sensor.specs.Readings.{used_pedal}
use Rattle.eg_sensor.specs.declared.readings.Readings.{Readings}
use Rattle.eg_torque.specs.Ramp.{ramped}
use Rattle.eg_answer.specs.Formulas.{permitted_torque, estimated_torque, excess_number, disagreeing_pairs}
use Rattle.eg_answer.specs.declared.modules.TheConstants.{PEDAL, PERMITTED, ACTUAL, EXCESS, PAIRS}
use Rattle.eg_answer.specs.declared.rules.Rules.{Rules}
use Rattle.eg_fault.specs.Effects.{Effects}
use Rattle.eg_model.specs.History.{Signals, Moment}

-- a trip came at one of these ticks
unfoldable pub tripped : List Moment → Bool
tripped past = list_any (λ m. m.trip) past

-- at one of these ticks the pair of the pedal was found to disagree: the pedal is limited from then on
unfoldable pub is_limited : List Moment → Bool
is_limited past = list_any (λ m. m.found.pedal) past

-- the signals that are all 0
unfoldable pub no_signals : Signals
no_signals = record { pedal = 0; permitted = 0; actual = 0; excess = 0; pairs = 0 }

-- the signals after the last of these ticks
unfoldable pub last_signals : List Moment → Signals
last_signals [] = no_signals
last_signals (m ∷ past) = m.signals

-- The signal of module i after a tick: `before` is the signal as it was, `value` what the module computes
-- now. The first that applies: 0 where a word is flipped; as before where the module doesn't run; 0 after a
-- trip; otherwise the value, with the disturbance mixed in by exclusive or.
unfoldable pub signal : Effects → List Moment → ℕ → ℕ → ℕ → ℕ
signal x past i before value =
    if is_some x.flip then 0
    else if not (x.ran i) then before
    else if tripped past then 0
    else bit_xor value (x.disturbance i)

-- The five signals after a tick. The pedal is the lower of its two values, and 0 where it is limited; the
-- permitted torque is what the pedal signal demands, or down the ramp from this signal as it was before;
-- and the excess is that of the two torques' signals.
unfoldable pub signals_at : Rules → Effects → Readings → List Moment → Signals
signals_at rules x reads past =
    let before = last_signals past in
    let pedal = signal x past PEDAL before.pedal (used_pedal reads.pedal (is_limited past)) in
    let allowed = signal x past PERMITTED before.permitted
    (ramped rules.fall before.permitted (permitted_torque rules reads pedal)) in
    let actual = signal x past ACTUAL before.actual (estimated_torque rules reads) in
    record {
      pedal = pedal;
      permitted = allowed;
      actual = actual;
      excess = signal x past EXCESS before.excess (excess_number rules allowed actual);
      pairs = signal x past PAIRS before.pairs (disagreeing_pairs rules reads);
    }
