-- What level 2 meets at a tick of a span: by what the span is for, the calibration, what is out of order, and
-- what is read.
use Rattle.std.specs.Prelude.{ℕ, is_some, length, if◌then◌else◌}
use Rattle.eg_sensor.specs.declared.readings.Readings.{Readings}
use Rattle.eg_answer.specs.Times.{TimeParts}
use Rattle.eg_fault.specs.Effects.{Effects, sends_at, asked_at}
use Rattle.eg_level2.specs.declared.phase.Phase.{Phase}
use Rattle.eg_level2.specs.declared.phase.Phase.TheVariants.{Quiet, Send, Test, TestOrder}
use Rattle.eg_level2.specs.Ticks.{Doing}
use Rattle.eg_model.specs.History.{SpanKind, drives, Setting}
use Rattle.eg_model.specs.Paths.{is_told_to_open}

-- The phase of a tick, by its number in the span. While the engine is driven the answer is sent at its send
-- ticks. In a test span none is sent, and at one tick path 1 is ordered open.
unfoldable pub phase_at : SpanKind → TimeParts → Effects → ℕ → Phase
phase_at kind times x tick =
    if drives kind
    then (if sends_at x times tick then Send else Quiet)
    else (if is_told_to_open kind times tick then TestOrder else Test)

-- what level 2 meets at the tick of this number: a word differs from its complement where one is flipped then
unfoldable pub doing_at : SpanKind → Setting → Effects → Readings → ℕ → Doing
doing_at kind s x reads l = record {
  rules = s.cal.rules;
  questions = s.cal.questions;
  readings = reads;
  asked = asked_at x s.cal.times (length s.cal.questions) l;
  tick = l;
  phase = phase_at kind s.cal.times x l;
  ran = x.ran;
  disturbance = x.disturbance;
  differs = is_some x.flip;
}
