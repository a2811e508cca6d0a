-- What a fault puts out of order besides how level 1 and level 2 run decides what both are handed at a tick.
use Rattle.std.proofs.Common.{◌≡◌, ◌∙◌, ap, ap₂, ℕ, Option, List}
use Rattle.eg_answer.specs.Times.{TimeParts}
use Rattle.eg_fault.specs.Effects.{Effects, asked_at, asked_in, sends_at, readings_under, contacts_under}
use Rattle.eg_fault.specs.Running.{ElseAlike}
use Rattle.eg_fault.specs.Faults.{effects}
use Rattle.eg_fault.specs.declared.class.Fault.{Fault}
use Rattle.eg_module.specs.Monitoring.{MonitorParts}
use Rattle.eg_values.specs.Calibration.{CalibrationParts}
use Rattle.eg_model.specs.History.{Setting, Entry, Tick, SpanKind}
use Rattle.eg_model.specs.Moments.{is_braking, sensed_at, readings_at}
use Rattle.eg_agree.specs.Doings.{phase_at}
use Rattle.eg_tick.specs.Inner.Judging.{ComesNext}

pub phase-else : (kind : SpanKind) (times : TimeParts) (x y : Effects) (tick : ℕ) → ElseAlike x y → phase_at kind times x tick ≡ phase_at kind times y tick
unfolding phase_at sends_at
phase-else kind times x y tick alike = ap (λ send. phase_at kind times (record y { send = send }) tick) alike.send

pub asked-else : (times : TimeParts) (count : ℕ) (x y : Effects) (tick : ℕ) → ElseAlike x y → asked_at x times count tick ≡ asked_at y times count tick
unfolding asked_at
asked-else times count x y tick alike = ap (λ wild. asked_in wild times count tick) alike.wild

pub readings-else : (cal : CalibrationParts) (x y : Effects) (e : Entry) → ElseAlike x y → readings_at cal x e ≡ readings_at cal y e
unfolding readings_at is_braking sensed_at readings_under contacts_under
readings-else cal x y e alike = ap₂ (λ track raise. readings_at cal (record y { track = track; raise = raise }) e) alike.track alike.raise

-- a tick that comes next under a fault does so under another, where all else is alike
pub comes-else : {kind : SpanKind} {s : Setting} {f g : Option Fault} {tick local : ℕ} {answer : Option ℕ} {monitor : MonitorParts} {x : Tick} {h : List Tick}
    → ElseAlike (effects f tick) (effects g tick) → ComesNext kind s g tick local answer monitor x h → ComesNext kind s f tick local answer monitor x h
comes-else alike comes = record {
  wild = alike.wild ∙ comes.wild;
  opens = alike.opens ∙ comes.opens;
  begin = comes.begin;
  follows = comes.follows;
  number_in_span = comes.number_in_span;
  marked = comes.marked;
  holds = comes.holds;
}
