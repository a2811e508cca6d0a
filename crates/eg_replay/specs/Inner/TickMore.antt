-- What one tick more makes of findings.
use Rattle.std.specs.Prelude.{ℕ, ℤ, ◌+◌, ◌==◌, max, Bool, Option, Some, None, is_some, if◌then◌else◌, slice_index}
use Rattle.std.specs.Option.{option_or}
use Rattle.eg_record.specs.Margins.{greater_than}
use Rattle.eg_record.specs.Detection.{is_trip}
use Rattle.eg_num.specs.declared.watches.Watches.{Watches}
use Rattle.eg_replay.specs.declared.tick_signals.TickSignals.{TickSignals}
use Rattle.eg_replay.specs.declared.tick_signals.Counters.{Counters}
use Rattle.eg_replay.specs.declared.findings.Findings.{Findings}
use Rattle.eg_replay.specs.Findings.{surplus_at}

-- the first tick so far, where this one is such or isn't
unfoldable pub first_with : (tick : ℕ) → Bool → Option ℕ → Option ℕ
first_with tick is_such first = option_or first (if is_such then Some tick else None)

-- how many ticks in a row have an excess up to this one, where so many had one up to the tick before it
unfoldable pub lasting_with : TickSignals → (lasting : ℕ) → ℕ
lasting_with t lasting = if slice_index t.signals 3 == 0 then 0 else lasting + 1

-- the greater of both, debouncer by debouncer
unfoldable pub greater_counters : Counters → Counters → Counters
greater_counters one other = record {
  pedal = max one.pedal other.pedal;
  plate = max one.plate other.plate;
  load = max one.load other.load;
  speed = max one.speed other.speed;
  torque = max one.torque other.torque;
}

-- the greatest surplus with this tick, before which a watch tripped or didn't
unfoldable pub surplus_with : TickSignals → (tripped : Bool) → Option ℤ → Option ℤ
surplus_with t tripped surplus = if tripped then surplus else Some (greater_than (surplus_at t) surplus)

-- what findings become by what is found at a tick
unfoldable pub found_with : (tick : ℕ) → Watches → Findings → Findings
found_with tick found f = record f {
  pedal = first_with tick found.pedal f.pedal;
  plate = first_with tick found.plate f.plate;
  load = first_with tick found.load f.load;
  speed = first_with tick found.speed f.speed;
  torque = first_with tick found.torque f.torque;
  trip = first_with tick (is_trip found) f.trip;
}

-- what findings become by one tick more, up to which so many in a row have an excess
unfoldable pub findings_with : TickSignals → (lasting : ℕ) → Findings → Findings
findings_with t lasting f = record (found_with f.ticks t.found f) {
  ticks = f.ticks + 1;
  greatest = greater_counters t.counters f.greatest;
  stretch = max lasting f.stretch;
  surplus = surplus_with t (is_some f.trip) f.surplus;
}
