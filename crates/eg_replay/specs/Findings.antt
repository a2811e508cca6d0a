-- What the ticks of a replay come to: when each watch is found, the greatest that each debouncer weighed, the
-- first trip, the longest stretch of excess, and the greatest surplus of torque. Lists stand newest first.
use Rattle.std.specs.Prelude.{ℕ, ◌+◌, ◌==◌, ℤ, pos, ◌-ℤ◌, Bool, List, [], ◌∷◌, map, length, max, Option, Some, None, is_some, if◌then◌else◌, slice_index}
use Rattle.std.specs.Option.{option_or}
use Rattle.eg_num.specs.declared.watches.Watches.{Watches}
use Rattle.eg_num.specs.Windows.{greatest_of}
use Rattle.eg_record.specs.Margins.{greater_than}
use Rattle.eg_record.specs.Detection.{is_trip}
use Rattle.eg_replay.specs.declared.tick_signals.TickSignals.{TickSignals}
use Rattle.eg_replay.specs.declared.findings.Findings.{Findings}

-- the first tick at which what is found is such, the first tick being 0, or none
unfoldable pub found_at : (Watches → Bool) → List TickSignals → Option ℕ
found_at is [] = None
found_at is (t ∷ before) = option_or (found_at is before) (if is t.found then Some (length before) else None)

-- the first tick at which a watch is found that trips
unfoldable pub trip_at : List TickSignals → Option ℕ
trip_at ticks = found_at is_trip ticks

-- how many ticks in a row have an excess, by level 2's signal, up to the last one
unfoldable pub lasting : List TickSignals → ℕ
lasting [] = 0
lasting (t ∷ before) = if slice_index t.signals 3 == 0 then 0 else lasting before + 1

-- the greatest number of ticks in a row that have one
unfoldable pub longest : List TickSignals → ℕ
longest [] = 0
longest (t ∷ before) = max (lasting (t ∷ before)) (longest before)

-- how far the actual torque of level 2 lies above the permitted one at a tick, a number below 0 where it lies
-- below it
unfoldable pub surplus_at : TickSignals → ℤ
surplus_at t = pos (slice_index t.signals 2) -ℤ pos (slice_index t.signals 1)

-- the greatest of these at a tick before the first trip or at it
unfoldable pub surplus_of : List TickSignals → Option ℤ
surplus_of [] = None
surplus_of (t ∷ before) =
    if is_some (trip_at before) then surplus_of before
    else Some (greater_than (surplus_at t) (surplus_of before))

-- what these ticks come to
unfoldable pub findings_of : List TickSignals → Findings
findings_of ticks = record {
  ticks = length ticks;
  pedal = found_at (λ found. found.pedal) ticks;
  plate = found_at (λ found. found.plate) ticks;
  load = found_at (λ found. found.load) ticks;
  speed = found_at (λ found. found.speed) ticks;
  torque = found_at (λ found. found.torque) ticks;
  greatest = record {
    pedal = greatest_of (map (λ (t : TickSignals). t.counters.pedal) ticks);
    plate = greatest_of (map (λ (t : TickSignals). t.counters.plate) ticks);
    load = greatest_of (map (λ (t : TickSignals). t.counters.load) ticks);
    speed = greatest_of (map (λ (t : TickSignals). t.counters.speed) ticks);
    torque = greatest_of (map (λ (t : TickSignals). t.counters.torque) ticks);
  };
  trip = trip_at ticks;
  stretch = longest ticks;
  surplus = surplus_of ticks;
}
