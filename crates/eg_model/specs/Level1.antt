-- At each tick level 1 runs a slice before each module of level 2 and one after the last, and is shown in it
-- the signals as they then are.
use Rattle.std.specs.Prelude.{ℕ, Bool, ◌&&◌, is_some, nat_le, nat_lt, List, [], ◌∷◌, ◌++◌, if◌then◌else◌}
use Rattle.eg_sensor.specs.declared.readings.Readings.{Readings}
use Rattle.eg_word.specs.World.{View, World, new_world}
use Rattle.eg_host.specs.Slices.{slices_from}
use Rattle.eg_answer.specs.declared.modules.TheConstants.{PEDAL, PERMITTED, ACTUAL, EXCESS, PAIRS}
use Rattle.eg_fault.specs.Effects.{Effects}
use Rattle.eg_model.specs.History.{Signals, Moment}
use Rattle.eg_model.specs.Signals.{last_signals}

-- level 1's world after the last of these ticks
unfoldable pub last_world : List Moment → World
last_world [] = new_world
last_world (m ∷ past) = m.world

-- the ten readings, in the order in which level 1 reads them
unfoldable pub ports_of : Readings → List ℕ
ports_of reads =
    reads.pedal ++ reads.plate ++ reads.load ++ reads.speed ++ reads.raise ∷ reads.raise_check ∷ []

-- The signal of module i as slice j sees it. Slice j comes after the modules below j: so the signal is that
-- of this tick (`now`) where i is below j, else that of the tick before (`before`). Where a word is flipped,
-- module 0 has set all signals to 0 before slice 1.
unfoldable pub seen : Bool → ℕ → ℕ → ℕ → ℕ → ℕ
seen flipped j i before now =
    if flipped && nat_le 1 j then 0 else if nat_lt i j then now else before

-- the five signals as slice j sees them
unfoldable pub seen_signals : Bool → ℕ → Signals → Signals → List ℕ
seen_signals flipped j before now =
    seen flipped j PEDAL before.pedal now.pedal
    ∷ seen flipped j PERMITTED before.permitted now.permitted
    ∷ seen flipped j ACTUAL before.actual now.actual
    ∷ seen flipped j EXCESS before.excess now.excess
    ∷ seen flipped j PAIRS before.pairs now.pairs
    ∷ []

-- what slice j is shown
unfoldable pub view_in : List ℕ → Effects → Readings → Signals → Signals → ℕ → View
view_in image x reads before now j = record {
  image = image;
  ports = ports_of reads;
  results = seen_signals (is_some x.flip) j before now;
}

-- the world after a tick
unfoldable pub world_at : List ℕ → Effects → List ℕ → Readings → Signals → List Moment → World
world_at image x slices reads now past =
    if x.level1
    then slices_from 0 (view_in image x reads (last_signals past) now) slices (last_world past)
    else last_world past
