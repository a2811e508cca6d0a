-- What the board writes into the memory.
use Rattle.std.specs.Prelude.{◌≡◌, ℕ, ◌+◌, ◌≤◌, ◌<◌, ◌⊎◌, Bool, true, false, List, [], ◌∷◌, ◌++◌, replicate, slice_index}
use Rattle.eg_guard.specs.declared.regions.Region.{Region}
use Rattle.eg_guard.specs.declared.regions.Region.TheVariants.{InPorts, Link}
use Rattle.eg_guard.specs.declared.regions.TheConstants.{DATA, IN_PORTS, THROTTLE, LINK}
use Rattle.eg_sensor.specs.declared.readings.Readings.{Readings}
use Rattle.eg_level2.specs.Stores.{Store, store, AreFirst}

-- the first `count` of these values stand from the address `first` on, and each other word is as before
pub record IsWritten (old new : List ℕ) (first : ℕ) (values : List ℕ) (count : ℕ) : Type 0 where
  pub told : (k : ℕ) → k < count → slice_index new (first + k) ≡ slice_index values k
  pub elsewhere : (address : ℕ) → (address < first) ⊎ (first + count ≤ address) →
      slice_index new address ≡ slice_index old address

-- the regions that the board writes at each tick
unfoldable pub is_board_own : Region → Bool
is_board_own InPorts = true
is_board_own Link = true
is_board_own _ = false

-- readings by their tracks
unfoldable pub by_tracks : Readings → Readings
by_tracks r = record {
  pedal = slice_index r.pedal 0 ∷ slice_index r.pedal 1 ∷ [];
  plate = slice_index r.plate 0 ∷ slice_index r.plate 1 ∷ [];
  load = slice_index r.load 0 ∷ slice_index r.load 1 ∷ [];
  speed = slice_index r.speed 0 ∷ slice_index r.speed 1 ∷ [];
  raise = r.raise;
  raise_check = r.raise_check;
}

-- ---- the board's stores, in their order: the number of a store is here an address ----

-- these values, from an address on
unfoldable pub stores_from : ℕ → List ℕ → List Store
stores_from address [] = []
stores_from address (value ∷ values) = store address value ∷ stores_from (address + 1) values

-- level 1's data and its two outputs, cleared
unfoldable pub clearing : List Store
clearing = stores_from DATA (replicate 1024 0) ++ stores_from THROTTLE (0 ∷ 0 ∷ [])

-- the ten readings, as the input ports have them
abbrev pub ten_ports : Readings → List ℕ
ten_ports r =
    slice_index r.pedal 0 ∷ slice_index r.pedal 1 ∷ slice_index r.plate 0 ∷ slice_index r.plate 1
    ∷ slice_index r.load 0 ∷ slice_index r.load 1 ∷ slice_index r.speed 0 ∷ slice_index r.speed 1
    ∷ r.raise ∷ r.raise_check ∷ []

-- the readings, and then the number of the question
unfoldable pub showing : Readings → ℕ → List Store
showing r asked = stores_from IN_PORTS (ten_ports r) ++ (store LINK asked ∷ [])

-- Some of these stores were made in a memory, from the first on and in their order, and no other store.
abbrev pub AreMade : List Store → (old new : List ℕ) → Type 0
AreMade stores old new = AreFirst stores (slice_index old) (slice_index new)
