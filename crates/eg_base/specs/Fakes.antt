-- What contracts see of the stores and outputs in memory, and what a call makes of it.
use Rattle.std.specs.Prelude.{◌==◌, ◌||◌, ℕ, ◌/◌, Bool, List, ◌++◌, length, take, if◌then◌else◌, is_none}
use Rattle.std.specs.List.{list_any}
use Rattle.std.specs.FinMap.{get}
use Rattle.eg_base.specs.Counts.{next_count}
use Rattle.eg_base.specs.Outside.{Files}

abbrev pub is_listed : List ℕ → ℕ → Bool
is_listed numbers number = list_any (λ listed. listed == number) numbers

-- the numbers of the calls that are to fail, how many calls were made, and how many faults were met
pub record PlanState : Type 0 where
  pub failing : List ℕ
  pub calls : ℕ
  pub faults : ℕ

-- ---- stores ----

-- a store of which chosen reads fail, by their numbers: its files, those numbers, how many reads were made,
-- and how many faults were met
pub record StoreState : Type 0 where
  pub files : Files
  pub failing : List ℕ
  pub reads : ℕ
  pub faults : ℕ

-- the next read of that name fails: its number is listed, or there is no such file
abbrev pub read_fails : StoreState → List ℕ → Bool
read_fails store name = is_listed store.failing store.reads || is_none (get store.files name)

-- the store after a read of that name; if the read failed, the count of faults rises
abbrev pub after_read : StoreState → List ℕ → StoreState
after_read store name = record store {
  reads = next_count store.reads;
  faults = if read_fails store name then next_count store.faults else store.faults;
}

-- a store whose reads fail only if there is no such file: its files, and how many faults were met
pub record SureStoreState : Type 0 where
  pub files : Files
  pub faults : ℕ

-- the store after a read of that name; if there is no such file, the count of faults rises
abbrev pub after_sure_read : SureStoreState → List ℕ → SureStoreState
after_sure_read store name = record store {
  faults = if is_none (get store.files name) then next_count store.faults else store.faults;
}

-- ---- outputs ----

-- an output of which chosen puts fail, by their numbers: the bytes written, those numbers, how many puts were
-- made, and how many faults were met
pub record SinkState : Type 0 where
  pub bytes : List ℕ
  pub failing : List ℕ
  pub puts : ℕ
  pub faults : ℕ

-- the number of the next put is listed, so that it fails
abbrev pub put_fails : SinkState → Bool
put_fails sink = is_listed sink.failing sink.puts

-- the output after a put that appended these bytes, and met no fault
abbrev pub after_put : SinkState → List ℕ → SinkState
after_put sink bytes = record sink { bytes = sink.bytes ++ bytes; puts = next_count sink.puts }

-- the output after a failed put of these bytes: the first half of them was appended
abbrev pub after_failed_put : SinkState → List ℕ → SinkState
after_failed_put sink bytes = record sink {
  bytes = sink.bytes ++ take (length bytes / 2) bytes;
  puts = next_count sink.puts;
  faults = next_count sink.faults;
}

-- an output with room for a stated number of bytes: the bytes written, how many it may hold, and how many
-- faults were met
pub record SureSinkState : Type 0 where
  pub bytes : List ℕ
  pub room : ℕ
  pub faults : ℕ
