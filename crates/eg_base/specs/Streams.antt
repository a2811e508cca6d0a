-- What contracts see of an output over a stream.
use Rattle.std.specs.Prelude.{◌≡◌, ℕ, Bool, true, List, ◌++◌, Option, None, if◌then◌else◌}
use Rattle.std.specs.Io.KnownBytes.{Appends}
use Rattle.eg_base.specs.Outside.{ShownSink}

-- the stream, whether contracts are told its bytes, and how many faults it has met
pub record StreamState (W : Type 0) : Type 0 where
  pub stream : W
  pub is_told : Bool
  pub faults : ℕ

-- the bytes of the stream, if they are told, and its faults; the output is sure
abbrev pub shown_by : {W : Type 0} → (contents : W → Option (List ℕ)) → StreamState W → ShownSink
shown_by contents state = record {
  written = if state.is_told then contents state.stream else None;
  faults = state.faults;
  sure = true;
}

-- if the stream tells its bytes, they grew by a prefix of these
abbrev pub TakesPrefix : Option (List ℕ) → Option (List ℕ) → List ℕ → Type 0
TakesPrefix old new bytes = (prefix rest : List ℕ) × (bytes ≡ prefix ++ rest) × Appends old new prefix
