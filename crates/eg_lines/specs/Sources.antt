-- What contracts see of the sources of lines in memory, and what a call makes of it.
use Rattle.std.specs.Prelude.{◌≡◌, ◌==◌, ℕ, Bool, true, false, List, [], ◌∷◌, ◌++◌, take, Option, if◌then◌else◌}
use Rattle.std.specs.Option.{option_map_or}
use Rattle.eg_base.specs.Counts.{next_count}

-- a source of which a chosen read fails: the lines still to come, the number of that read, if one is chosen,
-- how many reads were made, and how many faults were met
pub record LinesState : Type 0 where
  pub lines : List (List ℕ)
  pub failing : Option ℕ
  pub reads : ℕ
  pub faults : ℕ

-- the next read is the chosen one, so that it fails
abbrev pub next_fails : LinesState → Bool
next_fails source = option_map_or (λ number. number == source.reads) source.failing false

-- the source after a read that left these lines; if the read failed, the count of faults rises
abbrev pub after_next : LinesState → List (List ℕ) → LinesState
after_next source left = record source {
  lines = left;
  reads = next_count source.reads;
  faults = if next_fails source then next_count source.faults else source.faults;
}

-- what a read that isn't refused answers, leaves and appends: the first line came, if there was one, and its
-- first `most` bytes are appended
abbrev pub Gives : ℕ → List (List ℕ) → Bool → List (List ℕ) → List ℕ → List ℕ → Type 0
Gives most [] came left old new = (came ≡ false) × (left ≡ []) × (new ≡ old)
Gives most (line ∷ lines) came left old new = (came ≡ true) × (left ≡ lines) × (new ≡ old ++ take most line)
