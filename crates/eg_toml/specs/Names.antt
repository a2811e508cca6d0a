-- The names of a table, and whether they are known.
use Rattle.std.specs.Prelude.{ℕ, Bool, true, ◌&&◌, List, bytes_eq}
use Rattle.std.specs.List.{list_any}
use Rattle.toml.specs.Data.{Members, no_members, member}

abbrev pub all_names : (List ℕ → Bool) → Members → Bool
all_names passes no_members = true
all_names passes (member name d ms) = passes name && all_names passes ms

abbrev pub is_among : List (List ℕ) → List ℕ → Bool
is_among known name = list_any (λ k. bytes_eq k name) known
