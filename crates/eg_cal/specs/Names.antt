-- The names that a calibration file may have at the top and in its tables (F21, Key unknown).
use Rattle.std.specs.Prelude.{ℕ, Bool, true, ◌&&◌, List, [], ◌∷◌, ◌++◌, map, codes, Option, Some, None}
use Rattle.toml.specs.Data.{Members}
use Rattle.eg_toml.specs.Values.{table_at}
use Rattle.eg_toml.specs.Names.{all_names, is_among}
use Rattle.eg_cal.specs.declared.key.CalKey.{CalKey}
use Rattle.eg_cal.specs.Keys.{name_of, version_keys, permit_keys, torque_keys, pairs_keys, plant_keys, answers_keys, question_keys}

abbrev pub names_of : List CalKey → List (List ℕ)
names_of keys = map name_of keys

-- two keys and five tables
abbrev pub top_names : List (List ℕ)
top_names =
    names_of (version_keys ++ question_keys)
    ++ codes "permit" ∷ codes "torque" ∷ codes "pairs" ∷ codes "plant" ∷ codes "answers" ∷ []

-- each name in a table, if there is this table, is among these
abbrev pub has_names : List (List ℕ) → Option Members → Bool
has_names known (Some ms) = all_names (is_among known) ms
has_names known None = true

-- F21, Key unknown
unfoldable pub is_all_known : ℕ → Members → Bool
is_all_known version ms =
    all_names (is_among top_names) ms
    && has_names (names_of (permit_keys version)) (table_at (codes "permit") ms)
    && has_names (names_of torque_keys) (table_at (codes "torque") ms)
    && has_names (names_of pairs_keys) (table_at (codes "pairs") ms)
    && has_names (names_of plant_keys) (table_at (codes "plant") ms)
    && has_names (names_of answers_keys) (table_at (codes "answers") ms)
