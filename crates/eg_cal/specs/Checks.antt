-- The refusal of a key that doesn't hold what it may (F21, Key and Axis).
use Rattle.std.specs.Prelude.{ℕ, List, [], ◌∷◌, Option, Some, None, if◌then◌else◌}
use Rattle.toml.specs.Data.{Members}
use Rattle.eg_toml.specs.Arrays.{is_rising}
use Rattle.eg_cal.specs.declared.key.CalKey.{CalKey}
use Rattle.eg_cal.specs.declared.key.CalFault.{CalFault}
use Rattle.eg_cal.specs.declared.key.CalFault.TheVariants.{Key, Axis}
use Rattle.eg_cal.specs.Keys.{Content, number, truth, axis, values, grid, questions, nothing, content_of}
use Rattle.eg_toml.specs.Refusals.{or_else, unless_some}
use Rattle.eg_cal.specs.Contents.{read_number, read_truth, read_numbers, read_rows, read_questions, point_count}

-- F21, Key or Axis
abbrev pub axis_fault : CalKey → Option (List ℕ) → Option CalFault
axis_fault key (Some points) = if is_rising points then None else Some (Axis key)
axis_fault key None = Some (Key key)

abbrev pub content_fault : Content → Members → CalKey → Option CalFault
content_fault (number low high) ms key = unless_some (Key key) (read_number low high ms key)
content_fault truth ms key = unless_some (Key key) (read_truth ms key)
content_fault (axis high) ms key = axis_fault key (read_numbers 2 16 high ms key)
content_fault (values along high) ms key =
    unless_some (Key key) (read_numbers (point_count ms along) (point_count ms along) high ms key)
content_fault (grid down across high) ms key =
    unless_some (Key key) (read_rows (point_count ms down) (point_count ms across) high ms key)
content_fault questions ms key = unless_some (Key key) (read_questions ms key)
content_fault nothing ms key = None

abbrev pub fault_at : Members → CalKey → Option CalFault
fault_at ms key = content_fault (content_of key) ms key

-- F21
unfoldable pub first_fault : Members → List CalKey → Option CalFault
first_fault ms [] = None
first_fault ms (key ∷ keys) = or_else (fault_at ms key) (first_fault ms keys)

-- the keys of one table after another
abbrev pub keys_fault : Members → List (List CalKey) → Option CalFault
keys_fault ms [] = None
keys_fault ms (keys ∷ more) = or_else (first_fault ms keys) (keys_fault ms more)
