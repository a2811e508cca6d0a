-- How a list of named files is seen as files by name.
use Rattle.std.specs.Prelude.{ℕ, Bool, List, map, reverse, bytes_eq, string_bytes}
use Rattle.std.specs.FinMap.{from_entries}
use Rattle.eg_base.specs.Outside.{Files}
use Rattle.eg_base.specs.declared.named_files.NamedFile.{NamedFile}

abbrev pub is_named : List ℕ → NamedFile → Bool
is_named name file = bytes_eq name (string_bytes file.name)

-- files by name; of two files with one name the later one counts
abbrev pub files_of : List NamedFile → Files
files_of files = from_entries (map (λ f. (string_bytes f.name, f.bytes.items)) (reverse files))
