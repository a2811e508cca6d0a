-- A list of named files against the files by name that it is seen as.
use Rattle.std.proofs.Common.{◌≡◌, ◌∙◌, refl, sym, ap, ℕ, List, [], ◌∷◌, Bool, true, false, cond, map, reverse, string_bytes}
use Rattle.std.specs.Prelude.{Option, Some, option_map}
use Rattle.std.specs.List.{find}
use Rattle.std.specs.FinMap.Entries as entries
use Rattle.std.specs.Ordering.{nat_cmp}
use Rattle.std.specs.Cmp.Lexicographic.{slice_cmp, nat_list_cmp_total}
use Rattle.std.specs.FinMap.{get, get-from_entries}
use Rattle.std.proofs.lemmas.Map.Text.{is_eq-slice_cmp}
use Rattle.eg_base.specs.declared.named_files.NamedFile.{NamedFile}
use Rattle.eg_base.specs.Inner.NamedFiles.{files_of, is_named}
use Rattle.eg_base.specs.Outside.{Files}

-- one file more in front, whether it is the one that is looked for or not
find-step : (b : Bool) (f : NamedFile) (m : Option (List ℕ)) (o : Option NamedFile) → m ≡ option_map (λ f. f.bytes.items) o
    → cond b (Some f.bytes.items) m ≡ option_map (λ f. f.bytes.items) (cond b (Some f) o)
find-step true f m o e = refl
find-step false f m o e = e

-- a search among the entries finds the bytes of the file that a search among the files finds
find-entries : (fs : List NamedFile) (name : List ℕ) → entries.find (slice_cmp nat_cmp) name (map (λ f. (string_bytes f.name, f.bytes.items)) fs)
    ≡ option_map (λ f. f.bytes.items) (find (is_named name) fs)
find-entries [] name = refl
find-entries (f ∷ fs) name = rw is_eq-slice_cmp (find-step (is_named name f) f _ _ (find-entries fs name))

-- what a search from the last file finds is what the files by name have
pub found-get : (files : List NamedFile) (by_name : Files) (name : List ℕ) (found : Option NamedFile) → files_of files ≡ by_name
    → found ≡ find (is_named name) (reverse files) → option_map (λ f. f.bytes.items) found ≡ get by_name name
found-get files by_name name found seen is =
    ap (option_map (λ f. f.bytes.items)) is ∙ sym (find-entries (reverse files) name) ∙ sym (get-from_entries nat_list_cmp_total _ name) ∙ ap (λ m. get m name) seen
