-- The own keys of a class among the names of a table.
use Rattle.std.proofs.Common.{◌≡◌, ◌||◌, ℕ, List, [], ◌∷◌, map, bytes_eq, refl, ap}
use Rattle.std.specs.List.{list_any}
use Rattle.eg_toml.specs.Names.{is_among}
use Rattle.eg_fault.specs.declared.key.FaultKey.{FaultKey}
use Rattle.eg_fault.specs.Names.{key_text}

pub among-keys : (keys : List FaultKey) (text : List ℕ) → list_any (λ key. bytes_eq (key_text key) text) keys ≡ is_among (map key_text keys) text
among-keys [] text = refl
among-keys (key ∷ keys) text = ap (λ b. bytes_eq (key_text key) text || b) (among-keys keys text)
