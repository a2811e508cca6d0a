-- How much of a file counts (F7).
use Rattle.std.specs.Prelude.{ℕ, List, length, Bool, nat_le}
use Rattle.eg_base.specs.Outside.{ShownStore, AreFirstBytes}

-- F4, F7: what a read of the file of that name gives
abbrev pub AreRead : ShownStore → List ℕ → List ℕ → Type 0
AreRead store name bytes = AreFirstBytes store.files name 4194305 bytes

-- F7, Size
abbrev pub is_too_long : List ℕ → Bool
is_too_long bytes = nat_le 4194305 (length bytes)
