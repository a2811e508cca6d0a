-- A document is the same without the comments at its front.
use Rattle.std.specs.Prelude.{◌≡◌, ◌||◌, ◌&&◌, ◌==◌, ℕ, Bool, List, Some, nat_le}
use Rattle.std.specs.Str.{byte}
use Rattle.toml.specs.Data.{Members}
use Rattle.eg_toml.specs.Documents.{document_of}

-- a tab, or an ASCII character that controls nothing
abbrev pub is_visible : ℕ → Bool
is_visible c = c == byte "\t" || (nat_le 32 c && nat_le c 126)

-- if the rest is a document, the bytes are the same document
abbrev pub IsKeptBy : List ℕ → List ℕ → Type 0
IsKeptBy bytes rest = (members : Members) → document_of rest ≡ Some members → document_of bytes ≡ Some members
