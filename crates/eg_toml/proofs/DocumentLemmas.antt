-- The document that bytes are.
use Rattle.std.proofs.Common.{◌≡◌, ℕ, if◌then◌else◌, Bool, true, false, List, Some, None, refl}
use Rattle.std.specs.Str.{IsUtf8, is_utf8}
use Rattle.std.proofs.lemmas.Str.{is_utf8-from_IsUtf8, IsUtf8-from_is_utf8}
use Rattle.toml.specs.Data.{Members}
use Rattle.toml.specs.Parse.{parse_document}
use Rattle.eg_toml.specs.Documents.{document_of}

-- a text that is a document
pub document-some : (bytes : List ℕ) (ms : Members) → IsUtf8 bytes → parse_document bytes ≡ Some ms → document_of bytes ≡ Some ms
document-some bytes ms utf8 parsed = rw (is_utf8-from_IsUtf8 bytes utf8) parsed

-- bytes that are no text, or a text that is no document
pub document-none : (bytes : List ℕ) → (IsUtf8 bytes → parse_document bytes ≡ None) → document_of bytes ≡ None
document-none bytes refused = cases (is_utf8 bytes) (λ e. refused (IsUtf8-from_is_utf8 bytes e))
  where
    cases : (b : Bool) → (b ≡ true → parse_document bytes ≡ None) → (if b then parse_document bytes else None) ≡ None
    cases true h = h refl
    cases false h = refl
