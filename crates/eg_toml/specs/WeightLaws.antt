-- A comment that a line feed ends weighs nothing, and neither does what stands in a text of one line, if the
-- text isn't empty and has no backslash (F22). (Of all other comments and texts the definition says so.)
use Rattle.std.specs.Prelude.{◌≡◌, ℕ, Bool, true, not, ◌&&◌, ◌==◌, List, ◌∷◌, ◌++◌, fold}
use Rattle.std.specs.List.{list_all}
use Rattle.std.specs.Str.{byte}
use Rattle.eg_toml.specs.declared.places.Place.TheVariants.{Outside}
use Rattle.eg_toml.specs.Places.{is_delimiter, settled}
use Rattle.eg_toml.specs.Weight.{weighed_on, unweighed, weight_of}

-- this byte, behind these, stands outside of comments and texts
abbrev pub StandsOutside : List ℕ → ℕ → Type 0
StandsOutside front c = settled (fold weighed_on unweighed front).place c ≡ Outside

-- a document weighs the same without a comment
abbrev pub CommentsWeighNothing : Type 0
CommentsWeighNothing =
    (front comment rest : List ℕ) → StandsOutside front (byte "#") → StandsOutside front (byte "\n")
    → list_all (λ c. not (c == byte "\n")) comment ≡ true
    → weight_of (front ++ (byte "#" ∷ comment ++ byte "\n" ∷ rest)) ≡ weight_of (front ++ byte "\n" ∷ rest)

-- a byte stands for itself in a text of one line
abbrev pub is_plain : ℕ → ℕ → Bool
is_plain delimiter c = not (c == delimiter) && not (c == byte "\\")

-- a document weighs the same with another text of one line in the place of a text of one line, if neither is
-- empty
abbrev pub TextsWeighNothing : Type 0
TextsWeighNothing =
    (delimiter a b : ℕ) (front text other rest : List ℕ) → is_delimiter delimiter ≡ true
    → StandsOutside front delimiter
    → list_all (is_plain delimiter) (a ∷ text) ≡ true → list_all (is_plain delimiter) (b ∷ other) ≡ true
    → weight_of (front ++ (delimiter ∷ a ∷ text ++ delimiter ∷ rest))
    ≡ weight_of (front ++ (delimiter ∷ b ∷ other ++ delimiter ∷ rest))
