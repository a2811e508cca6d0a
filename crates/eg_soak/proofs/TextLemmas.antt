-- The line of a number.
use Rattle.std.proofs.Common.{◌≡◌, ◌∙◌, List, ℕ, ◌++◌, append_assoc, sym}
use Rattle.std.specs.Prelude.{codes, decimal}
use Rattle.eg_soak.specs.Texts.{soak_line}

pub line_of : (name : List ℕ) (n : ℕ) (text : List ℕ) → text ≡ name ++ (codes " " ++ (decimal n ++ codes "\n")) →
    text ≡ soak_line (name, n)
unfolding soak_line
line_of name n text is = is
    ∙ sym (append_assoc (name ++ codes " ") (decimal n) (codes "\n") ∙ append_assoc name (codes " ") (decimal n ++ codes "\n"))
