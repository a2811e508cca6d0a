-- A row's line with what is commanded next behind it.
use Rattle.std.proofs.Common.{◌≡◌, ◌∙◌, ◌+◌, ◌-◌, sym, ap, ℕ, List, ◌∷◌, [], ◌++◌, append_assoc, length, take, length-append, arith}
use Rattle.std.specs.Prelude.{codes}
use Rattle.std.proofs.Math.Seq.{take-append_seam}

-- a line once a comma has taken the place of its LF
pub comma-for-lf : (text line pushed popped new : List ℕ) (n : ℕ) → pushed ≡ text ++ (line ++ codes "\n") → n ≡ length pushed → popped ≡ take (n - 1) pushed
    → new ≡ popped ++ codes "," → new ≡ text ++ (line ++ codes ",")
comma-for-lf text line pushed popped new n is long rest last =
    let split : pushed ≡ (text ++ line) ++ codes "\n" = is ∙ sym (append_assoc text line (codes "\n")) in
    let counted : length pushed ≡ length (text ++ line) + 1 = ap length split ∙ length-append (text ++ line) (codes "\n") in
    let front : popped ≡ text ++ line =
    rest ∙ ap (λ m. take m pushed) (omega (arith, long, counted)) ∙ ap (take (length (text ++ line))) split ∙ take-append_seam (text ++ line) (codes "\n") in
    last ∙ ap (λ (t : List ℕ). t ++ codes ",") front ∙ append_assoc text line (codes ",")
