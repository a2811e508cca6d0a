use Rattle.std.proofs.Common.{◌≡◌, ◌∙◌, sym, ap, ap₂, List, ℕ, [], ◌∷◌, ◌++◌, map, arith}
use Rattle.std.specs.Prelude.{string_bytes}
use Rattle.std.proofs.lemmas.Grind.{common_steps}
use Rattle.std.proofs.lemmas.List.{map-append}
use Rattle.eg_soak.specs.Texts.{soak_line, lines_of}
use Rattle.eg_soak.proofs.TextLemmas.{line_of}
use Rattle.eg_soak.proofs.texts.push.Goals as goal

pub returns : goal.returns
unfolding lines_of
returns c = λ before was.
    let one : List ℕ × ℕ = (c.args.name.now, c.args.number) in
    let line : string_bytes c.in_ok-line.line ≡ soak_line one = line_of c.args.name.now c.args.number _ c.in_ok-line.ensures.ok in
    let pushed : c.push.new.self.items ≡ c.args.lines.now.items ++ c.in_ok-line.line ∷ [] = grind (arith, common_steps) in
    ap (map string_bytes) pushed
    ∙ map-append string_bytes c.args.lines.now.items (c.in_ok-line.line ∷ [])
    ∙ ap₂ (λ lines more. lines ++ more ∷ []) was line
    ∙ sym (map-append soak_line before (one ∷ []))
