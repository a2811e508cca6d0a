use Rattle.std.proofs.Common.{◌≡◌, ◌∙◌, ap₂, [], ◌∷◌, ◌++◌, arith}
use Rattle.std.specs.Prelude.{string_bytes}
use Rattle.std.proofs.lemmas.Grind.{common_steps}
use Rattle.eg_outcome.proofs.LineLemmas.{concat-more}
use Rattle.eg_play.proofs.texts.report_lines.Goals as goal

pub returns : goal.returns
returns c =
    let pushed : c.push.new.self.items ≡ c.in_ok-lines.lines.items ++ c.in_ok-end.end ∷ [] = grind (arith, common_steps) in
    concat-more string_bytes c.in_ok-lines.lines.items c.push.new.self.items c.in_ok-end.end pushed
    ∙ ap₂ (λ text more. text ++ more) c.in_ok-lines.ensures c.in_ok-end.ensures
