use Rattle.std.proofs.Common.{◌≡◌, ◌∙◌, sym, ap₂, [], ◌∷◌, ◌++◌, arith}
use Rattle.std.specs.Prelude.{string_bytes}
use Rattle.std.proofs.lemmas.Grind.{common_steps}
use Rattle.eg_record.specs.Texts.{summary_line}
use Rattle.eg_outcome.proofs.LineLemmas.{concat-more, concat-front}
use Rattle.eg_play.proofs.texts.summary_lines.Goals as goal

pub loop-summary-preserved : goal.loop-summary-preserved
loop-summary-preserved c =
    let pushed : c.push.new.self.items ≡ c.loop-summary.lines.items ++ c.in_ok-line.line ∷ [] = grind (arith, common_steps) in
    concat-more string_bytes c.loop-summary.lines.items c.push.new.self.items c.in_ok-line.line pushed
    ∙ ap₂ (λ text more. text ++ more) c.loop-summary.invariant c.in_ok-line.ensures
    ∙ sym (concat-front summary_line c.args.summaries.now c.loop-summary.summary-index c.summary-item.result c.loop-summary-test.true c.summary-item.is)
