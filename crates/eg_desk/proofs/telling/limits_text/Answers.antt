use Rattle.std.proofs.Common.{◌∙◌, ◌++◌, ap, codes}
use Rattle.std.specs.Prelude.{decimal}
use Rattle.eg_desk.specs.Texts.{number_or_none}
use Rattle.eg_desk.proofs.telling.limits_text.Goals as goal

pub returns : goal.returns
returns c =
    c.in_ok-push_line-2.ensures
    ∙ ap (λ text. text ++ (codes "missed " ++ number_or_none c.args.limits.now.missed ++ codes "\n"))
    (c.in_ok-push_line.ensures
    ∙ ap (λ text. text ++ (codes "ramp " ++ number_or_none c.args.limits.now.ramp ++ codes "\n"))
    (c.in_ok-write-2.ensures.bytes
    ∙ ap (λ text. text ++ (codes "peak " ++ decimal c.args.limits.now.peak ++ codes "\n"))
    (c.in_ok-write.ensures.bytes
    ∙ ap (λ text. text ++ (codes "stretch " ++ decimal c.args.limits.now.stretch ++ codes "\n")) c.in_ok-text.ensures)))
