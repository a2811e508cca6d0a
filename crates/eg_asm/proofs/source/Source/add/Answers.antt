use Rattle.std.proofs.Common.{◌∙◌, ap}
use Rattle.eg_asm.specs.Inner.Encodings.{line_shown}
use Rattle.eg_asm.proofs.KeepsLemmas.{keeps-nothing}
use Rattle.eg_asm.proofs.source.Source.add.Goals as goal

pub returns-in-Nothing-clause-kept : goal.returns-in-Nothing-clause-kept
returns-in-Nothing-clause-kept c = λ items item has is place_is k. keeps-nothing _ items item _ _ _ has (is ∙ ap line_shown c.in-Nothing.is) k
