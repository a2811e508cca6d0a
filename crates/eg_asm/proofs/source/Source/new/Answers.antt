use Rattle.std.proofs.Common.{refl}
use Rattle.eg_asm.proofs.KeepsLemmas.{keeps-start}
use Rattle.eg_asm.proofs.source.Source.new.Goals as goal

pub returns : goal.returns
returns c = rw (c.new.ensures.items) (keeps-start _ _ (λ key. rw c.new-2.ensures.empty refl))
