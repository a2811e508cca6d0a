use Rattle.std.proofs.Common.{◌∙◌, sym}
use Rattle.eg_asm.proofs.SourceLaws.{assembled-then, assembled-gives}
use Rattle.eg_asm.proofs.ListingLaws.{back-law}
use Rattle.eg_asm.proofs.assembler.sources_have_one_answer.Goals as goal

pub returns-clause-one : goal.returns-clause-one
returns-clause-one c = λ source one other h k. sym (assembled-then source one h) ∙ assembled-then source other k

pub returns-clause-reads : goal.returns-clause-reads
returns-clause-reads c = assembled-gives

pub returns-clause-back : goal.returns-clause-back
returns-clause-back c = back-law
