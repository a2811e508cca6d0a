use Rattle.eg_asm.proofs.MeantLaws.{read-law, any-law}
use Rattle.eg_asm.proofs.assembler.words_mean_their_instructions.Goals as goal

pub returns-clause-meant : goal.returns-clause-meant
returns-clause-meant c = read-law

pub returns-clause-any : goal.returns-clause-any
returns-clause-any c = any-law
