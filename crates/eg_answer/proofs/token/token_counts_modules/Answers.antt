use Rattle.eg_answer.proofs.TokenLemmas.{token_law}
use Rattle.eg_answer.proofs.token.token_counts_modules.Goals as goal

pub returns : goal.returns
returns c = token_law
