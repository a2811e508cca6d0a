use Rattle.eg_answer.proofs.FoldLemmas.{fold_law}
use Rattle.eg_answer.proofs.answers.folds_tell_results_apart.Goals as goal

pub returns : goal.returns
returns c = fold_law
