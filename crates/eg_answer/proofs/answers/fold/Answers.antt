use Rattle.std.proofs.Common.{arith}
use Rattle.std.proofs.lemmas.Grind.{common_steps}
use Rattle.eg_answer.specs.Folds.{fold_of}
use Rattle.eg_answer.proofs.answers.fold.Goals as goal

pub returns : goal.returns
unfolding fold_of
returns c = grind (arith, common_steps)
