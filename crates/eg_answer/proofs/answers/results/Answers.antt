use Rattle.std.proofs.Common.{rules}
use Rattle.eg_answer.specs.Answers.{results_of, pedal_result, permitted_result, estimate_result, excess_result, pairs_result}
use Rattle.eg_answer.proofs.answers.results.Goals as goal

pub returns : goal.returns
unfolding results_of pedal_result permitted_result estimate_result excess_result pairs_result
returns c = search rules
