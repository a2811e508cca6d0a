use Rattle.eg_model.proofs.StartUpLaws.{runs_without_reset}
use Rattle.eg_model.proofs.start_up.runs_without_reset_are_one_span.Goals as goal

pub returns : goal.returns
returns c = runs_without_reset
