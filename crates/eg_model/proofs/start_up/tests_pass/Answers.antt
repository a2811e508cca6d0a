use Rattle.eg_model.proofs.StartUpLaws.{tests_pass}
use Rattle.eg_model.proofs.start_up.tests_pass.Goals as goal

pub returns : goal.returns
returns c = tests_pass
