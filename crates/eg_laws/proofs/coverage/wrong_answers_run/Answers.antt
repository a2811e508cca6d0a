use Rattle.eg_laws.proofs.WorkedCoverage.{latest_answers, latest_silent, latest_wrong, latest_confirm}
use Rattle.eg_laws.proofs.coverage.wrong_answers_run.Goals as goal

pub returns : goal.returns
returns c = record { silent = latest_silent; wrong = latest_wrong; confirm = latest_confirm; found = latest_answers }
