use Rattle.std.specs.Prelude.{Result, Err}
use Rattle.eg_plan.specs.declared.run_input.RunInput.{RunInput}
use Rattle.eg_outcome.specs.declared.outcome.Outcome.{Outcome}
use Rattle.eg_app.proofs.MissingLemmas.{ends_by}
use Rattle.eg_app.proofs.gather.gather_by.Goals as goal

pub returns-in-Err-input_swept-clause-missing : goal.returns-in-Err-input_swept-clause-missing
returns-in-Err-input_swept-clause-missing g c =
    let come : Result RunInput Outcome = Err c.in-Err-input_swept.end.outcome in
    rw c.in-Sweep.is (λ sure missing. ends_by come _ (c.in-Err-input_swept.ensures.campaign.missing sure missing))
