use Rattle.eg_runs.proofs.WorkedShortTests.{test_failed}
use Rattle.eg_runs.proofs.short_faulty_runs.failed_test.Goals as goal

pub returns : goal.returns
returns c = test_failed
