use Rattle.eg_runs.proofs.WorkedShortTests.{test_passed}
use Rattle.eg_runs.proofs.short_runs.passed_test.Goals as goal

pub returns : goal.returns
returns c = test_passed
