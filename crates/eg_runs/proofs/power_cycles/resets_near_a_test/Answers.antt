use Rattle.eg_runs.proofs.WorkedCycles.{resets_near_a_test-during, resets_near_a_test-begins, resets_near_a_test-after, resets_near_a_test-after_begins, resets_near_a_test-at_end, resets_near_a_test-at_end_path1}
use Rattle.eg_runs.proofs.power_cycles.resets_near_a_test.Goals as goal

pub returns-clause-during : goal.returns-clause-during
returns-clause-during c = resets_near_a_test-during

pub returns-clause-begins : goal.returns-clause-begins
returns-clause-begins c = resets_near_a_test-begins

pub returns-clause-after : goal.returns-clause-after
returns-clause-after c = resets_near_a_test-after

pub returns-clause-after_begins : goal.returns-clause-after_begins
returns-clause-after_begins c = resets_near_a_test-after_begins

pub returns-clause-at_end : goal.returns-clause-at_end
returns-clause-at_end c = resets_near_a_test-at_end

pub returns-clause-at_end_path1 : goal.returns-clause-at_end_path1
returns-clause-at_end_path1 c = resets_near_a_test-at_end_path1
