use Rattle.eg_model.specs.Engines.{bench_of}
use Rattle.eg_model.proofs.BranchLaws.{runs_branch, records_branch}
use Rattle.eg_model.proofs.branching.runs_branch.Goals as goal

pub returns-clause-runs : goal.returns-clause-runs
returns-clause-runs c = runs_branch

pub returns-clause-records : goal.returns-clause-records
returns-clause-records c = λ engine. records_branch (bench_of engine)
