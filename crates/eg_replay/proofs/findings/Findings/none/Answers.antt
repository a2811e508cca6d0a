use Rattle.std.proofs.Common.{refl}
use Rattle.eg_num.specs.Windows.{greatest_of}
use Rattle.eg_replay.specs.Findings.{findings_of, found_at, trip_at, longest, surplus_of}
use Rattle.eg_replay.proofs.findings.Findings.none.Goals as goal

pub returns : goal.returns
unfolding findings_of found_at trip_at greatest_of longest surplus_of
returns c = refl
