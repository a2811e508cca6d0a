use Rattle.eg_laws.proofs.Worked.{most, most_listed, densest_are, most_of_hasty}
use Rattle.eg_laws.proofs.bursts.densest_feeds.Goals as goal

pub returns : goal.returns
returns c = record { most = most; listed = most_listed; densest = densest_are; hasty = most_of_hasty }
