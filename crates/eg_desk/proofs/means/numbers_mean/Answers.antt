use Rattle.eg_desk.proofs.MeansLemmas.{numbers_mean}
use Rattle.eg_desk.proofs.means.numbers_mean.Goals as goal

pub returns : goal.returns
returns c = numbers_mean
