use Rattle.eg_laws.proofs.LatentLaws.{readings_apart_hide, far_misses_hide, single_misses_hide, one_miss_hides}
use Rattle.eg_laws.proofs.latent.faults_stay_hidden.Goals as goal

pub returns : goal.returns
returns c = record {
  readings_apart = readings_apart_hide;
  lapses = far_misses_hide;
  single = single_misses_hide;
  one = one_miss_hides;
}
