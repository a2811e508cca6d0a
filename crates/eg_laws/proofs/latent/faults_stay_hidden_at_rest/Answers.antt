use Rattle.eg_laws.proofs.KindLaws.{diesel_is_calm}
use Rattle.eg_laws.proofs.LatentAtRest.{rest_hides}
use Rattle.eg_laws.proofs.latent.faults_stay_hidden_at_rest.Goals as goal

pub returns : goal.returns
returns c = record {
  rest = rest_hides;
  diesel = diesel_is_calm;
}
