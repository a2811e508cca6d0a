use Rattle.eg_laws.proofs.NeverCutsLaws.{permitted_never_cut}
use Rattle.eg_laws.proofs.never_cuts.permitted_throttles_never_cut.Goals as goal

pub returns : goal.returns
returns c = permitted_never_cut
