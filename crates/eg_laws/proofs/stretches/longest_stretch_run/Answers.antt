use Rattle.eg_laws.proofs.Worked.{longest_number, confirming_number, closed-excess, closed-stages}
use Rattle.eg_laws.proofs.stretches.longest_stretch_run.Goals as goal

pub returns : goal.returns
returns c = record { longest = longest_number; confirms = confirming_number; excess = closed-excess; stages = closed-stages }
