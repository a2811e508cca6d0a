use Rattle.std.proofs.Common.{[], refl, ap}
use Rattle.eg_replay.specs.declared.findings.Findings.{Findings}
use Rattle.eg_replay.specs.Findings.{findings_of, lasting}
use Rattle.eg_replay.proofs.tally.Tally.new.Goals as goal

pub invariant_of-result : goal.invariant_of-result
unfolding lasting
invariant_of-result c = ([], record { findings = c.none.ensures; lasts = refl })

pub returns-clause-ticks : goal.returns-clause-ticks
unfolding findings_of
returns-clause-ticks c = ap (λ (f : Findings). f.ticks) c.none.ensures

pub returns-clause-stands : goal.returns-clause-stands
unfolding lasting
returns-clause-stands c = record { findings = c.none.ensures; lasts = refl }
