use Rattle.std.proofs.Common.{sym, subst}
use Rattle.eg_outcome.specs.Changes.{change}
use Rattle.eg_stream.specs.Coupled.{CoupledUnit, unit_of}
use Rattle.eg_stream.specs.Couplings.{Coupling, coupling, couple_work, CouplingEnds}
use Rattle.eg_stream.proofs.StreamLemmas.{stream-says}
use Rattle.eg_stream.proofs.CouplingLemmas.{couple-refuses}
use Rattle.eg_stream.proofs.coupling.couple_lines.Goals as goal

pub returns : goal.returns
returns g c =
    let unit : CoupledUnit = unit_of c.args.calibration.now c.args.input.now in
    let call : Coupling = coupling (change (g.L.Lines.shows c.args.lines.now) (g.L.Lines.shows c.couple.new.lines))
    (change (g.K.Sink.shows c.args.out.now) (g.K.Sink.shows c.couple.new.out)) (change c.args.steps.now c.couple.new.steps) in
    let ends = subst (CouplingEnds unit call) (sym c.end_of.ensures) c.couple.ensures in
    record { ends = ends; no_memory = (stream-says (couple_work unit) ends.0 call.lines call.out c.end_of.result (couple-refuses unit) ends.1).0 }
