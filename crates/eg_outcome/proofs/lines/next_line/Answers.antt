use Rattle.std.proofs.Common.{ap, Ok}
use Rattle.eg_outcome.proofs.ComingLemmas.{line-comes}
use Rattle.eg_outcome.proofs.lines.next_line.Goals as goal

pub returns-in-Ok : goal.returns-in-Ok
returns-in-Ok g c =
    let next = c.in-Ok.ensures in
    line-comes c.args.most (g.L.Lines.shows c.args.lines.now) (g.L.Lines.shows c.next.new.self) c.in-Ok.came c.clear.new.self.items c.next.new.into.items c.clear.ensures.items
    (λ is. next.line (ap (λ b. Ok b) is)) (λ is. next.end (ap (λ b. Ok b) is)) (record { faults = next.no_fault; sure = next.stays_sure })
