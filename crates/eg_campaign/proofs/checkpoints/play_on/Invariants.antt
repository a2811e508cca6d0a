use Rattle.std.proofs.Common.{IsTrue, not, ◌==◌}
use Rattle.eg_model.specs.Bench.{Run}
use Rattle.eg_campaign.specs.Inner.Checkpoints.{PlaysInput, HasPlayed, HasMade}
use Rattle.eg_campaign.proofs.checkpoints.play_on.Given as goal

-- the ticks so far were played and counted, over a sure memory
abbrev pub invariant-loop-tick : goal.invariant-loop-tick
invariant-loop-tick g l =
    let bench = g.E.BenchedEngine.bench in
    let come_to = g.E.BenchedEngine.come_to in
    record {
      sure : IsTrue l.played.controller.kept.memory.sure;
      made : (r : Run) → PlaysInput l.input r → HasPlayed (not (g.row.WEIGHED == 0)) bench come_to r l.fn.from l.fn.played → HasMade (not (g.row.WEIGHED == 0)) bench come_to r l.fn.from l.tick l.played l.fn.steps l.steps;
    }
