use Rattle.std.proofs.Common.{rules, ◌≡◌}
use Rattle.eg_draw.specs.declared.runs.DrawnRun.{DrawnRun}
use Rattle.eg_draw.specs.Runs.{drawn_run}
use Rattle.eg_draw.proofs.ProperLemmas.{proper_of}
use Rattle.eg_draw.proofs.generator.Generator.run.Goals as goal

pub returns-clause-proper : goal.returns-clause-proper
unfolding drawn_run
returns-clause-proper c =
    let run : DrawnRun = record { image = c.in_ok-image.image; drive = c.in_ok-drive.drive; fault = c.fault-fault.result } in
    let is : run ≡ drawn_run c.args.self.now = search rules in
    proper_of run c.args.self.now is
