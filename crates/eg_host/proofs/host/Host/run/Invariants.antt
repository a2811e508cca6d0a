use Rattle.std.proofs.Common.{◌≡◌}
use Rattle.std.specs.Option.{option_copied, ForSome}
use Rattle.eg_word.specs.declared.registers.State.TheVariants.{Running}
use Rattle.eg_word.specs.Program.{IsProgramOf}
use Rattle.eg_host.proofs.RunLemmas.{HasRun}
use Rattle.eg_host.proofs.host.Host.run.Given as goal

-- so far the woken machine has done as many steps as were counted, it runs, the memory is as sure as it was, and
-- the program is still that of its code
abbrev pub invariant-loop-done : goal.invariant-loop-done
invariant-loop-done g l = record {
  run : HasRun l._done l.fn.self.registers (g.M.Guarded.shows l.fn.memory).words l.self.registers (g.M.Guarded.shows l.memory).words;
  running : l.self.registers.state ≡ Running;
  sure : (g.M.Guarded.shows l.memory).sure ≡ (g.M.Guarded.shows l.fn.memory).sure;
  program : ForSome (option_copied l.program) (IsProgramOf (g.M.Guarded.shows l.memory).words);
}
