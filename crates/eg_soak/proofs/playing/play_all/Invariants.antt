use Rattle.std.proofs.Common.{◌≡◌, map}
use Rattle.eg_tick.specs.Counting.{count_with}
use Rattle.eg_model.specs.EngineRuns.{rows_of_runs}
use Rattle.eg_soak.specs.Facts.{drawn_facts}
use Rattle.eg_soak.specs.Soak.{drawn_runs}
use Rattle.eg_soak.proofs.RunsLemmas.{state_of}
use Rattle.eg_soak.proofs.playing.play_all.Given as goal

-- the runs so far are told and counted, and the generator stands where the next begins
abbrev pub invariant-loop-done : goal.invariant-loop-done
invariant-loop-done l = record {
  state : l.generator ≡ state_of l._done l.fn.seed;
  told : l.all.items ≡ map drawn_facts (drawn_runs l._done l.fn.seed);
  counts : l.steps ≡ count_with l.fn.steps (rows_of_runs (drawn_runs l._done l.fn.seed));
}
