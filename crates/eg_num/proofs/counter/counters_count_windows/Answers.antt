use Rattle.eg_num.proofs.CounterLemmas.{counter_law}
use Rattle.eg_num.proofs.counter.counters_count_windows.Goals as goal

pub returns : goal.returns
returns c = counter_law
