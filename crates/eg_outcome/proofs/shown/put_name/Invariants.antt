use Rattle.eg_outcome.proofs.ShownLemmas.{HasPut}
use Rattle.eg_outcome.proofs.shown.put_name.Given as goal

abbrev pub invariant-loop-i : goal.invariant-loop-i
invariant-loop-i g l = HasPut (g.N.Sink.shows l.initial.notes) (g.N.Sink.shows l.notes) l.name l.before l.i
