use Rattle.eg_host.proofs.RestLemmas.{HasLed}
use Rattle.eg_host.proofs.level1.rest_of.Given as goal

-- so far so many steps over the program alone have led from the woken machine to this one
abbrev pub invariant-loop-done : goal.invariant-loop-done
invariant-loop-done l = HasLed l.done l.program l.registers l.now
