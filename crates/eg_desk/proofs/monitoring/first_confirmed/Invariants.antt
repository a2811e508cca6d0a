use Rattle.std.proofs.Common.{◌≡◌, ◌≤◌, false}
use Rattle.eg_num.specs.Windows.{is_confirmed}
use Rattle.eg_num.specs.Counting.{StandsFor}
use Rattle.eg_desk.specs.Check.{excesses}
use Rattle.eg_desk.proofs.ExcessLemmas.{bits_so_far, GoesOn}
use Rattle.eg_desk.proofs.monitoring.first_confirmed.Given as goal

-- the counter stands for the rows so far, they didn't confirm the excess, and `permitted` is what the last of them permits
abbrev pub invariant-loop-tick : goal.invariant-loop-tick
invariant-loop-tick l =
    let bits = bits_so_far (excesses l.rules l.rows) l.tick in
    record {
      goes_on : GoesOn l.rules l.rows l.tick l.permitted;
      within : l.counter.value ≤ l.rules.torque.limit;
      stands : StandsFor l.rules.torque l.counter.value bits;
      unconfirmed : is_confirmed l.rules.torque bits ≡ false;
    }
