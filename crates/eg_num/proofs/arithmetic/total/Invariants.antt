use Rattle.std.proofs.Common.{◌≡◌, ◌≤◌, ◌*◌, take}
use Rattle.std.specs.List.{sum}
use Rattle.eg_num.proofs.arithmetic.total.Given as goal

abbrev pub invariant-loop-number : goal.invariant-loop-number
invariant-loop-number l = record {
  told : l.total ≡ sum (take l.number-index l.numbers);
  most : l.total ≤ l.number-index * 65535;
}
