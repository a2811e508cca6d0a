use Rattle.std.proofs.Common.{◌≡◌, take, length}
use Rattle.eg_input.proofs.NumbersLemmas.{HasRead}
use Rattle.eg_input.proofs.number.numbers.Given as goal

-- the fields before
abbrev pub invariant-loop-i : goal.invariant-loop-i
invariant-loop-i g l = record {
  size : length l.numbers ≡ g.row.N;
  read : HasRead g.row.N l.line l.i (take l.i l.numbers) l.rest;
}
