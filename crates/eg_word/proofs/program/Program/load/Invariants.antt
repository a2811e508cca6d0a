use Rattle.std.proofs.Common.{take}
use Rattle.eg_word.specs.Program.{IsProgramOf}
use Rattle.eg_word.proofs.program.Program.load.Given as goal

-- so far the code is that of the words that were decoded
abbrev pub invariant-loop-address : goal.invariant-loop-address
invariant-loop-address l = IsProgramOf (take l.address l.image) l.self-inside.code
