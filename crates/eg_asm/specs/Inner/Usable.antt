-- What the code asks of the operands in its table, so that it can read them in a word.
use Rattle.std.specs.Prelude.{nat_lt, nat_le, Bool, true, ◌&&◌, List, length}
use Rattle.std.specs.List.{list_all}
use Rattle.eg_asm.specs.declared.operand.Operand.{Operand}
use Rattle.eg_asm.specs.declared.operand.Operand.TheVariants.{Register, Number, Target}

-- a register has a weight, and a target a range
unfoldable pub is_usable : Operand → Bool
is_usable (Register weight) = nat_lt 0 weight
is_usable (Number most) = true
is_usable (Target reach) = nat_lt 0 reach

abbrev pub are_usable : List Operand → Bool
are_usable operands = nat_le (length operands) 3 && list_all is_usable operands
