-- How a word is read as an instruction (F43).
use Rattle.std.specs.Prelude.{ℕ, ◌*◌, ◌/◌, ◌%◌, ℤ, pos, ◌-ℤ◌, if◌then◌else◌, ◌==◌, nat_lt}
use Rattle.eg_word.specs.declared.instruction.Instruction.{Instruction}
use Rattle.eg_word.specs.declared.instruction.Instruction.TheVariants.{Nop, Ldi, Ldx, Mov, Add, Sub, And, Or, Xor, Shr, Mul, Ld, St, Jz, Jlt, Wait, Jr, Illegal}

-- F43, `s6` and `s9`: of the numbers below twice `half` those from `half` on are negative
unfoldable pub signed : ℕ → ℕ → ℤ
signed half n = if nat_lt n half then pos n else pos n -ℤ pos (2 * half)

-- F43
unfoldable pub instruction_with : (op a b c n6 n9 : ℕ) → Instruction
instruction_with op a b c n6 n9 =
    if op == 0 then Nop
    else if op == 1 then Ldi a n9
    else if op == 2 then Ldx a n9
    else if op == 3 then Mov a b
    else if op == 4 then Add a b c
    else if op == 5 then Sub a b c
    else if op == 6 then And a b c
    else if op == 7 then Or a b c
    else if op == 8 then Xor a b c
    else if op == 9 then Shr a b n6
    else if op == 10 then Mul a b c
    else if op == 11 then Ld a b n6
    else if op == 12 then St a b n6
    else if op == 13 then Jz a (signed 256 n9)
    else if op == 14 then Jlt a b (signed 32 n6)
    else if n9 == 0 then Wait
    else if n9 == 1 then Jr a
    else Illegal

-- F43, the fields
abbrev pub instruction_of : ℕ → Instruction
instruction_of word =
    instruction_with (word / 4096) (word / 512 % 8) (word / 64 % 8) (word / 8 % 8) (word % 64) (word % 512)
