-- A step of level 1's machine (F43).
use Rattle.std.specs.Prelude.{ℕ, ◌+◌, ◌-◌, ◌*◌, ◌/◌, ◌%◌, ◌^◌, ℤ, if◌then◌else◌, ◌==◌, nat_lt, slice_index, slice_set, bit_and, bit_or, bit_xor, Option, Some, None}
use Rattle.std.specs.Int.{w16, cast_unsigned}
use Rattle.eg_guard.specs.declared.regions.TheConstants.{DATA}
use Rattle.eg_guard.specs.declared.regions.Who.TheVariants.{Level1}
use Rattle.eg_guard.specs.Regions.{access}
use Rattle.eg_word.specs.declared.registers.Trap.{Trap}
use Rattle.eg_word.specs.declared.registers.Trap.TheVariants.{Fetch, Load, Store, Illegal as NoInstruction}
use Rattle.eg_word.specs.declared.registers.State.{State}
use Rattle.eg_word.specs.declared.registers.State.TheVariants.{Running, Waiting, Trapped}
use Rattle.eg_word.specs.declared.registers.Registers.{Registers}
use Rattle.eg_word.specs.declared.instruction.Instruction.{Instruction}
use Rattle.eg_word.specs.declared.instruction.Instruction.TheVariants.{Nop, Ldi, Ldx, Mov, Add, Sub, And, Or, Xor, Shr, Mul, Ld, St, Jz, Jlt, Wait, Jr, Illegal}
use Rattle.eg_word.specs.Instructions.{instruction_of}

-- the registers after a step, and the address and word that it stores, if any
pub record Step : Type 0 where
  pub registers : Registers
  pub stored : Option (ℕ × ℕ)

unfoldable pub reg : Registers → ℕ → ℕ
reg m a = slice_index m.r a

-- F43
unfoldable pub next : Registers → ℕ
next m = (m.pc + 1) % 65536

-- F43, where a jump goes
unfoldable pub beyond : Registers → ℤ → ℕ
beyond m distance = (next m + cast_unsigned w16 distance) % 65536

-- ---- what instructions have in common ----

abbrev pub no_store : Registers → Step
no_store m = record { registers = m; stored = None }

abbrev pub set : Registers → ℕ → ℕ → Step
set m a word = no_store (record m { r = slice_set m.r a word; pc = next m })

abbrev pub jump : Registers → ℕ → Step
jump m address = no_store (record m { pc = address })

-- F43: registers and pc stay
abbrev pub trap : Registers → Trap → Step
trap m kind = no_store (record m { state = Trapped kind })

-- F43, `ld`
unfoldable pub load_into : Registers → ℕ → Option ℕ → Step
load_into m a None = trap m Load
load_into m a (Some word) = set m a word

-- F43, `st`
unfoldable pub store_at : Registers → ℕ → ℕ → Step
store_at m address word =
    if (access Level1 address).store
    then record { registers = record m { pc = next m }; stored = Some (address, word) }
    else trap m Store

-- ---- the table ----

-- F43; `load` gives the word at an address, if it may be loaded
unfoldable pub effect : (ℕ → Option ℕ) → Registers → Instruction → Step
effect load m Nop = jump m (next m)
effect load m (Ldi a n) = set m a n
effect load m (Ldx a n) = set m a ((reg m a * 128 + n % 128) % 65536)
effect load m (Mov a b) = set m a (reg m b)
effect load m (Add a b c) = set m a ((reg m b + reg m c) % 65536)
effect load m (Sub a b c) = set m a ((reg m b + (65536 - reg m c)) % 65536)
effect load m (And a b c) = set m a (bit_and (reg m b) (reg m c))
effect load m (Or a b c) = set m a (bit_or (reg m b) (reg m c))
effect load m (Xor a b c) = set m a (bit_xor (reg m b) (reg m c))
effect load m (Shr a b n) = set m a (reg m b / 2 ^ (n % 16))
effect load m (Mul a b c) = set m a (reg m b * reg m c % 65536)
effect load m (Ld a b n) = load_into m a (load ((reg m b + n) % 65536))
effect load m (St a b n) = store_at m ((reg m b + n) % 65536) (reg m a)
effect load m (Jz a d) = jump m (if reg m a == 0 then beyond m d else next m)
effect load m (Jlt a b d) = jump m (if nat_lt (reg m a) (reg m b) then beyond m d else next m)
effect load m Wait = no_store (record m { state = Waiting; pc = next m })
effect load m (Jr a) = jump m (reg m a)
effect load m Illegal = trap m NoInstruction

-- ---- one step ----

abbrev pub fetch : (ℕ → Option ℕ) → Registers → Option ℕ → Step
fetch load m None = trap m Fetch
fetch load m (Some word) = effect load m (instruction_of word)

-- F43: a machine that doesn't run stays as it is, and only code is fetched
unfoldable pub step_in : State → (ℕ → Option ℕ) → Registers → Step
step_in Running load m = if nat_lt m.pc DATA then fetch load m (load m.pc) else trap m Fetch
step_in Waiting load m = no_store m
step_in (Trapped kind) load m = no_store m

abbrev pub step : (ℕ → Option ℕ) → Registers → Step
step load m = step_in m.state load m
