-- A step that needs no memory is the same in each world that runs the program, and changes registers alone.
use Rattle.std.proofs.Common.{◌≡◌, ◌∙◌, refl, sym, ap, ℕ, ◌<◌, Bool, true, false, nat_lt, if◌then◌else◌, List, slice_index, arith}
use Rattle.std.specs.Prelude.{Option, Some, None, slice_index_or}
use Rattle.eg_guard.proofs.AccessLemmas.{code-is}
use Rattle.eg_word.specs.declared.registers.Registers.{Registers}
use Rattle.eg_word.specs.declared.registers.State.TheVariants.{Running}
use Rattle.eg_word.specs.declared.registers.Trap.TheVariants.{Fetch}
use Rattle.eg_word.specs.declared.instruction.Instruction.{Instruction}
use Rattle.eg_word.specs.declared.instruction.Instruction.TheVariants.{Nop, Ldi, Ldx, Mov, Add, Sub, And, Or, Xor, Shr, Mul, Ld, St, Jz, Jlt, Wait, Jr, Illegal}
use Rattle.eg_word.specs.Machine.{no_store, trap, effect, fetch, step_in, step}
use Rattle.eg_word.specs.World.{View, World, sight, sight_in, after_store, after_step, world_step}
use Rattle.eg_word.specs.Program.{IsProgramOf}
use Rattle.eg_word.specs.Alone.{needs_memory, instruction_at, after_alone, alone}

-- an instruction that needs no memory does the same whatever may be loaded, and stores nothing
effect-alone : (sees : ℕ → Option ℕ) (m : Registers) (it : Instruction) → needs_memory it ≡ false
    → effect sees m it ≡ no_store (effect (λ address. None) m it).registers
unfolding effect needs_memory
effect-alone sees m Nop spared = refl
effect-alone sees m (Ldi a n) spared = refl
effect-alone sees m (Ldx a n) spared = refl
effect-alone sees m (Mov a b) spared = refl
effect-alone sees m (Add a b c) spared = refl
effect-alone sees m (Sub a b c) spared = refl
effect-alone sees m (And a b c) spared = refl
effect-alone sees m (Or a b c) spared = refl
effect-alone sees m (Xor a b c) spared = refl
effect-alone sees m (Shr a b n) spared = refl
effect-alone sees m (Mul a b c) spared = refl
effect-alone sees m (Ld a b n) spared = absurd (let clash : true ≡ false = spared in cc)
effect-alone sees m (St a b n) spared = absurd (let clash : true ≡ false = spared in cc)
effect-alone sees m (Jz a d) spared = refl
effect-alone sees m (Jlt a b d) spared = refl
effect-alone sees m Wait spared = refl
effect-alone sees m (Jr a) spared = refl
effect-alone sees m Illegal spared = refl

-- what an instruction makes alone, where that is told
done-alone : (needs : Bool) (sees : ℕ → Option ℕ) (m next : Registers) (it : Instruction) → needs_memory it ≡ needs
    → (if needs then None else Some (effect (λ address. None) m it).registers) ≡ Some next
    → effect sees m it ≡ no_store next
done-alone true sees m next it is made = cc
done-alone false sees m next it is made = effect-alone sees m it is ∙ ap no_store (cc)

module _ (sees : ℕ → Option ℕ) (words : List ℕ) (program : List Instruction) (m next : Registers) (is : IsProgramOf words program)
    (code : (k : ℕ) → k < 1024 → sees k ≡ Some (slice_index words k)) where
  fetched-alone : (within : Bool) → nat_lt m.pc 1024 ≡ within
      → after_alone m (if within then Some (slice_index_or program m.pc Nop) else None) ≡ Some next
      → (if within then fetch sees m (sees m.pc) else trap m Fetch) ≡ no_store next
  unfolding after_alone
  fetched-alone true inside made =
      let here : m.pc < 1024 = grind arith in
      ap (fetch sees m) (code m.pc here) ∙ ap (effect sees m) (sym (is.each m.pc Nop here)) ∙ done-alone _ sees m next _ refl made
  fetched-alone false outside made = cc

  -- where it is told what the program makes alone, this is the step of a machine that runs
  step-alone : m.state ≡ Running → alone program m ≡ Some next → step sees m ≡ no_store next
  unfolding step_in instruction_at
  step-alone running made = ap (λ state. step_in state sees m) running ∙ fetched-alone _ refl made

-- a step that a program makes alone changes the registers of its world, and no more
pub world-alone : (view : View) (world : World) (program : List Instruction) (next : Registers) → IsProgramOf view.image program
    → world.registers.state ≡ Running → alone program world.registers ≡ Some next
    → world_step view world ≡ record world { registers = next }
unfolding world_step after_step after_store sight sight_in
world-alone view world program next is running made =
    ap (after_step world) (step-alone (sight view world) view.image program world.registers next is code running made)
  where
    code : (k : ℕ) → k < 1024 → sight view world k ≡ Some (slice_index view.image k)
    code k within = rw (code-is k within) refl
