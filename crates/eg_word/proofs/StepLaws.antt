-- What a step by the table keeps, as the contract of a step says it.
use Rattle.std.proofs.Common.{Result, Ok, Err, OnOk, OnErr, ◌≡◌, ◌∙◌, sym, ap, ℕ, List, slice_index}
use Rattle.eg_guard.specs.Memory.{SameOutside}
use Rattle.eg_word.specs.declared.registers.Trap.{Trap}
use Rattle.eg_word.specs.declared.registers.State.TheVariants.{Running, Trapped}
use Rattle.eg_word.specs.declared.registers.Registers.{Registers}
use Rattle.eg_word.specs.Memory.{registers_after, words_after, is_level1_own}
use Rattle.eg_word.specs.World.{View, Shows, world_of, world_step}
use Rattle.eg_word.proofs.MachineLemmas.{step-outside, trap-registers, trap-words, idle-registers, idle-words}
use Rattle.eg_word.proofs.WorldLemmas.{step-world}

-- a step leaves the words outside level 1's own regions
pub outside-after : (old new : List ℕ) (m : Registers) → new ≡ words_after old m → SameOutside is_level1_own old new
outside-after old new m is = λ address outside. ap (λ words. slice_index words address) is ∙ step-outside old m address outside

-- a trap leaves registers and pc; where memory ran out all is left
pub trap-after : {E : Type 0} (result : Result (Unit {0}) E) (old : List ℕ) (m now : Registers) (trap : Trap)
    → OnOk result (now ≡ registers_after old m) → OnErr result (now ≡ m) → now.state ≡ Trapped trap
    → now ≡ record m { state = Trapped trap }
trap-after (Ok _) old m now trap is same state = is ∙ trap-registers old m trap (ap (λ r. r.state) (sym is) ∙ state)
trap-after (Err _) old m now trap is same state = same ∙ ap (λ s. record m { state = s }) (ap (λ r. r.state) (sym same) ∙ state)

-- a trap leaves the words; where memory ran out all is left
pub trap_words-after : {E : Type 0} (result : Result (Unit {0}) E) (old new : List ℕ) (m now : Registers) (trap : Trap)
    → OnOk result (now ≡ registers_after old m) → OnOk result (new ≡ words_after old m) → OnErr result (new ≡ old)
    → now.state ≡ Trapped trap → new ≡ old
trap_words-after (Ok _) old new m now trap is words same state = words ∙ trap-words old m trap (ap (λ r. r.state) (sym is) ∙ state)
trap_words-after (Err _) old new m now trap is words same state = same

-- a machine that doesn't run stays as it is
pub idle-after : {E : Type 0} (result : Result (Unit {0}) E) (old : List ℕ) (m now : Registers)
    → OnOk result (now ≡ registers_after old m) → OnErr result (now ≡ m) → (m.state ≡ Running → ⊥) → now ≡ m
idle-after (Ok _) old m now is same idle = is ∙ idle-registers old m idle
idle-after (Err _) old m now is same idle = same

-- a machine that doesn't run leaves the words
pub idle_words-after : {E : Type 0} (result : Result (Unit {0}) E) (old new : List ℕ) (m : Registers)
    → OnOk result (new ≡ words_after old m) → OnErr result (new ≡ old) → (m.state ≡ Running → ⊥) → new ≡ old
idle_words-after (Ok _) old new m is same idle = is ∙ idle-words old m idle
idle_words-after (Err _) old new m is same idle = same

-- a step over a memory that shows a view is a step of the world
pub world-after : (view : View) (old new : List ℕ) (m now : Registers) → now ≡ registers_after old m → new ≡ words_after old m
    → Shows old view → world_of now new ≡ world_step view (world_of m old)
world-after view old new m now is words shows =
    ap (λ r. world_of r new) is ∙ ap (world_of (registers_after old m)) words ∙ step-world view old m shows

-- what the contract of a step says besides the table
pub ruleset step_laws = (outside-after, trap-after, trap_words-after, idle-after, idle_words-after, world-after)
