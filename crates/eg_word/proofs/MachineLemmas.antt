-- What a step stores, and which words it leaves.
use Rattle.std.proofs.Common.{◌≡◌, ◌≢◌, refl, ap, ℕ, Bool, true, false, nat_lt, IsTrue, List}
use Rattle.std.specs.Prelude.{Option, Some, None}
use Rattle.std.proofs.lemmas.List.{get_or-set_other}
use Rattle.eg_guard.specs.declared.regions.Who.TheVariants.{Level1}
use Rattle.eg_guard.specs.declared.regions.Region.{Region}
use Rattle.eg_guard.specs.declared.regions.Region.TheVariants.{Code, Data, InPorts, OutPorts, Results, Protected, Link, None as NoRegion}
use Rattle.eg_guard.specs.Regions.{allows, access, region_of}
use Rattle.eg_guard.specs.Memory.{SameOutside}
use Rattle.eg_word.specs.declared.registers.Trap.{Trap}
use Rattle.eg_word.specs.declared.registers.State.{State}
use Rattle.eg_word.specs.declared.registers.State.TheVariants.{Running, Waiting, Trapped}
use Rattle.eg_word.specs.declared.registers.Registers.{Registers}
use Rattle.eg_word.specs.declared.instruction.Instruction.{Instruction}
use Rattle.eg_word.specs.declared.instruction.Instruction.TheVariants.{Nop, Ldi, Ldx, Mov, Add, Sub, And, Or, Xor, Shr, Mul, Ld, St, Jz, Jlt, Wait, Jr, Illegal}
use Rattle.eg_word.specs.Machine.{Step, no_store, trap, load_into, store_at, effect, fetch, step_in, step}
use Rattle.eg_word.specs.Memory.{load_from, put, registers_after, words_after, is_level1_own}

-- a load stores nothing
pub loads_stored : (m : Registers) (a : ℕ) (word : Option ℕ) → (load_into m a word).stored ≡ None
unfolding load_into
loads_stored m a None = refl
loads_stored m a (Some word) = refl

-- what is stored, if anything, goes where level 1 may store
abbrev pub IsAllowed : Option (ℕ × ℕ) → Type 0
IsAllowed None = Unit {0}
IsAllowed (Some stored) = IsTrue (access Level1 stored.0).store

allowed_where : (may : Bool) (address word : ℕ) (m : Registers) → (access Level1 address).store ≡ may
    → IsAllowed (store_at m address word).stored
unfolding store_at
allowed_where true address word m is = rw is is
allowed_where false address word m is = rw is tt

allowed_loaded : (m : Registers) (a : ℕ) (word : Option ℕ) → IsAllowed (load_into m a word).stored
allowed_loaded m a word = rw loads_stored tt

allowed_done : (sees : ℕ → Option ℕ) (m : Registers) (instruction : Instruction) → IsAllowed (effect sees m instruction).stored
unfolding effect
allowed_done sees m Nop = tt
allowed_done sees m (Ldi a n) = tt
allowed_done sees m (Ldx a n) = tt
allowed_done sees m (Mov a b) = tt
allowed_done sees m (Add a b c) = tt
allowed_done sees m (Sub a b c) = tt
allowed_done sees m (And a b c) = tt
allowed_done sees m (Or a b c) = tt
allowed_done sees m (Xor a b c) = tt
allowed_done sees m (Shr a b n) = tt
allowed_done sees m (Mul a b c) = tt
allowed_done sees m (Ld a b n) = allowed_loaded m a _
allowed_done sees m (St a b n) = allowed_where _ _ _ m refl
allowed_done sees m (Jz a d) = tt
allowed_done sees m (Jlt a b d) = tt
allowed_done sees m Wait = tt
allowed_done sees m (Jr a) = tt
allowed_done sees m Illegal = tt

allowed_fetched : (sees : ℕ → Option ℕ) (m : Registers) (word : Option ℕ) → IsAllowed (fetch sees m word).stored
allowed_fetched sees m None = tt
allowed_fetched sees m (Some word) = allowed_done sees m _

allowed_running : (code : Bool) (sees : ℕ → Option ℕ) (m : Registers) → nat_lt m.pc 1024 ≡ code
    → IsAllowed (step_in Running sees m).stored
unfolding step_in
allowed_running true sees m is = rw is (allowed_fetched sees m _)
allowed_running false sees m is = rw is tt

allowed_in : (state : State) (sees : ℕ → Option ℕ) (m : Registers) → IsAllowed (step_in state sees m).stored
unfolding step_in
allowed_in Running sees m = allowed_running _ sees m refl
allowed_in Waiting sees m = tt
allowed_in (Trapped kind) sees m = tt

-- a step stores only where level 1 may store
pub step-allowed : (sees : ℕ → Option ℕ) (m : Registers) → IsAllowed (step sees m).stored
step-allowed sees m = allowed_in m.state sees m

-- level 1 may store exactly in the regions that are its own
level1s-store : (region : Region) → is_level1_own region ≡ (allows region Level1).store
unfolding is_level1_own allows
level1s-store Code = refl
level1s-store Data = refl
level1s-store InPorts = refl
level1s-store OutPorts = refl
level1s-store Results = refl
level1s-store Protected = refl
level1s-store Link = refl
level1s-store NoRegion = refl

-- a store that is allowed leaves the words outside level 1's own regions
pub put-outside : (words : List ℕ) (stored : Option (ℕ × ℕ)) → IsAllowed stored → SameOutside is_level1_own words (put words stored)
unfolding access
put-outside words None may address outside = refl
put-outside words (Some stored) may address outside =
    let other : address ≢ stored.0 = λ same.
    let is : _ ≡ _ = ap (λ a. (allows (region_of a) Level1).store) same in
    let own : _ ≡ _ = level1s-store (region_of address) in cc
    in get_or-set_other words stored.0 address stored.1 0 other

-- ---- traps ----

-- where a step leaves a trap, it leaves registers and pc, and stores nothing
abbrev LeavesAtTrap : Registers → Step → Type 0
LeavesAtTrap m made = (kind : Trap) → made.registers.state ≡ Trapped kind
    → (made.registers ≡ record m { state = Trapped kind }) × (made.stored ≡ None)

traps-leaves : (m : Registers) (kind : Trap) → LeavesAtTrap m (trap m kind)
traps-leaves m kind = λ other is. (ap (λ state. record m { state = state }) is, refl)

loads-leaves : (m : Registers) (a : ℕ) (word : Option ℕ) → m.state ≡ Running → LeavesAtTrap m (load_into m a word)
unfolding load_into
loads-leaves m a None running = traps-leaves m _
loads-leaves m a (Some word) running = λ kind is. cc

stores-leaves : (may : Bool) (address word : ℕ) (m : Registers) → m.state ≡ Running → (access Level1 address).store ≡ may
    → LeavesAtTrap m (store_at m address word)
unfolding store_at
stores-leaves true address word m running is = rw is (λ kind is. cc)
stores-leaves false address word m running is = rw is (traps-leaves m _)

done-leaves : (sees : ℕ → Option ℕ) (m : Registers) (instruction : Instruction) → m.state ≡ Running → LeavesAtTrap m (effect sees m instruction)
unfolding effect
done-leaves sees m Nop running = λ kind is. cc
done-leaves sees m (Ldi a n) running = λ kind is. cc
done-leaves sees m (Ldx a n) running = λ kind is. cc
done-leaves sees m (Mov a b) running = λ kind is. cc
done-leaves sees m (Add a b c) running = λ kind is. cc
done-leaves sees m (Sub a b c) running = λ kind is. cc
done-leaves sees m (And a b c) running = λ kind is. cc
done-leaves sees m (Or a b c) running = λ kind is. cc
done-leaves sees m (Xor a b c) running = λ kind is. cc
done-leaves sees m (Shr a b n) running = λ kind is. cc
done-leaves sees m (Mul a b c) running = λ kind is. cc
done-leaves sees m (Ld a b n) running = loads-leaves m a _ running
done-leaves sees m (St a b n) running = stores-leaves _ _ _ m running refl
done-leaves sees m (Jz a d) running = λ kind is. cc
done-leaves sees m (Jlt a b d) running = λ kind is. cc
done-leaves sees m Wait running = λ kind is. cc
done-leaves sees m (Jr a) running = λ kind is. cc
done-leaves sees m Illegal running = traps-leaves m _

fetches-leaves : (sees : ℕ → Option ℕ) (m : Registers) (word : Option ℕ) → m.state ≡ Running → LeavesAtTrap m (fetch sees m word)
fetches-leaves sees m None running = traps-leaves m _
fetches-leaves sees m (Some word) running = done-leaves sees m _ running

running-leaves : (code : Bool) (sees : ℕ → Option ℕ) (m : Registers) → m.state ≡ Running → nat_lt m.pc 1024 ≡ code
    → LeavesAtTrap m (step_in Running sees m)
unfolding step_in
running-leaves true sees m running is = rw is (fetches-leaves sees m _ running)
running-leaves false sees m running is = rw is (traps-leaves m _)

in-leaves : (state : State) (sees : ℕ → Option ℕ) (m : Registers) → m.state ≡ state → LeavesAtTrap m (step_in state sees m)
unfolding step_in
in-leaves Running sees m is = running-leaves _ sees m is refl
in-leaves Waiting sees m is = λ kind also. cc
in-leaves (Trapped kind) sees m is = λ kind also. (ap (λ state. record m { state = state }) also, refl)

step-leaves : (sees : ℕ → Option ℕ) (m : Registers) → LeavesAtTrap m (step sees m)
step-leaves sees m = in-leaves m.state sees m refl

-- a trap leaves registers and pc
pub trap-registers : (words : List ℕ) (m : Registers) (kind : Trap) → (registers_after words m).state ≡ Trapped kind
    → registers_after words m ≡ record m { state = Trapped kind }
trap-registers words m kind is = (step-leaves (load_from words) m kind is).0

-- a trap leaves the words
pub trap-words : (words : List ℕ) (m : Registers) (kind : Trap) → (registers_after words m).state ≡ Trapped kind
    → words_after words m ≡ words
trap-words words m kind is = ap (put words) (step-leaves (load_from words) m kind is).1

-- a step leaves the words outside level 1's own regions
pub step-outside : (words : List ℕ) (m : Registers) → SameOutside is_level1_own words (words_after words m)
step-outside words m = put-outside words _ (step-allowed (load_from words) m)

-- ---- a machine that doesn't run ----

no_store-idle : (state : State) (sees : ℕ → Option ℕ) (m : Registers) → (state ≡ Running → ⊥) → step_in state sees m ≡ no_store m
unfolding step_in
no_store-idle Running sees m idle = absurd (idle refl)
no_store-idle Waiting sees m idle = refl
no_store-idle (Trapped kind) sees m idle = refl

-- a machine that doesn't run stays as it is
pub idle-registers : (words : List ℕ) (m : Registers) → (m.state ≡ Running → ⊥) → registers_after words m ≡ m
idle-registers words m idle = ap (λ made. made.registers) (no_store-idle m.state (load_from words) m idle)

-- a machine that doesn't run leaves the words
pub idle-words : (words : List ℕ) (m : Registers) → (m.state ≡ Running → ⊥) → words_after words m ≡ words
idle-words words m idle = ap (λ made. put words made.stored) (no_store-idle m.state (load_from words) m idle)
