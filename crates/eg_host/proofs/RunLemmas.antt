-- What level 1 has done after some steps of a slice.
use Rattle.std.proofs.Common.{◌≡◌, ◌∙◌, refl, sym, ap, subst, ℕ, zero, suc, ◌+◌, ◌-◌, ◌≤◌, ◌<◌, List, arith}
use Rattle.std.specs.Prelude.{Result, Ok, Err, IsErr, IsTrue, true, false}
use Rattle.eg_guard.specs.Memory.{ShownMemory, AreWords, SameOutside}
use Rattle.eg_word.specs.declared.registers.Trap.{Trap}
use Rattle.eg_word.specs.declared.registers.State.{State}
use Rattle.eg_word.specs.declared.registers.State.TheVariants.{Running, Trapped}
use Rattle.eg_word.specs.declared.registers.Registers.{Registers}
use Rattle.eg_word.specs.Memory.{is_level1_own}
use Rattle.eg_word.specs.World.{View, World, Shows, world_of, world_step}
use Rattle.eg_word.proofs.WorldLemmas.{shows-outside, world_step-idle}
use Rattle.eg_host.specs.Slices.{wake, slice_start, steps, world_slice, IsSlice}

-- ---- steps ----

-- one step more is done last
pub steps-suc : (count : ℕ) (view : View) (world : World) → steps (suc count) view world ≡ world_step view (steps count view world)
unfolding steps
steps-suc zero view world = refl
steps-suc (suc count) view world = steps-suc count view (world_step view world)

-- steps of a world whose machine doesn't run leave it
pub steps-idle : (count : ℕ) (view : View) (world : World) → (world.registers.state ≡ Running → ⊥) → steps count view world ≡ world
unfolding steps
steps-idle zero view world idle = refl
steps-idle (suc count) view world idle = ap (steps count view) (world_step-idle view world idle) ∙ steps-idle count view world idle

-- steps go on where the first ones ended
pub steps-add : (first rest : ℕ) (view : View) (world : World) → steps (first + rest) view world ≡ steps rest view (steps first view world)
unfolding steps
steps-add zero rest view world = let sum : zero + rest ≡ rest = omega arith in ap (λ n. steps n view world) sum
steps-add (suc first) rest view world =
    let sum : suc first + rest ≡ suc (first + rest) = omega arith in
    ap (λ n. steps n view world) sum ∙ steps-add first rest view (world_step view world)

-- ---- a slice so far ----

-- a slice that began with this machine and these words has led to that machine and those words, after `count` steps
pub record HasRun (count : ℕ) (m : Registers) (old : List ℕ) (now : Registers) (new : List ℕ) : Type 0 where
  pub outside : SameOutside is_level1_own old new
  pub are_words : AreWords old → AreWords new
  pub world : (view : View) → Shows old view → world_of now new ≡ world_slice view count (world_of m old)
  pub trapped : (trap : Trap) → m.state ≡ Trapped trap → now ≡ m
  pub trapped_words : (trap : Trap) → m.state ≡ Trapped trap → new ≡ old

-- as a slice begins the machine is woken
pub run-begin : (m : Registers) (old : List ℕ) → HasRun 0 m old (slice_start m) old
unfolding steps wake world_of
run-begin m old = record {
  outside = λ address inside. refl;
  are_words = λ are. are;
  world = λ view shows. refl;
  trapped = λ trap is. ap (λ state. record m { state = wake state }) is ∙ ap (λ state. record m { state = state }) (sym is);
  trapped_words = λ trap is. refl;
}

-- as a slice has begun, where the machine's state is told by an equation
pub run-begun : (m : Registers) (state : State) (old : List ℕ) → state ≡ wake m.state → HasRun 0 m old (record m { state = state }) old
run-begun m state old is = rw is (run-begin m old)

-- a trapped machine doesn't run
never : (m now : Registers) (trap : Trap) → now ≡ m → now.state ≡ Running → m.state ≡ Trapped trap → ⊥
never m now trap same running is = cc

-- a step more, of a machine that runs
pub run-more : (count : ℕ) (m now next : Registers) (old new newer : List ℕ) → HasRun count m old now new → now.state ≡ Running
    → SameOutside is_level1_own new newer → (AreWords new → AreWords newer)
    → ((view : View) → Shows new view → world_of next newer ≡ world_step view (world_of now new))
    → HasRun (count + 1) m old next newer
run-more count m now next old new newer run running outside are world = record {
  outside = λ address inside. outside address inside ∙ run.outside address inside;
  are_words = λ words. are (run.are_words words);
  world = λ view shows.
      let one_more : suc count ≡ count + 1 = omega arith in
      world view (shows-outside view old new run.outside (run.are_words shows.are_words) shows)
      ∙ ap (world_step view) (run.world view shows) ∙ sym (steps-suc count view _)
      ∙ ap (λ n. world_slice view n (world_of m old)) one_more;
  trapped = λ trap is. absurd (never m now trap (run.trapped trap is) running is);
  trapped_words = λ trap is. absurd (never m now trap (run.trapped trap is) running is);
}

-- a machine that doesn't run has done all further steps
pub run-idle : (count budget : ℕ) (m now : Registers) (old new : List ℕ) → HasRun count m old now new → (now.state ≡ Running → ⊥)
    → count ≤ budget → HasRun budget m old now new
unfolding world_of
run-idle count budget m now old new run idle within = record {
  outside = run.outside;
  are_words = run.are_words;
  world = λ view shows.
      let all : count + (budget - count) ≡ budget = omega arith in
      sym (steps-idle (budget - count) view (world_of now new) idle)
      ∙ ap (steps (budget - count) view) (run.world view shows) ∙ sym (steps-add count (budget - count) view _)
      ∙ ap (λ n. world_slice view n (world_of m old)) all;
  trapped = run.trapped;
  trapped_words = run.trapped_words;
}

-- ---- a call for a slice ----

-- a slice that was done
pub run-done : {T E : Type 0} (done : T) (budget : ℕ) (m now : Registers) (old new : ShownMemory) → HasRun budget m old.words now new.words
    → new.sure ≡ old.sure → IsSlice {T = T} {E = E} budget m now old new (Ok done)
run-done done budget m now old new run sure = record {
  world = run.world;
  ended = λ view shows. tt;
  keeps = record { sure = λ told. refl; stays_sure = sure; are_words = run.are_words };
  outside = run.outside;
  trapped = run.trapped;
  trapped_words = run.trapped_words;
}

-- a slice that ended since memory ran out, over a memory that isn't sure
run-failed : {T E : Type 0} (result : Result T E) (count budget : ℕ) (m now : Registers) (old new : ShownMemory) → IsErr result
    → HasRun count m old.words now new.words → count < budget → new.sure ≡ old.sure → ¬ IsTrue new.sure → IsSlice budget m now old new result
run-failed (Ok x) count budget m now old new failed run early sure unsure = absurd (let clash : false ≡ true = failed in cc)
run-failed (Err e) count budget m now old new failed run early sure unsure = record {
  world = λ view shows. tt;
  ended = λ view shows. (count, early, run.world view shows);
  keeps = record { sure = λ told. absurd (unsure (sure ∙ told)); stays_sure = sure; are_words = run.are_words };
  outside = run.outside;
  trapped = run.trapped;
  trapped_words = run.trapped_words;
}

-- the step that failed changed nothing
pub run-ended : {T E : Type 0} (result : Result T E) (count budget : ℕ) (m now last : Registers) (old new final : ShownMemory) → IsErr result
    → HasRun count m old.words now new.words → count < budget → new.sure ≡ old.sure → ¬ IsTrue new.sure → last ≡ now → final ≡ new
    → IsSlice budget m last old final result
run-ended result count budget m now last old new final failed run early sure unsure same_machine same_memory =
    subst (λ r. IsSlice budget m r old final result) (sym same_machine)
    (subst (λ memory. IsSlice budget m now old memory result) (sym same_memory)
    (run-failed result count budget m now old new failed run early sure unsure))
