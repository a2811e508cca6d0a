-- A step over a guarded memory is a step of level 1's private world.
use Rattle.std.proofs.Common.{◌≡◌, ◌⊎◌, ◌∙◌, refl, sym, ap, inl, inr, ℕ, ◌+◌, ◌-◌, ◌<◌, ◌≤◌, ◌==◌, if◌then◌else◌, true, List, take, drop, replicate, length, slice_index, slice_set, arith}
use Rattle.std.specs.Prelude.{Option, Some, None}
use Rattle.std.specs.List.{slice_range}
use Rattle.std.proofs.Math.Path.{fun_ext}
use Rattle.std.proofs.Math.Seq.{take-set-lt}
use Rattle.std.proofs.lemmas.Grind.{same_number_lists}
use Rattle.std.proofs.lemmas.List.{length-take, length-drop, get_or-set_same, get_or-set_other, get_or-take, get_or-drop, drop-set-add, take-set-le}
use Rattle.eg_guard.specs.declared.regions.Who.TheVariants.{Level1}
use Rattle.eg_guard.specs.declared.regions.Region.{Region}
use Rattle.eg_guard.specs.declared.regions.Region.TheVariants.{Code, Data, InPorts, OutPorts, Results, Protected, Link, None as NoRegion}
use Rattle.eg_guard.specs.Regions.{allows, access, region_of}
use Rattle.eg_guard.specs.Memory.{AreWords, SameOutside}
use Rattle.eg_guard.proofs.AccessLemmas.{code-span, data-span, in_ports-span, out_ports-span, results-span, code-is, data-is, in_ports-is, out_ports-is, results-is}
use Rattle.eg_word.specs.declared.registers.Registers.{Registers}
use Rattle.eg_word.specs.declared.registers.State.{State}
use Rattle.eg_word.specs.declared.registers.State.TheVariants.{Running, Waiting, Trapped}
use Rattle.eg_word.specs.Machine.{step_in, step}
use Rattle.eg_word.specs.Memory.{load_from, put, registers_after, words_after, is_level1_own}
use Rattle.eg_word.specs.World.{World, View, Shows, sight_in, sight, after_store_in, after_store, after_step, new_registers, new_world, world_of, world_step}
use Rattle.eg_word.proofs.MachineLemmas.{IsAllowed, step-allowed}

-- ---- what level 1 sees ----

-- a word of a range stands so far from where the range begins
range-index : (words : List ℕ) (first last address : ℕ) → first ≤ address → address < last
    → slice_index (slice_range words first last) (address - first) ≡ slice_index words address
range-index words first last address from to =
    let place : first + (address - first) ≡ address = omega arith in
    get_or-take (last - first) _ (address - first) 0 (omega arith) ∙ get_or-drop first words (address - first) 0 ∙ ap (slice_index words) place

-- a word that is shown from an address on
shown-index : (words shown : List ℕ) (first count address : ℕ) → first ≤ address → address < first + count
    → ((k : ℕ) → k < count → slice_index words (first + k) ≡ slice_index shown k)
    → slice_index shown (address - first) ≡ slice_index words address
shown-index words shown first count address from to is =
    let place : first + (address - first) ≡ address = omega arith in
    sym (is (address - first) (omega arith)) ∙ ap (slice_index words) place

-- an output is the word that the world has
output-index : (words : List ℕ) (address : ℕ) → (address ≡ 2064) ⊎ (address ≡ 2065)
    → (if address == 2064 then slice_index words 2064 else slice_index words 2065) ≡ slice_index words address
output-index words address (inl is) = rw is refl
output-index words address (inr is) = rw is refl

-- what level 1 sees in its world is what it may load
seen_in-loaded : (region : Region) (view : View) (words : List ℕ) (m : Registers) (address : ℕ) → Shows words view
    → region_of address ≡ region
    → sight_in region view (world_of m words) address ≡ (if (allows region Level1).load then Some (slice_index words address) else None)
unfolding sight_in world_of allows
seen_in-loaded Code view words m address shows is = ap Some (sym (shows.image address (code-span address is)))
seen_in-loaded Data view words m address shows is =
    let span : _ = data-span address is in ap Some (range-index words 1024 2048 address span.0 span.1)
seen_in-loaded InPorts view words m address shows is =
    let span : _ = in_ports-span address is in ap Some (shown-index words view.ports 2048 10 address span.0 span.1 shows.ports)
seen_in-loaded OutPorts view words m address shows is = ap Some (output-index words address (out_ports-span address is))
seen_in-loaded Results view words m address shows is =
    let span : _ = results-span address is in ap Some (shown-index words view.results 2080 5 address span.0 span.1 shows.results)
seen_in-loaded Protected view words m address shows is = refl
seen_in-loaded Link view words m address shows is = refl
seen_in-loaded NoRegion view words m address shows is = refl

seen-loaded : (view : View) (words : List ℕ) (m : Registers) → Shows words view → sight view (world_of m words) ≡ load_from words
unfolding sight load_from access
seen-loaded view words m shows = fun_ext (λ address. seen_in-loaded (region_of address) view words m address shows refl)

-- ---- what level 1 stores ----

-- a store into a range is a store into the list of it
range-set : (words : List ℕ) (first last address word : ℕ) → first ≤ address → address < last
    → slice_range (slice_set words address word) first last ≡ slice_set (slice_range words first last) (address - first) word
range-set words first last address word from to =
    let place : address ≡ first + (address - first) = omega arith in
    ap (λ a. slice_range (slice_set words a word) first last) place
    ∙ ap (take (last - first)) (drop-set-add first words (address - first) word)
    ∙ take-set-lt (last - first) (drop first words) (address - first) word (omega arith)

-- a store past a range leaves it
range-set_past : (words : List ℕ) (first last address word : ℕ) → first ≤ last → last ≤ address
    → slice_range (slice_set words address word) first last ≡ slice_range words first last
range-set_past words first last address word order past =
    let place : address ≡ first + (address - first) = omega arith in
    ap (λ a. slice_range (slice_set words a word) first last) place
    ∙ ap (take (last - first)) (drop-set-add first words (address - first) word)
    ∙ take-set-le (last - first) (drop first words) (address - first) word (omega arith)

-- a world by its parts
abbrev world : Registers → List ℕ → ℕ → ℕ → World
world m words throttle ignition = record { registers = m; words = words; throttle = throttle; ignition = ignition }

world-ap : (m : Registers) (a b : List ℕ) (t u i j : ℕ) → a ≡ b → t ≡ u → i ≡ j → world m a t i ≡ world m b u j
world-ap m a b t u i j words throttle ignition = cc

-- the world in the words after a store that is allowed
stored-world : (region : Region) (words : List ℕ) (address word : ℕ) (m now : Registers) → length words ≡ 4096
    → region_of address ≡ region → (allows region Level1).store ≡ true
    → world_of now (slice_set words address word) ≡ record (after_store_in region (world_of m words) address word) { registers = now }
unfolding world_of after_store_in allows
stored-world Code words address word m now count is may = cc
stored-world Data words address word m now count is may =
    let span : _ = data-span address is in
    world-ap now _ _ _ _ _ _ (range-set words 1024 2048 address word span.0 span.1)
    (get_or-set_other words address 2064 word 0 (λ same. omega arith))
    (get_or-set_other words address 2065 word 0 (λ same. omega arith))
stored-world InPorts words address word m now count is may = cc
stored-world OutPorts words address word m now count is may =
    elim (out_ports-span address is) [
      | inl first ↦ rw first (world-ap now _ _ _ _ _ _ (range-set_past words 1024 2048 2064 word (omega arith) (omega arith))
          (get_or-set_same words 2064 word 0 (omega (arith, count)))
          (get_or-set_other words 2064 2065 word 0 (λ same. omega arith)))
      | inr second ↦ rw second (world-ap now _ _ _ _ _ _ (range-set_past words 1024 2048 2065 word (omega arith) (omega arith))
          (get_or-set_other words 2065 2064 word 0 (λ same. omega arith))
          (get_or-set_same words 2065 word 0 (omega (arith, count))))
    ]
stored-world Results words address word m now count is may = cc
stored-world Protected words address word m now count is may = cc
stored-world Link words address word m now count is may = cc
stored-world NoRegion words address word m now count is may = cc

-- the world in the words that a step leaves
put-world : (words : List ℕ) (m now : Registers) (stored : Option (ℕ × ℕ)) → length words ≡ 4096 → IsAllowed stored
    → world_of now (put words stored) ≡ after_step (world_of m words) (record { registers = now; stored = stored })
unfolding after_step after_store access world_of
put-world words m now None count may = refl
put-world words m now (Some stored) count may =
    stored-world (region_of stored.0) words stored.0 stored.1 m now count refl may

-- ---- one step ----

-- a step over a memory that shows a view is a step of the world with that view
pub step-world : (view : View) (words : List ℕ) (m : Registers) → Shows words view
    → world_of (registers_after words m) (words_after words m) ≡ world_step view (world_of m words)
unfolding world_step world_of
step-world view words m shows =
    put-world words m _ _ shows.are_words.count (step-allowed (load_from words) m)
    ∙ ap (λ sees. after_step (world_of m words) (step sees m)) (sym (seen-loaded view words m shows))

-- ---- what is kept of a view, and of a world ----

-- a memory shows what it showed where the words outside level 1's own regions stay
pub shows-outside : (view : View) (old new : List ℕ) → SameOutside is_level1_own old new → AreWords new → Shows old view → Shows new view
unfolding is_level1_own
shows-outside view old new same are shows = record {
  are_words = are;
  image = λ k within. same k (ap is_level1_own (code-is k within)) ∙ shows.image k within;
  ports = λ k within. same (2048 + k) (ap is_level1_own (in_ports-is (2048 + k) (omega arith) (omega arith))) ∙ shows.ports k within;
  results = λ k within. same (2080 + k) (ap is_level1_own (results-is (2080 + k) (omega arith) (omega arith))) ∙ shows.results k within;
}

idle_in : (state : State) (view : View) (world : World) → world.registers.state ≡ state → (state ≡ Running → ⊥)
    → after_step world (step_in state (sight view world) world.registers) ≡ world
unfolding after_step after_store step_in
idle_in Running view world is idle = absurd (idle refl)
idle_in Waiting view world is idle = refl
idle_in (Trapped trap) view world is idle = refl

-- a world whose machine doesn't run stays as it is
pub world_step-idle : (view : View) (world : World) → (world.registers.state ≡ Running → ⊥) → world_step view world ≡ world
unfolding world_step
world_step-idle view world idle = idle_in world.registers.state view world refl idle

-- ---- level 1's world as others store ----

-- the world is the same in words that are the same in level 1's own regions
pub world_of-elsewhere : (m : Registers) (old new : List ℕ) → AreWords old → AreWords new
    → ((address : ℕ) → is_level1_own (region_of address) ≡ true → slice_index new address ≡ slice_index old address)
    → world_of m new ≡ world_of m old
unfolding world_of is_level1_own
world_of-elsewhere m old new were are same =
    world-ap m _ _ _ _ _ _ (same_number_lists _ _ (long new are ∙ sym (long old were)) inside)
    (same 2064 (ap is_level1_own (out_ports-is 2064 (inl refl)))) (same 2065 (ap is_level1_own (out_ports-is 2065 (inr refl))))
  where
    long : (words : List ℕ) → AreWords words → length (slice_range words 1024 2048) ≡ 1024
    long words all = simp (length-take, length-drop) (omega (arith, all.count))

    inside : (k : ℕ) → k < length (slice_range new 1024 2048) → slice_index (slice_range new 1024 2048) k ≡ slice_index (slice_range old 1024 2048) k
    inside k within =
        let below : k < 1024 = omega (arith, long new are) in
        get_or-take 1024 _ k 0 below ∙ get_or-drop 1024 new k 0
        ∙ same (1024 + k) (ap is_level1_own (data-is (1024 + k) (omega arith) (omega arith)))
        ∙ sym (get_or-take 1024 _ k 0 below ∙ get_or-drop 1024 old k 0)

-- level 1's world in a new memory, with a new machine, is the world at its start
pub world_of-new : world_of new_registers (replicate 4096 0) ≡ new_world
unfolding world_of new_world
world_of-new = refl
