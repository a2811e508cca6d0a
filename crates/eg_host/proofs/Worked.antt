-- Images that were worked by hand, against the definitions: what slices make of level 1's private world.
use Rattle.std.proofs.Common.{◌≡◌, ◌∙◌, refl, sym, ap, ℕ, ◌<◌, List, [], ◌∷◌, replicate, arith}
use Rattle.std.specs.Prelude.{Some}
use Rattle.eg_guard.specs.Regions.{region_of, allows, access}
use Rattle.eg_word.specs.declared.images.TheConstants.{FULL}
use Rattle.eg_word.specs.declared.registers.Trap.TheVariants.{Fetch, Store, Illegal}
use Rattle.eg_word.specs.declared.registers.State.{State}
use Rattle.eg_word.specs.declared.registers.State.TheVariants.{Running, Waiting, Trapped}
use Rattle.eg_word.specs.declared.registers.Registers.{Registers}
use Rattle.eg_word.specs.declared.instruction.Instruction.{Instruction}
use Rattle.eg_word.specs.declared.instruction.Instruction.TheVariants.{Nop}
use Rattle.eg_word.specs.Instructions.{signed, instruction_with}
use Rattle.eg_word.specs.Machine.{reg, next, beyond, load_into, store_at, effect, step_in}
use Rattle.eg_word.specs.World.{View, World, new_registers, new_world, sight_in, sight, after_store_in, after_store, after_step, world_step}
use Rattle.eg_word.specs.Alone.{needs_memory, instruction_at, after_alone, alone}
use Rattle.eg_word.specs.Program.{IsProgramOf}
use Rattle.eg_host.specs.Slices.{wake, steps, world_slice}
use Rattle.eg_host.specs.Level1.{RestsBeyond}
use Rattle.eg_host.proofs.RestLemmas.{led-begin, led-more, led-back}

-- an image, the first pedal's reading, and level 2's actual torque; all else that is shown is 0
abbrev sees : List ℕ → ℕ → ℕ → View
sees image pedal actual = record { image = image; ports = pedal ∷ replicate 9 0; results = 0 ∷ 0 ∷ actual ∷ 0 ∷ 0 ∷ [] }

-- a machine whose registers 0 and from 6 on are 0
abbrev machine : (r1 r2 r3 r4 r5 pc : ℕ) → State → Registers
machine r1 r2 r3 r4 r5 pc state = record { r = 0 ∷ r1 ∷ r2 ∷ r3 ∷ r4 ∷ r5 ∷ 0 ∷ 0 ∷ []; pc = pc; state = state }

-- a world at its start, but for its machine and its outputs
abbrev leaves : Registers → ℕ → ℕ → World
leaves m throttle ignition = record new_world { registers = m; throttle = throttle; ignition = ignition }

-- a slice, with all that it is made of opened
unfoldable slice : View → ℕ → World → World
unfolding new_world new_registers steps wake world_step sight sight_in after_step after_store after_store_in step_in effect store_at load_into reg next beyond
    instruction_with signed allows access region_of
slice view budget world = world_slice view budget world

-- a store to the first word of level 2's results stops level 1
store-to_results : slice (sees (0x1210 ∷ 0x2220 ∷ 0xc240 ∷ []) 0 0) 10 new_world
    ≡ leaves (machine 2080 0 0 0 0 2 (Trapped Store)) 0 0
unfolding slice
store-to_results = refl

-- a word that is no instruction stops level 1
no-instruction : slice (sees (0x1205 ∷ 0xf002 ∷ []) 0 0) 10 new_world ≡ leaves (machine 5 0 0 0 0 1 (Trapped Illegal)) 0 0
unfolding slice
no-instruction = refl

-- `FULL` sets both outputs to 1000, and waits
full-waits : slice (sees FULL 0 0) 10 new_world ≡ leaves (machine 2064 1000 0 0 0 7 Waiting) 1000 1000
unfolding slice
full-waits = refl

-- a budget of 6 cuts it short before it waits, and one of 0 wakes a machine that waits
full-cut : slice (sees FULL 0 0) 6 new_world ≡ leaves (machine 2064 1000 0 0 0 6 Running) 1000 1000
unfolding slice
full-cut = refl

full-wakes : slice (sees FULL 0 0) 0 (slice (sees FULL 0 0) 10 new_world) ≡ leaves (machine 2064 1000 0 0 0 7 Running) 1000 1000
unfolding slice
full-wakes = refl

-- `follow` sets the throttle to half of the first pedal's reading
follow-halves : slice (sees (0x1210 ∷ 0x2200 ∷ 0x1407 ∷ 0x2468 ∷ 0xb640 ∷ 0x96c1 ∷ 0xc650 ∷ 0xc451 ∷ 0xf000 ∷ 0xd1fa ∷ []) 601 0) 10 new_world
    ≡ leaves (machine 2048 1000 300 0 0 9 Waiting) 300 1000
unfolding slice
follow-halves = refl

-- `probe` reads level 2's actual torque in two slices, and sets the throttle to what it rose
abbrev probe : List ℕ
probe = 0x1210 ∷ 0x2220 ∷ 0x1a10 ∷ 0x2a10 ∷ 0xb442 ∷ 0xf000 ∷ 0xb642 ∷ 0x58d0 ∷ 0xc940 ∷ 0xf000 ∷ 0xd1f9 ∷ []

probe-tells : slice (sees probe 0 200) 10 (slice (sees probe 0 100) 10 new_world)
    ≡ leaves (machine 2080 100 200 100 2064 10 Waiting) 100 0
unfolding slice
probe-tells = refl

-- an empty image is 1,024 words that do nothing, and then there is no code
empty-ends : slice (sees [] 0 0) 1025 new_world ≡ leaves (machine 0 0 0 0 0 1024 (Trapped Fetch)) 0 0
unfolding slice
empty-ends = refl

-- ---- rest ----

-- `FULL` is at rest as it waits: two steps lead it back, so that a slice of more than one step changes nothing
module _ (program : List Instruction) (of : IsProgramOf FULL program) where
  full-jumps : alone program (machine 2064 1000 0 0 0 7 Running) ≡ Some (machine 2064 1000 0 0 0 6 Running)
  unfolding instruction_at after_alone needs_memory effect reg next beyond instruction_with signed
  full-jumps = ap (λ it. after_alone (machine 2064 1000 0 0 0 7 Running) (Some it)) (of.each 7 Nop (omega arith))

  full-waits_again : alone program (machine 2064 1000 0 0 0 6 Running) ≡ Some (machine 2064 1000 0 0 0 7 Waiting)
  unfolding instruction_at after_alone needs_memory effect reg next beyond instruction_with signed
  full-waits_again = ap (λ it. after_alone (machine 2064 1000 0 0 0 6 Running) (Some it)) (of.each 6 Nop (omega arith))

  full-rests : RestsBeyond 1 program (machine 2064 1000 0 0 0 7 Waiting)
  full-rests =
      led-back 1 program _ _ _ (led-more 0 program (machine 2064 1000 0 0 0 7 Waiting) _ _ (led-begin program _ refl) full-jumps refl)
      full-waits_again refl refl

-- as `FULL`, but each slice stores both outputs again
abbrev again : List ℕ
again = 0x1210 ∷ 0x2210 ∷ 0x1407 ∷ 0x2468 ∷ 0xc440 ∷ 0xc441 ∷ 0xf000 ∷ 0xd1fc ∷ []

again-stores : slice (sees again 0 0) 10 (leaves (machine 2064 1000 0 0 0 7 Waiting) 0 0)
    ≡ leaves (machine 2064 1000 0 0 0 7 Waiting) 1000 1000
unfolding slice
again-stores = refl

-- so it isn't at rest as it waits
again-stirs : (program : List Instruction) (steps : ℕ) → IsProgramOf again program → steps < 10
    → RestsBeyond steps program (machine 2064 1000 0 0 0 7 Waiting) → ⊥
unfolding slice
again-stirs program steps of within rests =
    let still : _ = rests (sees again 0 0) (leaves (machine 2064 1000 0 0 0 7 Waiting) 0 0) 10 of refl within (omega arith) in
    let same : 1000 ≡ 0 = ap (λ (w : World). w.throttle) (sym again-stores ∙ still) in
    omega (arith, same)
