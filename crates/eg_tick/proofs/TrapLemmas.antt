-- Once it is trapped level 1 changes nothing any more.
use Rattle.std.proofs.Common.{◌≡◌, ◌∙◌, refl, sym, ap, ℕ, zero, suc, ◌+◌, Bool, true, false, List, [], ◌∷◌, length}
use Rattle.std.specs.Prelude.{if◌then◌else◌}
use Rattle.eg_word.specs.declared.registers.Trap.{Trap}
use Rattle.eg_word.specs.declared.registers.State.{State}
use Rattle.eg_word.specs.declared.registers.State.TheVariants.{Running, Waiting, Trapped}
use Rattle.eg_word.specs.Machine.{step_in}
use Rattle.eg_word.specs.World.{View, World, world_step, after_step, after_store, sight}
use Rattle.eg_host.specs.Slices.{wake, steps, slice_start, world_slice, slices_from}
use Rattle.eg_fault.specs.Faults.{effects}
use Rattle.eg_model.specs.History.{Setting, Entry}
use Rattle.eg_model.specs.Level1.{last_world, world_at}
use Rattle.eg_model.specs.Spans.{kind_at, before_at, moment_at, next_after, moments, next}
use Rattle.eg_record.specs.declared.row.Row.{Row}
use Rattle.eg_model.specs.Rows.{row_of}
use Rattle.eg_tick.specs.Advancing.{world_before, IsTrapped, HoldsOutputs}
use Rattle.eg_model.proofs.TickLemmas.{fields_in}

-- ---- a world that is trapped ----

no_step : (view : View) (world : World) (state : State) (kind : Trap) → world.registers.state ≡ state → state ≡ Trapped kind → world_step view world ≡ world
unfolding world_step after_step after_store step_in
no_step view world (Trapped other) kind is same = ap (λ s. after_step world (step_in s (sight view world) world.registers)) is
no_step view world Running kind is same = absurd cc
no_step view world Waiting kind is same = absurd cc

no_steps : (count : ℕ) (view : View) (world : World) → IsTrapped world → steps count view world ≡ world
unfolding steps
no_steps zero view world trapped = refl
no_steps (suc count) view world trapped =
    ap (steps count view) (no_step view world (Trapped trapped.kind) trapped.kind trapped.is refl) ∙ no_steps count view world trapped

no_slice : (view : View) (budget : ℕ) (world : World) → IsTrapped world → world_slice view budget world ≡ world
unfolding wake
no_slice view budget world trapped =
    let woken : record world { registers = slice_start world.registers } ≡ world =
    ap (λ state. record world { registers = record world.registers { state = state } }) (ap wake trapped.is ∙ sym trapped.is) in
    ap (steps budget view) woken ∙ no_steps budget view world trapped

no_slices : (j : ℕ) (view : ℕ → View) (budgets : List ℕ) (world : World) → IsTrapped world → slices_from j view budgets world ≡ world
unfolding slices_from
no_slices j view [] world trapped = refl
no_slices j view (budget ∷ budgets) world trapped =
    ap (slices_from (j + 1) view budgets) (no_slice (view j) budget world trapped) ∙ no_slices (j + 1) view budgets world trapped

if-same : (runs : Bool) (made world : World) → made ≡ world → (if runs then made else world) ≡ world
if-same true made world same = same
if-same false made world same = refl

-- ---- a run ----

-- where the world is trapped as the next tick begins, that tick leaves it so, and the outputs of its row hold
module _ (s : Setting) (e : Entry) (h : List Entry) where
  world-holds : IsTrapped (world_before s e.drive h) → (next s e h).world ≡ world_before s e.drive h
  unfolding world_before next next_after moment_at world_at
  world-holds trapped = (fields_in (kind_at e.drive (moments s h)) s (effects s.fault (length (moments s h))) e (before_at e.drive (moments s h))).world
      ∙ if-same (effects s.fault (length (moments s h))).level1 _ _ (no_slices 0 _ e.slices (last_world (before_at e.drive (moments s h))) trapped)

  pub outputs-hold : (row : Row) → IsTrapped (world_before s e.drive h) → row ≡ row_of (length h) (next s e h) →
      HoldsOutputs (world_before s e.drive h) row
  unfolding row_of
  outputs-hold row trapped is =
      let holds = world-holds trapped in
      record {
        throttle = ap (λ (r : Row). r.throttle) is ∙ ap (λ (world : World). world.throttle) holds;
        ignition = ap (λ (r : Row). r.ignition) is ∙ ap (λ (world : World). world.ignition) holds;
      }
