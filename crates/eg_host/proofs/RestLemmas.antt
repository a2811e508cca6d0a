-- When a machine is at rest, and what a call for a slice of it keeps.
use Rattle.std.proofs.Common.{◌≡◌, ◌∙◌, refl, sym, ap, ℕ, suc, ◌+◌, ◌-◌, ◌<◌, List, arith}
use Rattle.std.specs.Prelude.{Ok, Some}
use Rattle.eg_guard.specs.Memory.{ShownMemory}
use Rattle.eg_word.specs.declared.instruction.Instruction.{Instruction}
use Rattle.eg_word.specs.declared.registers.State.TheVariants.{Running, Waiting, Trapped}
use Rattle.eg_word.specs.declared.registers.Registers.{Registers}
use Rattle.eg_word.specs.Alone.{alone}
use Rattle.eg_word.specs.Program.{IsProgramOf}
use Rattle.eg_word.specs.World.{View, World, world_of, world_step}
use Rattle.eg_word.proofs.AloneLemmas.{world-alone}
use Rattle.eg_word.proofs.ProgramLemmas.{program-stays}
use Rattle.eg_host.specs.Slices.{wake, slice_start, steps, IsSlice}
use Rattle.eg_host.specs.Level1.{RestsBeyond}
use Rattle.eg_host.proofs.RunLemmas.{steps-suc, steps-add, steps-idle}

-- from a woken machine so many steps over the program alone have led to this one, which runs
pub record HasLed (count : ℕ) (program : List Instruction) (m now : Registers) : Type 0 where
  pub running : now.state ≡ Running
  pub led : (view : View) (world : World) → IsProgramOf view.image program → world.registers ≡ m
      → steps count view (record world { registers = slice_start m }) ≡ record world { registers = now }

pub led-begin : (program : List Instruction) (m : Registers) → m.state ≡ Waiting → HasLed 0 program m (record m { state = Running })
unfolding steps wake
led-begin program m waits = record {
  running = refl;
  led = λ view world of same. ap (λ state. record world { registers = record m { state = wake state } }) waits;
}

-- the step that the program makes alone leads on
led-on : (count : ℕ) (program : List Instruction) (m now next : Registers) → HasLed count program m now → alone program now ≡ Some next
    → (view : View) (world : World) → IsProgramOf view.image program → world.registers ≡ m
    → steps (suc count) view (record world { registers = slice_start m }) ≡ record world { registers = next }
led-on count program m now next so_far made view world of same =
    steps-suc count view _ ∙ ap (world_step view) (so_far.led view world of same)
    ∙ world-alone view (record world { registers = now }) program next of so_far.running made

pub led-more : (count : ℕ) (program : List Instruction) (m now next : Registers) → HasLed count program m now → alone program now ≡ Some next
    → next.state ≡ Running → HasLed (count + 1) program m next
led-more count program m now next so_far made running = record {
  running = running;
  led = λ view world of same.
      let one_more : count + 1 ≡ suc count = omega arith in
      ap (λ n. steps n view (record world { registers = slice_start m })) one_more ∙ led-on count program m now next so_far made view world of same;
}

-- a machine that waits again as it waited before is at rest
pub led-back : (count : ℕ) (program : List Instruction) (m now next : Registers) → HasLed count program m now → alone program now ≡ Some next
    → next ≡ m → m.state ≡ Waiting → RestsBeyond count program m
led-back count program m now next so_far made back waits view world budget of same beyond within =
    let all : budget ≡ suc count + (budget - suc count) = omega arith in
    let idle : world.registers.state ≡ Running → ⊥ = λ runs. cc in
    ap (λ r. steps budget view (record world { registers = slice_start r })) same
    ∙ ap (λ n. steps n view (record world { registers = slice_start m })) all
    ∙ steps-add (suc count) (budget - suc count) view _
    ∙ ap (steps (budget - suc count) view) (led-on count program m now next so_far made view world of same
    ∙ ap (λ r. record world { registers = r }) (back ∙ sym same))
    ∙ steps-idle (budget - suc count) view world idle

-- a machine that was trapped is at rest
pub rest-trapped : (program : List Instruction) (m : Registers) (trap : _) → m.state ≡ Trapped trap → RestsBeyond 0 program m
unfolding wake
rest-trapped program m trap is view world budget of same beyond within =
    let idle : world.registers.state ≡ Running → ⊥ = λ runs. cc in
    ap (λ state. steps budget view (record world { registers = record world.registers { state = wake state } })) (ap (λ r. r.state) same ∙ is)
    ∙ ap (λ state. steps budget view (record world { registers = record world.registers { state = state } })) (sym (ap (λ r. r.state) same ∙ is))
    ∙ steps-idle budget view world idle

-- a call that leaves everything is a slice of a machine at rest
pub rest-slice : {T E : Type 0} (done : T) (count budget : ℕ) (program : List Instruction) (m : Registers) (old : ShownMemory)
    → RestsBeyond count program m → IsProgramOf old.words program → count < budget → budget < 65536
    → IsSlice {T = T} {E = E} budget m m old old (Ok done)
unfolding world_of
rest-slice done count budget program m old rests of beyond within = record {
  world = λ view shows. sym (rests view (world_of m old.words) budget
      (program-stays old.words view.image program (λ k inside. sym (shows.image k inside)) of) refl beyond within);
  ended = λ view shows. tt;
  keeps = record { sure = λ told. refl; stays_sure = refl; are_words = λ are. are };
  outside = λ address elsewhere. refl;
  trapped = λ trap is. refl;
  trapped_words = λ trap is. refl;
}
