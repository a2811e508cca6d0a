use Rattle.std.proofs.Common.{◌≡◌, ◌∙◌, sym, ap, ap₂, subst, not, ◌||◌, ◌&&◌, true, false, List}
use Rattle.eg_fault.specs.Faults.{effects}
use Rattle.eg_model.specs.History.{Setting, Entry}
use Rattle.eg_tick.specs.Kept.{Kept}
use Rattle.eg_tick.specs.Stands.{Stands}
use Rattle.eg_tick.proofs.CommandLemmas.{goes-commands, begun-commands}
use Rattle.eg_tick.proofs.controller.Controller.commands.Given.{Over}
use Rattle.eg_tick.proofs.controller.Controller.commands.Goals.{then-resets-via-then-resets, then-resets-via-else-resets+then-self}
use Rattle.eg_tick.proofs.controller.Controller.commands.Goals as goal

-- ---- the span goes on ----

-- what the controller keeps
abbrev kept : (g : Over) → goal.After-held g → Kept
kept g c = record {
  cal = c.self.inside.calibration;
  fault = c.self.inside.fault;
  ticks = c.self.inside.ticks;
  span = c.self.inside.span;
  memory = g.M.Guarded.shows c.self.inside.memory;
  registers = c.self.inside.level1.registers;
  trap = c.self.inside.trap;
  kt = g.E.Engine.kt c.self.inside.engine;
  shown = g.E.Engine.shows c.self.inside.engine;
  lost = c.self.inside.lost;
}

was : (g : Over) (c : goal.After-held g) (s : Setting) (h : List Entry) → Stands s c.args.self.now.kept h → Stands s (kept g c) h
was g c s h = subst (λ v. Stands s v h) (sym (ap (λ v. v.kept) c.self.view_is))

pub returns : goal.returns
returns g c s drive h is stands =
    let fault = c.as_ref-fault.ensures.value in
    let ticks = c.self.inside.ticks in
    (λ i. record {
      throttle = c.of-outputs.ensures.throttle i;
      ignition = c.of-outputs.ensures.ignition i;
      on = c.at.result.on;
      held = (c.held.ensures ∙ ap (λ f. (effects f ticks).held_plate) fault) i;
    })
    ∙ goes-commands s drive h (kept g c) (was g c s h stands) c.at.result
    (ap₂ (λ a b. a || b) (is ∙ c.if-resets.false) c.if-self.false)
    (c.at.ensures.path1 ∙ ap (λ f. (effects f ticks).conducts 1 c.self.inside.span.open1) fault)
    (c.at.ensures.path2 ∙ ap (λ f. (effects f ticks).conducts 2 c.self.inside.span.open2) fault)
    c.at.ensures.on

-- ---- a span begins ----

begins : (g : Over) (c : goal.After-first_commands g) → (c.args.resets || c.self.inside.span.passed) ≡ true
begins g c = elim c.then-resets.branch [
  | then-resets-via-then-resets w ↦ ap (λ b. b || c.self.inside.span.passed) w.if-resets.true
  | then-resets-via-else-resets+then-self w ↦ ap₂ (λ a b. a || b) w.if-resets.false w.if-self.true
]

pub returns-then-resets : goal.returns-then-resets
returns-then-resets g c s drive h is stands =
    let was = c.args.self.now.kept in
    let x = effects was.fault was.ticks in
    (λ i. record {
      throttle = c.first_commands.ensures.throttle i;
      ignition = c.first_commands.ensures.ignition i;
      on = (c.first_commands.ensures.on
          ∙ ap (λ b. not b && (x.conducts 1 false && x.conducts 2 false)) (sym is)) i;
      held = c.first_commands.ensures.held i;
    })
    ∙ begun-commands s drive h was stands
    (ap₂ (λ b v. b || v.kept.span.passed) is (sym c.self.view_is) ∙ begins g c)
