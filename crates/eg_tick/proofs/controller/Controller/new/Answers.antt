use Rattle.std.proofs.Common.{◌≡◌, ◌∙◌, refl, sym, ap, ap₂, subst, [], true, false, None}
use Rattle.eg_guard.specs.Memory.{AreWords}
use Rattle.eg_guard.proofs.WordsLemmas.{zeros_are_words}
use Rattle.eg_answer.specs.declared.rules.Rules.{Rules}
use Rattle.eg_answer.specs.Times.{test_ticks_of}
use Rattle.eg_answer.specs.Periods.{period_of}
use Rattle.eg_level2.specs.Inputs.{IsLookup}
use Rattle.eg_level2.specs.Words.{start}
use Rattle.eg_turns.specs.Working.{Holds}
use Rattle.eg_word.specs.World.{new_world}
use Rattle.eg_module.specs.Monitoring.{MonitorParts, HasGiven}
use Rattle.eg_tick.specs.declared.span.Span.{Span}
use Rattle.eg_tick.specs.Kept.{Kept}
use Rattle.eg_tick.specs.Stands.{Stands}
use Rattle.eg_tick.proofs.StartLemmas.{new_stands}
use Rattle.eg_tick.proofs.controller.Controller.new.Given.{Over}
use Rattle.eg_tick.proofs.controller.Controller.new.Goals as goal

made_words : (g : Over) (c : goal.After-new-span g) → AreWords (g.M.Guarded.shows c.set_up.new.memory).words
made_words g c = c.set_up.ensures.keeps.are_words (subst AreWords (sym c.requires.zeros) zeros_are_words)

abbrev kept : (g : Over) → goal.After-new-span g → Kept
kept g c = record {
  cal = c.args.calibration;
  fault = c.args.fault;
  ticks = 0;
  span = c.new-span.result;
  memory = g.M.Guarded.shows c.set_up.new.memory;
  registers = c.new-level1.result.registers;
  trap = None;
  kt = g.E.Engine.kt c.args.engine;
  shown = g.E.Engine.shows c.args.engine;
  lost = false;
}

made : (g : Over) (c : goal.After-new-span g) → Stands (record { cal = c.args.calibration; image = c.args.image.now; fault = c.args.fault }) (kept g c) []
made g c =
    let span = c.new-span.ensures in
    let monitor : c.new-span.result.monitor ≡ c.new-monitor.result = ap (λ (p : Span). p.monitor) span in
    new_stands _ _ refl refl refl (made_words g c) (ap (λ (p : Span). p.tests) span) (ap (λ (p : Span). p.passed) span) (record {
      local = ap (λ (p : Span). p.local) span;
      limit = ap (λ (p : Span). p.limit) span;
      held = subst (λ m. Holds c.args.image.now start new_world m (g.M.Guarded.shows c.set_up.new.memory).words) (sym c.new-level1.ensures.registers) c.in_ok-set_up.ensures.holds;
      open1 = ap (λ (p : Span). p.open1) span;
      open2 = ap (λ (p : Span). p.open2) span;
      times = ap (λ (m : MonitorParts). m.times) (monitor ∙ c.new-monitor.ensures.begins) ∙ c.copy-3.ensures ∙ c.times-2.ensures.times;
      questions = ap (λ (m : MonitorParts). m.questions) (monitor ∙ c.new-monitor.ensures.begins) ∙ c.copy-4.ensures ∙ c.questions-2.ensures.questions;
      given = subst (λ m. HasGiven m []) (sym monitor) c.new-monitor.ensures.given;
      period = subst (λ (m : MonitorParts). m.verdicts ≡ period_of m.times 0) (sym monitor) c.new-monitor.ensures.next;
      heard = ap (λ (m : MonitorParts). m.heard) (monitor ∙ c.new-monitor.ensures.begins);
    }) c.requires.kt refl refl

pub invariant_of-result : goal.invariant_of-result
invariant_of-result g c = record {
  parts = c.new-level2.ensures.parts ∙ ap₂ (λ a b. record { rules = a; questions = b }) (c.copy.ensures ∙ c.rules.ensures.rules) (c.copy-2.ensures ∙ c.questions.ensures.questions);
  test_ticks_are = c.test_ticks-test_ticks.ensures.number ∙ ap test_ticks_of c.times.ensures.times;
  decoded = λ held. c.in_ok-set_up.ensures.program _ c.new-level1.ensures.program;
  looked_up = subst (λ (rules : Rules). IsLookup rules c.new-lookup.result) c.rules-2.ensures.rules c.new-lookup.ensures.lookup;
  keeps = record { accepted = c.rules.ensures.accepted; fault = c.requires.fault; stands = λ held. (c.args.image.now, [], made g c); unsure = λ gone. absurd (let clash : false ≡ true = gone in cc) };
}

pub returns-clause-stands : goal.returns-clause-stands
returns-clause-stands g c = made g c
