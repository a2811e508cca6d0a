use Rattle.std.proofs.Common.{◌≡◌, ◌∙◌, refl, sym, ap, subst, [], true, false, None}
use Rattle.std.proofs.lemmas.Bool.{false_from_ne_true}
use Rattle.eg_guard.specs.Memory.{AreWords}
use Rattle.eg_guard.proofs.WordsLemmas.{zeros_are_words}
use Rattle.eg_values.specs.Calibration.{CalibrationParts}
use Rattle.eg_word.specs.World.{new_world}
use Rattle.eg_level2.specs.Words.{start}
use Rattle.eg_turns.specs.Working.{Holds}
use Rattle.eg_tick.specs.declared.span.Span.{Span}
use Rattle.eg_tick.specs.Entering.{begun}
use Rattle.eg_tick.specs.Kept.{Kept}
use Rattle.eg_tick.specs.Stands.{Stands}
use Rattle.eg_tick.proofs.StartLemmas.{begun_new, new_stands}
use Rattle.eg_tick.proofs.controller.restarting.Controller+E+FlatMemory.restart.Given.{Over}
use Rattle.eg_tick.proofs.controller.restarting.Controller+E+FlatMemory.restart.Goals as goal

abbrev kept : (g : Over) → goal.After-self-3-1 g → Kept
kept g c = record {
  cal = c.self.inside.calibration;
  fault = c.args.fault;
  ticks = 0;
  span = c.start.new.self;
  memory = record { words = c.set_up.new.memory; sure = true };
  registers = c.reload.new.self.registers;
  trap = None;
  kt = g.E.Engine.kt c.args.engine;
  shown = g.E.Engine.shows c.args.engine;
  lost = false;
}

made : (g : Over) (c : goal.After-self-3-1 g) →
    Stands (record { cal = c.self.inside.calibration; image = c.args.image.now; fault = c.args.fault }) (kept g c) []
unfolding begun
made g c =
    let before = c.self.invariant.keeps in
    let was = before.stands (false_from_ne_true c.self.inside.lost (λ gone. let clash : true ≡ false = before.unsure gone in cc)) in
    let words : AreWords c.set_up.new.memory = c.set_up.ensures.keeps.are_words (subst AreWords (sym c.clear.ensures.words) zeros_are_words) in
    let begins = c.start.ensures.begun in
    new_stands _ _ refl refl refl words (ap (λ (p : Span). p.tests) begins) (ap (λ (p : Span). p.passed) begins)
    (begun_new _ false c.self.inside.span _ _ _ was.2.span.monitor.times was.2.span.monitor.questions
    (subst (λ m. Holds c.args.image.now start new_world m c.set_up.new.memory) (sym c.reload.ensures.registers) c.in-Ok.ensures.holds)
    begins c.start.ensures.given c.start.ensures.next) (c.requires.kt ∙ sym (ap (λ v. v.kept.cal.rules.kt) c.self.view_is)) refl refl

pub invariant_of-self : goal.invariant_of-self
invariant_of-self g c = record {
  parts = c.self.invariant.parts;
  test_ticks_are = c.self.invariant.test_ticks_are;
  decoded = λ held. c.in-Ok.ensures.program _ c.reload.ensures.program;
  looked_up = c.self.invariant.looked_up;
  keeps = record {
    accepted = c.self.invariant.keeps.accepted;
    fault = c.requires.fault;
    stands = λ held. (c.args.image.now, [], made g c);
    unsure = λ gone. absurd (let clash : false ≡ true = gone in cc);
  };
}

pub returns-clause-stands : goal.returns-clause-stands
returns-clause-stands g c = subst (λ (cal : CalibrationParts). Stands (record { cal = cal; image = c.args.image.now; fault = c.args.fault }) (kept g c) [])
    (ap (λ v. v.kept.cal) c.self.view_is) (made g c)
