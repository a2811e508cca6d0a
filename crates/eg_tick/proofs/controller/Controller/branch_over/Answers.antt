use Rattle.std.proofs.Common.{◌≡◌, ◌∙◌, true, false, sym, ap, ap₂, subst}
use Rattle.eg_answer.specs.Times.{test_ticks_of}
use Rattle.eg_values.specs.Calibration.{CalibrationParts}
use Rattle.eg_word.specs.Program.{IsProgramOf}
use Rattle.eg_level2.specs.Inputs.{IsLookup}
use Rattle.eg_model.specs.Branching.{BeginsFrom, under}
use Rattle.eg_tick.specs.Kept.{Kept}
use Rattle.eg_tick.specs.Stands.{Stands, IsController}
use Rattle.eg_host.specs.Level1.{Level1Parts}
use Rattle.eg_tick.proofs.BranchLemmas.{branch_of, branch_stands, branch_is}
use Rattle.eg_tick.proofs.controller.Controller.branch_over.Given.{Over}
use Rattle.eg_tick.proofs.controller.Controller.branch_over.Goals as goal

-- what the controller keeps, and what the branch does
abbrev old : (g : Over) → goal.After-result-2-1 g → Kept
old g c = record {
  cal = c.self.inside.calibration;
  fault = c.self.inside.fault;
  ticks = c.self.inside.ticks;
  span = c.self.inside.span;
  memory = g.M.Guarded.shows c.self.inside.memory;
  registers = c.self.inside.level1.registers;
  trap = c.self.inside.trap;
  kt = g.E.Engine.kt c.self.inside.engine;
  shown = g.E.Engine.shows c.self.inside.engine;
  lost = c.self.inside.lost;
}

abbrev new : (g : Over) → goal.After-result-2-1 g → Kept
new g c = record {
  cal = c.copy-calibration.result;
  fault = c.args.fault;
  ticks = c.self.inside.ticks;
  span = c.copy_of_span.result;
  memory = g.N.Guarded.shows c.args.memory;
  registers = c.copy-level1.result.registers;
  trap = c.self.inside.trap;
  kt = g.E.Engine.kt c.copy-engine.result;
  shown = g.E.Engine.shows c.copy-engine.result;
  lost = c.self.inside.lost;
}

-- it keeps the same but fault and memory
alike : (g : Over) (c : goal.After-result-2-1 g) → new g c ≡ branch_of (old g c) c.args.fault (g.N.Guarded.shows c.args.memory)
alike g c = λ i. record (old g c) {
  cal = c.copy-calibration.ensures i;
  fault = c.args.fault;
  span = c.copy_of_span.ensures i;
  memory = g.N.Guarded.shows c.args.memory;
  registers = ap (λ (l : Level1Parts). l.registers) c.copy-level1.ensures i;
  kt = ap g.E.Engine.kt c.copy-engine.ensures i;
  shown = ap g.E.Engine.shows c.copy-engine.ensures i;
}

was : (g : Over) (c : goal.After-result-2-1 g) → c.args.self.now.kept ≡ old g c
was g c = sym (ap (λ v. v.kept) c.self.view_is)

words : (g : Over) (c : goal.After-result-2-1 g) → (g.N.Guarded.shows c.args.memory).words ≡ (old g c).memory.words
words g c = c.requires.words ∙ ap (λ (k : Kept). k.memory.words) (was g c)

from : (g : Over) (c : goal.After-result-2-1 g) → BeginsFrom (old g c).ticks c.args.fault
from g c = subst (λ (k : Kept). BeginsFrom k.ticks c.args.fault) (was g c) c.requires.onset

pub invariant_of-result : goal.invariant_of-result
invariant_of-result g c = record {
  parts = c.new-level2.ensures.parts ∙ ap₂ (λ a b. record { rules = a; questions = b }) (c.copy.ensures ∙ c.rules.ensures.rules)
      (c.copy-2.ensures ∙ c.questions.ensures.questions);
  test_ticks_are = c.self.invariant.test_ticks_are ∙ ap (λ (cal : CalibrationParts). test_ticks_of cal.times) (sym c.copy-calibration.ensures);
  decoded = λ held. subst (λ w. IsProgramOf w c.copy-level1.result.program) (sym (words g c))
      (subst (λ (l : Level1Parts). IsProgramOf (g.M.Guarded.shows c.self.inside.memory).words l.program) (sym c.copy-level1.ensures)
      (c.self.invariant.decoded held));
  looked_up = subst (λ (cal : CalibrationParts). IsLookup cal.rules c.self.inside.lookup) (sym c.copy-calibration.ensures) c.self.invariant.looked_up;
  keeps = subst IsController (sym (alike g c)) (branch_is (old g c) c.args.fault _ (sym (ap (λ (k : Kept). k.fault) (was g c)) ∙ c.requires.none)
      c.requires.valid (from g c) (words g c) (subst (λ (k : Kept). k.lost ≡ true → (g.N.Guarded.shows c.args.memory).sure ≡ false) (was g c) c.requires.unsure)
      c.self.invariant.keeps);
}

pub returns-clause-stands : goal.returns-clause-stands
returns-clause-stands g c s h stands = subst (λ k. Stands (under c.args.fault s) k h) (sym (alike g c))
    (branch_stands s (old g c) c.args.fault _ h (sym (ap (λ (k : Kept). k.fault) (was g c)) ∙ c.requires.none) (from g c) (words g c)
    (subst (λ k. Stands s k h) (was g c) stands))
