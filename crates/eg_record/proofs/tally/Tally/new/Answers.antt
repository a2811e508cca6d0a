use Rattle.std.proofs.Common.{◌∙◌, [], refl, ap, arith}
use Rattle.eg_record.specs.declared.facts.Facts.{Facts}
use Rattle.eg_record.specs.Tallies.{AreSpansOf}
use Rattle.eg_record.proofs.ReactionLemmas.{spans-none}
use Rattle.eg_record.proofs.TallyLemmas.{ticks_of, new_tally}
use Rattle.eg_record.proofs.tally.Tally.new.Goals as goal

-- nothing is kept of spans yet
none_kept : (c : goal.After-new-3) → AreSpansOf c.args.weights c.args.threshold c.new-3.result []
none_kept c = spans-none c.args.weights c.args.threshold c.new-3.result c.new-3.ensures.last_on c.new-3.ensures.confirmed c.new-3.ensures.ended

pub invariant_of-result : goal.invariant_of-result
invariant_of-result c = record {
  weights = c.limit-limit.ensures.weights;
  within = let zero = c.new-2.ensures in omega arith;
  few = omega arith;
  some = ([], new_tally c.args.weights c.args.threshold c.new-2.result.value 0 c.new.result c.new-3.result (c.new.ensures c.args.weights c.args.threshold) c.new-2.ensures refl (none_kept c));
}

pub returns-clause-ticks : goal.returns-clause-ticks
returns-clause-ticks c = ap (λ (f : Facts). f.ticks) (c.new.ensures c.args.weights c.args.threshold) ∙ ticks_of c.args.weights c.args.threshold []

pub returns-clause-stands : goal.returns-clause-stands
returns-clause-stands c = new_tally c.args.weights c.args.threshold c.new-2.result.value 0 c.new.result c.new-3.result (c.new.ensures c.args.weights c.args.threshold) c.new-2.ensures refl (none_kept c)
