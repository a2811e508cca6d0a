use Rattle.std.proofs.Common.{ap, arith, ◌∷◌, ◌∙◌, nat_eq}
use Rattle.std.proofs.lemmas.Grind.{common_steps}
use Rattle.eg_num.specs.Counting.{fed}
use Rattle.eg_num.proofs.CounterLemmas.{StandsFor-cons, StandsFor-confirmed}
use Rattle.eg_num.proofs.counter.Counter.feed.Goals as goal

pub returns-clause-value : goal.returns-clause-value
unfolding fed
returns-clause-value c = grind (arith, common_steps)

pub returns-clause-windows : goal.returns-clause-windows
returns-clause-windows c = λ bits stands.
    returns-clause-value c ∙ StandsFor-cons c.args.weights.now c.args.self.now.value c.args.bad bits c.limit-limit.ensures.weights.3 stands

pub returns-clause-confirmed : goal.returns-clause-confirmed
returns-clause-confirmed c = λ bits stands.
    ap (nat_eq c.if-self-limit.self.value) c.limit-limit.ensures.limit
    ∙ StandsFor-confirmed c.args.weights.now c.if-self-limit.self.value (c.args.bad ∷ bits) c.limit-limit.ensures.weights.3 (returns-clause-windows c bits stands)
