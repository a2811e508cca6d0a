use Rattle.std.proofs.Common.{◌∙◌, ap}
use Rattle.std.proofs.lemmas.Result.{on_ok_weaker}
use Rattle.eg_level2.specs.Words.{in_order, start, named}
use Rattle.eg_level2.specs.Order.{reset_stores}
use Rattle.eg_level2.proofs.OrderLemmas.{reset-make}
use Rattle.eg_level2.proofs.StepLemmas.{start-within}
use Rattle.eg_level2.proofs.level2.Level2.reset.Goals as goal

pub returns-clause-words : goal.returns-clause-words
unfolding in_order start reset_stores
returns-clause-words g c = on_ok_weaker c.keep_all.result (λ e. ap named e ∙ reset-make _) c.keep_all.ensures.makes.stored

pub returns-clause-within : goal.returns-clause-within
returns-clause-within g c = on_ok_weaker c.keep_all.result (λ e. start-within c.args.self.now.rules _ e) (returns-clause-words g c)

pub returns-clause-stopped : goal.returns-clause-stopped
unfolding in_order start reset_stores
returns-clause-stopped g c = c.keep_all.ensures.makes.stopped
