use Rattle.std.proofs.Common.{subst, ◌<◌}
use Rattle.eg_tick.proofs.CountLemmas.{counts_none}
use Rattle.eg_campaign.proofs.counting.count_none.Goals as goal

pub returns : goal.returns
returns c = counts_none c.args.steps.now (subst (λ n. n < 18446744073709551616) c.count.ensures c.count.type_inv)
    (subst (λ n. n < 18446744073709551616) c.sum.ensures c.sum.type_inv)
