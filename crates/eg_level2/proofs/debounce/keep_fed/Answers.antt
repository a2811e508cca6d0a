use Rattle.eg_level2.proofs.DebounceLemmas.{stores_by}
use Rattle.eg_level2.proofs.MakesLemmas.{in_turn, early}
use Rattle.eg_level2.proofs.debounce.keep_fed.Goals as goal

pub returns-in_err-keep_where : goal.returns-in_err-keep_where
returns-in_err-keep_where g c = stores_by c.args.feeds.now c.args.token c.trips.ensures (early _ c.from_residual.result c.from_residual.ensures.0 c.in_err-keep_where.ensures)

pub returns-in_err-keep_where-2 : goal.returns-in_err-keep_where-2
returns-in_err-keep_where-2 g c = stores_by c.args.feeds.now c.args.token c.trips.ensures (in_turn c.in_ok-keep_where.ensures
    (early _ c.from_residual-in_err-keep_where-2.result c.from_residual-in_err-keep_where-2.ensures.0 c.in_err-keep_where-2.ensures))

pub returns-in_err-keep_counters : goal.returns-in_err-keep_counters
returns-in_err-keep_counters g c = stores_by c.args.feeds.now c.args.token c.trips.ensures (in_turn c.in_ok-keep_where.ensures (in_turn c.in_ok-keep_where-2.ensures
    (early _ c.from_residual-in_err-keep_counters.result c.from_residual-in_err-keep_counters.ensures.0 c.in_err-keep_counters.ensures)))

pub returns : goal.returns
returns g c = stores_by c.args.feeds.now c.args.token c.trips.ensures (in_turn c.in_ok-keep_where.ensures (in_turn c.in_ok-keep_where-2.ensures (in_turn c.in_ok-keep_counters.ensures c.keep.ensures)))
