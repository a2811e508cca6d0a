use Rattle.eg_level2.specs.Inner.Stores.{counting}
use Rattle.eg_level2.proofs.MakesLemmas.{in_turn, early}
use Rattle.eg_level2.proofs.debounce.keep_counters.Goals as goal

pub returns-in_err-keep : goal.returns-in_err-keep
unfolding counting
returns-in_err-keep g c = early _ c.from_residual.result c.from_residual.ensures.0 c.in_err-keep.ensures

pub returns-in_err-keep-2 : goal.returns-in_err-keep-2
unfolding counting
returns-in_err-keep-2 g c = in_turn c.in_ok-keep.ensures (early _ c.from_residual-in_err-keep-2.result c.from_residual-in_err-keep-2.ensures.0 c.in_err-keep-2.ensures)

pub returns-in_err-keep-3 : goal.returns-in_err-keep-3
unfolding counting
returns-in_err-keep-3 g c = in_turn c.in_ok-keep.ensures (in_turn c.in_ok-keep-2.ensures
    (early _ c.from_residual-in_err-keep-3.result c.from_residual-in_err-keep-3.ensures.0 c.in_err-keep-3.ensures))

pub returns-in_err-keep-4 : goal.returns-in_err-keep-4
unfolding counting
returns-in_err-keep-4 g c = in_turn c.in_ok-keep.ensures (in_turn c.in_ok-keep-2.ensures (in_turn c.in_ok-keep-3.ensures
    (early _ c.from_residual-in_err-keep-4.result c.from_residual-in_err-keep-4.ensures.0 c.in_err-keep-4.ensures)))

pub returns : goal.returns
unfolding counting
returns g c = in_turn c.in_ok-keep.ensures (in_turn c.in_ok-keep-2.ensures (in_turn c.in_ok-keep-3.ensures (in_turn c.in_ok-keep-4.ensures c.keep-5.ensures)))
