use Rattle.std.proofs.lemmas.Result.{IfOk-from_err}
use Rattle.eg_level2.specs.Order.{given_up_stores}
use Rattle.eg_level2.proofs.ModuleLemmas.{gave_up}
use Rattle.eg_level2.proofs.MakesLemmas.{in_turn, early}
use Rattle.eg_level2.proofs.check.give_up.Goals as goal

pub returns-in_err-keep-clause-makes : goal.returns-in_err-keep-clause-makes
unfolding given_up_stores
returns-in_err-keep-clause-makes g c = early _ c.from_residual.result c.from_residual.ensures.0 c.in_err-keep.ensures

pub returns-in_err-keep-clause-mirrored : goal.returns-in_err-keep-clause-mirrored
returns-in_err-keep-clause-mirrored g c = IfOk-from_err c.from_residual.result _ c.from_residual.ensures.0

pub returns-clause-makes : goal.returns-clause-makes
returns-clause-makes g c = gave_up c.args.tick c.given_up_words.ensures (in_turn c.in_ok-keep.ensures c.keep_all.ensures.makes)

pub returns-clause-mirrored : goal.returns-clause-mirrored
returns-clause-mirrored g c = c.keep_all.ensures.mirrored
