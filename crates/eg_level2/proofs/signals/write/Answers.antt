use Rattle.std.proofs.Common.{◌-◌, ap}
use Rattle.eg_level2.proofs.ModuleLemmas.{signalling_makes}
use Rattle.eg_level2.proofs.MakesLemmas.{in_turn, early}
use Rattle.eg_level2.proofs.signals.write.Goals as goal

pub returns-in_err-keep : goal.returns-in_err-keep
returns-in_err-keep g c = signalling_makes c.args.number c.args.signal c.args.test c.args.disturbance
    (ap (λ n. n - 1) c.from.ensures) c.written-value.ensures c.is_set.ensures c.word.ensures
    c.next_token-token.ensures c.word-2.ensures c.signed-sign.ensures c.word-3.ensures
    (early _ c.from_residual.result c.from_residual.ensures.0 c.in_err-keep.ensures)

pub returns-in_err-keep-2 : goal.returns-in_err-keep-2
returns-in_err-keep-2 g c = signalling_makes c.args.number c.args.signal c.args.test c.args.disturbance
    (ap (λ n. n - 1) c.from.ensures) c.written-value.ensures c.is_set.ensures c.word.ensures
    c.next_token-token.ensures c.word-2.ensures c.signed-sign.ensures c.word-3.ensures
    (in_turn c.in_ok-keep.ensures
    (early _ c.from_residual-in_err-keep-2.result c.from_residual-in_err-keep-2.ensures.0 c.in_err-keep-2.ensures))

pub returns : goal.returns
returns g c = signalling_makes c.args.number c.args.signal c.args.test c.args.disturbance
    (ap (λ n. n - 1) c.from.ensures) c.written-value.ensures c.is_set.ensures c.word.ensures
    c.next_token-token.ensures c.word-2.ensures c.signed-sign.ensures c.word-3.ensures
    (in_turn c.in_ok-keep.ensures (in_turn c.in_ok-keep-2.ensures c.keep-3.ensures))
