use Rattle.eg_level2.proofs.ModuleLemmas.{check_makes}
use Rattle.eg_level2.proofs.MakesLemmas.{in_turn, early}
use Rattle.eg_level2.proofs.check.go_on.Goals as goal

pub returns-in_err-keep : goal.returns-in_err-keep
returns-in_err-keep g c = check_makes c.args.tick c.args.seed c.flow_after-flow.ensures c.word-2.ensures c.word-last.ensures c.next_token-token.ensures c.word.ensures
    (early _ c.from_residual.result c.from_residual.ensures.0 c.in_err-keep.ensures)

pub returns-in_err-keep-2 : goal.returns-in_err-keep-2
returns-in_err-keep-2 g c = check_makes c.args.tick c.args.seed c.flow_after-flow.ensures c.word-2.ensures c.word-last.ensures c.next_token-token.ensures c.word.ensures
    (in_turn c.in_ok-keep.ensures (early _ c.from_residual-in_err-keep-2.result c.from_residual-in_err-keep-2.ensures.0 c.in_err-keep-2.ensures))

pub returns-in_err-keep-3 : goal.returns-in_err-keep-3
returns-in_err-keep-3 g c = check_makes c.args.tick c.args.seed c.flow_after-flow.ensures c.word-2.ensures c.word-last.ensures c.next_token-token.ensures c.word.ensures
    (in_turn c.in_ok-keep.ensures (in_turn c.in_ok-keep-2.ensures
    (early _ c.from_residual-in_err-keep-3.result c.from_residual-in_err-keep-3.ensures.0 c.in_err-keep-3.ensures)))

pub returns : goal.returns
returns g c = check_makes c.args.tick c.args.seed c.flow_after-flow.ensures c.word-2.ensures c.word-last.ensures c.next_token-token.ensures c.word.ensures
    (in_turn c.in_ok-keep.ensures (in_turn c.in_ok-keep-2.ensures (in_turn c.in_ok-keep-3.ensures c.keep-4.ensures)))
