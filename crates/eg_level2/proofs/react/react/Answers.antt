use Rattle.std.proofs.Common.{refl}
use Rattle.eg_level2.specs.Modules.{reacted}
use Rattle.eg_level2.proofs.ModuleLemmas.{react_makes, answered}
use Rattle.eg_level2.proofs.MakesLemmas.{in_turn, early, early_last, done, ended}
use Rattle.eg_level2.proofs.react.react.Goals as goal

pub returns-in_err-keep : goal.returns-in_err-keep
returns-in_err-keep g c = ended c.from_residual.result c.from_residual.ensures.0
    (react_makes c.args.phase refl c.answers_now-sends.ensures c.closed_flow-flow.ensures (early _ c.from_residual.result c.from_residual.ensures.0 c.in_err-keep.ensures))

pub returns-in_err-keep-2 : goal.returns-in_err-keep-2
returns-in_err-keep-2 g c = ended c.from_residual-in_err-keep-2.result c.from_residual-in_err-keep-2.ensures.0
    (react_makes c.args.phase c.flow_after.ensures c.answers_now-sends.ensures c.closed_flow-flow.ensures
    (in_turn c.in_ok-keep.ensures (early_last c.from_residual-in_err-keep-2.result c.from_residual-in_err-keep-2.ensures.0 c.in_err-keep-2.ensures)))

pub returns : goal.returns
unfolding reacted
returns g c = record {
  makes = react_makes c.args.phase c.flow_after.ensures c.answers_now-sends.ensures c.closed_flow-flow.ensures (in_turn c.in_ok-keep.ensures (done c.in_ok-keep-2.ensures));
  answers = λ i. record {
    open_path = c.opens_now-opens.ensures i;
    answer = answered _ _ _ _ _ _ c.sent_number.ensures c.answers_now-sends.ensures c.closed_flow-flow.ensures c.word-sign.ensures i;
    found = c.no_watches.ensures i;
  };
}
