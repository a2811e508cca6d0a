use Rattle.std.proofs.Common.{arith, length-drop}
use Rattle.eg_base.proofs.ResultLemmas.{at_err}
use Rattle.eg_base.proofs.StreamLemmas.{next-taken, none-taken}
use Rattle.eg_base.proofs.std_sink.write_whole.Goals as goal

pub returns-in_err-taken-clause-part : goal.returns-in_err-taken-clause-part
returns-in_err-taken-clause-part g c =
    at_err c.from_residual.result (none-taken _ _ _ c.args.bytes.now c.loop.taken c.loop.invariant.so_far c.in_err-taken.ensures.kept)

pub loop-preserved : goal.loop-preserved
loop-preserved g c = record {
  within = let within = c.loop.invariant.within in let most = c.in_ok-taken.ensures.most in grind (arith, length-drop, within, most);
  so_far = next-taken _ _ _ c.args.bytes.now c.loop.taken c.in_ok-taken.field-0 c.loop.invariant.so_far c.in_ok-taken.ensures.taken;
}
