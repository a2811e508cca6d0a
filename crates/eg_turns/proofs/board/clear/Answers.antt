use Rattle.std.proofs.lemmas.Result.{on_err_weaker, on_ok_weaker, IfOk-from_err}
use Rattle.eg_base.proofs.ResultLemmas.{at_err}
use Rattle.eg_turns.proofs.BoardLemmas.{cleared-world, cleared-outside}
use Rattle.eg_turns.proofs.MadeLemmas.{clears-data, clears-outputs}
use Rattle.eg_guard.proofs.KeepsLemmas.{keeps_then, keeps_refused}
use Rattle.eg_turns.proofs.board.clear.Goals as goal

pub returns-clause-world : goal.returns-clause-world
returns-clause-world g c = on_ok_weaker c.write-2.result
    (λ outs. cleared-world _ _ _ c.in_ok-write.ensures.written outs (c.write-2.ensures.keeps.are_words (c.write.ensures.keeps.are_words c.requires.are_words)))
    c.write-2.ensures.written

pub returns-clause-outside : goal.returns-clause-outside
returns-clause-outside g c = on_ok_weaker c.write-2.result (cleared-outside _ _ _ c.in_ok-write.ensures.written) c.write-2.ensures.written

pub returns-in_err-write-clause-stopped : goal.returns-in_err-write-clause-stopped
returns-in_err-write-clause-stopped g c = at_err c.from_residual.result (clears-data _ _ c.in_err-write.ensures.stopped)

pub returns-clause-stopped : goal.returns-clause-stopped
returns-clause-stopped g c = on_err_weaker c.write-2.result (λ outs. clears-outputs _ _ _ c.in_ok-write.ensures.made outs) c.write-2.ensures.stopped

pub returns-in_err-write-clause-world : goal.returns-in_err-write-clause-world
returns-in_err-write-clause-world g c = IfOk-from_err c.from_residual.result _ c.from_residual.ensures.0

pub returns-in_err-write-clause-outside : goal.returns-in_err-write-clause-outside
returns-in_err-write-clause-outside g c = IfOk-from_err c.from_residual.result _ c.from_residual.ensures.0

pub returns-in_err-write-clause-keeps : goal.returns-in_err-write-clause-keeps
returns-in_err-write-clause-keeps g c = keeps_refused _ _ _ c.from_residual.result c.from_residual.ensures.0 c.in_err-write.ensures.keeps

pub returns-clause-keeps : goal.returns-clause-keeps
returns-clause-keeps g c = keeps_then _ _ _ _ _ c.in_ok-write.ensures.keeps c.write-2.ensures.keeps
