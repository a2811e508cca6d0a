use Rattle.std.proofs.lemmas.Result.{on_ok_weaker, on_err_weaker, IfOk-from_err}
use Rattle.eg_base.proofs.ResultLemmas.{at_err}
use Rattle.eg_turns.proofs.BoardLemmas.{shown_readings, shown_asked, shown_outside}
use Rattle.eg_turns.proofs.MadeLemmas.{shows-readings, shows-asked}
use Rattle.eg_guard.proofs.KeepsLemmas.{keeps_then, keeps_refused}
use Rattle.eg_turns.proofs.board.show.Goals as goal

pub returns-clause-readings : goal.returns-clause-readings
returns-clause-readings g c =
    on_ok_weaker c.put.result (λ stored. shown_readings _ _ _ c.args.asked c.args.readings.now stored c.in_ok-write.ensures.written) c.put.ensures.stored

pub returns-clause-asked : goal.returns-clause-asked
returns-clause-asked g c =
    on_ok_weaker c.put.result (λ stored. shown_asked _ _ _ c.args.asked c.args.readings.now stored c.in_ok-write.ensures.written (c.write.ensures.keeps.are_words c.requires.are_words).count) c.put.ensures.stored

pub returns-clause-outside : goal.returns-clause-outside
returns-clause-outside g c =
    on_ok_weaker c.put.result (λ stored. shown_outside _ _ _ c.args.asked c.args.readings.now stored c.in_ok-write.ensures.written) c.put.ensures.stored

pub returns-in_err-write-clause-stopped : goal.returns-in_err-write-clause-stopped
returns-in_err-write-clause-stopped g c = at_err c.from_residual.result (shows-readings c.args.readings.now c.args.asked _ _ c.in_err-write.ensures.stopped)

pub returns-clause-stopped : goal.returns-clause-stopped
returns-clause-stopped g c =
    on_err_weaker c.put.result (λ same. shows-asked c.args.readings.now c.args.asked _ _ _ c.in_ok-write.ensures.made same) c.put.ensures.stopped

pub returns-in_err-write-clause-readings : goal.returns-in_err-write-clause-readings
returns-in_err-write-clause-readings g c = IfOk-from_err c.from_residual.result _ c.from_residual.ensures.0

pub returns-in_err-write-clause-asked : goal.returns-in_err-write-clause-asked
returns-in_err-write-clause-asked g c = IfOk-from_err c.from_residual.result _ c.from_residual.ensures.0

pub returns-in_err-write-clause-outside : goal.returns-in_err-write-clause-outside
returns-in_err-write-clause-outside g c = IfOk-from_err c.from_residual.result _ c.from_residual.ensures.0

pub returns-in_err-write-clause-keeps : goal.returns-in_err-write-clause-keeps
returns-in_err-write-clause-keeps g c = keeps_refused _ _ _ c.from_residual.result c.from_residual.ensures.0 c.in_err-write.ensures.keeps

pub returns-clause-keeps : goal.returns-clause-keeps
returns-clause-keeps g c = keeps_then _ _ _ _ _ c.in_ok-write.ensures.keeps c.put.ensures.keeps
