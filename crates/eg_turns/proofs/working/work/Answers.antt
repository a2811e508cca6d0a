use Rattle.eg_turns.proofs.FrameLemmas.{ready-board}
use Rattle.eg_turns.proofs.WorkLemmas.{refused, worked}
use Rattle.eg_turns.proofs.working.work.Goals as goal

pub run_levels-requires-clause-ready : goal.run_levels-requires-clause-ready
run_levels-requires-clause-ready g c =
    ready-board _ _ _ _ c.in_ok-show.ensures.outside (c.in_ok-show.ensures.keeps.are_words c.requires.ready.are_words) c.requires.ready

pub returns-in_err-show : goal.returns-in_err-show
returns-in_err-show g c = refused c.from_residual.result c.from_residual.ensures.0 c.in_err-show.ensures.keeps

pub returns : goal.returns
returns g c =
    let told = c.in_ok-show.ensures in
    worked c.run_levels.result c.requires.ready.are_words told.outside told.readings told.asked told.keeps c.run_levels.ensures
