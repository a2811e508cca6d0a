use Rattle.eg_turns.proofs.TurnLemmas.{refused}
use Rattle.eg_turns.proofs.levels.turn.Goals as goal

pub returns-in_err-slice : goal.returns-in_err-slice
returns-in_err-slice g c = refused c.from_residual.result c.from_residual.ensures.0 c.in_err-slice.ensures.keeps
