use Rattle.std.proofs.Common.{refl}
use Rattle.eg_draw.proofs.WholeDraw.{whole_draw}
use Rattle.eg_draw.proofs.examples.the_first_run.Goals as goal

pub returns-clause-state : goal.returns-clause-state
unfolding whole_draw
returns-clause-state c = refl

pub returns-clause-drawn : goal.returns-clause-drawn
unfolding whole_draw
returns-clause-drawn c = refl

pub returns-clause-kind : goal.returns-clause-kind
unfolding whole_draw
returns-clause-kind c = refl

pub returns-clause-image : goal.returns-clause-image
unfolding whole_draw
returns-clause-image c = refl

pub returns-clause-begins : goal.returns-clause-begins
unfolding whole_draw
returns-clause-begins c = refl

pub returns-clause-stops : goal.returns-clause-stops
unfolding whole_draw
returns-clause-stops c = refl

pub returns-clause-fault : goal.returns-clause-fault
unfolding whole_draw
returns-clause-fault c = refl

pub returns-clause-after : goal.returns-clause-after
unfolding whole_draw
returns-clause-after c = refl
