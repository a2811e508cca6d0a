use Rattle.std.proofs.Common.{refl}
use Rattle.eg_draw.proofs.WholeDraw.{whole_draw}
use Rattle.eg_draw.proofs.examples.images_of_each_kind.Goals as goal

pub returns-clause-full : goal.returns-clause-full
unfolding whole_draw
returns-clause-full c = refl

pub returns-clause-any : goal.returns-clause-any
unfolding whole_draw
returns-clause-any c = refl

pub returns-clause-any_last : goal.returns-clause-any_last
unfolding whole_draw
returns-clause-any_last c = refl

pub returns-clause-changed : goal.returns-clause-changed
unfolding whole_draw
returns-clause-changed c = refl
