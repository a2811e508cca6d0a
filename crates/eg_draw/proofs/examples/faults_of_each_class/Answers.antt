use Rattle.std.proofs.Common.{refl}
use Rattle.eg_draw.proofs.WholeDraw.{whole_draw}
use Rattle.eg_draw.proofs.examples.faults_of_each_class.Goals as goal

pub returns-clause-script : goal.returns-clause-script
unfolding whole_draw
returns-clause-script c = refl

pub returns-clause-offset : goal.returns-clause-offset
unfolding whole_draw
returns-clause-offset c = refl

pub returns-clause-bus : goal.returns-clause-bus
unfolding whole_draw
returns-clause-bus c = refl

pub returns-clause-plate : goal.returns-clause-plate
unfolding whole_draw
returns-clause-plate c = refl

pub returns-clause-skip : goal.returns-clause-skip
unfolding whole_draw
returns-clause-skip c = refl

pub returns-clause-disturb : goal.returns-clause-disturb
unfolding whole_draw
returns-clause-disturb c = refl

pub returns-clause-flip : goal.returns-clause-flip
unfolding whole_draw
returns-clause-flip c = refl

pub returns-clause-halt : goal.returns-clause-halt
unfolding whole_draw
returns-clause-halt c = refl

pub returns-clause-timing : goal.returns-clause-timing
unfolding whole_draw
returns-clause-timing c = refl

pub returns-clause-wild : goal.returns-clause-wild
unfolding whole_draw
returns-clause-wild c = refl

pub returns-clause-path_1_closed : goal.returns-clause-path_1_closed
unfolding whole_draw
returns-clause-path_1_closed c = refl

pub returns-clause-path_2_closed : goal.returns-clause-path_2_closed
unfolding whole_draw
returns-clause-path_2_closed c = refl

pub returns-clause-path_open : goal.returns-clause-path_open
unfolding whole_draw
returns-clause-path_open c = refl

pub returns-clause-lapse : goal.returns-clause-lapse
unfolding whole_draw
returns-clause-lapse c = refl

pub returns-clause-none : goal.returns-clause-none
unfolding whole_draw
returns-clause-none c = refl
