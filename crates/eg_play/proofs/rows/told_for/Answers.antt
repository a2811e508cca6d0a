use Rattle.eg_play.specs.Texts.{weighs}
use Rattle.eg_play.proofs.rows.told_for.Goals as goal

pub returns-in-Table : goal.returns-in-Table
unfolding weighs
returns-in-Table c = rw c.in-Table.is c.told_all.ensures

pub returns-in-Margins : goal.returns-in-Margins
unfolding weighs
returns-in-Margins c = rw c.in-Margins.is c.told_all-in-Margins.ensures
