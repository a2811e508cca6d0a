use Rattle.eg_play.specs.Texts.{header_of}
use Rattle.eg_play.proofs.rows.header.Goals as goal

pub returns-in-Table : goal.returns-in-Table
unfolding header_of
returns-in-Table c = rw c.in-Table.is c.table_header.ensures

pub returns-in-Margins : goal.returns-in-Margins
unfolding header_of
returns-in-Margins c = rw c.in-Margins.is c.margins_header.ensures
