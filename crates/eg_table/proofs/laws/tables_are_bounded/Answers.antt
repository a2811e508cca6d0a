use Rattle.eg_table.proofs.BoundLemmas.{table_bounded}
use Rattle.eg_table.proofs.laws.tables_are_bounded.Goals as goal

pub returns : goal.returns
returns c = table_bounded
