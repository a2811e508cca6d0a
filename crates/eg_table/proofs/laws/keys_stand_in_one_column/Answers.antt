use Rattle.eg_table.proofs.CommaLemmas.{keys_have_no_comma}
use Rattle.eg_table.proofs.laws.keys_stand_in_one_column.Goals as goal

pub returns : goal.returns
returns c = keys_have_no_comma
