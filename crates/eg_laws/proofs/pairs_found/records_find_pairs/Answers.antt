use Rattle.eg_laws.proofs.KindLaws.{keeps_of, shows_one_load_of}
use Rattle.eg_laws.proofs.PairsFoundLaws.{records_find_pairs, disagreeing_rows_are_found}
use Rattle.eg_laws.proofs.pairs_found.records_find_pairs.Goals as goal

pub returns-clause-exact : goal.returns-clause-exact
returns-clause-exact c = λ engine. records_find_pairs (keeps_of engine) (shows_one_load_of engine)

pub returns-clause-stretches : goal.returns-clause-stretches
returns-clause-stretches c = λ engine. disagreeing_rows_are_found (keeps_of engine) (shows_one_load_of engine)
