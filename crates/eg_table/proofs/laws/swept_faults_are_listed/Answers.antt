use Rattle.eg_table.proofs.GridLemmas.{onsets_law}
use Rattle.eg_table.proofs.ListedLemmas.{swept_valid, swept_listed, swept_within, swept_in_order}
use Rattle.eg_table.proofs.laws.swept_faults_are_listed.Goals as goal

pub returns : goal.returns
returns c = record { onsets = onsets_law; within = swept_within; valid = swept_valid; listed = swept_listed; order = swept_in_order }
