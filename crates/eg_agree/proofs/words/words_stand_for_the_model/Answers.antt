use Rattle.eg_fault.proofs.ClassLemmas.{faults_check_flips}
use Rattle.eg_agree.proofs.HistoryLemmas.{start_law, within_law}
use Rattle.eg_agree.proofs.TickLemmas.{tick_law}
use Rattle.eg_agree.proofs.words.words_stand_for_the_model.Goals as goal

pub returns : goal.returns
returns c = record { start = start_law; within = within_law; tick = tick_law; faults = faults_check_flips }
