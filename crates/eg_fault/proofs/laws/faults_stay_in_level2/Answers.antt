use Rattle.eg_fault.proofs.ClassLemmas.{flips_are_in_words, faults_check_flips, one_of_eight_is_left_out, at_most_one_is_disturbed}
use Rattle.eg_fault.proofs.laws.faults_stay_in_level2.Goals as goal

pub returns : goal.returns
returns c = record {
  checks = faults_check_flips;
  flips = flips_are_in_words;
  left_out = one_of_eight_is_left_out;
  disturbed = at_most_one_is_disturbed;
}
