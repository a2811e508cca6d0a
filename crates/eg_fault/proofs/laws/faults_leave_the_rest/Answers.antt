use Rattle.eg_fault.proofs.ClassLemmas.{one_track_is_faulty, pressed_brakes_are_seen, others_spare_levels, others_spare_answers, wild_stays_wild, others_obey_latches}
use Rattle.eg_fault.proofs.laws.faults_leave_the_rest.Goals as goal

pub returns : goal.returns
returns c = record {
  tracks = one_track_is_faulty;
  brake = pressed_brakes_are_seen;
  levels = others_spare_levels;
  answers = others_spare_answers;
  wild = wild_stays_wild;
  paths = others_obey_latches;
}
