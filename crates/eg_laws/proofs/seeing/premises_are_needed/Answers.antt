use Rattle.eg_laws.proofs.Worked.{high_pedal_stays, low_loads_stay, low_speeds_stay, unseen_brake_stays, left_out_stays, disturbed_stays, both_closed_stay, closed_and_wild_stays, missed_last_shows, cut_late_shows, braked_accepted, disturbed_once_shows, ramped_accepted}
use Rattle.eg_laws.proofs.seeing.premises_are_needed.Goals as goal

pub returns : goal.returns
returns c = record {
  pedal = high_pedal_stays;
  loads = low_loads_stay;
  speeds = low_speeds_stay;
  brake = unseen_brake_stays;
  runs = left_out_stays;
  undisturbed = disturbed_stays;
  paths = both_closed_stay;
  wild = closed_and_wild_stays;
  up_to_confirmed = missed_last_shows;
  all_ticks = disturbed_once_shows;
  sends = cut_late_shows;
  accepted = braked_accepted;
  ramped = ramped_accepted;
}
