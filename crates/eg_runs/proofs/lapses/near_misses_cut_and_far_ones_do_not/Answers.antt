use Rattle.eg_runs.proofs.WorkedMisses.{spacing, near, far_apart, within, far, none_at_a_tie, single}
use Rattle.eg_runs.proofs.lapses.near_misses_cut_and_far_ones_do_not.Goals as goal

pub returns : goal.returns
returns c = record { spacing = spacing; near = near; far_apart = far_apart; within = within; far = far; none = none_at_a_tie; single = single }
