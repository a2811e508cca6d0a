-- Opens every definition of a drawn run, so that worked runs compute.
use Rattle.std.proofs.Common.{ℕ}
use Rattle.eg_draw.specs.Draws.{next, draw, after, draws}
use Rattle.eg_draw.specs.Runs.{full_with, image_of, stretch_row, stretches, trace_of, one_of, drawn_mask, four_values, first_ticks, class_of, fault_of, fault_draws, drawn_run, state_after}

unfoldable pub whole_draw : ℕ
unfolding next draw after draws full_with image_of stretch_row stretches trace_of one_of drawn_mask
    four_values first_ticks class_of fault_of fault_draws drawn_run state_after
whole_draw = 0
