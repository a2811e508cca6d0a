use Rattle.std.proofs.Common.{◌∙◌, sym, ap}
use Rattle.std.specs.List.{list_any, range_with_len}
use Rattle.eg_fault.specs.Faults.{has_effect}
use Rattle.eg_table.proofs.ActingLemmas.{acts_first, other_class}
use Rattle.eg_table.proofs.acting.has_effect_within.Goals as goal

pub returns-in-Lapse : goal.returns-in-Lapse
unfolding has_effect
returns-in-Lapse c =
    c.is_left_out_within.ensures ∙ ap (λ class. list_any (has_effect class) (range_with_len 0 c.args.ticks)) (sym c.in-Lapse.is)

pub returns-in_default : goal.returns-in_default
returns-in_default c = sym (acts_first c.args.class.now c.args.ticks c.requires (other_class c.args.class.now c.in_default.not-Lapse))
