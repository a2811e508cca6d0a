use Rattle.std.proofs.Common.{◌∙◌, ◌∷◌, [], ap}
use Rattle.std.specs.List.{list_any, range_with_len}
use Rattle.eg_fault.specs.Faults.{is_left_out}
use Rattle.eg_table.proofs.ActingLemmas.{left_out-is}
use Rattle.eg_table.proofs.acting.is_left_out_within.Goals as goal

pub returns : goal.returns
returns c =
    c.some_comes_within.ensures
    ∙ ap (list_any (λ tick. list_any (is_left_out (tick ∷ []) c.args.every) (range_with_len 0 c.args.ticks))) c.values.ensures.values
    ∙ left_out-is c.args.every c.args.ticks c.args.after.now
