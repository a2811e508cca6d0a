use Rattle.std.proofs.Common.{refl}
use Rattle.eg_num.specs.Windows.{greatest_of}
use Rattle.eg_record.specs.Margins.{weighed_where, greatest_weight, greatest_integer, surplus_of, margins_of, no_margins}
use Rattle.eg_record.proofs.margins.Margins.none.Goals as goal

pub returns : goal.returns
unfolding no_margins margins_of greatest_weight surplus_of weighed_where greatest_of greatest_integer
returns c = refl
