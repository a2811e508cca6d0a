use Rattle.std.proofs.Common.{refl}
use Rattle.eg_record.specs.Spans.{this_span}
use Rattle.eg_record.specs.Margins.{rows_in, is_driven, is_tripped, no_margins}
use Rattle.eg_record.proofs.margins.MarginTally.new.Goals as goal

pub returns : goal.returns
unfolding no_margins rows_in is_driven is_tripped this_span
returns c = record { margins = c.none.ensures; drives = refl; tripped = refl }
