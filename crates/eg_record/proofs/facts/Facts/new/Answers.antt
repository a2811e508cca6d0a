use Rattle.std.proofs.Common.{refl}
use Rattle.eg_num.specs.Windows.{greatest_of}
use Rattle.eg_record.specs.Rows.{first_given}
use Rattle.eg_record.specs.Spans.{spans_of}
use Rattle.eg_record.specs.Detection.{first_detection, first_cut}
use Rattle.eg_record.specs.Excess.{first_confirmed, stretch_of, peak_of}
use Rattle.eg_record.specs.Stages.{first_off, last_on}
use Rattle.eg_record.specs.Facts.{facts_of}
use Rattle.eg_record.proofs.facts.Facts.new.Goals as goal

pub returns : goal.returns
unfolding facts_of first_detection first_cut first_off last_on first_confirmed stretch_of spans_of peak_of greatest_of first_given
returns c weights threshold = refl
