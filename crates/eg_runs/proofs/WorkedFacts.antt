-- The facts of runs after each of their ticks, computed from the definitions.
use Rattle.std.proofs.Common.{◌≡◌, ◌++◌, None, refl}
use Rattle.eg_fault.specs.declared.class.Class.TheVariants.{Path1Closed}
use Rattle.eg_record.specs.Stages.{last_on}
use Rattle.eg_record.specs.Facts.{facts_of}
use Rattle.eg_num.specs.Windows.{greatest_of}
use Rattle.eg_record.specs.Detection.{first_cut, cutting_at, cutting}
use Rattle.eg_record.specs.Excess.{stretch_of, longest_in, lasting, peak_of, above}
use Rattle.eg_record.specs.Spans.{spans_of, in_last}
use Rattle.eg_model.specs.Engines.{gasoline}
use Rattle.eg_model.specs.Rows.{record_rows}
use Rattle.eg_model.specs.Examples.{full, fault_from, run_of, bench_run}
use Rattle.eg_model.proofs.WholeModel.{whole_model}
use Rattle.eg_runs.specs.PowerCycles.{cycle, rest}
use Rattle.eg_runs.specs.Facts.{facts_along, for_each, told, cut_at_10, on_again, on_after_the_test, first_stretch, first_peak, next_stretch, next_peak}

pub facts_tick_by_tick-closed_path : facts_along (record_rows gasoline (bench_run full (fault_from 11 Path1Closed) 60))
    ≡ for_each (cut_at_10 on_again next_stretch next_peak) 60
unfolding whole_model last_on facts_of first_cut cutting_at cutting stretch_of longest_in lasting spans_of in_last peak_of above greatest_of facts_along for_each told cut_at_10 on_again on_after_the_test first_stretch first_peak next_stretch next_peak
facts_tick_by_tick-closed_path = refl

pub facts_tick_by_tick-reset : facts_along (record_rows gasoline (run_of full None (rest 20 ++ cycle 50)))
    ≡ for_each (cut_at_10 on_after_the_test first_stretch first_peak) 70
unfolding whole_model last_on facts_of first_cut cutting_at cutting stretch_of longest_in lasting spans_of in_last peak_of above greatest_of facts_along for_each told cut_at_10 on_again on_after_the_test first_stretch first_peak next_stretch next_peak
facts_tick_by_tick-reset = refl
