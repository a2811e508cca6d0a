-- What the debouncers weigh after each tick of a run, as its moments tell it, and so how near the run came to
-- a cut. Lists stand newest first.
use Rattle.std.specs.Prelude.{ℕ, Bool, List, [], ◌∷◌, map, length, if◌then◌else◌}
use Rattle.eg_num.specs.Counting.{counted}
use Rattle.eg_answer.specs.Periods.{is_wrong}
use Rattle.eg_values.specs.Calibration.{CalibrationParts}
use Rattle.eg_level2.specs.Words.{Words}
use Rattle.eg_record.specs.declared.margins.Counters.{Counters}
use Rattle.eg_record.specs.declared.margins.Margins.{Margins}
use Rattle.eg_record.specs.Margins.{Weighed, margins_of}
use Rattle.eg_model.specs.History.{Moment}
use Rattle.eg_model.specs.Detection.{pedal_bit, plate_bit, load_bit, speed_bit, torque_bit}
use Rattle.eg_model.specs.Answers.{verdicts_in}
use Rattle.eg_model.specs.Spans.{span_so_far}
use Rattle.eg_model.specs.Engines.{BenchEngine}
use Rattle.eg_model.specs.Bench.{Run, moments_to}
use Rattle.eg_model.specs.Rows.{row_of}
use Rattle.eg_agree.specs.Standing.{counter_after}

-- What the debouncers weigh after these ticks of a span: the limit once it was reached, and until then the
-- greatest weight of a window of what they were fed. Those of the pairs and of the torque, which level 2
-- keeps, are 0 once a word of level 2 was found to differ from its complement.
unfoldable pub counters_in : CalibrationParts → List Moment → Counters
counters_in cal span = record {
  pedal = counter_after cal.rules.pair pedal_bit span;
  plate = counter_after cal.rules.pair plate_bit span;
  load = counter_after cal.rules.pair load_bit span;
  speed = counter_after cal.rules.pair speed_bit span;
  torque = counter_after cal.rules.torque torque_bit span;
  answers = counted cal.times.weights (map is_wrong (verdicts_in span));
}

-- what they weigh after these ticks of a run, in each span anew
unfoldable pub counters_in_run : CalibrationParts → List Moment → Counters
counters_in_run cal past = counters_in cal (span_so_far past)

-- the same, read from the words of level 2 and from the counter of the monitoring module
unfoldable pub counters_kept : Words → (answers : ℕ) → Counters
counters_kept words answers = record {
  pedal = words.pedal_counter;
  plate = words.plate_counter;
  load = words.load_counter;
  speed = words.speed_counter;
  torque = words.torque_counter;
  answers = answers;
}

-- the rows of these ticks of a run, each with what the debouncers weigh after it
unfoldable pub weighed_of : CalibrationParts → List Moment → List Weighed
weighed_of cal [] = []
weighed_of cal (m ∷ past) =
    record { row = row_of (length past) m; counters = counters_in_run cal (m ∷ past) } ∷ weighed_of cal past

-- those of the first n ticks of a run that is weighed, and none of any other
unfoldable pub weighed_to : {S : Type 0} → (weighed : Bool) → BenchEngine S → Run → ℕ → List Weighed
weighed_to weighed b r n = if weighed then weighed_of r.setting.cal (moments_to b r n) else []

-- how near a run of this engine came to a cut
unfoldable pub record_margins : {S : Type 0} → BenchEngine S → Run → Margins
record_margins b r = margins_of (weighed_of r.setting.cal (moments_to b r (length r.drive)))
