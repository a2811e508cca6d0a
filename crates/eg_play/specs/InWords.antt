-- What `table` (F30) and `margins` (F31) tell of a run is what its rows show, in words.
use Rattle.std.specs.Prelude.{◌≡◌, ◌↔◌, ℕ, ◌≤◌, ℤ, ◌≤ℤ◌, IsTrue, true, false, List, [], ◌∷◌, map, Option, IfSome}
use Rattle.std.specs.List.{Contains}
use Rattle.eg_num.specs.Windows.{WeightParts}
use Rattle.eg_values.specs.Calibration.{CalibrationParts}
use Rattle.eg_record.specs.declared.row.Row.{Row}
use Rattle.eg_record.specs.declared.facts.Facts.{Facts}
use Rattle.eg_record.specs.declared.reactions.Reactions.{Reactions}
use Rattle.eg_record.specs.declared.margins.Margins.{Margins}
use Rattle.eg_record.specs.declared.watch.Watch.{Watch}
use Rattle.eg_record.specs.declared.watch.Watch.TheVariants as watch
use Rattle.eg_record.specs.Detection.{is_found, cutting_at, IsFirstDetection}
use Rattle.eg_record.specs.Stages.{IsFirstOff}
use Rattle.eg_record.specs.Spans.{EachDriveSpan, spans_of}
use Rattle.eg_record.specs.Margins.{is_tripped, surplus_at}
use Rattle.eg_laws.specs.InWords.{IsPeak, IsLongestStretch, IsLongestReaction}
use Rattle.eg_model.specs.EngineRuns.{rows_of_run}
use Rattle.eg_campaign.specs.Plays.{run_with}
use Rattle.eg_campaign.specs.Groups.{told_by, told_with}
use Rattle.eg_plan.specs.declared.run_input.RunInput.{RunInput}

-- ---- `table` ----

-- F30, by the weights of the torque and this threshold
pub record AreShown (weights : WeightParts) (threshold : ℕ) (rows : List Row) (facts : Facts)
    (reactions : Reactions) : Type 0 where
  pub first : IsFirstDetection rows facts.first
  pub cut : IsFirstDetection (map cutting_at rows) facts.cut
  pub off : IsFirstOff rows facts.off
  pub stretch : IsLongestStretch threshold rows facts.stretch
  pub peak : IsPeak threshold rows facts.peak
  pub reaction : IsLongestReaction weights threshold (spans_of rows) reactions.longest

-- ---- `margins` ----

abbrev pub IsFoundIn : Watch → List Row → Type 0
IsFoundIn watch rows = (row : Row) × Contains rows row × IsTrue (is_found row.found watch)

-- C82
pub record IsWeightOf (watch : Watch) (limit : ℕ) (rows : List Row) (weight : ℕ) : Type 0 where
  pub within : weight ≤ limit
  pub found : (weight ≡ limit) ↔ IsFoundIn watch rows

-- C83: at the last of these rows of a drive span, level 2's actual torque less the permitted torque is at
-- most n, or a row before trips. So no threshold from n on has an excess up to the first trip.
abbrev pub LiesAtMost : (n : ℤ) → (start : ℕ) → List Row → Type 0
LiesAtMost n start [] = Unit {0}
LiesAtMost n start (row ∷ before) = is_tripped before ≡ false → surplus_at row ≤ℤ n

-- C83: the least number of which this is so in each drive span; none without a drive span
abbrev pub IsSurplus : List Row → Option ℤ → Type 0
IsSurplus rows surplus = (n : ℤ) → EachDriveSpan (LiesAtMost n) rows ↔ IfSome surplus (λ most. most ≤ℤ n)

-- F31, by the limits of this calibration
pub record AreMargins (cal : CalibrationParts) (rows : List Row) (margins : Margins) : Type 0 where
  pub pedal : IsWeightOf watch.Pedal cal.rules.pair.limit rows margins.greatest.pedal
  pub plate : IsWeightOf watch.Plate cal.rules.pair.limit rows margins.greatest.plate
  pub load : IsWeightOf watch.Load cal.rules.pair.limit rows margins.greatest.load
  pub speed : IsWeightOf watch.Speed cal.rules.pair.limit rows margins.greatest.speed
  pub torque : IsWeightOf watch.Torque cal.rules.torque.limit rows margins.greatest.torque
  pub answers : IsWeightOf watch.Answers cal.times.weights.limit rows margins.greatest.answers
  pub surplus : IsSurplus rows margins.surplus

-- ---- of a run ----

pub record TellsInWords (cal : CalibrationParts) (input : RunInput) : Type 0 where
  pub table : AreShown cal.rules.torque cal.rules.threshold (rows_of_run (run_with cal input))
      (told_with cal input).facts (told_with cal input).reactions
  pub margins : AreMargins cal (rows_of_run (run_with cal input)) (told_by true cal input).margins
