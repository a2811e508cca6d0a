-- What a tally keeps of rows that are gone, and for which rows it stands. Lists of rows stand newest first.
use Rattle.std.specs.Prelude.{◌≡◌, ℕ, ◌≤◌, List, map, drop}
use Rattle.eg_num.specs.Windows.{WeightParts, AreWeights}
use Rattle.eg_num.specs.Counting.{StandsFor}
use Rattle.eg_record.specs.declared.row.Row.{Row}
use Rattle.eg_record.specs.declared.facts.Facts.{Facts}
use Rattle.eg_record.specs.Rows.{AreRows}
use Rattle.eg_record.specs.declared.span_tally.SpanTally.{SpanTally}
use Rattle.eg_record.specs.Spans.{this_span, spans_of}
use Rattle.eg_record.specs.Stages.{last_on}
use Rattle.eg_record.specs.Excess.{true_excess, lasting}
use Rattle.eg_record.specs.Facts.{facts_of}
use Rattle.eg_record.specs.Reactions.{confirmed_in, reactions_of_spans}

-- the threshold and the weights that the true excess uses, the facts of the rows, the value of the counter of
-- the true excess, how many rows in a row have one up to the last, and what is kept of the spans
pub record TallyParts : Type 0 where
  pub threshold : ℕ
  pub weights : WeightParts
  pub facts : Facts
  pub value : ℕ
  pub lasts : ℕ
  pub spans : SpanTally

-- what is kept of the spans is what these rows give
pub record AreSpansOf (weights : WeightParts) (threshold : ℕ) (spans : SpanTally) (rows : List Row) : Type 0
  where
    pub last_on : spans.last_on ≡ last_on (this_span rows)
    pub confirmed : spans.confirmed ≡ confirmed_in weights threshold (this_span rows)
    pub ended : spans.ended ≡ reactions_of_spans weights threshold (drop 1 (spans_of rows))

-- The tally stands for these rows: they are those of a run from tick 0 on, its facts are theirs, its counter
-- and its number of rows in a row stand for the true excess in the span that they end with, and what it keeps
-- of the spans is what they give.
pub record IsTallyOf (tally : TallyParts) (rows : List Row) : Type 0 where
  pub run : AreRows rows
  pub facts : tally.facts ≡ facts_of tally.weights tally.threshold rows
  pub counter : StandsFor tally.weights tally.value (map (true_excess tally.threshold) (this_span rows))
  pub lasts : tally.lasts ≡ lasting tally.threshold (this_span rows)
  pub spans : AreSpansOf tally.weights tally.threshold tally.spans rows

-- What a tally always keeps: its weights are within their limits, no more rows than it was fed have an excess
-- in a row, and it stands for some rows.
pub record IsTally (tally : TallyParts) : Type 0 where
  pub weights : AreWeights tally.weights
  pub within : tally.value ≤ tally.weights.limit
  pub few : tally.lasts ≤ tally.facts.ticks
  pub some : (rows : List Row) × IsTallyOf tally rows
