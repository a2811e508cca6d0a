-- The results of a row fit into words where the values of the permit table do.
use Rattle.std.proofs.Common.{◌<◌, ◌^◌}
use Rattle.std.specs.Prelude.{All}
use Rattle.eg_answer.specs.declared.rules.Rules.{Rules}
use Rattle.eg_answer.specs.declared.rules.TestRow.{TestRow}
use Rattle.eg_answer.proofs.FoldLemmas.{Word}
use Rattle.eg_answer.proofs.ResultWords.{results-words}
use Rattle.eg_level2.specs.Flow.{FitsWords}

pub fits_words : (rules : Rules) (row : TestRow) → All Word rules.permit.values → row.seed < 2 ^ 16 → FitsWords rules row
fits_words rules row words seed = record { seed = seed; results = results-words rules row words }
