-- The header and the rows of a campaign.
use Rattle.std.proofs.Common.{◌≡◌, refl, ℕ, List, ◌++◌, map}
use Rattle.std.specs.List.{concat, zip}
use Rattle.eg_record.specs.declared.run_facts.RunFacts.{RunFacts}
use Rattle.eg_plan.specs.declared.run_input.RunInput.{RunInput}
use Rattle.eg_outcome.specs.declared.telling.Columns.{Columns}
use Rattle.eg_play.specs.Texts.{header_of, line_of, rows_by}

pub rows_by-is : (columns : Columns) (bound : ℕ) (inputs : List RunInput) (told : List RunFacts) →
    header_of columns ++ concat (map (line_of columns bound) (zip inputs told)) ≡ rows_by columns bound inputs told
unfolding rows_by
rows_by-is columns bound inputs told = refl
