use Rattle.std.proofs.Common.{rules}
use Rattle.eg_cal.proofs.NumberLemmas.{number-checks}
use Rattle.eg_cal.proofs.document.Document.number.Goals as goal

pub returns-clause-value : goal.returns-clause-value
returns-clause-value c = number-checks _ _ _ _ _ _ c.requires (search rules)
