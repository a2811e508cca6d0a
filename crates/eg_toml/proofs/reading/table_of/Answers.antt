use Rattle.std.proofs.Common.{◌≡◌, false, true}
use Rattle.eg_toml.proofs.DocumentLemmas.{document-some, document-none}
use Rattle.eg_toml.proofs.reading.table_of.Goals as goal

pub returns-in-Ok-clause-read : goal.returns-in-Ok-clause-read
returns-in-Ok-clause-read c = document-some _ _ c.in-Ok.ensures.ok.0 c.in-Ok.ensures.ok.1

pub returns-in-Err-2-clause-refused : goal.returns-in-Err-2-clause-refused
returns-in-Err-2-clause-refused c text =
    document-none _ (c.in-Err.ensures.refused (λ memory. let wrong : false ≡ true = c.if-is_memory.ensures.1 memory in absurd cc))
