use Rattle.eg_record.proofs.NamesLemmas.{has_letters, has_few_letters}
use Rattle.eg_record.proofs.row_line.name_of.Goals as goal

pub returns-clause-some : goal.returns-clause-some
returns-clause-some c = rw (c.as_bytes.ensures.value, c.name.ensures) (has_letters c.args.watch)

pub returns-clause-short : goal.returns-clause-short
returns-clause-short c = rw (c.as_bytes.ensures.value, c.name.ensures) (has_few_letters c.args.watch)
