use Rattle.eg_fault.proofs.NameLemmas.{names_are_read, keys_are_own}
use Rattle.eg_fault.proofs.laws.classes_are_read_as_written.Goals as goal

pub returns : goal.returns
returns c = record { names = names_are_read; keys = keys_are_own }
