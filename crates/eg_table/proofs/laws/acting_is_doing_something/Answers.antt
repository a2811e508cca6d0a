use Rattle.eg_fault.proofs.ClassLemmas.{others_do_nothing, effects_do_something}
use Rattle.eg_table.proofs.LawLemmas.{acted_law, unacted_law}
use Rattle.eg_table.proofs.laws.acting_is_doing_something.Goals as goal

pub returns : goal.returns
returns c = record {
  nothing = others_do_nothing;
  something = effects_do_something;
  acted = acted_law;
  unacted = unacted_law;
}
