use Rattle.std.proofs.Common.{refl, sym, ◌∙◌}
use Rattle.eg_toml.proofs.ReadLemmas.{items_in-none, items_in-some}
use Rattle.eg_toml.proofs.arrays.items_in.Goals as goal

pub returns-then-not-is_within-clause-items : goal.returns-then-not-is_within-clause-items
returns-then-not-is_within-clause-items c = (items_in-none _ _ _ _ _ c.in_ok-as_array.ensures refl (rw (← c.as_slice-items.ensures.value) (sym c.is_within.ensures ∙ c.if-not-is_within.true)))

pub returns-clause-items : goal.returns-clause-items
returns-clause-items c = items_in-some _ _ _ _ _ _ c.in_ok-as_array.ensures refl (rw (← c.as_slice-items.ensures.value) (sym c.is_within.ensures ∙ c.if-not-is_within.false)) c.as_slice-items.ensures.value
