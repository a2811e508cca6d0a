use Rattle.std.proofs.Common.{◌∙◌, rules, tests, bytes_eq}
use Rattle.std.proofs.lemmas.Iterator.{YieldsList-from_slice}
use Rattle.std.proofs.lemmas.Iterator.Search.{any_from_yields_List}
use Rattle.eg_fault.specs.Names.{own_keys, key_text}
use Rattle.eg_plan.proofs.OwnLemmas.{among-keys}
use Rattle.eg_plan.proofs.fault.is_own_key.Goals as goal

pub returns : goal.returns
returns c =
    any_from_yields_List (λ key. bytes_eq (key_text key) c.args.text.now) _ _ _ c.any.ensures.ran (YieldsList-from_slice (own_keys c.args.name) (c.iter.ensures.rest ∙ c.own_keys.ensures)) (λ x b q k. search (rules, tests))
    ∙ among-keys (own_keys c.args.name) c.args.text.now
