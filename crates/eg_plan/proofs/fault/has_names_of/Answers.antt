use Rattle.std.proofs.Common.{◌∙◌, rules, tests, string_bytes}
use Rattle.std.proofs.lemmas.Iterator.Consumers.{YieldsList-from_rest}
use Rattle.std.proofs.lemmas.Iterator.Search.{all_from_yields_List}
use Rattle.eg_toml.specs.Names.{is_among}
use Rattle.eg_toml.proofs.ReadLemmas.{all_names-view}
use Rattle.eg_fault.specs.Names.{own_keys}
use Rattle.eg_plan.specs.Faults.{names_with}
use Rattle.eg_plan.proofs.fault.has_names_of.Goals as goal

pub returns : goal.returns
returns c =
    all_from_yields_List (λ k. is_among (names_with (own_keys c.args.name)) (string_bytes k)) _ _ _ c.all.ensures.ran (YieldsList-from_rest _ c.keys.ensures.rest) (λ x b q k. search (rules, tests))
    ∙ all_names-view (is_among (names_with (own_keys c.args.name))) c.args.table.now.entries
