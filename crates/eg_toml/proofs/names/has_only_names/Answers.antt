use Rattle.std.proofs.Common.{◌∙◌, map, rules, tests, string_bytes}
use Rattle.std.proofs.lemmas.Iterator.Consumers.{YieldsList-from_rest}
use Rattle.std.proofs.lemmas.Iterator.Search.{all_from_yields_List}
use Rattle.eg_toml.specs.Names.{is_among}
use Rattle.eg_toml.proofs.ReadLemmas.{all_names-view}
use Rattle.eg_toml.proofs.names.has_only_names.Goals as goal

pub returns : goal.returns
returns c =
    all_from_yields_List (λ k. is_among (map (λ k. k.now) c.args.known.now) (string_bytes k)) _ _ _ c.all.ensures.ran (YieldsList-from_rest _ c.keys.ensures.rest) (λ x b q k. search (rules, tests))
    ∙ all_names-view (is_among (map (λ k. k.now) c.args.known.now)) c.args.table.now.entries
