use Rattle.std.proofs.Common.{◌∙◌, rules, tests, bytes_eq}
use Rattle.std.proofs.lemmas.Iterator.{YieldsList-from_slice}
use Rattle.std.proofs.lemmas.Iterator.Search.{any_from_yields_List}
use Rattle.eg_toml.proofs.ReadLemmas.{is_among-texts}
use Rattle.eg_toml.proofs.names.is_among.Goals as goal

pub returns : goal.returns
returns c =
    any_from_yields_List (λ k. bytes_eq k.now c.args.name.now) _ _ _ c.any.ensures.ran (YieldsList-from_slice c.args.known.now c.iter.ensures.rest) (λ x b q k. search (rules, tests))
    ∙ is_among-texts c.args.known.now c.args.name.now
