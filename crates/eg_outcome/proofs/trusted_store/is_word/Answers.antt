use Rattle.std.proofs.Common.{◌∙◌, sym, rules, tests, bytes_eq, string_bytes}
use Rattle.std.proofs.lemmas.Iterator.{YieldsList-from_slice}
use Rattle.std.proofs.lemmas.Iterator.Search.{any_from_yields_List}
use Rattle.eg_num.proofs.WindowLemmas.{list_any-map}
use Rattle.eg_outcome.proofs.trusted_store.is_word.Goals as goal

pub returns : goal.returns
returns c =
    any_from_yields_List (λ word. bytes_eq (string_bytes word) c.args.name.now) _ _ _ c.any.ensures.ran
    (YieldsList-from_slice c.args.words.now c.iter.ensures.rest) (λ x b q k. search (rules, tests))
    ∙ sym (list_any-map (λ word. bytes_eq word c.args.name.now) string_bytes c.args.words.now)
