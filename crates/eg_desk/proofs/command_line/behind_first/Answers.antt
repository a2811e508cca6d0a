use Rattle.std.proofs.Common.{◌∙◌, ap}
use Rattle.std.specs.Vec.Iter.{into_iter_items, into_iter_len}
use Rattle.std.proofs.lemmas.Iterator.{items_from_collect}
use Rattle.std.proofs.lemmas.Iterator.Adapters.{YieldsList-from_vec, YieldsList-from_skip}
use Rattle.eg_desk.proofs.command_line.behind_first.Goals as goal

pub returns : goal.returns
returns c =
    let from = c.skip.ensures.source in
    let items = into_iter_items c.args.words in
    items_from_collect c.collect.result c.collect.ensures.ran
    (YieldsList-from_skip {ys = items} 1 (YieldsList-from_vec items (ap into_iter_items from) (ap into_iter_len from ∙ c.args.words.rest.ok.0)) c.skip.ensures.count)
