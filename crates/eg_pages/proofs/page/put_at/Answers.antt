use Rattle.std.proofs.Common.{arith, rules}
use Rattle.std.specs.Rc.{rc_value}
use Rattle.eg_pages.proofs.PageLemmas.{LiesAt, concat-held, held-same, ArePages-either}
use Rattle.eg_pages.proofs.page.put_at.Goals as goal

lies : (c : goal.After-put) → LiesAt c.args.address c.from.result c.from-2.result
lies c = record { within = c.requires.within; split = omega arith; inside = omega arith }

pub returns-clause-put : goal.returns-clause-put
returns-clause-put c =
    let put = concat-held rc_value c.args.pages.now c.index-pages-from.result c.requires.are_pages (lies c) in
    search (rules, put)

pub returns-clause-unchanged : goal.returns-clause-unchanged
returns-clause-unchanged c =
    let same = held-same rc_value c.args.pages.now c.index-pages-from.result c.requires.are_pages (lies c) in
    search (rules, same)

pub returns-clause-are_pages : goal.returns-clause-are_pages
returns-clause-are_pages c =
    ArePages-either rc_value c.args.pages.now c.index-pages-from.result c.requires.are_pages (lies c)
    _ c.args.word c.put.result c.put.ensures.put c.put.ensures.unchanged (omega arith)
