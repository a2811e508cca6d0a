use Rattle.std.proofs.Common.{◌∙◌, ap, slice_index, arith}
use Rattle.std.specs.Rc.{rc_value}
use Rattle.eg_pages.proofs.PageLemmas.{index-held}
use Rattle.eg_pages.proofs.page.word_at.Goals as goal

pub returns : goal.returns
returns c = ap (λ words. slice_index words c.from-2.result) c.deref.ensures
    ∙ index-held rc_value c.args.pages.now c.index-pages-from.result c.requires.are_pages
    (record { within = c.requires.within; split = omega arith; inside = omega arith })
