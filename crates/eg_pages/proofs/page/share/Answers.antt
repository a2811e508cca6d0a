use Rattle.std.specs.Rc.{rc_value}
use Rattle.eg_pages.proofs.PageLemmas.{map-copies}
use Rattle.eg_pages.proofs.page.share.Goals as goal

pub returns : goal.returns
returns c = map-copies rc_value c.args.pages.now c.in_ok-clone.field-0 c.in_ok-clone.ensures.cases.whole
