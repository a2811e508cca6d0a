use Rattle.std.proofs.Common.{◌≡◌, ◌*◌, ap, refl, arith}
use Rattle.std.specs.Rc.{rc_value}
use Rattle.eg_pages.proofs.PageLemmas.{filled_next}
use Rattle.eg_pages.proofs.page.fill.Goals as goal

pub loop-number-preserved : goal.loop-number-preserved
loop-number-preserved c =
    let size : c.from-size.result ≡ 64 = omega arith in
    filled_next rc_value c.loop-number.pages _ c.loop-number.number _ _ c.args.words.now _ c.requires.are_words
    (omega arith) (ap (λ n. c.loop-number.number * n) size) (omega (arith, size)) refl c.in_ok-fill_page.ensures c.loop-number.invariant
