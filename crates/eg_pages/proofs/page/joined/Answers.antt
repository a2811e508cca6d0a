use Rattle.std.proofs.Common.{◌≡◌, ◌∙◌, ◌*◌, ap, arith}
use Rattle.std.specs.Rc.{rc_value}
use Rattle.eg_pages.proofs.PageLemmas.{copied_next}
use Rattle.eg_pages.proofs.page.joined.Goals as goal

pub loop-number-preserved : goal.loop-number-preserved
loop-number-preserved c =
    let size : c.from-size.result ≡ 64 = omega arith in
    copied_next rc_value c.args.pages.now c.index-pages-number.result c.loop-number.number _ _ c.loop-number.words c.copy_from_slice.new.self c.requires
    (omega arith) (ap (λ n. c.loop-number.number * n) size) (omega (arith, size))
    (c.copy_from_slice.ensures.after ∙ c.deref.ensures) c.loop-number.invariant
