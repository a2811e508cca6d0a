use Rattle.std.proofs.Common.{◌≡◌, ◌∙◌, sym, refl, true, false, arith}
use Rattle.eg_stream.proofs.TakenLemmas.{on-told}
use Rattle.eg_stream.proofs.partner.is_on.Goals as goal

pub returns-then-told : goal.returns-then-told
returns-then-told c = λ s h told.
    sym (on-told s c.args.drive.now h c.args.told.now c.reset.result true told (sym c.reset.ensures.reset) (grind (arith, c.if-told.true)))

pub returns-else-told : goal.returns-else-told
returns-else-told c = λ s h told.
    let off : c.args.told.now.on ≡ false = grind (arith, c.if-told.false) in
    off ∙ sym (on-told s c.args.drive.now h c.args.told.now c.args.drive.now.reset false told refl off)
