use Rattle.std.proofs.Common.{◌≡◌, ◌∙◌, rules, false, true, sym, ap, refl}
use Rattle.eg_record.specs.Rows.{first_given}
use Rattle.eg_record.specs.Stages.{is_off, off_at, first_off}
use Rattle.eg_record.proofs.RowsLemmas.{so_far, so_far-all, first_given-more, first_given-here}
use Rattle.eg_record.proofs.FirstLemmas.{off_at-none, off_at-off}
use Rattle.eg_record.proofs.detection.first_off.Goals as goal

pub loop-row-init : goal.loop-row-init
unfolding so_far first_given
loop-row-init c = refl

pub returns-then-is_off : goal.returns-then-is_off
unfolding first_off
returns-then-is_off c =
    let row = c.row-item.result in
    let off : is_off row ≡ true = search rules in
    sym (first_given-here off_at c.args.rows.now c.loop-row.row-index row row.tick c.row-item.is c.loop-row-test.true c.loop-row.invariant (off_at-off row off))

pub loop-row-preserved : goal.loop-row-preserved
loop-row-preserved c =
    let row = c.row-item.result in
    let other : is_off row ≡ false = search rules in
    first_given-more off_at c.args.rows.now c.loop-row.row-index row c.row-item.is c.loop-row-test.true c.loop-row.invariant ∙ off_at-none row other

pub returns : goal.returns
unfolding first_off
returns c = sym (ap (first_given off_at) (sym (so_far-all c.args.rows.now c.loop-row.row-index c.loop-row-test.false)) ∙ c.loop-row.invariant)
