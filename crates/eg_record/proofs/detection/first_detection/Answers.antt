use Rattle.std.proofs.Common.{◌≡◌, ◌∙◌, rules, None, Some, sym, ap, refl}
use Rattle.eg_record.specs.Rows.{first_given}
use Rattle.eg_record.specs.Detection.{first_watch, detected_at, first_detection}
use Rattle.eg_record.proofs.RowsLemmas.{so_far, so_far-all, first_given-more, first_given-here}
use Rattle.eg_record.proofs.FirstLemmas.{detected_at-none, detected_at-found}
use Rattle.eg_record.proofs.detection.first_detection.Goals as goal

pub loop-row-init : goal.loop-row-init
unfolding so_far first_given
loop-row-init c = refl

pub returns-in-Some : goal.returns-in-Some
unfolding first_detection
returns-in-Some c =
    let row = c.row-item.result in
    let first : first_watch row.found ≡ Some c.in-Some.watch = search rules in
    sym (first_given-here detected_at c.args.rows.now c.loop-row.row-index row (c.in-Some.watch, row.tick) c.row-item.is c.loop-row-test.true c.loop-row.invariant (detected_at-found row c.in-Some.watch first))

pub loop-row-preserved : goal.loop-row-preserved
loop-row-preserved c =
    let row = c.row-item.result in
    let none : first_watch row.found ≡ None = search rules in
    first_given-more detected_at c.args.rows.now c.loop-row.row-index row c.row-item.is c.loop-row-test.true c.loop-row.invariant ∙ detected_at-none row none

pub returns : goal.returns
unfolding first_detection
returns c = sym (ap (first_given detected_at) (sym (so_far-all c.args.rows.now c.loop-row.row-index c.loop-row-test.false)) ∙ c.loop-row.invariant)
