use Rattle.std.specs.Prelude.{false, string_bytes}
use Rattle.eg_fault.specs.Names.{truth_item, truth_items}
use Rattle.eg_fault.proofs.ItemLemmas.{none_yet, next, all}
use Rattle.eg_fault.proofs.key.push_truths.Goals as goal

pub loop-truth-init : goal.loop-truth-init
loop-truth-init c = none_yet truth_item (string_bytes c.args.text.now) c.args.truths.now

pub loop-truth-preserved : goal.loop-truth-preserved
loop-truth-preserved c = next truth_item (string_bytes c.args.text.now) c.args.truths.now c.loop-truth.truth-index false
    _ _ c.loop-truth-test.true c.loop-truth.invariant c.in_ok-push_truth.ensures

pub returns : goal.returns
unfolding truth_items
returns c = all truth_item (string_bytes c.args.text.now) c.args.truths.now c.loop-truth.truth-index _
    c.loop-truth-test.false c.loop-truth.invariant
