use Rattle.std.specs.Prelude.{string_bytes}
use Rattle.eg_fault.specs.Names.{number_item, number_items}
use Rattle.eg_fault.proofs.ItemLemmas.{none_yet, next, all}
use Rattle.eg_fault.proofs.key.push_numbers.Goals as goal

pub loop-number-init : goal.loop-number-init
loop-number-init c = none_yet number_item (string_bytes c.args.text.now) c.args.numbers.now

pub loop-number-preserved : goal.loop-number-preserved
unfolding number_item
loop-number-preserved c = next number_item (string_bytes c.args.text.now) c.args.numbers.now c.loop-number.number-index 0
    _ _ c.loop-number-test.true c.loop-number.invariant c.in_ok-write.ensures.bytes

pub returns : goal.returns
unfolding number_items
returns c = all number_item (string_bytes c.args.text.now) c.args.numbers.now c.loop-number.number-index _
    c.loop-number-test.false c.loop-number.invariant
