use Rattle.std.proofs.Common.{◌≡◌, ◌∙◌, sym, rules}
use Rattle.eg_host.proofs.RestLemmas.{led-begin, led-more, led-back}
use Rattle.eg_host.proofs.level1.rest_of.Goals as goal

pub loop-done-init : goal.loop-done-init
loop-done-init c = led-begin _ _ c.requires

pub loop-done-preserved : goal.loop-done-preserved
loop-done-preserved c = led-more _ _ _ _ _ c.loop-done.invariant (sym c.step_alone.ensures ∙ c.in-Some.is) c.in-Running.is

pub returns-then-eq : goal.returns-then-eq
returns-then-eq c =
    let back : c.in-Some.next ≡ c.args.registers.now = search rules in
    led-back _ _ _ _ _ c.loop-done.invariant (sym c.step_alone.ensures ∙ c.in-Some.is) back c.requires
