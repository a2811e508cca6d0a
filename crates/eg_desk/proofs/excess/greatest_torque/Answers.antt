use Rattle.std.proofs.Common.{◌≡◌, ◌∙◌, ◌*◌, ◌/◌, ◌≤◌, max, sym, ap, ap₂, subst, arith}
use Rattle.std.specs.List.{fold}
use Rattle.eg_num.specs.Interpolation.{Curve}
use Rattle.eg_desk.proofs.LimitLemmas.{torque-small}
use Rattle.eg_desk.proofs.excess.greatest_torque.Goals as goal

pub overflow_cast-result : goal.overflow_cast-result
overflow_cast-result c =
    let charge : c.from.result ≡ fold max 0 c.args.plant.now.charge.values =
    c.from.ensures ∙ c.greatest-charge.ensures ∙ ap (fold max 0) c.values.ensures.values
    ∙ ap (λ (curve : Curve). fold max 0 curve.values) c.charge.ensures.charge in
    let kt = c.from-2.ensures ∙ c.kt.ensures.kt in
    let small = subst (λ n. n / 1000 ≤ 10000) (sym (ap₂ (λ a b. a * b) charge kt)) (torque-small c.args.plant.now c.kt.ensures.parts) in
    omega (arith, small)
