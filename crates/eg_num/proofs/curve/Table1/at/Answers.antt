use Rattle.std.proofs.Common.{◌≡◌, ◌∙◌, ℕ, List, subst, sym, ap, arith, slice_index}
use Rattle.std.proofs.lemmas.Grind.{common_steps}
use Rattle.eg_num.specs.Interpolation.{value_at, Curve, IsCurve, IsValueAt}
use Rattle.eg_num.proofs.InterpolationLemmas.{value_at-is}
use Rattle.eg_num.proofs.curve.Table1.at.Goals as goal

pub returns-clause-neighbours : goal.returns-clause-neighbours
returns-clause-neighbours c =
    let curve = c.args.self.now in
    let ok : IsCurve curve = subst IsCurve c.self.view_is c.self.invariant in
    let value : ℕ → ℕ = slice_index curve.values in
    let axis : c.self.inside.axis ≡ curve.axis = ap (λ (v : Curve). v.axis) c.self.view_is in
    let result : c.between.result ≡ value_at c.self.inside.axis value c.args.x = c.between.ensures value (grind (arith, common_steps)) (grind (arith, common_steps)) in
    let P : ℕ → Type 0 = λ y. IsValueAt curve.axis value c.args.x y in
    subst P (sym (result ∙ ap (λ (points : List ℕ). value_at points value c.args.x) axis)) (value_at-is curve.axis value c.args.x ok.0)
