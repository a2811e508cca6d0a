use Rattle.std.proofs.Common.{◌≡◌, ℕ, List, subst, sym, ap, ◌∙◌}
use Rattle.eg_num.specs.Interpolation.{value_at, cell, IsGrid, IsValueAt, Grid}
use Rattle.eg_num.proofs.InterpolationLemmas.{value_at-is}
use Rattle.eg_num.proofs.table.Table2.at.Goals as goal

pub returns-clause-neighbours : goal.returns-clause-neighbours
returns-clause-neighbours c =
    let g = c.args.self.now in
    let ok : IsGrid g = subst IsGrid c.self.view_is c.self.invariant in
    let along : ℕ → ℕ = λ i. value_at g.columns (cell g i) c.args.column in
    let rows : c.self.inside.rows ≡ g.rows = ap (λ (v : Grid). v.rows) c.self.view_is in
    let result : c.between.result ≡ value_at c.self.inside.rows along c.args.row = c.between.ensures along (sym c.along-low.ensures) (sym c.along-high.ensures) in
    let P : ℕ → Type 0 = λ y. IsValueAt g.rows along c.args.row y in (
      along,
      (λ i below. value_at-is g.columns (cell g i) c.args.column ok.1),
      subst P (sym (result ∙ ap (λ (xs : List ℕ). value_at xs along c.args.row) rows)) (value_at-is g.rows along c.args.row ok.0),
    )
