use Rattle.std.proofs.Common.{◌∙◌, sym, ap, subst, ◌+◌, ◌≤◌, length, get_or, set, arith}
use Rattle.eg_record.specs.Facts.{reaction_in}
use Rattle.eg_table.specs.declared.sweep_row.SweepRow.{SweepRow}
use Rattle.eg_table.proofs.GreatestLemmas.{greater, greater-max}
use Rattle.eg_table.proofs.RowLemmas.{row-none, row-found, row-runs, none-most, watch-most}
use Rattle.eg_table.proofs.sweep_row.SweepRow.add.Goals as goal
use Rattle.eg_table.proofs.sweep_row.SweepRow.add.Goals.{in-Some, in-None}

pub overflow_add-self : goal.overflow_add-self
overflow_add-self c = let (runs, are, few) = c.requires in let all = row-runs c.args.self.now runs are in omega (arith, few, all)

pub overflow_add-self-in-Some : goal.overflow_add-self-in-Some
overflow_add-self-in-Some c =
    let (runs, are, few) = c.requires in
    let most : get_or c.args.self.now.by_watch c.rank.result 0 ≤ length runs =
    subst (λ place. get_or c.args.self.now.by_watch place 0 ≤ length runs) (sym c.rank.ensures.index) (watch-most c.args.self.now runs c.in-Some.watch are) in
    omega (arith, few, most)

pub overflow_add-self-in-None : goal.overflow_add-self-in-None
overflow_add-self-in-None c = let (runs, are, few) = c.requires in let most = none-most c.args.self.now runs are in omega (arith, few, most)

pub returns : goal.returns
returns c = λ runs are.
    let old : SweepRow = c.args.self.now in
    let after : SweepRow = c.match-facts.self in
    let told = c.max-self.ensures ∙ greater-max after.reaction c.reaction.result ∙ ap (greater after.reaction) c.reaction.ensures in
    let kept : SweepRow → SweepRow = λ row. record row { reaction = greater row.reaction (reaction_in c.args.facts.now) } in
    ap (λ reaction. record after { reaction = reaction }) told
    ∙ elim c.match-facts.branch [
      | in-Some w ↦ ap kept w.self-is
          ∙ ap (λ place. record old {
            runs = old.runs + 1;
            by_watch = set old.by_watch place (get_or old.by_watch place 0 + 1);
            reaction = greater old.reaction (reaction_in c.args.facts.now);
          }) w.rank.ensures.index
          ∙ row-found old runs c.args.facts.now w.in-Some.watch w.in-Some.field-0-1 are w.in-Some.is
      | in-None w ↦ ap kept w.self-is ∙ row-none old runs c.args.facts.now are w.in-None.is
    ]
