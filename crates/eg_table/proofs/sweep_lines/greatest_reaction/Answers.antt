use Rattle.std.proofs.Common.{◌≡◌, ◌∙◌, sym, ap, ◌+◌, None, List, take, [], ◌∷◌, ◌++◌, get_or, add-one}
use Rattle.std.specs.List.{filter_map}
use Rattle.std.proofs.Math.Seq.{take-suc}
use Rattle.eg_table.specs.declared.sweep_row.SweepRow.{SweepRow}
use Rattle.eg_table.specs.Sweep.{greatest_number}
use Rattle.eg_table.proofs.GreatestLemmas.{greater, greater-max, greatest-more, greatest-none}
use Rattle.eg_table.proofs.sweep_lines.greatest_reaction.Goals as goal

pub loop-row-init : goal.loop-row-init
loop-row-init c = sym greatest-none

pub loop-row-preserved : goal.loop-row-preserved
loop-row-preserved c =
    let i = c.loop-row.row-index in
    let absent : SweepRow = record { runs = 0; none = 0; by_watch = []; reaction = None } in
    let row : SweepRow = get_or c.args.rows.now i absent in
    let before = take i c.args.rows.now in
    let more : take (i + 1) c.args.rows.now ≡ before ++ row ∷ [] = ap (λ n. take n c.args.rows.now) (add-one i) ∙ take-suc c.args.rows.now i absent c.loop-row-test.true in
    c.max-most.ensures ∙ greater-max c.loop-row.most row.reaction ∙ ap (λ most. greater most row.reaction) c.loop-row.invariant
    ∙ sym (ap (λ (rows : List SweepRow). greatest_number (filter_map (λ (row : SweepRow). row.reaction) rows)) more ∙ greatest-more (λ (row : SweepRow). row.reaction) before row)
