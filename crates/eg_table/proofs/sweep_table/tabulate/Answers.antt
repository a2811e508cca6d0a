use Rattle.std.proofs.Common.{◌≡◌, ◌∙◌, sym, ap, ap₂, subst, inl, inr, ◌+◌, None, [], ◌∷◌, ◌++◌, All, append_assoc, arith}
use Rattle.std.specs.List.{sum, sum_by, zip}
use Rattle.std.specs.Iterator.Adapters.{zip_first, zip_second}
use Rattle.std.specs.Slice.Iter.{iter_rest}
use Rattle.std.proofs.lemmas.List.{append-nil}
use Rattle.std.proofs.lemmas.Slice.Zip.{length-zip}
use Rattle.eg_fault.specs.Names.{name_of, class_index}
use Rattle.eg_table.specs.declared.sweep_row.SweepRow.{SweepRow}
use Rattle.eg_table.specs.Sweep.{facts_under, class_rows, table_of}
use Rattle.eg_table.proofs.PairLemmas.{zip-next, zip-end}
use Rattle.eg_table.proofs.TableLemmas.{rows-none, rows-set, row_at, fewer_under, runs-sum, rows-sums}
use Rattle.eg_table.proofs.sweep_table.tabulate.Goals as goal
use Rattle.eg_table.proofs.sweep_table.tabulate.Goals.{In-None}

pub loop-fault-init : goal.loop-fault-init
loop-fault-init c =
    let first : iter_rest (zip_first c.zip-fault-items.result) ≡ c.args.faults.now = ap iter_rest c.zip-fault-items.ensures.first ∙ c.iter.ensures.rest in (
      [],
      rows-none c.new-rows.result c.new-rows.ensures,
      ap (λ s. zip (iter_rest (zip_first s)) (iter_rest (zip_second s))) c.into_iter-fault-iterator.ensures.into_iter_gives ∙ ap₂ zip first c.zip-fault-items.ensures.second.0,
    )

-- what stands past the end of the rows
abbrev absent : SweepRow
absent = record { runs = 0; none = 0; by_watch = []; reaction = None }

pub add-requires : goal.add-requires
add-requires c =
    let (runs, are, all) = c.loop-fault.invariant in
    let steps = c.in-Some.ensures.steps in
    let fault = c.in-Some.fault.now in
    let next = ap (λ rest. runs ++ rest) (sym (zip-next _ _ _ _ _ _ steps.0 steps.1)) ∙ all in
    let fewer = fewer_under (name_of fault.class) runs _ _ _ next in
    let few = c.requires.few in
    let both = length-zip c.args.faults.now c.args.facts.now in (
      facts_under (name_of fault.class) runs,
      row_at c.loop-fault.rows c.index.result fault runs absent are (c.index.ensures.index ∙ ap class_index c.name.ensures),
      omega (arith, fewer, few, both),
    )

pub loop-fault-preserved : goal.loop-fault-preserved
loop-fault-preserved c =
    let (runs, are, all) = c.loop-fault.invariant in
    let steps = c.in-Some.ensures.steps in
    let fault = c.in-Some.fault.now in
    let facts = c.in-Some.of_run.now in
    let rest = zip (iter_rest (zip_first c.next.new.self)) (iter_rest (zip_second c.next.new.self)) in
    let row = c.add.ensures (facts_under (name_of fault.class) runs) (row_at c.loop-fault.rows c.index.result fault runs absent are (c.index.ensures.index ∙ ap class_index c.name.ensures)) in (
      runs ++ (fault, facts) ∷ [],
      rows-set c.loop-fault.rows c.index.result fault runs facts c.add.new.self are (c.index.ensures.index ∙ ap class_index c.name.ensures) row,
      append_assoc runs ((fault, facts) ∷ []) rest ∙ ap (λ left. runs ++ left) (sym (zip-next _ _ _ _ _ _ steps.0 steps.1)) ∙ all,
    )

-- at the end the runs are all
abbrev are_all : (c : In-None) → c.loop-fault.rows ≡ class_rows (zip c.args.faults.now c.args.facts.now)
are_all c =
    let (runs, are, all) = c.loop-fault.invariant in
    let none = zip-end _ _ (elim c.in-None.ensures.steps [ inl first ↦ inl first.1.0 | inr second ↦ inr second.1.0 ]) in
    are ∙ ap class_rows (sym (append-nil runs) ∙ ap (λ left. runs ++ left) (sym none) ∙ all)

pub returns-clause-rows : goal.returns-clause-rows
unfolding table_of
returns-clause-rows c = are_all c

pub returns-clause-runs : goal.returns-clause-runs
returns-clause-runs c =
    let both = length-zip c.args.faults.now c.args.facts.now in
    let same = c.requires.same in
    let all = runs-sum (zip c.args.faults.now c.args.facts.now) in
    ap (sum_by (λ row. row.runs)) (are_all c) ∙ all ∙ (omega (arith, both, same))

pub returns-clause-watches : goal.returns-clause-watches
returns-clause-watches c = subst (All (λ row. row.none + sum row.by_watch ≡ row.runs)) (sym (are_all c)) (rows-sums (zip c.args.faults.now c.args.facts.now))
