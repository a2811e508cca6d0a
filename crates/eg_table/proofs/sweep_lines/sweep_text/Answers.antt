use Rattle.std.proofs.Common.{◌≡◌, ◌∙◌, ap, ap₂, inl, inr, map, ◌++◌}
use Rattle.std.specs.Prelude.{string_bytes}
use Rattle.std.specs.List.{concat, zip}
use Rattle.std.specs.Iterator.Adapters.{zip_first, zip_second}
use Rattle.std.specs.Slice.Iter.{iter_rest}
use Rattle.eg_fault.specs.Names.{classes}
use Rattle.eg_table.specs.SweepTexts.{sweep_line, class_line}
use Rattle.eg_table.proofs.PairLemmas.{zip-next, zip-end}
use Rattle.eg_table.proofs.TextLemmas.{written, all_written, sweep_text-is}
use Rattle.eg_table.proofs.sweep_lines.sweep_text.Goals as goal

pub loop-class-init : goal.loop-class-init
loop-class-init c =
    let all = c.into_iter-class-iterator.ensures.into_iter_gives in
    let pairs = c.zip-class-items.result in
    let first : iter_rest (zip_first pairs) ≡ classes = ap iter_rest c.zip-class-items.ensures.first ∙ c.iter.ensures.rest in
    ap₂ (λ text s. text ++ concat (map class_line (zip (iter_rest (zip_first s)) (iter_rest (zip_second s))))) c.new-text.ensures.bytes all
    ∙ ap₂ (λ names rows. concat (map class_line (zip names rows))) first c.zip-class-items.ensures.second.0

pub loop-class-preserved : goal.loop-class-preserved
unfolding class_line
loop-class-preserved c =
    let steps = c.in-Some.ensures.steps in
    written class_line _ _ _ _ (c.in-Some.class.now, c.in-Some.row.now) _ (zip-next _ _ _ _ _ _ steps.0 steps.1)
    (c.in_ok-push_row.ensures ∙ ap (λ name. string_bytes c.loop-class.text ++ sweep_line (name, c.in-Some.row.now)) c.text.ensures)
    c.loop-class.invariant

pub returns : goal.returns
returns c =
    let none = zip-end _ _ (elim c.in-None.ensures.steps [ inl first ↦ inl first.1.0 | inr second ↦ inr second.1.0 ]) in
    let lines = all_written class_line _ _ _ none c.loop-class.invariant in
    ap (λ v. v.items) c.into_bytes.ensures.value ∙ sweep_text-is c.args.rows.now _ _ lines c.in_ok-push_end.ensures
