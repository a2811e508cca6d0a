use Rattle.std.proofs.Common.{rules, ◌≡◌, ◌∙◌, ap, ap₂, inl, inr, map, ◌++◌}
use Rattle.std.specs.Prelude.{string_bytes}
use Rattle.std.specs.List.{concat, zip}
use Rattle.std.specs.Iterator.Adapters.{zip_first, zip_second}
use Rattle.std.specs.Slice.Iter.{iter_rest}
use Rattle.eg_table.proofs.PairLemmas.{zip-next, zip-end}
use Rattle.eg_table.proofs.TextLemmas.{written, all_written}
use Rattle.eg_play.specs.Texts.{header_of, line_of}
use Rattle.eg_play.proofs.RowLemmas.{rows_by-is}
use Rattle.eg_play.proofs.rows.rows_text.Goals as goal

pub loop-input-init : goal.loop-input-init
loop-input-init c =
    let all = c.into_iter-input-iterator.ensures.into_iter_gives in
    let pairs = c.zip-input-items.result in
    let begun : string_bytes c.push_str.new.self ≡ header_of c.args.columns = c.in_ok-push_str.ensures.bytes ∙ ap₂ (λ text header. text ++ header) c.new-text.ensures.bytes c.header.ensures in
    let of_inputs : iter_rest c.iter.result ≡ c.args.inputs.now = search rules in
    let first : iter_rest (zip_first pairs) ≡ c.args.inputs.now = ap iter_rest c.zip-input-items.ensures.first ∙ of_inputs in
    let second : iter_rest (zip_second pairs) ≡ c.args.told.now = c.zip-input-items.ensures.second.0 in
    ap₂ (λ text s. text ++ concat (map (line_of c.args.columns c.args.bound) (zip (iter_rest (zip_first s)) (iter_rest (zip_second s))))) begun all
    ∙ ap₂ (λ inputs told. header_of c.args.columns ++ concat (map (line_of c.args.columns c.args.bound) (zip inputs told))) first second

pub loop-input-preserved : goal.loop-input-preserved
loop-input-preserved c =
    let steps = c.in-Some.ensures.steps in
    let next = zip-next _ _ _ _ _ _ steps.0 steps.1 in
    let line : string_bytes c.push_line.new.text ≡ string_bytes c.loop-input.text ++ line_of c.args.columns c.args.bound (c.in-Some.input.now, c.in-Some.one.now) =
    c.in_ok-push_line.ensures in
    written (line_of c.args.columns c.args.bound) _ _ _ _ (c.in-Some.input.now, c.in-Some.one.now) _ next line c.loop-input.invariant

pub returns : goal.returns
returns c =
    let none = zip-end _ _ (elim c.in-None.ensures.steps [ inl first ↦ inl first.1.0 | inr second ↦ inr second.1.0 ]) in
    let lines = all_written (line_of c.args.columns c.args.bound) _ _ _ none c.loop-input.invariant in
    ap (λ v. v.items) c.into_bytes.ensures.value ∙ lines ∙ rows_by-is c.args.columns c.args.bound c.args.inputs.now c.args.told.now
