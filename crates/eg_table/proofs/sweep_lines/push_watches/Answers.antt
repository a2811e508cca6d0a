use Rattle.std.proofs.Common.{◌≡◌, ◌∙◌, ap, ap₂, inl, inr, map, ◌++◌}
use Rattle.std.specs.Prelude.{string_bytes}
use Rattle.std.specs.List.{concat, zip}
use Rattle.std.specs.Iterator.Adapters.{zip_first, zip_second}
use Rattle.std.specs.Slice.Iter.{iter_rest}
use Rattle.eg_record.specs.Detection.{watches}
use Rattle.eg_table.specs.SweepTexts.{watch_text, watches_text}
use Rattle.eg_table.proofs.PairLemmas.{zip-next, zip-end}
use Rattle.eg_table.proofs.TextLemmas.{written, all_written, watch_text-is}
use Rattle.eg_table.proofs.sweep_lines.push_watches.Goals as goal

pub loop-watch-init : goal.loop-watch-init
unfolding watches_text
loop-watch-init c =
    let all = c.into_iter-watch-iterator.ensures.into_iter_gives in
    let pairs = c.zip-watch-items.result in
    let first : iter_rest (zip_first pairs) ≡ watches = ap iter_rest c.zip-watch-items.ensures.first ∙ c.iter.ensures.rest in
    ap (λ s. string_bytes c.args.text.now ++ concat (map watch_text (zip (iter_rest (zip_first s)) (iter_rest (zip_second s))))) all
    ∙ ap (λ ps. string_bytes c.args.text.now ++ concat (map watch_text ps)) (ap₂ zip first c.zip-watch-items.ensures.second.0)

pub loop-watch-preserved : goal.loop-watch-preserved
loop-watch-preserved c =
    let steps = c.in-Some.ensures.steps in
    written watch_text _ _ _ _ (c.in-Some.watch.now, c.in-Some.count.now) _ (zip-next _ _ _ _ _ _ steps.0 steps.1)
    (c.in_ok-write.ensures.bytes ∙ ap (λ text. string_bytes c.loop-watch.text ++ text) (watch_text-is c.in-Some.watch.now c.in-Some.count.now c.name.result.now c.name.ensures))
    c.loop-watch.invariant

pub returns : goal.returns
returns c = all_written watch_text _ _ _ (zip-end _ _ (elim c.in-None.ensures.steps [ inl first ↦ inl first.1.0 | inr second ↦ inr second.1.0 ])) c.loop-watch.invariant
