use Rattle.std.proofs.Common.{◌≡◌, ◌∙◌, ◌+◌, ◌<◌, ◌∷◌, ℕ, List, length, ap, sym, subst, drop, slice_index, arith}
use Rattle.std.proofs.lemmas.Bool.Decides.{nat_tests}
use Rattle.std.proofs.lemmas.Grind.{common_steps}
use Rattle.std.proofs.lemmas.List.{drop_more}
use Rattle.eg_toml.specs.Inner.Comments.{IsKeptBy}
use Rattle.eg_toml.specs.Weight.{weight_of}
use Rattle.eg_toml.proofs.WeightLemmas.{slice_from}
use Rattle.eg_toml.proofs.CommentLemmas.{comment-over, comment-weighs}
use Rattle.eg_toml.proofs.comments.from_line_feed.Goals as goal

here : (end : ℕ) (bytes : List ℕ) → end < length bytes → slice_index bytes end ≡ 10 → drop end bytes ≡ 10 ∷ drop (end + 1) bytes
here end bytes within line_feed = drop_more bytes end 0 (omega arith) ∙ ap (λ c. c ∷ drop (end + 1) bytes) line_feed

pub returns-clause-same : goal.returns-clause-same
returns-clause-same c =
    let bytes = c.args.bytes.now in let end = c.visible_length-end.result in
    let is = here end bytes (omega arith) (grind (arith, common_steps, nat_tests)) in
    subst (IsKeptBy (35 ∷ bytes)) (sym (slice_from end bytes ∙ is)) (comment-over bytes (drop (end + 1) bytes) (rw (← c.visible_length-end.ensures.length) is))

pub returns-clause-weight : goal.returns-clause-weight
returns-clause-weight c =
    let bytes = c.args.bytes.now in let end = c.visible_length-end.result in
    let is = here end bytes (omega arith) (grind (arith, common_steps, nat_tests)) in
    ap weight_of (slice_from end bytes ∙ is) ∙ comment-weighs bytes (drop (end + 1) bytes) (rw (← c.visible_length-end.ensures.length) is)
