use Rattle.std.proofs.Common.{◌≡◌, ◌∙◌, ◌<◌, ◌∷◌, ap, sym, subst, drop, slice_index, arith}
use Rattle.std.proofs.lemmas.Bool.Decides.{nat_tests}
use Rattle.std.proofs.lemmas.Grind.{common_steps}
use Rattle.std.proofs.lemmas.List.{drop_more}
use Rattle.eg_toml.specs.Inner.Comments.{IsKeptBy}
use Rattle.eg_toml.proofs.WeightLemmas.{slice_from}
use Rattle.eg_toml.proofs.CommentLemmas.{line_feed-over}
use Rattle.eg_toml.proofs.comments.behind_line.Goals as goal

pub returns-then-is_ascii-clause-same : goal.returns-then-is_ascii-clause-same
returns-then-is_ascii-clause-same c =
    let bytes = c.args.bytes.now in
    let line_feed : slice_index bytes 0 ≡ 10 = grind (arith, common_steps, nat_tests) in
    let ascii : slice_index bytes 1 < 128 = grind (arith, common_steps, nat_tests) in
    let behind : drop 1 bytes ≡ slice_index bytes 1 ∷ drop 2 bytes = drop_more bytes 1 0 (omega arith) in
    let here : bytes ≡ 10 ∷ drop 1 bytes = drop_more bytes 0 0 (omega arith) ∙ ap (λ c. c ∷ drop 1 bytes) line_feed in
    let over = line_feed-over (slice_index bytes 1) (drop 2 bytes) ascii in
    let kept : IsKeptBy (10 ∷ drop 1 bytes) (drop 1 bytes) = subst (λ rest. IsKeptBy (10 ∷ rest) rest) (sym behind) over in
    subst (IsKeptBy bytes) (sym (slice_from 1 bytes)) (subst (λ text. IsKeptBy text (drop 1 bytes)) (sym here) kept)
