use Rattle.std.proofs.Common.{◌≡◌, ◌∙◌, ◌++◌, ◌∷◌, [], ap, ap₂, List, ℕ, refl, drop, replicate, append-nil, append_assoc, arith}
use Rattle.std.specs.Prelude.{codes}
use Rattle.eg_record.specs.Texts.{digit, numbers_text}
use Rattle.eg_record.proofs.ColumnsLemmas.{rest-whole}
use Rattle.eg_tick.specs.declared.commands.Commands.{Commands}
use Rattle.eg_stream.specs.Texts.{held_text, commands_text}
use Rattle.eg_stream.proofs.line.push_commands.Goals as goal

-- numbers, behind which nothing stands, and where the plate is held
whole : (next : Commands) (numbers tail put text one two all : List ℕ) → numbers ≡ next.throttle ∷ next.ignition ∷ digit next.on ∷ [] → tail ≡ [] → put ≡ numbers_text numbers ++ tail
    → one ≡ text ++ put → two ≡ one ++ held_text next.held → all ≡ two ++ codes "\n" → all ≡ text ++ commands_text next
unfolding commands_text
whole next numbers tail put text one two all are none is first second third =
    let columns = numbers_text (next.throttle ∷ next.ignition ∷ digit next.on ∷ []) in
    let all_put = is ∙ ap₂ (λ ns t. numbers_text ns ++ t) are none ∙ append-nil columns in
    third ∙ ap (λ t. t ++ codes "\n") (second ∙ ap (λ t. t ++ held_text next.held) (first ∙ ap (λ p. text ++ p) all_put)) ∙ simp append_assoc

pub returns : goal.returns
returns c =
    whole c.args.next.now _ (drop 33 (replicate 33 0)) _ c.args.text.now.items _ _ _ (grind arith) refl c.put_numbers-start.ensures.put
    (c.in_ok-extend_from_slice.ensures.items ∙ ap (λ (t : List ℕ). c.args.text.now.items ++ t) (rest-whole 33 c.put_numbers-start.result c.put_numbers-start.new.line (omega arith)))
    c.in_ok-push_held.ensures c.in_ok-push.ensures.items
