use Rattle.std.proofs.Common.{◌≡◌, ◌∙◌, ◌++◌, ap, subst, List, ℕ, append_assoc}
use Rattle.std.specs.Prelude.{OnOk, codes, replicate}
use Rattle.std.specs.List.{concat}
use Rattle.eg_stream.specs.Texts.{commands_text, first_line}
use Rattle.eg_stream.proofs.line.push_first.Goals as goal

pub returns : goal.returns
unfolding first_line
returns c =
    let behind = commands_text c.args.next.now in
    subst (λ line. OnOk c.push_commands.result (c.push_commands.new.text.items ≡ line))
    (ap (λ (front : List ℕ). front ++ behind) c.in_ok-extend_from_slice.ensures.items ∙ append_assoc c.args.text.now.items (concat (replicate 21 (codes "-,"))) behind)
    c.push_commands.ensures
