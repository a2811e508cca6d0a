use Rattle.std.proofs.Common.{◌≡◌, ◌∙◌, ◌++◌, ap, subst, List, ℕ, append_assoc, arith}
use Rattle.std.specs.Prelude.{OnOk, codes}
use Rattle.eg_record.specs.Texts.{row_columns, row_line}
use Rattle.eg_stream.specs.Texts.{commands_text, coupled_line}
use Rattle.eg_stream.proofs.LineLemmas.{comma-for-lf}
use Rattle.eg_stream.proofs.line.push_coupled.Goals as goal

pub returns : goal.returns
unfolding coupled_line row_line
returns c =
    let behind = commands_text c.args.next.now in
    let front = comma-for-lf c.args.text.now.items (row_columns c.args.row.now) _ _ _ _ c.in_ok-push_row.ensures.line (omega arith) c.pop.ensures.rest c.in_ok-push.ensures.items in
    subst (λ line. OnOk c.push_commands.result (c.push_commands.new.text.items ≡ line))
    (ap (λ (front : List ℕ). front ++ behind) front ∙ append_assoc c.args.text.now.items (row_columns c.args.row.now ++ codes ",") behind)
    c.push_commands.ensures
