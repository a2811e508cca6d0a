use Rattle.std.specs.Prelude.{string_bytes}
use Rattle.eg_table.proofs.TextLemmas.{sweep_line-is, on_ok}
use Rattle.eg_table.proofs.sweep_lines.push_row.Goals as goal

pub returns : goal.returns
returns c = on_ok c.push_str-2.result (string_bytes c.push_str-2.new.self) _ _ _ c.push_str-2.ensures.bytes (λ now.
    sweep_line-is c.args.name.now c.args.row.now _ _ _ _ _ _ c.in_ok-write.ensures.bytes
    c.in_ok-push_watches.ensures c.in_ok-push_str.ensures.bytes c.in_ok-push_reaction.ensures now)
