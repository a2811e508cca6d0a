use Rattle.std.proofs.Common.{append_assoc}
use Rattle.std.specs.Prelude.{string_bytes}
use Rattle.eg_table.specs.Texts.{table_line}
use Rattle.eg_table.proofs.TextLemmas.{on_ok}
use Rattle.eg_table.proofs.line.push_table_line.Goals as goal

pub returns : goal.returns
unfolding table_line
returns c = on_ok c.push_str-2.result (string_bytes c.push_str-2.new.self) _ _ _ c.push_str-2.ensures.bytes (λ now.
    rw (
      now,
      c.in_ok-push_trap.ensures,
      c.in_ok-push_numbers.ensures,
      c.in_ok-push_watch-2.ensures,
      c.in_ok-push_watch.ensures,
      c.in_ok-push_fault.ensures,
      c.in_ok-push_str.ensures.bytes,
    ) (simp append_assoc))
