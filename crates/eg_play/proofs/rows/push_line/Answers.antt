use Rattle.std.proofs.Common.{◌∙◌, ◌++◌, ap₂}
use Rattle.std.specs.Prelude.{string_bytes}
use Rattle.std.proofs.lemmas.Result.{on_ok_weaker}
use Rattle.eg_table.specs.Texts.{table_line}
use Rattle.eg_table.specs.Margins.{margins_line}
use Rattle.eg_play.specs.Texts.{line_of}
use Rattle.eg_play.proofs.rows.push_line.Goals as goal

pub returns-in-Table : goal.returns-in-Table
unfolding line_of
returns-in-Table c = rw c.in-Table.is (on_ok_weaker c.push_table_line.result
    (λ e. e ∙ ap₂ (λ name fault. string_bytes c.args.text.now ++ table_line name fault c.args.bound c.args.one.now) c.as_str-name.ensures c.as_ref-fault.ensures.value)
    c.push_table_line.ensures)

pub returns-in-Margins : goal.returns-in-Margins
unfolding line_of
returns-in-Margins c = rw c.in-Margins.is (on_ok_weaker c.push_margins_line.result
    (λ e. e ∙ ap₂ (λ name fault. string_bytes c.args.text.now ++ margins_line name fault c.args.one.now.margins) c.as_str-name.ensures c.as_ref-fault.ensures.value)
    c.push_margins_line.ensures)
