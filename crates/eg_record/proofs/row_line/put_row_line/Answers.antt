use Rattle.std.proofs.Common.{◌≡◌, ◌∙◌, ◌++◌, [], ap, sym, subst, List, ℕ, append-nil, append_assoc, arith}
use Rattle.std.proofs.Math.ListN.{drop_of_length-le}
use Rattle.std.specs.Prelude.{codes}
use Rattle.std.specs.Str.{IsAscii}
use Rattle.eg_record.specs.declared.row.Row.{Row}
use Rattle.eg_record.specs.Texts.{numbers_text, row_numbers, events_text, row_columns, row_line}
use Rattle.eg_record.proofs.row_line.put_row_line.Goals as goal

-- the numbers, and what is found and heard
whole : (row : Row) (numbers tail events new : List ℕ) → numbers ≡ row_numbers row → tail ≡ [] → events ≡ (events_text row ++ codes "\n") ++ tail →
    new ≡ numbers_text numbers ++ events → new ≡ row_line row
unfolding row_line row_columns
whole row numbers tail events new are none is now =
    let behind = events_text row ++ codes "\n" in
    now
    ∙ ap (λ ns. numbers_text ns ++ events) are
    ∙ ap (λ es. numbers_text (row_numbers row) ++ es) (is ∙ ap (λ t. behind ++ t) none ∙ append-nil behind)
    ∙ sym (append_assoc (numbers_text (row_numbers row)) (events_text row) (codes "\n"))

pub returns-clause-put : goal.returns-clause-put
returns-clause-put c =
    whole c.args.row.now _ _ _ _ c.numbers_of.ensures (drop_of_length-le c.args.line.now {i = 276} (omega arith)) c.put_events-start.ensures.put
    c.put_numbers.ensures.put

pub returns-clause-ascii : goal.returns-clause-ascii
returns-clause-ascii c = subst (λ numbers. IsAscii (numbers_text numbers)) c.numbers_of.ensures c.put_numbers.ensures.ascii
