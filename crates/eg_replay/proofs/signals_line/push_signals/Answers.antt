use Rattle.std.proofs.Common.{◌≡◌, ◌∙◌, ◌++◌, ap, ap₂, sym, List, ℕ, append_assoc, arith}
use Rattle.std.specs.Prelude.{codes}
use Rattle.eg_record.specs.Texts.{numbers_text, found_text}
use Rattle.eg_record.proofs.ColumnsLemmas.{rest-whole}
use Rattle.eg_replay.specs.declared.tick_signals.TickSignals.{TickSignals}
use Rattle.eg_replay.specs.Texts.{signal_numbers, signals_line}
use Rattle.eg_replay.proofs.signals_line.push_signals.Goals as goal

-- the numbers are put before what is found, which is put before an LF
whole : (tick : ℕ) (t : TickSignals) (numbers found all : List ℕ) → numbers ≡ signal_numbers tick t → found ≡ found_text t.found ++ codes "\n" → all ≡ numbers_text numbers ++ found
    → all ≡ signals_line tick t
unfolding signals_line
whole tick t numbers found all are behind put =
    put ∙ ap₂ (λ ns f. numbers_text ns ++ f) are behind ∙ sym (append_assoc (numbers_text (signal_numbers tick t)) (found_text t.found) (codes "\n"))

pub returns-clause-line : goal.returns-clause-line
returns-clause-line c =
    c.in_ok-extend_from_slice.ensures.items
    ∙ ap (λ (t : List ℕ). c.args.text.now.items ++ t)
    (rest-whole 186 c.put_numbers-start.result c.put_numbers-start.new.line (omega arith)
    ∙ whole c.args.tick c.args.told.now _ _ _ c.numbers_of.ensures c.put_found-start.ensures.put c.put_numbers-start.ensures.put)
