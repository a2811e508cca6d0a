-- The rows of a coupled run, one for each answer, and the text that is made of them.
use Rattle.std.proofs.Common.{◌∙◌, sym, ap, refl, suc, List, [], ◌∷◌, ◌++◌, append_assoc, append-nil, ℕ, length}
use Rattle.eg_record.specs.declared.row.Row.{Row}
use Rattle.eg_input.specs.declared.answered.PartnerAnswer.{PartnerAnswer}
use Rattle.eg_model.specs.Moments.{moment_in}
use Rattle.eg_model.specs.Spans.{moment_at, moments, next, next_after}
use Rattle.eg_model.specs.Rows.{row_of, rows_of}
use Rattle.eg_model.proofs.SpanLemmas.{length-run_moments}
use Rattle.eg_tick.specs.Commanding.{commands_next}
use Rattle.eg_stream.specs.Coupled.{CoupledUnit, entry_by, entries_by, coupled_moments, coupled_rows}
use Rattle.eg_stream.specs.Headline.{RowsComeInTurn, ShowAnswers}
use Rattle.eg_stream.specs.Texts.{coupled_header, first_line, answer_line, coupled_text, commands_by, coupled_lines, TellsRows}
use Rattle.eg_stream.proofs.SpokenRuns.{length-entries_by}

-- one answer more adds a row
pub rows_come_in_turn : RowsComeInTurn
unfolding coupled_rows coupled_moments entries_by moments next rows_of
rows_come_in_turn unit before answer =
    let past = moments unit.setting (entries_by unit before) in
    ap (λ n. row_of n (next_after unit.setting (entry_by unit (length before) answer) past) ∷ rows_of past)
    (length-run_moments unit.setting (entries_by unit before) ∙ length-entries_by unit before)

-- and what it has was answered
pub rows_show_answers : (unit : CoupledUnit) (answers : List PartnerAnswer) → ShowAnswers (coupled_rows unit answers) answers
unfolding coupled_rows coupled_moments entries_by entry_by moments rows_of row_of next_after moment_at moment_in
rows_show_answers unit [] = tt
rows_show_answers unit (answer ∷ before) =
    (refl, record { plate = refl; charge = refl; torque = refl }, rows_show_answers unit before)

-- and a line
pub text_tells_rows : (unit : CoupledUnit) (answers : List PartnerAnswer) → TellsRows unit answers
unfolding coupled_text answer_line coupled_lines commands_by coupled_rows coupled_moments entries_by moments rows_of
text_tells_rows unit [] = record {
  text = sym (append-nil (coupled_header ++ first_line (commands_next unit.setting [])));
  rows = refl;
  told = refl;
}
text_tells_rows unit (answer ∷ before) = more (text_tells_rows unit before)
  where
    first : List ℕ
    first = coupled_header ++ first_line (commands_next unit.setting [])

    lines : List Row → List ℕ
    lines rows = coupled_lines rows (commands_by unit (answer ∷ before))

    more : TellsRows unit before → TellsRows unit (answer ∷ before)
    more known = record {
      text = ap (λ (text : List ℕ). text ++ answer_line unit before answer) known.text
          ∙ append_assoc first (coupled_lines (coupled_rows unit before) (commands_by unit before)) (answer_line unit before answer)
          ∙ ap (λ rows. first ++ lines rows) (sym (rows_come_in_turn unit before answer));
      rows = ap length (rows_come_in_turn unit before answer) ∙ ap suc known.rows;
      told = ap suc known.told;
    }
