use Rattle.std.proofs.Common.{◌≡◌, ◌++◌, drop}
use Rattle.std.specs.Prelude.{string_bytes}
use Rattle.eg_desk.specs.Texts.{answer_lines, answers_text}
use Rattle.eg_desk.proofs.answering.answers_text.Given as goal

-- what is written, with the lines of the questions that are left, is the whole
abbrev pub invariant-loop-i : goal.invariant-loop-i
invariant-loop-i l = string_bytes l.text ++ answer_lines l.i (drop l.i l.questions) ≡ answers_text l.questions
