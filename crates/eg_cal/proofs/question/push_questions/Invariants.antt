use Rattle.std.proofs.Common.{◌≡◌, ◌+◌, length, drop}
use Rattle.toml.specs.View.{items_view}
use Rattle.eg_toml.specs.Arrays.{all_read, one}
use Rattle.eg_toml.proofs.ReadLemmas.{with_found}
use Rattle.eg_cal.specs.Questions.{question_of}
use Rattle.eg_cal.proofs.question.push_questions.Given as goal

abbrev pub invariant-loop-item : goal.invariant-loop-item
invariant-loop-item l = record {
  so_far : with_found l.initial.questions (all_read (one question_of) (items_view l.items)) ≡ with_found l.questions (all_read (one question_of) (items_view (drop l.item-index l.items)));
  as_many : length l.questions ≡ length l.initial.questions + l.item-index;
}
