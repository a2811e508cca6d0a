use Rattle.std.proofs.Common.{◌≡◌, map, take}
use Rattle.arrayvec.specs.ArrayVec.{array_vec_len}
use Rattle.eg_answer.specs.declared.questions.Question.{Question}
use Rattle.eg_level2.specs.Inputs.{results_by}
use Rattle.eg_level2.proofs.results.results_of_all.Given as goal

-- those of the questions so far
abbrev pub invariant-loop-i : goal.invariant-loop-i
invariant-loop-i l = record {
  items : l.all.items ≡ map (λ (q : Question). results_by l.fn.rules q.row) (take l.i l.fn.questions);
  count : array_vec_len l.all ≡ l.i;
}
