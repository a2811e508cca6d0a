-- The results of the test rows, which are kept.
use Rattle.std.proofs.Common.{◌≡◌, ◌∙◌, sym, ap, ap₂, ℕ, suc, ◌+◌, ◌%◌, ◌<◌, ◌≤◌, List, [], ◌∷◌, ◌++◌, map, take, length, get_or, arith}
use Rattle.std.proofs.Math.Nat.{mod-lt}
use Rattle.std.proofs.Math.Seq.{take-suc, take-length}
use Rattle.std.proofs.lemmas.List.{length-map, map-append, get_or-map}
use Rattle.eg_answer.specs.declared.rules.Rules.{Rules}
use Rattle.eg_answer.specs.declared.rules.TestRow.{TestRow}
use Rattle.eg_answer.specs.declared.questions.Question.{Question}
use Rattle.eg_answer.specs.Questions.{no_question, question_at}
use Rattle.eg_level2.specs.declared.results.RowResults.{RowResults}
use Rattle.eg_level2.specs.Inputs.{results_by, row_of}

-- one question more
pub kept-more : (rules : Rules) (questions : List Question) (all new : List RowResults) (i : ℕ) (made : RowResults) (row : TestRow) →
    all ≡ map (λ (q : Question). results_by rules q.row) (take i questions) → new ≡ all ++ made ∷ [] → made ≡ results_by rules row →
    row ≡ (question_at questions i).row → i < length questions → new ≡ map (λ (q : Question). results_by rules q.row) (take (i + 1) questions)
kept-more rules questions all new i made row are is by at below =
    let f = λ (q : Question). results_by rules q.row in
    let next : suc i ≡ i + 1 = omega arith in
    is ∙ ap₂ (λ (xs : List RowResults) x. xs ++ x ∷ []) are (by ∙ ap (results_by rules) at)
    ∙ sym (map-append f (take i questions) (get_or questions i no_question ∷ []))
    ∙ ap (map f) (sym (take-suc questions i no_question below)) ∙ ap (λ n. map f (take n questions)) next

-- all questions
pub kept-all : (rules : Rules) (questions : List Question) (all : List RowResults) (i n : ℕ) →
    all ≡ map (λ (q : Question). results_by rules q.row) (take i questions) → n ≡ length questions → n ≤ i → i ≤ n →
    all ≡ map (λ (q : Question). results_by rules q.row) questions
kept-all rules questions all i n are count past within =
    are ∙ ap (map (λ (q : Question). results_by rules q.row)) (ap (λ n. take n questions) (let ends : i ≡ length questions = omega arith in ends) ∙ take-length questions)

-- the results of the row of the question that is asked, among those of all questions
pub asked-kept : (rules : Rules) (questions : List Question) (all : List RowResults) (asked n : ℕ) (d : RowResults) →
    all ≡ map (λ (q : Question). results_by rules q.row) questions → 2 ≤ length questions → n ≡ length all →
    get_or all (asked % n) d ≡ results_by rules (row_of questions asked)
unfolding row_of
asked-kept rules questions all asked n d are some count =
    let f = λ (q : Question). results_by rules q.row in
    let size : n ≡ length questions = count ∙ ap length are ∙ length-map questions f in
    let any : 0 < length questions = omega arith in
    ap (λ k. get_or all (asked % k) d) size ∙ ap (λ (xs : List RowResults). get_or xs (asked % length questions) d) are
    ∙ get_or-map f questions (asked % length questions) no_question d (mod-lt asked any)

pub seed-kept : (rules : Rules) (row : TestRow) (test : RowResults) → test ≡ results_by rules row → test.seed ≡ row.seed
unfolding results_by
seed-kept rules row test e = ap (λ (t : RowResults). t.seed) e
