-- The questions of the monitoring module have numbers from 0 on, and past the last one stands a question
-- whose numbers are all 0.
use Rattle.std.specs.Prelude.{ℕ, List, [], ◌∷◌, slice_index_or}
use Rattle.eg_answer.specs.declared.questions.Question.{Question}

-- the question whose numbers are all 0
abbrev pub no_question : Question
no_question = record {
  row = record {
    seed = 0;
    readings = record {
      pedal = 0 ∷ 0 ∷ [];
      plate = 0 ∷ 0 ∷ [];
      load = 0 ∷ 0 ∷ [];
      speed = 0 ∷ 0 ∷ [];
      raise = 0;
      raise_check = 0;
    };
    used = 0;
    estimate = 0;
    allowed = 0;
  };
  answer = 0;
}

-- question i, and past the last one `no_question`
abbrev pub question_at : List Question → ℕ → Question
question_at questions i = slice_index_or questions i no_question
