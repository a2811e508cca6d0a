-- The program flow of level 2 over its ticks: which modules run, whether one is disturbed, which number a
-- right answer is, and what the token, the flow and the last tick tell between two ticks.
use Rattle.std.specs.Prelude.{◌≡◌, ℕ, ◌+◌, ◌%◌, ◌^◌, ◌≤◌, ◌<◌, ◌==◌, ◌⊎◌, Bool, true, false, ◌&&◌, ◌||◌, is_some, List, [], ◌∷◌, length, All}
use Rattle.std.specs.List.{list_all}
use Rattle.eg_answer.specs.Answers.{results_of, expected_of, answer_number}
use Rattle.eg_answer.specs.Modules.{modules, AllRun, NoneRuns}
use Rattle.eg_answer.specs.declared.rules.Rules.{Rules}
use Rattle.eg_answer.specs.declared.rules.TestRow.{TestRow}
use Rattle.eg_level2.specs.Words.{Words}
use Rattle.eg_level2.specs.Inputs.{row_of}
use Rattle.eg_level2.specs.Ticks.{Doing, after_tick, answer_at}

-- ---- which modules run at a tick ----

-- whether all eight run
unfoldable pub is_whole : Doing → Bool
is_whole d = list_all (λ i. d.ran i) modules

-- ---- the question, and disturbances ----

-- the row of the question that is asked
unfoldable pub row_asked : Doing → TestRow
row_asked d = row_of d.questions d.asked

-- the right answer to the row, and the number that is expected to be heard
unfoldable pub expected_fold : Doing → ℕ
expected_fold d = expected_of d.rules (row_asked d)

unfoldable pub expected_number : Doing → ℕ
expected_number d = answer_number (expected_fold d)

-- the seed of a row, and its five results, fit into words of 16 bits
pub record FitsWords (rules : Rules) (row : TestRow) : Type 0 where
  pub seed : row.seed < 2 ^ 16
  pub results : All (λ result. result < 2 ^ 16) (results_of rules row)

-- whether none of the eight modules is disturbed
unfoldable pub is_undisturbed : Doing → Bool
is_undisturbed d = list_all (λ i. d.disturbance i == 0) modules

-- ---- over many ticks, newest first ----

-- the ticks are numbered from 0 on
unfoldable pub AreInOrder : List Doing → Type 0
AreInOrder [] = Unit {0}
AreInOrder (d ∷ before) = (d.tick ≡ length before) × AreInOrder before

-- at each of them all eight modules run or none does, and no word differs from its complement
unfoldable pub AreTogether : List Doing → Type 0
AreTogether [] = Unit {0}
AreTogether (d ∷ before) = (AllRun d.ran ⊎ NoneRuns d.ran) × (d.differs ≡ false) × AreTogether before

-- the words after these ticks
unfoldable pub words_after : Words → List Doing → Words
words_after words [] = words
words_after words (d ∷ before) = after_tick d (words_after words before)

-- Whether, after a tick, all eight modules ran at each tick since the last answer. A tick that sends an
-- answer begins anew.
unfoldable pub whole_after : Doing → Words → Bool → Bool
whole_after d words whole = is_some (answer_at d words) || (is_whole d && whole)

-- whether they did after all of these ticks
unfoldable pub whole_since : Words → List Doing → Bool
whole_since words [] = true
whole_since words (d ∷ before) = whole_after d (words_after words before) (whole_since words before)

-- ---- what the words tell between two ticks ----

-- Steady words, after `made` ticks. The token rests at 0. The flow is unmarked or marked. Module 0 ran last
-- at one of those ticks, or at none so far. And the flow is unmarked, and module 0 ran at the very last of
-- these ticks, exactly if all eight modules ran at each tick since the last answer (`whole`).
pub record IsSteady (made : ℕ) (whole : Bool) (words : Words) : Type 0 where
  pub token : words.token ≡ 0
  pub flow : (words.flow ≡ 0x00ff) ⊎ (words.flow ≡ 0x80ff)
  pub near : (words.last + 1) % 65536 ≤ made
  pub tells : (words.flow == 0x00ff && (words.last + 1) % 65536 == made) ≡ whole
