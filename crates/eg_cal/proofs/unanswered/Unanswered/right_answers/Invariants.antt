use Rattle.std.proofs.Common.{◌≡◌, map, take}
use Rattle.eg_cal.specs.Answers.{answered}
use Rattle.eg_cal.proofs.unanswered.Unanswered.right_answers.Given as goal

-- the questions so far, each with the right answer
abbrev pub invariant-loop-i : goal.invariant-loop-i
invariant-loop-i l = l.answered ≡ map (answered l.self.rules) (take l.i l.self.questions)
