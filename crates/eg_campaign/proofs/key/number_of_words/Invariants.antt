use Rattle.std.proofs.Common.{◌≡◌, fold, drop}
use Rattle.eg_plan.specs.DriveNumbers.{mixed}
use Rattle.eg_campaign.proofs.key.number_of_words.Given as goal

-- the words that are left make of the number so far what all make
abbrev pub invariant-loop-word : goal.invariant-loop-word
invariant-loop-word l = fold mixed l.all (drop l.word-index l.words) ≡ fold mixed l.number l.words
