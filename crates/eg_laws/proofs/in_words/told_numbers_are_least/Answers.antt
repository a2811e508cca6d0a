use Rattle.eg_laws.proofs.WordLaws.{peak_is_greatest, stretch_is_longest, reaction_is_longest}
use Rattle.eg_laws.proofs.in_words.told_numbers_are_least.Goals as goal

pub returns : goal.returns
returns c = record { peak = peak_is_greatest; stretch = stretch_is_longest; reaction = reaction_is_longest }
