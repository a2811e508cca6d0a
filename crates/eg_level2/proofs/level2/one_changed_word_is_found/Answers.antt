use Rattle.eg_level2.proofs.PlaceLemmas.{change_law}
use Rattle.eg_level2.proofs.level2.one_changed_word_is_found.Goals as goal

pub returns : goal.returns
returns c = change_law
