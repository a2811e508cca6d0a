use Rattle.eg_toml.proofs.WeightLawLemmas.{comments, texts}
use Rattle.eg_toml.proofs.laws.comments_and_texts_weigh_nothing.Goals as goal

pub returns-clause-comments : goal.returns-clause-comments
returns-clause-comments c = comments

pub returns-clause-texts : goal.returns-clause-texts
returns-clause-texts c = texts
