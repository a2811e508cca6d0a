use Rattle.eg_outcome.proofs.ShownLemmas.{then, refused}
use Rattle.eg_outcome.proofs.note.put_behind.Goals as goal

pub returns-in_err-put_name : goal.returns-in_err-put_name
returns-in_err-put_name g c = refused _ _ _ _ _ c.from_residual.result c.from_residual.ensures.0 c.in_err-put_name.ensures

pub returns : goal.returns
returns g c = then _ _ _ _ _ _ _ c.in_ok-put_name.ensures c.put_pieces.ensures
