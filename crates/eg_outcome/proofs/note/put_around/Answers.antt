use Rattle.std.specs.Prelude.{Ok, Err}
use Rattle.eg_base.specs.declared.sink.PutRefusal.{PutRefusal}
use Rattle.eg_outcome.proofs.ShownLemmas.{then, refused, puts}
use Rattle.eg_outcome.proofs.note.put_around.Goals as goal

pub returns-in_err-put : goal.returns-in_err-put
returns-in_err-put g c =
    let put = c.in_err-put.ensures in
    refused {T = Unit {0}} {E = PutRefusal} _ _ c.args.words.now _ _ c.from_residual.result c.from_residual.ensures.0
    (puts _ _ _ (Err c.in_err-put.field-0.0) tt put.prefix put.count put.stays_sure put.cause put.sure)

pub returns : goal.returns
returns g c =
    let put = c.in_ok-put.ensures in
    then {T = Unit {0}} {E = PutRefusal} _ _ _ c.args.words.now _ tt _
    (puts _ _ _ (Ok tt) put.ok tt put.count put.stays_sure put.cause put.sure) c.put_behind.ensures
