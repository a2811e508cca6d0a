use Rattle.std.proofs.Common.{◌<◌, rules}
use Rattle.eg_level2.proofs.MakesLemmas.{put_refused, put_both}
use Rattle.eg_level2.proofs.words.keep.Goals as goal

pub returns-in_err-put : goal.returns-in_err-put
returns-in_err-put g c = put_refused c.args.number c.args.value c.from_residual.result c.from_residual.ensures.0
    c.in_err-put.ensures.stopped c.in_err-put.ensures.outside c.in_err-put.ensures.memory

pub returns : goal.returns
returns g c =
    let fits : c.args.value < 65536 = search rules in
    put_both c.args.number c.args.value c.put-2.result c.requires fits c.in_ok-put.ensures.stored c.in_ok-put.ensures.outside c.in_ok-put.ensures.memory
    c.put-2.ensures.stored c.put-2.ensures.stopped c.put-2.ensures.outside c.put-2.ensures.memory
