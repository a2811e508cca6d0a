use Rattle.std.proofs.Common.{rules}
use Rattle.eg_base.proofs.PutLemmas.{front-of_refused}
use Rattle.eg_base.proofs.memory_sink.MemorySinkSink.TheImpl.Goals as goal

-- what the trait ensures follows from what the output in memory does
pub put-tells : goal.put-tells
put-tells c =
    let front = front-of_refused c.result c.args.self.now c.new.self.now c.args.bytes.now c.ensures.half c.ensures.nothing in
    search (rules, front)
