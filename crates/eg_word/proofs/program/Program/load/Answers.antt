use Rattle.eg_word.proofs.ProgramLemmas.{program-more}
use Rattle.std.proofs.Common.{ap, slice_set, rules}
use Rattle.eg_word.proofs.program.Program.load.Goals as goal

pub loop-address-preserved : goal.loop-address-preserved
loop-address-preserved c =
    program-more c.args.image.now c.loop-address.self-inside.code c.loop-address.address c.loop-address.invariant (search rules)
    _ (ap (slice_set c.loop-address.self-inside.code c.loop-address.address) c.decode.ensures)
