use Rattle.std.proofs.Common.{◌∙◌, arith}
use Rattle.eg_word.proofs.program.Program.decoded_at.Goals as goal

pub returns-clause-instruction : goal.returns-clause-instruction
returns-clause-instruction g c =
    c.at.ensures c.at.result.now ∙ c.requires.each c.args.address c.at.result.now (omega (arith, c.if-address-ge-DATA.false))
