use Rattle.std.proofs.Common.{arith}
use Rattle.std.proofs.lemmas.Grind.{common_steps}
use Rattle.std.proofs.lemmas.Bool.Decides.{nat_tests}
use Rattle.eg_input.proofs.CursorLemmas.{number-said}
use Rattle.eg_input.proofs.cursor.number_ending_at.Goals as goal

pub returns : goal.returns
returns c =
    number-said c.args.ending c.args.most c.args.text.now c.args.place c.number_before.result c.requires.other c.requires.room (grind (arith, common_steps, nat_tests)) c.number_before.ensures
