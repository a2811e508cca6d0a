use Rattle.std.proofs.Common.{◌≡◌, ◌∙◌, sym, ap, Some, None, arith}
use Rattle.std.specs.Prelude.{option_and_then}
use Rattle.std.proofs.lemmas.Grind.{common_steps}
use Rattle.eg_asm.specs.Inner.Encodings.{told_with_room}
use Rattle.eg_asm.proofs.ToldLemmas.{told-behind}
use Rattle.eg_asm.proofs.source.line_behind.Goals as goal

pub returns-in_err-read_line : goal.returns-in_err-read_line
returns-in_err-read_line c =
    let behind = told-behind c.args.words c.args.line.now c.requires in
    let none : c.read_line.result ≡ None = grind (arith, common_steps) in
    let read = rw none at c.read_line.ensures in
    let e = ap (option_and_then (told_with_room c.args.words)) read in
    grind (arith, common_steps)

pub returns : goal.returns
returns c =
    let some : c.read_line.result ≡ Some c.in_ok-read_line.field-0 = grind (arith, common_steps) in
    c.with_room.ensures ∙ ap (option_and_then (told_with_room c.args.words)) (rw some at c.read_line.ensures)
    ∙ sym (told-behind c.args.words c.args.line.now c.requires)
