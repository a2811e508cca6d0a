use Rattle.std.proofs.Common.{◌≡◌, Some, arith, option_map}
use Rattle.std.proofs.lemmas.List.{length-map}
use Rattle.std.proofs.lemmas.Result.{on_ok_weaker}
use Rattle.eg_asm.specs.Words.{word_count}
use Rattle.eg_asm.specs.Inner.Encodings.{told, line_shown}
use Rattle.eg_asm.specs.Inner.Kept.{placed_shown}
use Rattle.eg_asm.specs.Reading.{item_behind}
use Rattle.eg_asm.proofs.ReadLemmas.{told-some, behind-has_form}
use Rattle.eg_asm.proofs.source.Source.read.Goals as goal

pub returns-in-Some-clause-kept : goal.returns-in-Some-clause-kept
returns-in-Some-clause-kept c = on_ok_weaker c.add.result (λ adds items place_is holds.
    let now = c.args.self.now in
    let words : c.len-words.result ≡ word_count items = (let counted = holds.count in omega (arith, length-map now.instructions.items placed_shown, now.instructions.ok.0)) in
    let read : Some (line_shown c.in-Some.tells) ≡ option_map told (item_behind (word_count items) c.args.line.now) = rw (words) at c.in-Some.ensures in
    let t = told-some (line_shown c.in-Some.tells) (item_behind (word_count items) c.args.line.now) read in
    (t.0, t.1, adds items t.0 (behind-has_form (word_count items) c.args.line.now t.0 t.1) t.2 place_is holds)) c.add.ensures.kept
