use Rattle.std.proofs.Common.{◌≡◌, ◌∙◌, ap, ◌∷◌, ◌++◌, [], ◌+◌, length, map}
use Rattle.std.proofs.lemmas.List.{map-append}
use Rattle.eg_asm.specs.Inner.Kept.{placed_shown}
use Rattle.eg_asm.specs.Inner.Encodings.{instruction_shown}
use Rattle.eg_asm.proofs.KeepsLemmas.{keeps-instruction}
use Rattle.eg_asm.proofs.source.Source.add_instruction.Goals as goal

pub returns-in-Ok-clause-kept : goal.returns-in-Ok-clause-kept
returns-in-Ok-clause-kept c = λ items item has is place_is k.
    let e = instruction_shown c.args.instruction in
    let pushed : map placed_shown c.push.new.self.items ≡ map placed_shown c.args.self.now.instructions.items ++ (c.args.number, e) ∷ [] =
    ap (map placed_shown) c.in-Ok.ensures.items ∙ map-append placed_shown c.args.self.now.instructions.items _ in
    let here : map placed_shown c.push.new.self.items ≡ map placed_shown c.args.self.now.instructions.items ++ (length items + 1, e) ∷ [] =
    pushed ∙ ap (λ n. map placed_shown c.args.self.now.instructions.items ++ (n, e) ∷ []) place_is in
    rw here (keeps-instruction _ items item e _ _ _ has is k)
