use Rattle.std.proofs.Common.{◌≡◌, ◌∙◌, sym, ap, ℕ, ◌+◌, List, Some, length, map, cond, arith, Bor}
use Rattle.std.specs.HashMap.{get}
use Rattle.std.specs.Option.{option_or}
use Rattle.std.specs.Str.{bytes_eq}
use Rattle.std.proofs.lemmas.List.{length-map}
use Rattle.eg_asm.specs.Inner.Kept.{placed_shown}
use Rattle.eg_asm.proofs.KeepsLemmas.{keeps-again, keeps-new}
use Rattle.eg_asm.proofs.source.Source.add_label.Goals as goal

pub returns-then-contains_key-clause-kept : goal.returns-then-contains_key-clause-kept
returns-then-contains_key-clause-kept c = λ items item has is place_is k.
    let later : c.or-self.result ≡ option_or c.args.self.now.repeated (Some (length items + 1)) = c.or-self.ensures ∙ ap (λ n. option_or c.args.self.now.repeated (Some n)) place_is in
    rw later (keeps-again _ items item _ _ _ c.args.name has is (sym c.if-contains_key.ensures) k)

pub returns-in-Ok-clause-kept : goal.returns-in-Ok-clause-kept
returns-in-Ok-clause-kept c = λ items item has is place_is k.
    let now = c.args.self.now in
    let words : c.len-words.result ≡ length (map placed_shown now.instructions.items) = omega (arith, length-map now.instructions.items placed_shown, now.instructions.ok.0) in
    let put : (other : Bor (List ℕ)) → get (λ x y. bytes_eq x.now y.now) c.insert.new.self other
    ≡ cond (bytes_eq c.args.name.now other.now) (Some (length (map placed_shown now.instructions.items))) (get (λ x y. bytes_eq x.now y.now) now.labels other) =
    λ other. c.in-Ok.ensures.updates.0 other
    ∙ ap (λ n. cond (bytes_eq c.args.name.now other.now) (Some n) (get (λ x y. bytes_eq x.now y.now) now.labels other)) words in
    keeps-new _ items item _ _ _ _ c.args.name has is (sym c.if-contains_key.ensures) put k
