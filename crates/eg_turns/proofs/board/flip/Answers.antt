use Rattle.std.proofs.Common.{◌∙◌, ap}
use Rattle.std.proofs.lemmas.Result.{on_ok_weaker}
use Rattle.eg_level2.specs.Words.{address_of}
use Rattle.eg_turns.proofs.BoardLemmas.{flipped_changed, flipped_outside}
use Rattle.eg_turns.proofs.board.flip.Goals as goal

pub returns-clause-changed : goal.returns-clause-changed
returns-clause-changed g c mirrored =
    on_ok_weaker c.put.result (λ stored. flipped_changed _ _ c.args.word c.word_address-address.result c.load-before.result c.args.mask stored (c.word_address-address.ensures ∙ ap address_of c.from.ensures)
    c.load-before.ensures.word c.requires.some c.load-before.ensures.are_words c.requires.word mirrored) c.put.ensures.stored

pub returns-clause-outside : goal.returns-clause-outside
returns-clause-outside g c =
    on_ok_weaker c.put.result (λ stored. flipped_outside _ _ c.args.word c.word_address-address.result _ stored (c.word_address-address.ensures ∙ ap address_of c.from.ensures) c.requires.word) c.put.ensures.stored
