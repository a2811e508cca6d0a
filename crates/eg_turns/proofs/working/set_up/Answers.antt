use Rattle.std.proofs.Common.{refl, subst, sym}
use Rattle.eg_guard.specs.Memory.{AreWords}
use Rattle.eg_guard.proofs.WordsLemmas.{zeros_are_words}
use Rattle.eg_word.proofs.ProgramLemmas.{program-stays}
use Rattle.eg_turns.proofs.BeginLemmas.{held_new}
use Rattle.eg_turns.proofs.working.set_up.Goals as goal

pub load_image-requires-clause-are_words : goal.load_image-requires-clause-are_words
load_image-requires-clause-are_words g c = subst AreWords (sym c.requires.zeros) zeros_are_words

pub returns-clause-holds : goal.returns-clause-holds
returns-clause-holds g c =
    let loaded = c.load_image.ensures.keeps.are_words (subst AreWords (sym c.requires.zeros) zeros_are_words) in
    held_new _ _ _ loaded (c.reset.ensures.are_words loaded) c.reset.ensures.outside c.in_ok-reset.ensures.mirrored c.in_ok-reset.ensures.words refl
    _ c.args.image.now c.requires.zeros c.requires.fits c.in_ok-load_image.ensures.written

pub returns-clause-program : goal.returns-clause-program
returns-clause-program g c program is = program-stays c.args.image.now _ program (returns-clause-holds g c).code is
