use Rattle.std.proofs.Common.{ap}
use Rattle.eg_host.specs.Level1.{Level1Parts}
use Rattle.eg_turns.proofs.BeginLemmas.{held_again, ready_again}
use Rattle.eg_turns.proofs.working.restart.Goals as goal

pub returns-clause-holds : goal.returns-clause-holds
returns-clause-holds g c image code =
    let cleared = c.clear.ensures.keeps.are_words c.requires.are_words in
    held_again _ _ _ cleared (c.reset.ensures.are_words cleared) c.reset.ensures.outside c.in_ok-reset.ensures.mirrored c.in_ok-reset.ensures.words (ap (λ (l : Level1Parts). l.registers) c.restart.ensures)
    _ image c.in_ok-clear.ensures.outside code c.in_ok-clear.ensures.world

pub returns-clause-ready : goal.returns-clause-ready
returns-clause-ready g c =
    let cleared = c.clear.ensures.keeps.are_words c.requires.are_words in
    ready_again _ _ _ cleared (c.reset.ensures.are_words cleared) c.reset.ensures.outside c.in_ok-reset.ensures.mirrored c.in_ok-reset.ensures.words (ap (λ (l : Level1Parts). l.registers) c.restart.ensures)
    _ _ _ _ (ap (λ (l : Level1Parts). l.program) c.restart.ensures) c.in_ok-clear.ensures.outside c.in_ok-reset.ensures.within c.requires
