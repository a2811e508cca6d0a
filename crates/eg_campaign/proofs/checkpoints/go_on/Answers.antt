use Rattle.std.proofs.Common.{◌∙◌, refl, sym, ap, subst, true, IsTrue}
use Rattle.eg_guard.specs.Memory.{ShownMemory}
use Rattle.eg_tick.specs.Kept.{Kept}
use Rattle.eg_campaign.proofs.CheckpointLemmas.{branched_at}
use Rattle.eg_campaign.proofs.checkpoints.go_on.Goals as goal

pub branch_over-requires-clause-words : goal.branch_over-requires-clause-words
branch_over-requires-clause-words g c = c.flat-memory.ensures.words ∙ ap (λ (m : ShownMemory). m.words) c.memory.ensures

pub returns-clause-played : goal.returns-clause-played
returns-clause-played g c = λ weighed r t is.
    branched_at weighed g.E.BenchedEngine.bench g.E.BenchedEngine.come_to r t c.args.fault (record { words = c.flat-memory.result; sure = true }) c.args.kept.now
    (record { controller = c.branch_over.result; tally = c.args.kept.now.tally; margins = c.args.kept.now.margins }) c.requires.none c.requires.onset
    c.branch_over.ensures.kept (c.flat-memory.ensures.words ∙ ap (λ (m : ShownMemory). m.words) c.memory.ensures)
    c.branch_over.ensures.engine refl refl is

pub returns-clause-sure : goal.returns-clause-sure
returns-clause-sure g c = subst (λ (k : Kept). IsTrue k.memory.sure) (sym c.branch_over.ensures.kept) refl
