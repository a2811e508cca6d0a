use Rattle.std.proofs.Common.{◌∙◌, refl, sym, ap, subst, Some, None, false}
use Rattle.eg_fault.specs.Faults.{IsNoneOrValid}
use Rattle.eg_guard.specs.Memory.{ShownMemory}
use Rattle.eg_model.specs.Bench.{Run}
use Rattle.eg_campaign.specs.declared.checkpoints.Played.{Played}
use Rattle.eg_campaign.specs.Inner.Checkpoints.{HasPlayed}
use Rattle.eg_campaign.proofs.CheckpointLemmas.{kept_more, branched_at, without-is}
use Rattle.eg_campaign.proofs.checkpoints.keep_copy.Goals as goal

pub branch_over-requires-clause-valid : goal.branch_over-requires-clause-valid
unfolding IsNoneOrValid
branch_over-requires-clause-valid g c = tt

pub branch_over-requires-clause-words : goal.branch_over-requires-clause-words
branch_over-requires-clause-words g c = ap (λ (m : ShownMemory). m.words) c.in_ok-memory.ensures ∙ c.in_ok-last.ensures.words ∙ ap (λ (m : ShownMemory). m.words) c.memory.ensures

pub returns : goal.returns
returns g c = λ weighed r wanted t whole played are.
    let bench = g.E.BenchedEngine.bench in
    let come_to = g.E.BenchedEngine.come_to in
    let was = c.args.played.now in
    let one : Played _ _ = record { controller = c.branch_over.result; tally = was.tally; margins = was.margins } in
    kept_more weighed bench come_to r wanted t c.args.kept.now.items c.push.new.self.items (Some c.in_ok-one.one) c.in_ok-push.ensures.items whole
    (λ late wants. subst (HasPlayed weighed bench come_to r t) (sym c.in_ok-one.ensures.ok)
    (subst (λ (q : Run). HasPlayed weighed bench come_to q t one) (without-is weighed bench come_to r (sym played.at.stands.fault ∙ c.requires))
    (branched_at weighed bench come_to r t None (record { words = c.in_ok-memory.memory; sure = false }) was one c.requires tt c.branch_over.ensures.kept
    (ap (λ (m : ShownMemory). m.words) c.in_ok-memory.ensures ∙ c.in_ok-last.ensures.words ∙ ap (λ (m : ShownMemory). m.words) c.memory.ensures)
    c.branch_over.ensures.engine refl refl played))) are
