use Rattle.std.proofs.Common.{◌≡◌, None, true, false, sym, ◌∙◌}
use Rattle.eg_campaign.proofs.CheckpointLemmas.{kept_more}
use Rattle.eg_campaign.proofs.checkpoints.keep_none.Goals as goal

pub returns : goal.returns
returns g c = λ weighed r wanted t whole unwanted are.
    kept_more weighed g.E.BenchedEngine.bench g.E.BenchedEngine.come_to r wanted t c.args.kept.now.items c.push.new.self.items None c.in_ok-push.ensures.items whole
    (λ late wants. absurd (let clash : false ≡ true = sym (unwanted late) ∙ wants in cc)) are
