use Rattle.std.proofs.Common.{◌≡◌, ◌∙◌, ◌*◌, ◌/◌, Some, refl, sym, subst, not, ◌==◌, arith}
use Rattle.eg_campaign.specs.Plays.{run_with}
use Rattle.eg_campaign.specs.Groups.{faultless, checkpoint_ticks, input_under}
use Rattle.eg_campaign.specs.Inner.Checkpoints.{HasPlayed, IsKept}
use Rattle.eg_campaign.proofs.CheckpointLemmas.{kept_under, played_under}
use Rattle.eg_campaign.proofs.checkpoints.begin_from.Goals as goal

pub returns-then-index-eq0-clause-begun : goal.returns-then-index-eq0-clause-begun
returns-then-index-eq0-clause-begun g c =
    let weighed = not (g.row.WEIGHED == 0) in
    let fault = c.args.fault.now in
    let none : 0 ≡ fault.onset / checkpoint_ticks * checkpoint_ticks = omega (arith, c.if-index-eq0.true) in
    subst (λ t. HasPlayed weighed g.E.BenchedEngine.bench g.E.BenchedEngine.come_to
    (run_with c.args.calibration.now (input_under (Some fault) c.args.input.now)).run t c.begin.new.played) none (c.begin.ensures.begun weighed)

pub returns-clause-begun : goal.returns-clause-begun
returns-clause-begun g c =
    let weighed = not (g.row.WEIGHED == 0) in
    let bench = g.E.BenchedEngine.bench in
    let come_to = g.E.BenchedEngine.come_to in
    let cal = c.args.calibration.now in
    let fault = c.args.fault.now in
    let x = input_under (Some fault) c.args.input.now in
    let t = fault.onset / checkpoint_ticks * checkpoint_ticks in
    played_under weighed bench come_to cal x fault refl c.requires.within c.copy.result c.copy.ensures c.deref.result.now c.go_on.result
    (subst (HasPlayed weighed bench come_to (run_with cal (faultless x)).run t) (sym c.deref.ensures)
    (subst (IsKept weighed bench come_to (run_with cal (faultless x)).run t) (sym c.index.ensures ∙ c.in-Some.is)
    (kept_under weighed bench come_to cal x fault refl c.requires.within c.args.shared.now c.requires.shared c.requires.wanted
    (omega (arith, c.if-index-eq0.false)) c.index.result.now)))
    (c.go_on.ensures.played weighed)
