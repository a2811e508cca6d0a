use Rattle.std.proofs.Common.{◌∙◌, sym, ap, ap₂, [], ◌∷◌, ◌++◌, map}
use Rattle.std.proofs.lemmas.List.{take_all}
use Rattle.eg_campaign.specs.Plays.{report_with}
use Rattle.eg_campaign.specs.Groups.{told_with}
use Rattle.eg_campaign.proofs.PlayLemmas.{map-more, mapped-at}
use Rattle.eg_campaign.proofs.play.summaries_of.Goals as goal

pub report_one-requires : goal.report_one-requires
report_one-requires c =
    mapped-at (told_with c.args.calibration.now) c.args.inputs.now c.args.told.now c.requires c.loop-i.i c.index-inputs-i.result _ c.loop-i-test.true c.index-inputs-i.is

pub loop-i-init : goal.loop-i-init
loop-i-init c = c.new-summaries.ensures.items

pub loop-i-preserved : goal.loop-i-preserved
loop-i-preserved c = c.in_ok-push.ensures.items
    ∙ ap₂ (λ all one. all ++ one ∷ []) c.loop-i.invariant c.in_ok-summary.ensures
    ∙ sym (map-more (report_with c.args.calibration.now) c.args.inputs.now c.loop-i.i c.index-inputs-i.result c.loop-i-test.true c.index-inputs-i.is)

pub returns : goal.returns
returns c = c.loop-i.invariant ∙ ap (map (report_with c.args.calibration.now)) (take_all c.loop-i.i c.args.inputs.now c.loop-i-test.false)
