use Rattle.std.proofs.Common.{◌≡◌, ◌∙◌, ◌≤◌, sym, ap, subst, length, arith, not, ◌==◌}
use Rattle.eg_campaign.specs.Inner.Checkpoints.{HasMade}
use Rattle.eg_campaign.proofs.CheckpointLemmas.{made_none}
use Rattle.eg_campaign.proofs.checkpoints.play_on.Goals as goal

pub loop-tick-init : goal.loop-tick-init
loop-tick-init g c = record {
  sure = c.requires.sure;
  made = λ r goes played.
      made_none (not (g.row.WEIGHED == 0)) g.E.BenchedEngine.bench g.E.BenchedEngine.come_to r c.args.from c.args.played.now c.args.steps.now c.count_none.ensures played;
}

pub play_row-requires-clause-run : goal.play_row-requires-clause-run
play_row-requires-clause-run g c =
    let run = c.requires.run in
    (run.0, run.1, (c.loop-tick.invariant.made run.0 run.1 run.2).to)

pub loop-tick-preserved : goal.loop-tick-preserved
loop-tick-preserved g c = record {
  sure = c.play_row.ensures.stays_sure;
  made = λ r goes played. c.play_row.ensures.made r c.args.from c.args.steps.now goes (c.loop-tick.invariant.made r goes played);
}

pub returns : goal.returns
returns g c = λ r goes played.
    let within = subst (λ d. c.args.from ≤ length d) (sym c.as_slice-tick-end.ensures) c.requires.within in
    let end : c.loop-tick.tick ≡ length c.as_slice-tick-end.result.now =
    let most = c.loop-tick.auto.tick-end within in omega (arith, c.loop-tick-test.false, most) in
    subst (λ n. HasMade (not (g.row.WEIGHED == 0)) g.E.BenchedEngine.bench g.E.BenchedEngine.come_to r c.args.from n c.loop-tick.played c.args.steps.now c.loop-tick.steps)
    (end ∙ ap length (c.as_slice-tick-end.ensures ∙ sym goes.drive)) (c.loop-tick.invariant.made r goes played)
