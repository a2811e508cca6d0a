use Rattle.std.proofs.Common.{◌∙◌, sym, ap, ap₂, subst, List, [], ◌∷◌, ◌++◌, map, Some, false}
use Rattle.std.specs.List.{flat_map}
use Rattle.std.proofs.lemmas.List.{take_all, drop_all}
use Rattle.eg_fault.specs.declared.class.Fault.{Fault}
use Rattle.eg_fault.specs.Faults.{IsValid, IsNoneOrValid}
use Rattle.eg_record.specs.declared.facts.Facts.{Facts}
use Rattle.eg_record.specs.declared.run_facts.RunFacts.{RunFacts}
use Rattle.eg_tick.proofs.CountLemmas.{counted_err}
use Rattle.eg_campaign.specs.Groups.{input_under, own_on, rows_under, told_on}
use Rattle.eg_campaign.proofs.PlayLemmas.{map-more}
use Rattle.eg_campaign.proofs.OneGroup.{begun, more, said, stopped, between, one_more, ended}
use Rattle.eg_campaign.proofs.under.facts_on.Goals as goal

pub returns-in_err-shared-clause-counted : goal.returns-in_err-shared-clause-counted
returns-in_err-shared-clause-counted g c = counted_err _ _ _ _ c.from_residual.ensures.0
    (stopped _ _ _ _ _ _ (begun c.args.steps.now (rows_under g.E.BenchedEngine.bench c.args.calibration.now c.args.input.now c.args.faults.now) c.count_none.ensures)
    c.in_err-shared.ensures.counted)

pub loop-fault-init : goal.loop-fault-init
loop-fault-init g c = record {
  cal = c.in_ok-shared.ensures.bench;
  facts = c.new-facts.ensures.items;
  counts = more _ _ _ _ _ _
      (begun c.args.steps.now (rows_under g.E.BenchedEngine.bench c.args.calibration.now c.args.input.now c.args.faults.now) c.count_none.ensures) c.in_ok-shared.ensures.counted;
}

pub play_from-told-requires-clause-valid : goal.play_from-told-requires-clause-valid
unfolding IsNoneOrValid
play_from-told-requires-clause-valid g c =
    subst IsValid (sym c.fault-item.is) (c.requires.valid c.loop-fault.fault-index c.fault-item.result c.loop-fault-test.true)

pub play_from-told-requires-clause-shared : goal.play_from-told-requires-clause-shared
play_from-told-requires-clause-shared g c = c.in_ok-shared.ensures.shared

pub returns-in_err-push-clause-counted : goal.returns-in_err-push-clause-counted
returns-in_err-push-clause-counted g c =
    let own = λ (fault : Fault). own_on g.E.BenchedEngine.bench c.args.calibration.now (input_under (Some fault) c.args.input.now) in
    counted_err _ _ _ _ c.from_residual-in_err-push.ensures.0
    (between _ _ _ _ (one_more own _ _ _ c.loop-fault-test.true c.fault-item.is _ _ _ _ c.loop-fault.invariant.counts
    c.play_from-told.ensures.counted))

pub loop-fault-preserved : goal.loop-fault-preserved
loop-fault-preserved g c =
    let bench = g.E.BenchedEngine.bench in
    let cal = c.args.calibration.now in
    let x = c.args.input.now in
    let tells = λ (fault : Fault). (told_on false bench cal (input_under (Some fault) x)).facts in
    record {
      cal = c.play_from-told.ensures.bench;
      facts = c.in_ok-push.ensures.items
          ∙ ap₂ (λ (all : List Facts) (one : RunFacts). all ++ one.facts ∷ []) c.loop-fault.invariant.facts c.play_from-told.ensures.told.is
          ∙ sym (map-more tells _ _ _ c.loop-fault-test.true c.fault-item.is);
      counts = one_more (λ (fault : Fault). own_on bench cal (input_under (Some fault) x)) _ _ _ c.loop-fault-test.true c.fault-item.is _ _ _ _
          c.loop-fault.invariant.counts c.play_from-told.ensures.counted;
    }

pub returns : goal.returns
returns g c =
    let bench = g.E.BenchedEngine.bench in
    let cal = c.args.calibration.now in
    let x = c.args.input.now in
    let tells = λ (fault : Fault). (told_on false bench cal (input_under (Some fault) x)).facts in
    record {
      facts = c.loop-fault.invariant.facts ∙ ap (map tells) (take_all _ _ c.loop-fault-test.false);
      counted = ended _ _ _ (said _ _ _ _ _ (ap (flat_map (λ (fault : Fault). own_on bench cal (input_under (Some fault) x))) (drop_all _ _ c.loop-fault-test.false))
          c.loop-fault.invariant.counts);
    }
