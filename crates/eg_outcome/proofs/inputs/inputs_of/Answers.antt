use Rattle.std.proofs.Common.{◌∙◌, refl, subst, Ok}
use Rattle.eg_outcome.specs.Changes.{change}
use Rattle.eg_outcome.specs.Inputs.{InputsCome, outcomes}
use Rattle.eg_outcome.proofs.NameLemmas.{names-inputs, valid_faults, not-told}
use Rattle.eg_outcome.proofs.inputs.inputs_of.Goals as goal

pub inputs_for-requires-clause-faults : goal.inputs_for-requires-clause-faults
inputs_for-requires-clause-faults g c = valid_faults c.in-Ok.plans c.in-Ok.ensures.rules

pub returns-in-Ok : goal.returns-in-Ok
returns-in-Ok g c =
    let store = g.S.Store.shows c.args.store.now in
    let new = g.S.Store.shows c.inputs_for.new.store in
    let plans = c.in-Ok.plans in
    let come = outcomes c.inputs_for.result in
    let same = c.in-Ok.ensures.keeps.shown refl in
    record {
      comes = (
        Ok plans,
        c.in-Ok.ensures.reads.comes,
        subst (λ shown. InputsCome (change shown new) 1 0 plans come) same c.inputs_for.ensures.comes,
      );
      playable = c.inputs_for.ensures.playable;
      campaign = record {
        named = names-inputs c.args.campaign.now store plans c.inputs_for.result c.in-Ok.ensures.reads.comes
            c.inputs_for.ensures.named c.inputs_for.ensures.some;
        missing = λ sure missing. not-told plans come ((c.in-Ok.ensures.reads.missing sure).1 missing);
        no_memory = c.inputs_for.ensures.no_memory;
        keeps = record {
          files = c.inputs_for.ensures.keeps.files ∙ c.in-Ok.ensures.keeps.files;
          shown = λ ok. c.inputs_for.ensures.keeps.shown ok ∙ same;
        };
      };
    }
