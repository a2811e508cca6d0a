use Rattle.eg_outcome.specs.Changes.{change_of}
use Rattle.eg_outcome.specs.declared.outcome.Role.TheVariants as role
use Rattle.eg_outcome.specs.Runs.{IsNotOfRun}
use Rattle.eg_outcome.proofs.NameLemmas.{of_file}
use Rattle.eg_outcome.proofs.campaign.campaign_for.Goals as goal

pub returns-in-Err-clause-of_campaign : goal.returns-in-Err-clause-of_campaign
returns-in-Err-clause-of_campaign g c =
    of_file IsNotOfRun role.Campaign c.args.file.now (change_of g.S.Store.shows c.args.store.now c.file_bytes.new.store) c.in-Err.end tt tt c.in-Err.ensures.reads.comes
