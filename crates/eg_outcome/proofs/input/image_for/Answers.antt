use Rattle.std.proofs.Common.{refl}
use Rattle.eg_outcome.specs.Changes.{change_of}
use Rattle.eg_outcome.specs.declared.outcome.Role.TheVariants as role
use Rattle.eg_outcome.specs.Runs.{IsOf}
use Rattle.eg_outcome.proofs.NameLemmas.{of_file, image_of_run}
use Rattle.eg_outcome.proofs.input.image_for.Goals as goal

pub returns-in-Err-clause-role : goal.returns-in-Err-clause-role
returns-in-Err-clause-role g c =
    of_file (IsOf c.args.run) (role.Image c.args.run) c.args.file.now (change_of g.S.Store.shows c.args.store.now c.file_bytes.new.store) c.in-Err.end refl tt c.in-Err.ensures.reads.comes

pub returns-in-Ok-clause-role : goal.returns-in-Ok-clause-role
returns-in-Ok-clause-role g c = image_of_run c.args.run _ c.image_in.result c.image_in.ensures.says.comes
