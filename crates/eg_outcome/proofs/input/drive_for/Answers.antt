use Rattle.std.proofs.Common.{refl}
use Rattle.eg_outcome.specs.Changes.{change_of}
use Rattle.eg_outcome.specs.declared.outcome.Role.TheVariants as role
use Rattle.eg_outcome.specs.Runs.{IsOf}
use Rattle.eg_outcome.proofs.NameLemmas.{of_file}
use Rattle.eg_outcome.proofs.input.drive_for.Goals as goal

pub returns-in-Err-clause-role : goal.returns-in-Err-clause-role
returns-in-Err-clause-role g c =
    of_file (IsOf c.args.run) (role.Trace c.args.run) c.args.file.now (change_of g.S.Store.shows c.args.store.now c.file_bytes.new.store) c.in-Err.end refl tt c.in-Err.ensures.reads.comes
