use Rattle.eg_runs.proofs.WorkedShortFaults.{path_2_closed, path_2_opened, path_2-unnamed}
use Rattle.eg_runs.proofs.short_faulty_runs.path_2_runs.Goals as goal

pub returns-clause-closed : goal.returns-clause-closed
returns-clause-closed c = path_2_closed

pub returns-clause-opened : goal.returns-clause-opened
returns-clause-opened c = path_2_opened

pub returns-clause-unnamed : goal.returns-clause-unnamed
returns-clause-unnamed c = path_2-unnamed
