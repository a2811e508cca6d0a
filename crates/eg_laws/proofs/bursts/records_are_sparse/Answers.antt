use Rattle.eg_model.specs.Engines.{bench_of}
use Rattle.eg_laws.proofs.StretchRows.{records_are_sparse}
use Rattle.eg_laws.proofs.bursts.records_are_sparse.Goals as goal

pub returns : goal.returns
returns c = λ engine. records_are_sparse (bench_of engine)
