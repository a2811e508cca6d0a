use Rattle.eg_laws.proofs.KindLaws.{keeps_of, shows_one_load_of}
use Rattle.eg_laws.proofs.AvailabilityRecords.{records_stay_available}
use Rattle.eg_laws.proofs.availability.records_stay_available.Goals as goal

pub returns : goal.returns
returns c = λ engine. records_stay_available (keeps_of engine) (shows_one_load_of engine)
