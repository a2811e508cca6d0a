use Rattle.eg_runs.proofs.WorkedThrottles.{diesel_throttle-within, diesel_throttle-beyond, diesel_throttle-uncut, diesel_throttle-cut}
use Rattle.eg_runs.proofs.throttles.greatest_throttle_of_a_diesel.Goals as goal

pub returns-clause-within : goal.returns-clause-within
returns-clause-within c = diesel_throttle-within

pub returns-clause-beyond : goal.returns-clause-beyond
returns-clause-beyond c = diesel_throttle-beyond

pub returns-clause-uncut : goal.returns-clause-uncut
returns-clause-uncut c = diesel_throttle-uncut

pub returns-clause-cut : goal.returns-clause-cut
returns-clause-cut c = diesel_throttle-cut
