use Rattle.eg_runs.proofs.WorkedThrottles.{throttle-within, throttle-beyond, throttle-uncut, throttle-cut}
use Rattle.eg_runs.proofs.throttles.greatest_throttle_that_never_cuts.Goals as goal

pub returns-clause-within : goal.returns-clause-within
returns-clause-within c = throttle-within

pub returns-clause-beyond : goal.returns-clause-beyond
returns-clause-beyond c = throttle-beyond

pub returns-clause-uncut : goal.returns-clause-uncut
returns-clause-uncut c = throttle-uncut

pub returns-clause-cut : goal.returns-clause-cut
returns-clause-cut c = throttle-cut
