use Rattle.eg_level2.proofs.SignalLemmas.{signal_makes}
use Rattle.eg_level2.proofs.MakesLemmas.{early_last, done, ended}
use Rattle.eg_level2.proofs.StepLemmas.{same_rules}
use Rattle.eg_level2.proofs.level2.Level2.run_signal.Goals as goal

pub returns-in_err-write : goal.returns-in_err-write
returns-in_err-write g c = λ tick phase. ended c.from_residual.result c.from_residual.ensures.0
    (signal_makes _ _ tick phase _ _ _ _ _ _ _ (same_rules _ _ c.self.view_is) c.requires.first c.requires.last c.signal-signal.ensures c.requires.prepared.row c.from.ensures
    (early_last c.from_residual.result c.from_residual.ensures.0 c.in_err-write.ensures))

pub returns : goal.returns
returns g c = λ tick phase. record {
  makes = signal_makes _ _ tick phase _ _ _ _ _ _ _ (same_rules _ _ c.self.view_is) c.requires.first c.requires.last c.signal-signal.ensures c.requires.prepared.row c.from.ensures
      (done c.in_ok-write.ensures);
  answers = c.quiet.ensures;
}
