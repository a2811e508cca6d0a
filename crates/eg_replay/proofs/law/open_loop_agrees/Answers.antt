use Rattle.eg_model.specs.Engines.{bench_of}
use Rattle.eg_replay.proofs.AgreeLemmas.{spans_agree, rows_show_the_same}
use Rattle.eg_replay.proofs.AgreeRuns.{runs_agree, runs_without_reset_agree, faults_spare_level_2}
use Rattle.eg_replay.proofs.law.open_loop_agrees.Goals as goal

pub returns : goal.returns
returns c = record {
  span = spans_agree;
  run = λ engine. runs_agree (bench_of engine);
  whole = λ engine. runs_without_reset_agree (bench_of engine);
  faults = faults_spare_level_2;
  rows = rows_show_the_same;
}
