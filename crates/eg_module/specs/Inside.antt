-- How a monitoring module is read from what the program holds.
use Rattle.std.specs.Prelude.{◌≡◌, ◌%◌, List, map, length, reverse}
use Rattle.eg_answer.specs.Periods.{HeardAnswer}
use Rattle.eg_module.specs.Monitoring.{MonitorParts, IsMonitor}
use Rattle.eg_module.specs.declared.monitor.Heard.{Heard}
use Rattle.eg_module.specs.declared.monitor.Monitor.TheInside.{Inside}

-- an answer, and the answers, which the program keeps in the order of time
abbrev pub heard_answer : Heard → HeardAnswer
heard_answer heard = record { tick = heard.tick; number = heard.number }

abbrev pub newest_first : List Heard → List HeardAnswer
newest_first heard = reverse (map heard_answer heard)

-- what the contracts see
abbrev pub parts_of : Inside → MonitorParts
parts_of m = record {
  times = m.times;
  questions = m.questions;
  verdicts = m.verdicts;
  heard = newest_first m.heard.items;
  value = m.counter.value;
}

-- what the program keeps: also the number of the question of the period that has no verdict yet
pub record IsKept (m : Inside) : Type 0 where
  pub keeps : IsMonitor (parts_of m)
  pub question : m.question ≡ m.verdicts % length m.questions
