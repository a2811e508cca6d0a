-- C97: runs that differ in the limit of the torque's or the pairs' weights alone. Level 1 sees no counter,
-- since it can load no protected word.
use Rattle.std.specs.Prelude.{◌≡◌, ℕ, false, List, All}
use Rattle.eg_num.specs.Windows.{WeightParts}
use Rattle.eg_num.specs.declared.watches.Watches.{Watches}
use Rattle.eg_record.specs.declared.row.Row.{Row}
use Rattle.eg_model.specs.History.{Setting}
use Rattle.eg_model.specs.Engines.{BenchEngine}
use Rattle.eg_model.specs.Bench.{Run, moments_to}
use Rattle.eg_model.specs.Records.{rows_to}

abbrev pub limited : (limit : ℕ) → WeightParts → WeightParts
limited limit w = record w { limit = limit }

abbrev pub weighing : (pair torque : WeightParts) → Setting → Setting
weighing pair torque s =
    record s { cal = record s.cal { rules = record s.cal.rules { pair = pair; torque = torque } } }

abbrev pub torque_limited : (limit : ℕ) → Setting → Setting
torque_limited limit s = weighing s.cal.rules.pair (limited limit s.cal.rules.torque) s

abbrev pub pairs_limited : (limit : ℕ) → Setting → Setting
pairs_limited limit s = weighing (limited limit s.cal.rules.pair) s.cal.rules.torque s

abbrev pub run_in : Setting → Run → Run
run_in s r = record r { setting = s }

abbrev pub FindNoTorque : List Row → Type 0
FindNoTorque rows = All (λ row. row.found.torque ≡ false) rows

pub record FindsNoPair (found : Watches) : Type 0 where
  pub pedal : found.pedal ≡ false
  pub plate : found.plate ≡ false
  pub load : found.load ≡ false
  pub speed : found.speed ≡ false

abbrev pub FindNoPair : List Row → Type 0
FindNoPair rows = All (λ row. FindsNoPair row.found) rows

-- the first n ticks of two runs are the same, and so are their rows
pub record AreSameTo {E : Type 0} (b : BenchEngine E) (r q : Run) (n : ℕ) : Type 0 where
  pub moments_are : moments_to b q n ≡ moments_to b r n
  pub rows_are : rows_to b q n ≡ rows_to b r n

-- claim 74
abbrev pub RecordsDisregardTorqueLimit : {E : Type 0} → BenchEngine E → Type 0
RecordsDisregardTorqueLimit b =
    (r : Run) (limit other n : ℕ) →
    (let first = run_in (torque_limited limit r.setting) r in
    let second = run_in (torque_limited other r.setting) r in
    FindNoTorque (rows_to b first n) → FindNoTorque (rows_to b second n) → AreSameTo b first second n)

-- claim 74
abbrev pub RecordsDisregardPairLimit : {E : Type 0} → BenchEngine E → Type 0
RecordsDisregardPairLimit b =
    (r : Run) (limit other n : ℕ) →
    (let first = run_in (pairs_limited limit r.setting) r in
    let second = run_in (pairs_limited other r.setting) r in
    FindNoPair (rows_to b first n) → FindNoPair (rows_to b second n) → AreSameTo b first second n)
