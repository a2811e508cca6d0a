-- A record is written while its ticks are made: where that was stopped, the line of each tick that was made,
-- but for the last, stands whole in what was written.
use Rattle.std.specs.Prelude.{◌≡◌, ℕ, zero, suc, ◌≤◌, List, ◌++◌, take, length, Result, IsTrue, OnOk, OnErr, IsErrOf}
use Rattle.eg_base.specs.Outside.{ShownSink, Rose, Appends, BeginsWith}
use Rattle.eg_record.specs.declared.row.Row.{Row}
use Rattle.eg_tick.specs.Weights.{TickCount}
use Rattle.eg_tick.specs.Counting.{count_with}
use Rattle.eg_campaign.specs.Texts.{text_of}
use Rattle.eg_campaign.specs.declared.recording.RecordStop.{RecordStop}
use Rattle.eg_campaign.specs.declared.recording.RecordStop.TheVariants.{Memory, Put}

-- Of the first n ticks, whose rows are the first of these, the line of each but the last stands whole behind
-- the header: so none was made before the line of the one before it was written.
abbrev pub HasLines : ℕ → List Row → List ℕ → Type 0
HasLines zero rows front = Unit {0}
HasLines (suc n) rows front = BeginsWith (text_of (take n rows)) front

-- The writing of a record of these rows was stopped: only a front of its text was appended. The first `ticks`
-- ticks of the run were made and counted; the line of each but the last stands whole in that front.
pub record IsStopped (rows : List Row) (out now : ShownSink) (was is : TickCount) : Type 0 where
  pub front : List ℕ
  pub rest : List ℕ
  pub ticks : ℕ
  pub parts : text_of rows ≡ front ++ rest
  pub appended : Appends out now front
  pub most : ticks ≤ length rows
  pub lines : HasLines ticks rows front
  pub counted : is ≡ count_with was (take ticks rows)

-- The writing of a record of these rows, from an output to `now`, and from a count of ticks to `is`.
pub record WritesRecord {T : Type 0} (rows : List Row) (out now : ShownSink) (was is : TickCount)
    (result : Result T RecordStop) : Type 0 where
  -- Where it is done, all of the record is appended, no fault is met, and all of its ticks are counted.
  pub whole : OnOk result (Appends out now (text_of rows))
  pub no_fault : OnOk result (now.faults ≡ out.faults)
  pub counted : OnOk result (is ≡ count_with was rows)
  -- Else it was stopped: Put comes only where a fault of writing is counted, and Memory only where none is.
  pub stopped : OnErr result (IsStopped rows out now was is)
  pub cause : IsErrOf result Put → Rose out.faults now.faults
  pub memory : IsErrOf result Memory → now.faults ≡ out.faults
  -- Over a sure output memory never runs out.
  pub sure : IsTrue out.sure → ¬ IsErrOf result Memory
  pub stays_sure : now.sure ≡ out.sure
