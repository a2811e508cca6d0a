-- What the laws of a run speak of, and their two premises on a history: what is out of order at its ticks
-- comes of the fault (`Follows`), and what comes in at its ticks is proper (`AreProper`): drive rows keep
-- their limits, and the engine keeps the laws of engines. Nothing is asked of level 1.
use Rattle.std.specs.Prelude.{◌≡◌, ℕ, ◌+◌, Bool, true, false, List, [], ◌∷◌, map, length, Option}
use Rattle.eg_num.specs.Drive.{IsDrive}
use Rattle.eg_num.specs.Windows.{is_confirmed}
use Rattle.eg_plant.specs.Engine.{KeepsLaws}
use Rattle.eg_fault.specs.Faults.{effects}
use Rattle.eg_fault.specs.declared.class.Fault.{Fault}
use Rattle.eg_record.specs.Excess.{true_excess, full_excess}
use Rattle.eg_model.specs.History.{Setting, Entry, Tick}
use Rattle.eg_model.specs.Paths.{both_conduct}
use Rattle.eg_model.specs.Moments.{moment, moments_of}
use Rattle.eg_model.specs.Spans.{next}
use Rattle.eg_model.specs.Rows.{rows_of}

-- What comes in at a tick is proper, `on` being whether the stages are on at it: the drive row keeps its
-- limits; the plate stands at 1000 at most, and the estimate of neither load lies below the torque
-- (`KeepsLaws`); and where the stages are off there is no torque.
pub record IsProper (s : Setting) (on : Bool) (e : Entry) : Type 0 where
  pub drive : IsDrive e.drive
  pub engine : KeepsLaws s.cal.rules.kt e.shown
  pub no_torque : on ≡ false → e.shown.torque ≡ 0

-- what comes in is proper at each tick of a history in which the engine is driven
unfoldable pub AreProper : Setting → List Tick → Type 0
AreProper s [] = Unit {0}
AreProper s (x ∷ before) =
    IsProper s (both_conduct x.effects (moments_of s before)) x.entry × AreProper s before

-- and at each tick of a run
unfoldable pub IsProperRun : Setting → List Entry → Type 0
IsProperRun s [] = Unit {0}
IsProperRun s (e ∷ before) = IsProper s (next s e before).on e × IsProperRun s before

-- The earliest tick of the history is tick `start` of a run with this fault, if any; and at each of its ticks
-- what the fault puts out of order at that tick of the run is out of order, and nothing else.
unfoldable pub Follows : Option Fault → ℕ → List Tick → Type 0
Follows fault start [] = Unit {0}
Follows fault start (x ∷ before) =
    (x.effects ≡ effects fault (start + length before)) × Follows fault start before

-- whether the stages are on at the tick x that comes after h
unfoldable pub is_on_after : Setting → List Tick → Tick → Bool
is_on_after s h x = (moment s x.effects x.entry (moments_of s h)).on

-- the true excess, and the full-efficiency excess, at each tick of a history
unfoldable pub true_excesses : Setting → List Tick → List Bool
true_excesses s h = map (true_excess s.cal.rules.threshold) (rows_of (moments_of s h))

unfoldable pub full_excesses : Setting → List Tick → List Bool
full_excesses s h = map (full_excess s.cal.rules.kt s.cal.rules.threshold) (rows_of (moments_of s h))

-- the true excess is confirmed by the last tick of h
abbrev pub IsExcessConfirmed : Setting → List Tick → Type 0
IsExcessConfirmed s h = is_confirmed s.cal.rules.torque (true_excesses s h) ≡ true
