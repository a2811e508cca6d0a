-- C64: R is the least number for the reaction theorem, shown by a history with path 1 stuck closed in which
-- the stages are still on R - 1 ticks after the confirmed excess.
use Rattle.std.specs.Prelude.{◌≡◌, ℕ, ◌+◌, ◌*◌, ◌-◌, ◌^◌, ◌≤◌, ◌<◌, Bool, true, false, List, [], ◌++◌, ◌∷◌, All, map, length, replicate, Some, if◌then◌else◌}
use Rattle.eg_num.specs.Arithmetic.{estimate}
use Rattle.eg_num.specs.Drive.{DriveRow, IsDrive}
use Rattle.eg_num.specs.Windows.{is_first}
use Rattle.eg_torque.specs.Excess.{is_excess}
use Rattle.eg_answer.specs.Times.{feeds_to_confirm, periods_to_confirm, reaction_of}
use Rattle.eg_values.specs.Calibration.{CalibrationParts, IsAccepted}
use Rattle.eg_fault.specs.Effects.{Effects, no_effects}
use Rattle.eg_fault.specs.Faults.{effects_of, IsListed}
use Rattle.eg_fault.specs.declared.class.Class.TheVariants.{Path1Closed}
use Rattle.eg_model.specs.History.{Setting, Entry, Tick}
use Rattle.eg_model.specs.Moments.{demand_at}
use Rattle.eg_model.specs.Premises.{AreProper, Follows, is_on_after, true_excesses, IsExcessConfirmed}
use Rattle.eg_model.specs.Reaction.{ReactsBy}

-- ---- under which calibrations an excess can be confirmed ----

-- C64: an excess can be confirmed by this calibration
pub record CanExceed (cal : CalibrationParts) : Type 0 where
  pub drive : DriveRow
  pub within : IsDrive drive
  pub goes_on : drive.reset ≡ false
  pub load : ℕ
  pub is_word : load < 2 ^ 16
  pub exceeds : is_excess (estimate cal.rules.kt load) (demand_at cal drive) cal.rules.threshold ≡ true

-- each load is a word
abbrev pub ShowsWord : Tick → Type 0
ShowsWord x = (x.entry.shown.load_1 < 2 ^ 16) × (x.entry.shown.load_2 < 2 ^ 16)

-- `CanExceed` is the exact condition: where it fails, no excess is ever confirmed, under any fault.
abbrev pub NeedsCanExceed : Type 0
NeedsCanExceed =
    (s : Setting) → IsAccepted s.cal → (h : List Tick) → AreProper s h → All ShowsWord h →
    IsExcessConfirmed s h → CanExceed s.cal

-- ---- the history ----

-- both loads are `load`
abbrev pub giving : DriveRow → (load torque : ℕ) → Entry
giving drive load torque = record {
  drive = drive;
  slices = [];
  shown = record { position = 0; load_1 = load; load_2 = load; torque = torque };
}

-- a quiet tick is without torque; a tick of excess has all the torque of its load
abbrev pub quiet : Effects → DriveRow → Tick
quiet x drive = record { effects = x; entry = giving drive 0 0 }

abbrev pub exceeding : CalibrationParts → DriveRow → (load : ℕ) → Tick
exceeding cal drive load =
    record { effects = no_effects; entry = giving drive load (estimate cal.rules.kt load) }

-- The last tick of excess comes right after a send tick whose answer is still good, and late enough to leave
-- room for all ticks of excess before it.
unfoldable pub last_excess : CalibrationParts → ℕ
last_excess cal = periods_to_confirm cal.rules.torque cal.times * cal.times.period + cal.times.send + 1

-- newest first, with nothing out of order: excess where a bit is true, else quiet
abbrev pub by_bits : CalibrationParts → DriveRow → (load : ℕ) → List Bool → List Tick
by_bits cal drive load bits =
    map (λ bad. if bad then exceeding cal drive load else quiet no_effects drive) bits

-- newest first: quiet ticks, and then D of excess, which confirm it
abbrev pub until_confirmed : CalibrationParts → DriveRow → (load : ℕ) → List Tick
until_confirmed cal drive load =
    by_bits cal drive load (replicate (feeds_to_confirm cal.rules.torque) true
    ++ replicate (last_excess cal + 1 - feeds_to_confirm cal.rules.torque) false)

-- path 1 is stuck closed from tick `onset` on, and level 1 has no code
abbrev pub closed_from : (onset : ℕ) → CalibrationParts → Setting
closed_from onset cal = record {
  cal = cal;
  image = [];
  fault = Some (record { onset = onset; class = Path1Closed });
}

-- from the tick after the last excess on
abbrev pub closed_setting : CalibrationParts → Setting
closed_setting cal = closed_from (last_excess cal + 1) cal

abbrev pub quiet_after : DriveRow → Tick
quiet_after drive = quiet (effects_of Path1Closed 0) drive

-- ---- the laws ----

-- the unit isn't reset, so that a history of such ticks is one drive span
abbrev pub GoesOn : Tick → Type 0
GoesOn x = x.entry.drive.reset ≡ false

-- The true excess is first confirmed at the last tick of h, and the stages are still on at x, n ticks later;
-- `more` are the ticks between. All are ticks of one drive span under the setting's fault.
pub record IsStillOn (s : Setting) (h more : List Tick) (x : Tick) (n : ℕ) : Type 0 where
  pub follows : Follows s.fault 0 (x ∷ more ++ h)
  pub proper : AreProper s (x ∷ more ++ h)
  pub goes_on : All GoesOn (x ∷ more ++ h)
  pub words : All ShowsWord (x ∷ more ++ h)
  pub first : is_first s.cal.rules.torque (true_excesses s h) ≡ true
  pub comes : length more + 1 ≡ n
  pub on : is_on_after s (more ++ h) x ≡ true

-- C64: n is R - 1
abbrev pub StaysOnSoLong : Type 0
StaysOnSoLong =
    (cal : CalibrationParts) → IsAccepted cal → (can : CanExceed cal) →
    IsListed (closed_setting cal).fault
    × IsStillOn (closed_setting cal) (until_confirmed cal can.drive can.load)
    (replicate (reaction_of cal.times - 2) (quiet_after can.drive)) (quiet_after can.drive)
    (reaction_of cal.times - 1)

-- claim 6
abbrev pub ReactionIsLeast : Type 0
ReactionIsLeast =
    (cal : CalibrationParts) → IsAccepted cal → CanExceed cal → (n : ℕ) →
    ReactsBy cal n → reaction_of cal.times ≤ n
