-- By the calibrations below `longest_missed` is the least number that bounds stretches of excess under
-- lapses, and is that of listed faults: there no wrong verdict is taken beyond those that confirm in a row.
use Rattle.std.specs.Prelude.{◌≡◌, ◌⊎◌, ℕ, ◌+◌, ◌≤◌, ◌++◌, replicate}
use Rattle.eg_answer.specs.Times.{feeds_to_confirm, reaction_of}
use Rattle.eg_values.specs.Calibration.{CalibrationParts, IsAccepted}
use Rattle.eg_values.specs.Excess.{ticks_to_confirm, longest_stretch, longest_missed}
use Rattle.eg_model.specs.Lapses.{StretchesStayBelow}
use Rattle.eg_laws.specs.LeastReaction.{CanExceed}
use Rattle.eg_laws.specs.LeastLapse.{lapse_setting, before_lapse, missed_excess, Lasts}

-- One wrong verdict confirms; or a right one takes nothing back; or the runs of level 2 that confirm an
-- excess are at most one more than the ticks of a period, so that no right verdict stands between wrong
-- ones.
abbrev pub NoneFurther : CalibrationParts → Type 0
NoneFurther cal =
    (feeds_to_confirm cal.times.weights ≡ 1)
    ⊎ ((cal.times.weights.down ≡ 0) ⊎ (ticks_to_confirm cal ≤ cal.times.period + 1))

-- there a stretch under lapses has at most as many ticks as with a listed fault, D - 1 and R
abbrev pub MissedIsListed : Type 0
MissedIsListed =
    (cal : CalibrationParts) → IsAccepted cal → NoneFurther cal → longest_missed cal ≡ longest_stretch cal

-- Where an excess can be confirmed at all, the history of `LeastLapse` has a stretch of so many ticks: D - 1
-- of excess, and then R that level 2 misses.
abbrev pub MissedExcessLasts : Type 0
MissedExcessLasts =
    (cal : CalibrationParts) → IsAccepted cal → NoneFurther cal → (can : CanExceed cal) →
    Lasts (lapse_setting cal)
    (replicate (reaction_of cal.times) (missed_excess cal can.drive can.load)
    ++ before_lapse cal can.drive can.load)
    (longest_missed cal)

-- so any number that bounds each stretch under lapses is that or more
abbrev pub MissedBoundIsLeast : Type 0
MissedBoundIsLeast =
    (cal : CalibrationParts) → IsAccepted cal → NoneFurther cal → CanExceed cal → (longest : ℕ) →
    StretchesStayBelow cal (longest + 1) → longest_missed cal ≤ longest
