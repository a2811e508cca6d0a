-- The limits of a calibration, from which `bound` and `limits` are written (F40).
use Rattle.std.specs.Prelude.{◌≡◌, SomeIff}
use Rattle.eg_answer.specs.Times.{feeds_to_confirm, reaction_of, test_ticks_of, lapse_bound_of, HasMissSpacing, miss_spacing_of}
use Rattle.eg_values.specs.Calibration.{CalibrationParts}
use Rattle.eg_values.specs.Excess.{BoundsLapses, BoundsMissed, longest_missed, longest_stretch, greatest_excess, ramp_ticks}
use Rattle.eg_desk.specs.declared.limit.Limits.{Limits}

-- F40, a field for each line
pub record AreLimits (cal : CalibrationParts) (limits : Limits) : Type 0 where
  pub reaction : limits.reaction ≡ reaction_of cal.times
  pub lapse : SomeIff limits.lapse (BoundsLapses cal)
      (lapse_bound_of cal.rules.torque cal.times)
  pub verdicts : limits.verdicts ≡ feeds_to_confirm cal.times.weights
  pub excess : limits.excess ≡ feeds_to_confirm cal.rules.torque
  pub test : limits.test ≡ test_ticks_of cal.times
  pub spacing : SomeIff limits.spacing (HasMissSpacing cal.times) (miss_spacing_of cal.times)
  pub stretch : limits.stretch ≡ longest_stretch cal
  pub peak : limits.peak ≡ greatest_excess cal
  pub ramp : limits.ramp ≡ ramp_ticks cal.rules
  pub missed : SomeIff limits.missed (BoundsMissed cal) (longest_missed cal)
