-- The rules of a calibration file (F20, F21), without their order.
use Rattle.std.specs.Prelude.{◌≡◌, ◌↔◌, ◌≤◌, ◌<◌, true, Some, Ok}
use Rattle.toml.specs.Data.{Members}
use Rattle.eg_torque.specs.Permit.{DoesNotFall}
use Rattle.eg_answer.specs.Times.{TimeParts}
use Rattle.eg_values.specs.Calibration.{CalibrationParts, AreAnswered}
use Rattle.eg_cal.specs.declared.key.CalKey.{CalKey}
use Rattle.eg_cal.specs.declared.key.CalKey.TheVariants.{Question}
use Rattle.eg_cal.specs.Contents.{version_of, questions_of}
use Rattle.eg_cal.specs.Held.{IsKeyOf, IsHeld}
use Rattle.eg_cal.specs.Names.{is_all_known}
use Rattle.eg_cal.specs.Calibration.{permit_of, rules_of, times_of, parts_of, calibration_of}

-- C33
pub record IsWindow (t : TimeParts) : Type 0 where
  pub from_first : t.first ≤ t.send
  pub to_last : t.send ≤ t.last
  pub inside : t.last < t.period

-- C74, F20: what an accepted document keeps
pub record KeepsRules (ms : Members) : Type 0 where
  pub keys : (key : CalKey) → IsKeyOf (version_of ms) key → IsHeld ms key
  pub names : is_all_known (version_of ms) ms ≡ true
  pub rises : DoesNotFall (permit_of ms)
  pub window : IsWindow (times_of ms)
  pub answers : AreAnswered (rules_of ms) (questions_of ms Question)

-- Claim 38: a document is accepted exactly if it keeps the rules, and its calibration has the values under
-- its keys.
abbrev pub AcceptedLaw : Type 0
AcceptedLaw = (ms : Members) (parts : CalibrationParts) →
    (calibration_of (Some ms) ≡ Ok parts) ↔ (KeepsRules ms × (parts ≡ parts_of ms))
