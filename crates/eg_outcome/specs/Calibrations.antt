-- What comes of the calibration of a command (F2, F4): its parts, or how the call ends without them.
use Rattle.std.specs.Prelude.{◌≡◌, ℕ, List, Option, Some, None, Result, Ok}
use Rattle.eg_base.specs.Outside.{ShownStore, IsMissing}
use Rattle.eg_toml.specs.Documents.{document_of}
use Rattle.eg_values.specs.Calibration.{CalibrationParts}
use Rattle.eg_values.specs.Reference.{reference_parts}
use Rattle.eg_cal.specs.Calibration.{calibration_of}
use Rattle.eg_cal.specs.declared.key.CalFault.{CalFault}
use Rattle.eg_cal.specs.declared.key.CalFault.TheVariants as cal_fault
use Rattle.eg_outcome.specs.Changes.{Change}
use Rattle.eg_outcome.specs.Reads.{refused, sized, FileComes, Finds, Accepts}
use Rattle.eg_outcome.specs.declared.outcome.Outcome.{Outcome}
use Rattle.eg_outcome.specs.declared.outcome.Outcome.TheVariants as outcome
use Rattle.eg_outcome.specs.declared.outcome.Refusal.{Refusal}
use Rattle.eg_outcome.specs.declared.outcome.Refusal.TheVariants as refusal
use Rattle.eg_outcome.specs.declared.outcome.Role.TheVariants as role

unfoldable pub calibration_said : List ℕ → Result CalibrationParts CalFault
calibration_said bytes = calibration_of (document_of bytes)

abbrev pub calibration_or_refusal : List ℕ → Result CalibrationParts Refusal
calibration_or_refusal bytes = refused refusal.Calibration (calibration_said bytes)

-- F3: memory that ran out is no refusal
abbrev pub calibration_end : CalFault → Outcome
calibration_end cal_fault.Memory = outcome.Memory
calibration_end fault = outcome.Refused (refusal.Calibration fault)

-- F21
abbrev pub calibration_file : List ℕ → Result CalibrationParts Refusal
calibration_file = sized role.Calibration calibration_or_refusal

-- F2: without a named file the calibration is the reference calibration
abbrev pub CalibrationComes :
    Option (List ℕ) → Change ShownStore → Result CalibrationParts Outcome → Type 0
CalibrationComes (Some name) store come = FileComes role.Calibration calibration_file name store come
CalibrationComes None store come = come ≡ Ok reference_parts

-- ---- when it is there, and when it is accepted ----

abbrev pub MissesCalibration : Option (List ℕ) → ShownStore → Type 0
MissesCalibration (Some name) store = IsMissing store.files name
MissesCalibration None store = ⊥

abbrev pub FindsCalibration : Option (List ℕ) → Change ShownStore → Type 0
FindsCalibration (Some name) store = Finds name store
FindsCalibration None store = Unit {0}

abbrev pub AcceptsCalibration : Option (List ℕ) → ShownStore → Type 0
AcceptsCalibration (Some name) store = Accepts calibration_file name store
AcceptsCalibration None store = Unit {0}
