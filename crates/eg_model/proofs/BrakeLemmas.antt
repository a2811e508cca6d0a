-- The effective drive row, and the readings where the brake is taken as pressed.
use Rattle.std.proofs.Common.{◌≡◌, Bool, true, false, ◌&&◌, [], ◌∷◌, refl, sym, ap, ◌∙◌, ◌⊎◌, lit≤}
use Rattle.std.proofs.lemmas.Bool.{true≢false}
use Rattle.std.specs.Prelude.{if◌then◌else◌}
use Rattle.eg_num.specs.Drive.{DriveRow, IsDrive}
use Rattle.eg_sensor.specs.Readings.{sound_readings}
use Rattle.eg_sensor.specs.Brake.{sound_contacts, is_pressed, gated}
use Rattle.eg_sensor.specs.declared.readings.Readings.{Readings}
use Rattle.eg_sensor.specs.declared.tracks.TheConstants.{BRAKE_1, BRAKE_2}
use Rattle.eg_fault.specs.Effects.{Effects, no_effects, readings_under, contacts_under}
use Rattle.eg_fault.specs.Classes.{IsSound}
use Rattle.eg_fault.proofs.ClassLemmas.{pressed_is_seen}
use Rattle.eg_values.specs.Calibration.{CalibrationParts}
use Rattle.eg_model.specs.History.{Entry}
use Rattle.eg_model.specs.Moments.{effective_drive, is_braking, sensed_at, readings_at}

-- ---- the effective drive row ----

-- its speed is the row's
pub effective-speed : (cal : CalibrationParts) (drive : DriveRow) → (effective_drive cal drive).speed ≡ drive.speed
unfolding effective_drive
effective-speed cal drive = go (cal.brake && drive.brake)
  where
    go : (b : Bool) → (if b then record drive { pedal = 0; raise = 0 } else drive).speed ≡ drive.speed
    go true = refl
    go false = refl

-- its numbers are within their limits
pub effective-within : (cal : CalibrationParts) (drive : DriveRow) → IsDrive drive → IsDrive (effective_drive cal drive)
unfolding effective_drive
effective-within cal drive within = go (cal.brake && drive.brake)
  where
    go : (b : Bool) → IsDrive (if b then record drive { pedal = 0; raise = 0 } else drive)
    go true = (lit≤ tt, within.1, lit≤ tt)
    go false = within

-- where the brake isn't taken as pressed, and one contact is sound, it is the row itself
pub effective-unpressed : (cal : CalibrationParts) (x : Effects) (drive : DriveRow) → IsSound x BRAKE_1 ⊎ IsSound x BRAKE_2 →
    is_braking cal x drive ≡ false → effective_drive cal drive ≡ drive
unfolding effective_drive is_braking
effective-unpressed cal x drive sound unpressed = go cal.brake drive.brake unpressed
  where
    go : (counts brakes : Bool) → (counts && is_pressed (contacts_under x (sound_contacts brakes))) ≡ false →
        (if counts && brakes then record drive { pedal = 0; raise = 0 } else drive) ≡ drive
    go false brakes un = refl
    go true false un = refl
    go true true un = absurd (let seen = pressed_is_seen x sound in true≢false (sym seen ∙ un))

-- ---- the readings where nothing is out of order ----

sound_pressed : (brakes : Bool) → is_pressed (sound_contacts brakes) ≡ brakes
sound_pressed true = refl
sound_pressed false = refl

-- they are those of sound tracks under the effective drive row
pub plain_readings : (cal : CalibrationParts) (e : Entry) → readings_at cal no_effects e
    ≡ sound_readings (effective_drive cal e.drive).pedal e.shown.position (e.shown.load_1 ∷ e.shown.load_2 ∷ []) e.drive.speed (effective_drive cal e.drive).raise
unfolding readings_at is_braking sensed_at effective_drive readings_under contacts_under no_effects
plain_readings cal e =
    ap (λ b. if cal.brake && b then gated truth else truth) (sound_pressed e.drive.brake) ∙ go (cal.brake && e.drive.brake)
  where
    truth : Readings
    truth = sound_readings e.drive.pedal e.shown.position (e.shown.load_1 ∷ e.shown.load_2 ∷ []) e.drive.speed e.drive.raise

    row : Bool → DriveRow
    row b = if b then record e.drive { pedal = 0; raise = 0 } else e.drive

    go : (b : Bool) → (if b then gated truth else truth)
        ≡ sound_readings (row b).pedal e.shown.position (e.shown.load_1 ∷ e.shown.load_2 ∷ []) e.drive.speed (row b).raise
    go true = refl
    go false = refl
