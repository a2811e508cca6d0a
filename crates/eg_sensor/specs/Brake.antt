-- The contacts of the brake (C16), and gated readings (C17). No watch compares the contacts.
use Rattle.std.specs.Prelude.{ℕ, ◌==◌, Bool, not, ◌||◌, List, [], ◌∷◌, slice_index, if◌then◌else◌}
use Rattle.eg_sensor.specs.declared.readings.Readings.{Readings}

-- C16
abbrev pub sound_contacts : (pressed : Bool) → List ℕ
sound_contacts pressed = (if pressed then 1 else 0) ∷ (if pressed then 0 else 1) ∷ []

-- C16
abbrev pub is_pressed : List ℕ → Bool
is_pressed contacts = not (slice_index contacts 0 == 0) || slice_index contacts 1 == 0

-- C17
abbrev pub gated : Readings → Readings
gated r = record r { pedal = 0 ∷ 1000 ∷ []; raise = 0; raise_check = 65535 }
