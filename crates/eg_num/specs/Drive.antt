-- The drive row of a tick (C2).
use Rattle.std.specs.Prelude.{ℕ, ◌≤◌, Bool, false, ◌==◌, ◌&&◌}
use Rattle.std.specs.Bool.{beq}
use Rattle.std.specs.Cmp.{IsEquivalence, and_equiv, on_equiv, nat_eq_equiv, bool_eq_equiv}

-- C2: pedal in per mille, speed in rpm, raise in tenths of Nm
pub record DriveRow : Type 0 where
  pub pedal : ℕ
  pub speed : ℕ
  pub raise : ℕ
  pub reset : Bool
  pub brake : Bool

-- C2, with the ranges of docs/CONCEPT.md, "Units"
abbrev pub IsDrive : DriveRow → Type 0
IsDrive row = (row.pedal ≤ 1000) × (row.speed ≤ 8000) × (row.raise ≤ 10000)

-- a row at which the unit isn't reset and nobody brakes
abbrev pub driven : (pedal speed raise : ℕ) → DriveRow
driven pedal speed raise =
    record { pedal = pedal; speed = speed; raise = raise; reset = false; brake = false }

abbrev pub is_same_row : DriveRow → DriveRow → Bool
is_same_row a b =
    a.pedal == b.pedal && (a.speed == b.speed && (a.raise == b.raise && (beq a.reset b.reset
    && beq a.brake b.brake)))

-- `is_same_row` is an equality
pub is_same_row-equality : IsEquivalence is_same_row
is_same_row-equality = and_equiv (on_equiv (λ (r : DriveRow). r.pedal) nat_eq_equiv)
    (and_equiv (on_equiv (λ (r : DriveRow). r.speed) nat_eq_equiv)
    (and_equiv (on_equiv (λ (r : DriveRow). r.raise) nat_eq_equiv)
    (and_equiv (on_equiv (λ (r : DriveRow). r.reset) bool_eq_equiv)
    (on_equiv (λ (r : DriveRow). r.brake) bool_eq_equiv))))
