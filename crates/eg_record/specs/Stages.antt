-- A run is first off at the first tick with the stages off and no start-up test running, and last on at the
-- last tick with the stages on. While a test is running they are off in any case, so that its ticks don't
-- count as off. Those after a test that failed do.
use Rattle.std.specs.Prelude.{◌≡◌, ◌↔◌, ◌⊎◌, ℕ, ◌<◌, Bool, not, ◌&&◌, IsTrue, IsFalse, List, [], ◌∷◌, Option, Some, None, if◌then◌else◌}
use Rattle.std.specs.List.{All, Contains}
use Rattle.eg_record.specs.declared.row.Row.{Row}
use Rattle.eg_record.specs.Rows.{AreRows, first_given}

-- whether the stages are off at a row, and no test is running
unfoldable pub is_off : Row → Bool
is_off row = not row.on && not row.testing

-- the tick of such a row, and none of any other
unfoldable pub off_at : Row → Option ℕ
off_at row = if is_off row then Some row.tick else None

-- the first tick at which the stages are off and no test is running, or none
unfoldable pub first_off : List Row → Option ℕ
first_off rows = first_given off_at rows

-- the last tick at which the stages are on, or none
unfoldable pub last_on : List Row → Option ℕ
last_on [] = None
last_on (row ∷ before) = if row.on then Some row.tick else last_on before

-- ---- the same in words ----

-- at this row the stages are on, or a test is running
abbrev pub IsOnOrTested : Row → Type 0
IsOnOrTested row = IsTrue row.on ⊎ IsTrue row.testing

-- at this tick the stages are off and no test is running; at each earlier tick they are on, or one is running
pub record IsOffFirst (rows : List Row) (tick : ℕ) : Type 0 where
  pub row : Row
  pub stands : Contains rows row
  pub at_tick : row.tick ≡ tick
  pub off : IsFalse row.on
  pub untested : IsFalse row.testing
  pub none_earlier : All (λ other. other.tick < tick → IsOnOrTested other) rows

-- this is the first tick at which they are off and no test is running, or there is none
abbrev pub IsFirstOff : List Row → Option ℕ → Type 0
IsFirstOff rows None = All IsOnOrTested rows
IsFirstOff rows (Some tick) = IsOffFirst rows tick

-- the law: the words say of each run exactly what is computed
abbrev pub OffLaw : Type 0
OffLaw = (rows : List Row) → AreRows rows → (off : Option ℕ) → IsFirstOff rows off ↔ (off ≡ first_off rows)

-- at this tick the stages are on; at each later tick they are off
pub record IsOnLast (rows : List Row) (tick : ℕ) : Type 0 where
  pub row : Row
  pub stands : Contains rows row
  pub at_tick : row.tick ≡ tick
  pub on : IsTrue row.on
  pub off_later : All (λ other. tick < other.tick → IsFalse other.on) rows

-- this is the last tick at which they are on, or there is none
abbrev pub IsLastOn : List Row → Option ℕ → Type 0
IsLastOn rows None = All (λ row. IsFalse row.on) rows
IsLastOn rows (Some tick) = IsOnLast rows tick

-- the law: the words say of each run exactly what is computed
abbrev pub LastOnLaw : Type 0
LastOnLaw = (rows : List Row) → AreRows rows → (last : Option ℕ) → IsLastOn rows last ↔ (last ≡ last_on rows)
