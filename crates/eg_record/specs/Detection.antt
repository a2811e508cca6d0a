-- The first detection of a run, and its first cut (C57).
use Rattle.std.specs.Prelude.{◌≡◌, ◌↔◌, ℕ, ◌<◌, ◌==◌, Bool, false, ◌||◌, IsTrue, List, [], ◌∷◌, map, Option, Some, None, option_map}
use Rattle.std.specs.List.{All, Contains, find}
use Rattle.eg_num.specs.declared.watches.Watches.{Watches}
use Rattle.eg_record.specs.declared.row.Row.{Row}
use Rattle.eg_record.specs.declared.watch.Watch.{Watch}
use Rattle.eg_record.specs.declared.watch.Watch.TheVariants.{Mirror, Pedal, Plate, Load, Speed, Torque, Answers, Start}
use Rattle.eg_record.specs.Rows.{AreRows, first_given}

-- the watches in their order
abbrev pub watches : List Watch
watches = Mirror ∷ Pedal ∷ Plate ∷ Load ∷ Speed ∷ Torque ∷ Answers ∷ Start ∷ []

unfoldable pub is_found : Watches → Watch → Bool
is_found found Mirror = found.mirror
is_found found Pedal = found.pedal
is_found found Plate = found.plate
is_found found Load = found.load
is_found found Speed = found.speed
is_found found Torque = found.torque
is_found found Answers = found.answers
is_found found Start = found.start

-- the first in their order that is found, or none
unfoldable pub first_watch : Watches → Option Watch
first_watch found = find (is_found found) watches

-- what is detected at a row: the first watch that is found there, with the tick
unfoldable pub detected_at : Row → Option (Watch × ℕ)
detected_at row = option_map (λ watch. (watch, row.tick)) (first_watch row.found)

unfoldable pub first_detection : List Row → Option (Watch × ℕ)
first_detection rows = first_given detected_at rows

-- those that cut: all but `pedal` and `start`
unfoldable pub cutting : Watches → Watches
cutting found = record found { pedal = false; start = false }

-- Level 2 opens path 1 by itself: one of the cutting watches but `answers` found something.
unfoldable pub is_trip : Watches → Bool
is_trip found = found.mirror || found.plate || found.load || found.speed || found.torque

-- a row with the watches that cut alone
unfoldable pub cutting_at : Row → Row
cutting_at row = record row { found = cutting row.found }

unfoldable pub first_cut : List Row → Option (Watch × ℕ)
first_cut rows = first_detection (map cutting_at rows)

-- ---- the same in words ----

-- the place of a watch in the order
unfoldable pub rank : Watch → ℕ
rank Mirror = 0
rank Pedal = 1
rank Plate = 2
rank Load = 3
rank Speed = 4
rank Torque = 5
rank Answers = 6
rank Start = 7

-- a watch, if any, is this one
unfoldable pub is_watch : Watch → Option Watch → Bool
is_watch watch None = false
is_watch watch (Some other) = rank other == rank watch

-- no watch is found at this row
abbrev pub FindsNothing : Row → Type 0
FindsNothing row = (watch : Watch) → ¬ IsTrue (is_found row.found watch)

-- At this tick the watch is found; at no earlier tick is any watch found, and at this one none that stands
-- before it in the order.
pub record IsDetectedFirst (rows : List Row) (watch : Watch) (tick : ℕ) : Type 0 where
  pub row : Row
  pub stands : Contains rows row
  pub at_tick : row.tick ≡ tick
  pub found : IsTrue (is_found row.found watch)
  pub none_earlier : All (λ other. other.tick < tick → FindsNothing other) rows
  pub none_before : (other : Watch) → rank other < rank watch → ¬ IsTrue (is_found row.found other)

-- this is the first detection, or no watch is found at any tick
abbrev pub IsFirstDetection : List Row → Option (Watch × ℕ) → Type 0
IsFirstDetection rows None = All FindsNothing rows
IsFirstDetection rows (Some detection) = IsDetectedFirst rows detection.0 detection.1

-- the law: the words say of each run exactly what is computed
abbrev pub DetectionLaw : Type 0
DetectionLaw = (rows : List Row) → AreRows rows → (first : Option (Watch × ℕ)) →
    IsFirstDetection rows first ↔ (first ≡ first_detection rows)
