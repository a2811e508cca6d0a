-- True excess and full-efficiency excess of rows (C56), and how long and how great the excess of a run is
-- (C77, C80).
use Rattle.std.specs.Prelude.{ℕ, ◌+◌, ◌-◌, max, Bool, List, [], ◌∷◌, length, map, Option, Some, None, if◌then◌else◌}
use Rattle.std.specs.Option.{option_or}
use Rattle.eg_num.specs.Arithmetic.{estimate}
use Rattle.eg_num.specs.Windows.{WeightParts, is_confirmed, greatest_of}
use Rattle.eg_torque.specs.Excess.{is_excess}
use Rattle.eg_record.specs.declared.row.Row.{Row}
use Rattle.eg_record.specs.Spans.{this_span, spans_of}

unfoldable pub true_excess : (threshold : ℕ) → Row → Bool
true_excess threshold row = is_excess row.torque row.limit threshold

-- by the estimate of the charge, where `kt` is the torque of a load of 1000
unfoldable pub full_excess : (kt threshold : ℕ) → Row → Bool
full_excess kt threshold row = is_excess (estimate kt row.charge) row.limit threshold

-- the true excess is confirmed at the last of these rows or at an earlier row of its span
unfoldable pub is_excess_confirmed : WeightParts → (threshold : ℕ) → List Row → Bool
is_excess_confirmed weights threshold rows =
    is_confirmed weights (map (true_excess threshold) (this_span rows))

-- the first tick by which the true excess is confirmed, or none
unfoldable pub first_confirmed : WeightParts → (threshold : ℕ) → List Row → Option ℕ
first_confirmed weights threshold [] = None
first_confirmed weights threshold (row ∷ before) =
    option_or (first_confirmed weights threshold before)
    (if is_excess_confirmed weights threshold (row ∷ before) then Some (length before) else None)

-- ---- how long it lasts, and how great it is ----

-- the number of rows in a row that have a true excess, up to the last one
unfoldable pub lasting : (threshold : ℕ) → List Row → ℕ
lasting threshold [] = 0
lasting threshold (row ∷ before) = if true_excess threshold row then lasting threshold before + 1 else 0

unfoldable pub longest_in : (threshold : ℕ) → List Row → ℕ
longest_in threshold [] = 0
longest_in threshold (row ∷ before) = max (lasting threshold (row ∷ before)) (longest_in threshold before)

-- the same, span by span: no stretch goes on from one span to the next
unfoldable pub stretch_of : (threshold : ℕ) → List Row → ℕ
stretch_of threshold rows = greatest_of (map (longest_in threshold) (spans_of rows))

-- how far the torque lies above `limit`, or 0
unfoldable pub above : (threshold : ℕ) → Row → ℕ
above threshold row = row.torque - (row.limit + threshold)

unfoldable pub peak_of : (threshold : ℕ) → List Row → ℕ
peak_of threshold rows = greatest_of (map (above threshold) rows)
