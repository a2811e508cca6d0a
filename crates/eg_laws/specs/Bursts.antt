-- C66: how many ticks of a window can have true excess if it isn't confirmed by the last of them. Bits of
-- feeds and rows stand newest first.
use Rattle.std.specs.Prelude.{◌≡◌, ℕ, zero, suc, ◌+◌, ◌*◌, ◌-◌, ◌/◌, ◌≤◌, Bool, true, false, not, List, [], ◌∷◌, ◌++◌, length, map, count_by, min}
use Rattle.eg_num.specs.Windows.{WeightParts, AreWeights, is_reached, is_confirmed}
use Rattle.eg_record.specs.declared.row.Row.{Row}
use Rattle.eg_record.specs.Excess.{true_excess}
use Rattle.eg_record.specs.Spans.{EachDriveSpan}
use Rattle.eg_model.specs.Engines.{BenchEngine}
use Rattle.eg_model.specs.Bench.{Run}
use Rattle.eg_model.specs.Rows.{record_rows}
use Rattle.eg_model.specs.Records.{IsRun}

-- C66: B(n). A window of n feeds that doesn't reach the limit has at most so many bad ones.
unfoldable pub most_bad : WeightParts → ℕ → ℕ
most_bad w n = (w.limit - 1 + n * w.down) / (w.up + w.down)

unfoldable pub bad_in : List Bool → ℕ
bad_in window = count_by (λ bad. bad) window

-- C66, whatever was fed before the window
abbrev pub BurstsAreSparse : Type 0
BurstsAreSparse =
    (w : WeightParts) → AreWeights w → (window before : List Bool) →
    is_confirmed w (window ++ before) ≡ false → bad_in window ≤ most_bad w (length window)

-- ---- so many can be bad ----

-- n feeds, each of them bad unless it would reach the limit
unfoldable pub densest : WeightParts → ℕ → List Bool
densest w zero = []
densest w (suc n) = not (is_reached w (true ∷ densest w n)) ∷ densest w n

-- C66: so many can be bad, or all n
abbrev pub SoManyCanBeBad : Type 0
SoManyCanBeBad =
    (w : WeightParts) → AreWeights w → w.up + w.down ≤ w.limit → (n : ℕ) →
    (is_confirmed w (densest w n) ≡ false) × (bad_in (densest w n) ≡ min n (most_bad w n))

-- weights by which a bad feed adds 1, a good one takes 2, and 2 confirm
abbrev pub hasty : WeightParts
hasty = record { up = 1; down = 2; limit = 2 }

-- With these weights, whose limit is less than `up + down`, fewer can be bad than C66 allows: at most half of
-- the feeds, rounded up, where B(n) is about two thirds. What a good feed would take below 0 is lost.
abbrev pub FewerMayDo : Type 0
FewerMayDo =
    (window before : List Bool) → is_confirmed hasty (window ++ before) ≡ false →
    2 * bad_in window ≤ length window + 1

-- ---- the rows of a drive span, or of its part up to any tick ----

-- C66
abbrev pub RowsAreSparse : WeightParts → (threshold start : ℕ) → List Row → Type 0
RowsAreSparse weights threshold start rows =
    (later window before : List Row) → rows ≡ later ++ (window ++ before) →
    is_confirmed weights (map (true_excess threshold) (window ++ before)) ≡ false →
    bad_in (map (true_excess threshold) window) ≤ most_bad weights (length window)

-- claim 44
abbrev pub RecordsAreSparse : {E : Type 0} → BenchEngine E → Type 0
RecordsAreSparse b =
    (r : Run) → IsRun r →
    EachDriveSpan (RowsAreSparse r.setting.cal.rules.torque r.setting.cal.rules.threshold) (record_rows b r)
