-- How near a run came to a cut (C82, C83). Lists stand newest first.
use Rattle.std.specs.Prelude.{◌≡◌, ℕ, ℤ, pos, ◌-ℤ◌, int_lt, Bool, false, not, ◌&&◌, List, [], ◌∷◌, map, drop, slice_index, Option, Some, None, if◌then◌else◌}
use Rattle.std.specs.List.{list_any}
use Rattle.eg_num.specs.Windows.{greatest_of}
use Rattle.eg_record.specs.declared.row.Row.{Row}
use Rattle.eg_record.specs.declared.margins.Counters.{Counters}
use Rattle.eg_record.specs.declared.margins.Margins.{Margins}
use Rattle.eg_record.specs.declared.margins.MarginTally.{MarginTally}
use Rattle.eg_record.specs.Detection.{is_trip}
use Rattle.eg_record.specs.Spans.{this_span}

-- the row of a tick, with what the debouncers weigh after the tick
pub record Weighed : Type 0 where
  pub row : Row
  pub counters : Counters

-- the rows themselves
unfoldable pub rows_in : List Weighed → List Row
rows_in weighed = map (λ w. w.row) weighed

-- ---- which of them count ----

-- the last of these rows is one of a drive span: no test is running at the first row of its span
unfoldable pub is_driven : List Row → Bool
is_driven [] = false
is_driven (row ∷ before) = if row.fresh then not row.testing else is_driven before

-- one of these rows trips
unfoldable pub is_tripped : List Row → Bool
is_tripped rows = list_any (λ row. is_trip row.found) rows

-- the last of these rows is one of a drive span, and none before it trips in that span
unfoldable pub is_driven_untripped : List Row → Bool
is_driven_untripped rows = is_driven rows && not (is_tripped (drop 1 (this_span rows)))

-- those of which this is so, by all rows up to them
unfoldable pub weighed_where : (is_so : List Row → Bool) → List Weighed → List Weighed
weighed_where is_so [] = []
weighed_where is_so (w ∷ before) =
    if is_so (rows_in (w ∷ before)) then w ∷ weighed_where is_so before else weighed_where is_so before

-- ---- what is told of them ----

-- the greatest number that one of the debouncers weighs at a row of a drive span, 0 if there is none
unfoldable pub greatest_weight : (weight : Counters → ℕ) → List Weighed → ℕ
greatest_weight weight weighed = greatest_of (map (λ w. weight w.counters) (weighed_where is_driven weighed))

unfoldable pub surplus_at : Row → ℤ
surplus_at row = pos (slice_index row.signals 2) -ℤ pos (slice_index row.signals 1)

-- the greater of a number and of another, if there is another
unfoldable pub greater_than : ℤ → Option ℤ → ℤ
greater_than n None = n
greater_than n (Some other) = if int_lt n other then other else n

-- the greatest of these numbers, or none
unfoldable pub greatest_integer : List ℤ → Option ℤ
greatest_integer [] = None
greatest_integer (n ∷ ns) = Some (greater_than n (greatest_integer ns))

-- the greatest surplus in a drive span up to the first row that trips in it, that row included, or none
unfoldable pub surplus_of : List Weighed → Option ℤ
surplus_of weighed =
    greatest_integer (map (λ w. surplus_at w.row) (weighed_where is_driven_untripped weighed))

-- how near the run of these rows came to a cut
unfoldable pub margins_of : List Weighed → Margins
margins_of weighed = record {
  greatest = record {
    pedal = greatest_weight (λ c. c.pedal) weighed;
    plate = greatest_weight (λ c. c.plate) weighed;
    load = greatest_weight (λ c. c.load) weighed;
    speed = greatest_weight (λ c. c.speed) weighed;
    torque = greatest_weight (λ c. c.torque) weighed;
    answers = greatest_weight (λ c. c.answers) weighed;
  };
  surplus = surplus_of weighed;
}

-- what is told where nothing is weighed
unfoldable pub no_margins : Margins
no_margins = margins_of []

-- ---- a tally of them ----

-- The tally stands for these rows: it has what is told of them, whether the last one is of a drive span, and
-- whether a row of its span trips.
pub record IsMarginTallyOf (tally : MarginTally) (weighed : List Weighed) : Type 0 where
  pub margins : tally.margins ≡ margins_of weighed
  pub drives : tally.drives ≡ is_driven (rows_in weighed)
  pub tripped : tally.tripped ≡ is_tripped (this_span (rows_in weighed))
