-- How near runs came to a cut, computed from the definitions; and that a row of a drive span is one in words.
use Rattle.std.proofs.Common.{◌≡◌, ◌∙◌, ◌∷◌, ◌++◌, append_assoc, [], ℕ, ℤ, pos, negsuc, List, Bool, true, false, None, Some, refl, ap}
use Rattle.std.specs.Prelude.{Option, not, if◌then◌else◌}
use Rattle.std.specs.List.{All}
use Rattle.std.proofs.lemmas.List.Elements.{All-head, All-tail}
use Rattle.eg_num.specs.Drive.{driven}
use Rattle.eg_num.specs.declared.watches.Watches.{Watches}
use Rattle.eg_num.specs.Windows.{greatest_of}
use Rattle.eg_answer.specs.declared.marks.AnswerMark.TheVariants.{Absent}
use Rattle.eg_record.specs.declared.row.Row.{Row}
use Rattle.eg_record.specs.declared.margins.Counters.{Counters}
use Rattle.eg_record.specs.declared.margins.Margins.{Margins}
use Rattle.eg_record.specs.Detection.{is_trip}
use Rattle.eg_record.specs.Spans.{this_span, IsSpan, IsDriveSpan, IsTestSpan}
use Rattle.eg_record.specs.Margins.{Weighed, rows_in, is_driven, is_tripped, is_driven_untripped, weighed_where, greatest_weight, surplus_at, greater_than, greatest_integer, surplus_of, margins_of, no_margins}

-- every definition that these need
unfoldable margins : ℕ
unfolding greatest_of is_trip this_span rows_in is_driven is_tripped is_driven_untripped weighed_where greatest_weight surplus_at greater_than
    greatest_integer surplus_of margins_of no_margins
margins = 0

abbrev nothing : Watches
nothing = record { mirror = false; pedal = false; plate = false; load = false; speed = false; torque = false; answers = false; start = false }

abbrev weights : (pedal torque answers : ℕ) → Counters
weights pedal torque answers = record { pedal = pedal; plate = 0; load = 0; speed = 0; torque = torque; answers = answers }

-- a tick at which level 2 permits 200, with this estimate and what these debouncers weigh after it
abbrev tick : (actual torque answers : ℕ) → Weighed
tick actual torque answers = record {
  row = record {
    tick = 0;
    drive = driven 0 800 0;
    plate = 0;
    charge = 0;
    torque = 0;
    limit = 200;
    path1 = true;
    path2 = true;
    on = true;
    signals = 0 ∷ 200 ∷ actual ∷ 0 ∷ 0 ∷ [];
    throttle = 0;
    ignition = 0;
    found = nothing;
    answer = Absent;
    verdict = None;
    testing = false;
    fresh = false;
  };
  counters = weights 0 torque answers;
}

abbrev with_row : Weighed → (Row → Row) → Weighed
with_row w change = record w { row = change w.row }

-- the first tick of a span, and one at which these watches are found
abbrev begins : Weighed → Weighed
begins w = with_row w (λ row. record row { fresh = true })

abbrev tests : Weighed → Weighed
tests w = with_row w (λ row. record row { testing = true })

abbrev finds : Watches → Weighed → Weighed
finds found w = with_row w (λ row. record row { found = found })

abbrev told : (pedal torque answers : ℕ) → Option ℤ → Margins
told pedal torque answers surplus = record { greatest = weights pedal torque answers; surplus = surplus }

-- no row, and no row of a drive span
none : margins_of [] ≡ told 0 0 0 None
unfolding margins
none = refl

no_drive : margins_of (tests (tick 900 4 2) ∷ begins (tests (tick 900 5 2)) ∷ []) ≡ told 0 0 0 None
unfolding margins
no_drive = refl

-- the greatest weights may come at several ticks; the surplus may lie below 0
near : (margins_of (tick 100 1 3 ∷ tick 150 2 0 ∷ begins (tick 0 0 0) ∷ []) ≡ told 0 2 3 (Some (negsuc 49)))
    × (margins_of (tick 200 1 3 ∷ tick 150 2 0 ∷ begins (tick 0 0 0) ∷ []) ≡ told 0 2 3 (Some (pos 0)))
unfolding margins
near = (refl, refl)

-- after a trip in the middle the weights count on, the surplus doesn't; at the trip it does
abbrev torque_trip : Watches
torque_trip = record nothing { torque = true }

trip : margins_of (tick 900 5 2 ∷ finds torque_trip (tick 700 5 0) ∷ begins (tick 600 4 0) ∷ []) ≡ told 0 5 2 (Some (pos 500))
unfolding margins
trip = refl

-- neither the pedal's watch nor that of the answers trips
no_trip : (margins_of (tick 900 5 2 ∷ finds (record nothing { pedal = true; answers = true; start = true }) (begins (tick 600 4 0)) ∷ []) ≡ told 0 5 2 (Some (pos 700)))
unfolding margins
no_trip = refl

-- a reset begins a span in which no watch has tripped
abbrev tripped : List Weighed
tripped = tick 900 0 0 ∷ finds (record nothing { mirror = true }) (begins (tick 600 4 0)) ∷ []

reset : (margins_of tripped ≡ told 0 4 0 (Some (pos 400))) × (margins_of (tick 800 1 1 ∷ begins (tick 650 0 0) ∷ tripped) ≡ told 0 4 1 (Some (pos 600)))
unfolding margins
reset = (refl, refl)

-- neither weights nor a surplus of a test span count, nor those of its rows after the test
abbrev test_span : List Weighed
test_span = tick 900 9 9 ∷ tests (tick 800 8 8) ∷ begins (tests (tick 700 7 7)) ∷ []

test_span_counts_not : (margins_of test_span ≡ no_margins) × (margins_of (begins (tick 300 1 0) ∷ test_span) ≡ told 0 1 0 (Some (pos 100)))
    × (margins_of (test_span ++ begins (tick 300 1 0) ∷ []) ≡ told 0 1 0 (Some (pos 100)))
unfolding margins
test_span_counts_not = (refl, refl, refl)

-- ---- rows of drive spans in words ----

first_of_span : (later : List Row) (first : Row) (rows : List Row) → first.fresh ≡ true → All (λ row. row.fresh ≡ false) later →
    is_driven (later ++ first ∷ rows) ≡ not first.testing
unfolding is_driven
first_of_span [] first rows begins goes_on = ap (λ (b : Bool). if b then not first.testing else is_driven rows) begins
first_of_span (row ∷ later) first rows begins goes_on =
    ap (λ (b : Bool). if b then not row.testing else is_driven (later ++ first ∷ rows)) (All-head (λ (r : Row). r.fresh ≡ false) row later goes_on)
    ∙ first_of_span later first rows begins (All-tail (λ (r : Row). r.fresh ≡ false) row later goes_on)

of_span : (span older : List Row) (is : IsSpan span) → is_driven (span ++ older) ≡ not is.first.testing
of_span span older is = ap (λ rows. is_driven (rows ++ older)) is.is ∙ ap is_driven (append_assoc is.later (is.first ∷ []) older)
    ∙ first_of_span is.later is.first older is.begins is.goes_on

-- the last row of a drive span is driven, whatever came before the span, and that of a test span isn't
drive_span_is : (span older : List Row) → IsDriveSpan span → is_driven (span ++ older) ≡ true
drive_span_is span older is = of_span span older is.span ∙ ap not is.drives

test_span_isnt : (span older : List Row) → IsTestSpan span → is_driven (span ++ older) ≡ false
test_span_isnt span older is = of_span span older is.span ∙ ap not is.tests
