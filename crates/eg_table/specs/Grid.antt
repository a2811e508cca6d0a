-- A sweep has a fault of each class at each multiple of its step below the run's ticks; more than 1,000
-- runs or 1,000,000 ticks are too many.
use Rattle.std.specs.Prelude.{ℕ, ◌*◌, Bool, ◌||◌, nat_lt, List, map}
use Rattle.std.specs.List.{flat_map, range_with_len}
use Rattle.std.specs.Int.{div_ceil}
use Rattle.eg_fault.specs.declared.class.Class.{Class}
use Rattle.eg_fault.specs.declared.class.Fault.{Fault}
use Rattle.eg_fault.specs.declared.class_name.TheConstants.{CLASSES}
use Rattle.eg_fault.specs.Names.{classes, swept}

-- the classes in their order, each with the numbers that it has in a sweep
unfoldable pub swept_classes : List Class
swept_classes = map swept classes

-- how many multiples of `step` there are below `ticks`
unfoldable pub onset_count : (ticks step : ℕ) → ℕ
onset_count ticks step = div_ceil ticks step

-- these multiples, rising: 0, `step`, twice `step` and so on
unfoldable pub onsets : (ticks step : ℕ) → List ℕ
onsets ticks step = map (λ i. i * step) (range_with_len 0 (onset_count ticks step))

-- a fault of this class at each of these onsets
unfoldable pub faults_of : List ℕ → Class → List Fault
faults_of onsets class = map (λ onset. record { onset = onset; class = class }) onsets

-- the faults of a grid, class by class
unfoldable pub swept_faults : (ticks step : ℕ) → List Fault
swept_faults ticks step = flat_map (faults_of (onsets ticks step)) swept_classes

-- a grid is too large where it has more than 1,000 runs, or more than 1,000,000 ticks in all
unfoldable pub is_too_large : (ticks step : ℕ) → Bool
is_too_large ticks step =
    let runs = CLASSES * onset_count ticks step in nat_lt 1000 runs || nat_lt 1000000 (runs * ticks)
