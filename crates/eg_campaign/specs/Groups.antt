-- Runs of one drive, image, slice plan and engine are a group, in which a run with a fault goes on from a
-- tick of the run without one. Up to the onset of its fault each of them is the run without a fault. So where
-- a group has more than one run, that run is kept at hundredth ticks, and a run with a fault is made from the
-- last of all hundredth ticks on that isn't after the onset.
use Rattle.std.specs.Prelude.{◌≡◌, ℕ, ◌*◌, ◌/◌, Bool, false, ◌&&◌, nat_lt, nat_eq, List, [], ◌∷◌, ◌++◌, map, filter, drop, length, reverse, Option, Some, None, if◌then◌else◌, Result, IfOk}
use Rattle.std.specs.List.{flat_map, list_any, position_or_len}
use Rattle.std.specs.Cmp.Lexicographic.{pointwise}
use Rattle.std.specs.declared.vec.Vec.{Vec}
use Rattle.std.specs.declared.alloc.Global.{Global}
use Rattle.eg_num.specs.Drive.{is_same_row}
use Rattle.eg_fault.specs.declared.class.Fault.{Fault}
use Rattle.eg_values.specs.Calibration.{CalibrationParts}
use Rattle.eg_record.specs.declared.row.Row.{Row}
use Rattle.eg_record.specs.declared.facts.Facts.{Facts}
use Rattle.eg_record.specs.declared.run_facts.RunFacts.{RunFacts}
use Rattle.eg_model.specs.Engines.{BenchEngine, bench_of}
use Rattle.eg_model.specs.Rows.{record_rows}
use Rattle.eg_tick.specs.Facts.{record_facts, told_of}
use Rattle.eg_tick.specs.Weights.{TickCount}
use Rattle.eg_tick.specs.Counting.{AreCounted}
use Rattle.eg_plant.specs.declared.engine_kind.EngineKind.{EngineKind}
use Rattle.eg_plant.specs.EngineKinds.{number_of}
use Rattle.eg_plan.specs.declared.run_input.RunInput.{RunInput}
use Rattle.eg_model.specs.EngineRuns.{rows_in_time}
use Rattle.eg_campaign.specs.Plays.{run_with}

-- ---- groups ----

-- engines of one kind
abbrev pub is_same_engine : EngineKind → EngineKind → Bool
is_same_engine a b = nat_eq (number_of a) (number_of b)

-- two inputs are of one group: their engines, images, slice plans and drives are equal, item by item
unfoldable pub is_alike : RunInput → RunInput → Bool
is_alike x y =
    is_same_engine x.plan.engine y.plan.engine && pointwise nat_eq x.image y.image
    && pointwise (pointwise nat_eq) x.plan.slices y.plan.slices && pointwise is_same_row x.drive y.drive

-- what is equal of two inputs of one group
pub record AreAlike (x y : RunInput) : Type 0 where
  pub engine : x.plan.engine ≡ y.plan.engine
  pub image : x.image ≡ y.image
  pub plan : x.plan.slices ≡ y.plan.slices
  pub drive : x.drive ≡ y.drive

-- the group of a run among these: the runs that are alike to it, in their order
abbrev pub group_of : List RunInput → RunInput → List RunInput
group_of inputs x = filter (is_alike x) inputs

-- the leader of a run among these: the index of the first run of its group
abbrev pub leader_in : List RunInput → RunInput → ℕ
leader_in inputs x = position_or_len (is_alike x) inputs

-- the runs of `later` that are the first of their groups, where the runs of `earlier` came before them
unfoldable pub firsts_after : (earlier later : List RunInput) → List RunInput
firsts_after earlier [] = []
firsts_after earlier (x ∷ xs) =
    let rest = firsts_after (x ∷ earlier) xs in if list_any (is_alike x) earlier then rest else x ∷ rest

-- the groups of a campaign, in the order of their first runs
unfoldable pub groups_of : List RunInput → List (List RunInput)
groups_of inputs = map (group_of inputs) (firsts_after [] inputs)

-- ---- what is made ----

-- the same input under this fault in place of its own, or under none
abbrev pub input_under : Option Fault → RunInput → RunInput
input_under fault x = record x { plan = record x.plan { fault = fault } }

-- the same input without its fault
abbrev pub faultless : RunInput → RunInput
faultless x = input_under None x

-- the runs of an input under each of these faults
abbrev pub inputs_under : RunInput → List Fault → List RunInput
inputs_under x faults = map (λ fault. input_under (Some fault) x) faults

-- a run without a fault may be kept at tick 0, and this many ticks later again, and so on
abbrev pub checkpoint_ticks : ℕ
checkpoint_ticks = 100

-- the last tick up to this one at which it is kept
unfoldable pub checkpoint : ℕ → ℕ
checkpoint t = t / checkpoint_ticks * checkpoint_ticks

-- The rows that are made for a run whose group has more, out of its rows in the order of time: from the last
-- checkpoint on that isn't after its onset; none where it has no fault, or one that begins after the run.
unfoldable pub own_under : Option Fault → (ticks : ℕ) → List Row → List Row
own_under None ticks rows = []
own_under (Some fault) ticks rows =
    if nat_lt fault.onset ticks then drop (checkpoint fault.onset) rows else []

-- the same for the run of an input, by an engine of the model, and by the engine that the input names
abbrev pub own_on : {S : Type 0} → BenchEngine S → CalibrationParts → RunInput → List Row
own_on b cal x = own_under x.plan.fault (length x.drive) (reverse (record_rows b (run_with cal x).run))

abbrev pub own_rows : CalibrationParts → RunInput → List Row
own_rows cal x = own_on (bench_of x.plan.engine) cal x

-- the rows that are made for a group, in the order in which they are made: all of a run that is alone; else
-- all of the run without a fault, and then of each run its own
unfoldable pub rows_of_group : CalibrationParts → List RunInput → List Row
rows_of_group cal [] = []
rows_of_group cal (x ∷ []) = rows_in_time (run_with cal x)
rows_of_group cal (x ∷ y ∷ more) =
    rows_in_time (run_with cal (faultless x)) ++ flat_map (own_rows cal) (x ∷ y ∷ more)

-- the same of the group of input x, where it has more than one run, by an engine of the model
abbrev pub rows_shared : {S : Type 0} → BenchEngine S → CalibrationParts → List RunInput → RunInput → List Row
rows_shared b cal inputs x =
    reverse (record_rows b (run_with cal (faultless x)).run) ++ flat_map (own_on b cal) (group_of inputs x)

-- the same of the runs of input x under two faults or more
abbrev pub rows_under : {S : Type 0} → BenchEngine S → CalibrationParts → RunInput → List Fault → List Row
rows_under b cal x faults = reverse (record_rows b (run_with cal (faultless x)).run)
    ++ flat_map (λ fault. own_on b cal (input_under (Some fault) x)) faults

-- the rows that are made for a campaign, group by group
unfoldable pub rows_made : CalibrationParts → List RunInput → List Row
rows_made cal inputs = flat_map (rows_of_group cal) (groups_of inputs)

-- ---- what is told ----

-- what is told of the run of an input, by an engine of the model
abbrev pub told_on : {S : Type 0} → (weighed : Bool) → BenchEngine S → CalibrationParts → RunInput → RunFacts
told_on weighed b cal x = told_of weighed b (run_with cal x).run

-- the same by the engine that the input names, and where it isn't weighed
abbrev pub told_by : (weighed : Bool) → CalibrationParts → RunInput → RunFacts
told_by weighed cal x = told_on weighed (bench_of x.plan.engine) cal x

abbrev pub told_with : CalibrationParts → RunInput → RunFacts
told_with cal x = told_by false cal x

-- What stands at the place of input y once the group of input x was played, where `before` stood there: what
-- y tells if it is of the group, and else the same.
abbrev pub written_over : {T : Type 0} → (tells : RunInput → T) (x : RunInput) (before : RunInput → T)
    → RunInput → T
written_over tells x before y = if is_alike x y then tells y else before y

-- the facts of the run of an input
abbrev pub facts_by : CalibrationParts → RunInput → Facts
facts_by cal x = record_facts (bench_of x.plan.engine) (run_with cal x).run

-- The runs of these inputs were played: on Ok this is told of each, in their order. These rows were made for
-- them and are counted, with their weights; where memory ran out, the first of them are.
pub record AreTold {T E : Type 0} (tells : RunInput → T) (inputs : List RunInput) (rows : List Row)
    (was is : TickCount) (result : Result (Vec T Global) E) : Type 0 where
  pub told : IfOk result (λ all. all.items ≡ map tells inputs)
  pub counted : AreCounted rows was is result
