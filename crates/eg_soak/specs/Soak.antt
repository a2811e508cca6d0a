-- The runs of `soak` (C93), and their summary (F39).
use Rattle.std.specs.Prelude.{ℕ, zero, suc, not, is_some, max, List, [], ◌∷◌, map, length, count_by}
use Rattle.std.specs.List.{fold}
use Rattle.eg_values.specs.Reference.{reference_parts}
use Rattle.eg_record.specs.declared.watch.Watch.{Watch}
use Rattle.eg_record.specs.declared.watch.Watch.TheVariants.{Mirror, Pedal, Plate, Load, Speed, Torque, Answers}
use Rattle.eg_model.specs.Bench.{Run}
use Rattle.eg_tick.specs.Run.{run_by}
use Rattle.eg_plan.specs.Contents.{usual_slices}
use Rattle.eg_plant.specs.declared.engine_kind.EngineKind.TheVariants as kind
use Rattle.eg_model.specs.EngineRuns.{EngineRun}
use Rattle.eg_draw.specs.declared.runs.DrawnRun.{DrawnRun}
use Rattle.eg_draw.specs.Runs.{drawn_run, state_after}
use Rattle.eg_soak.specs.declared.facts.DrawnFacts.{DrawnFacts}
use Rattle.eg_soak.specs.declared.summary.SoakSummary.{SoakSummary}
use Rattle.eg_soak.specs.Facts.{drawn_facts, is_first}

abbrev pub on_gasoline : Run → EngineRun
on_gasoline run = record { engine = kind.Gasoline; run = run }

-- C93
abbrev pub run_drawn : DrawnRun → EngineRun
run_drawn drawn =
    on_gasoline (run_by reference_parts drawn.image drawn.fault usual_slices drawn.drive)

-- C93, C94: the first of these runs is drawn in state x, each other run in the state after the run before it
unfoldable pub drawn_runs : (count x : ℕ) → List EngineRun
drawn_runs zero x = []
drawn_runs (suc count) x = run_drawn (drawn_run x) ∷ drawn_runs count (state_after x)

-- the watches that can find something in a run without a reset, which has no start-up test
abbrev pub drive_watches : List Watch
drive_watches = Mirror ∷ Pedal ∷ Plate ∷ Load ∷ Speed ∷ Torque ∷ Answers ∷ []

-- F39
unfoldable pub summary_of : List DrawnFacts → SoakSummary
summary_of all = record {
  runs = length all;
  none = count_by (λ facts. not (is_some facts.first)) all;
  by_watch = map (λ watch. count_by (is_first watch) all) drive_watches;
  trapped = count_by (λ facts. facts.is_trapped) all;
  off = count_by (λ facts. facts.goes_off) all;
  longest = fold (λ most facts. max most facts.reaction) 0 all;
}

-- C93
unfoldable pub soak_of : List EngineRun → SoakSummary
soak_of runs = summary_of (map drawn_facts runs)
