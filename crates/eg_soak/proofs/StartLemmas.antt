-- A drawn run has no reset, so that no start-up test fails in it.
use Rattle.std.proofs.Common.{◌≡◌, List, ℕ, zero, suc, false, refl, map}
use Rattle.std.specs.Prelude.{Option, Some, None, option_map, replicate}
use Rattle.std.specs.List.{All}
use Rattle.std.proofs.lemmas.List.Elements.{All-nil, All-cons, All-append, All-replicate}
use Rattle.eg_num.specs.Drive.{DriveRow}
use Rattle.eg_record.specs.declared.row.Row.{Row}
use Rattle.eg_record.specs.declared.watch.Watch.{Watch}
use Rattle.eg_record.specs.declared.watch.Watch.TheVariants.{Mirror, Pedal, Plate, Load, Speed, Torque, Answers, Start}
use Rattle.eg_record.specs.Detection.{is_found, is_watch, rank, first_detection}
use Rattle.eg_record.specs.Facts.{facts_of}
use Rattle.eg_record.proofs.LawLemmas.{first_detection-never}
use Rattle.eg_draw.specs.Draws.{after}
use Rattle.eg_draw.specs.Runs.{stretch_row, stretches, trace_of, drawn_run, state_after}
use Rattle.eg_model.specs.Engines.{gasoline}
use Rattle.eg_model.specs.Rows.{record_rows}
use Rattle.eg_model.proofs.SpanRuns.{finds_no_start}
use Rattle.eg_tick.specs.Facts.{record_facts}
use Rattle.eg_soak.specs.Facts.{is_first, facts_in, drawn_facts}
use Rattle.eg_soak.specs.Soak.{run_drawn, drawn_runs}
use Rattle.eg_soak.proofs.SumLemmas.{NeverStart}

-- ---- the drive ----

-- no reset comes at this drive row
abbrev NoReset : DriveRow → Type 0
NoReset row = row.reset ≡ false

row-no_reset : (x : ℕ) → NoReset (stretch_row x)
unfolding stretch_row
row-no_reset x = refl

stretches-no_reset : (n x : ℕ) → All NoReset (stretches n x)
unfolding stretches
stretches-no_reset zero x = All-nil NoReset
stretches-no_reset (suc n) x =
    All-append NoReset (replicate 100 (stretch_row x)) (stretches n (after 3 x))
    (All-replicate NoReset 100 (stretch_row x) (row-no_reset x)) (stretches-no_reset n (after 3 x))

drive-no_reset : (x : ℕ) → All NoReset (run_drawn (drawn_run x)).run.drive
unfolding drawn_run trace_of
drive-no_reset x = stretches-no_reset 20 _

-- ---- the first watch ----

-- a first detection, if any, that isn't one by the watch of the test
other_than_start : (first : Option (Watch × ℕ)) → ((tick : ℕ) → first ≡ Some (Start, tick) → ⊥) → is_watch Start (option_map (λ detection. detection.0) first) ≡ false
unfolding is_watch rank
other_than_start None never = refl
other_than_start (Some (Mirror, tick)) never = refl
other_than_start (Some (Pedal, tick)) never = refl
other_than_start (Some (Plate, tick)) never = refl
other_than_start (Some (Load, tick)) never = refl
other_than_start (Some (Speed, tick)) never = refl
other_than_start (Some (Torque, tick)) never = refl
other_than_start (Some (Answers, tick)) never = refl
other_than_start (Some (Start, tick)) never = absurd (never tick refl)

-- where no row finds that a test failed, it isn't
other_first : (rows : List Row) → All (λ row. row.found.start ≡ false) rows → is_watch Start (option_map (λ detection. detection.0) (first_detection rows)) ≡ false
unfolding is_found
other_first rows none = other_than_start (first_detection rows) (first_detection-never rows Start none)

run-other_first : (x : ℕ) → is_first Start (drawn_facts (run_drawn (drawn_run x))) ≡ false
unfolding is_first drawn_facts facts_in record_facts facts_of
run-other_first x = other_first (record_rows gasoline (run_drawn (drawn_run x)).run) (finds_no_start gasoline (run_drawn (drawn_run x)).run (drive-no_reset x))

pub drawn_never_start : (n x : ℕ) → NeverStart (map drawn_facts (drawn_runs n x))
unfolding drawn_runs
drawn_never_start zero x = All-nil (λ facts. is_first Start facts ≡ false)
drawn_never_start (suc n) x = All-cons (λ facts. is_first Start facts ≡ false) (drawn_facts (run_drawn (drawn_run x))) (map drawn_facts (drawn_runs n (state_after x)))
    (run-other_first x) (drawn_never_start n (state_after x))
