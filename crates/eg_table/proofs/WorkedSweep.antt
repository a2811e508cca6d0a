-- Grids, a table and its text, computed from the definitions.
use Rattle.std.proofs.Common.{◌≡◌, refl, ℕ, true, false, List, [], ◌∷◌, ◌++◌, Some, None, codes, length, take, map}
use Rattle.std.specs.Prelude.{Option, pos, replicate}
use Rattle.std.specs.Fmt.{digits}
use Rattle.eg_fault.specs.declared.class.Class.{Class}
use Rattle.eg_fault.specs.declared.class.Class.TheVariants as classes
use Rattle.eg_fault.specs.declared.class.Fault.{Fault}
use Rattle.eg_fault.specs.Names.{name_of, class_text, class_index, swept}
use Rattle.eg_record.specs.declared.facts.Facts.{Facts}
use Rattle.eg_record.specs.declared.watch.Watch.{Watch}
use Rattle.eg_record.specs.declared.watch.Watch.TheVariants.{Pedal, Load, Torque}
use Rattle.eg_record.specs.Detection.{is_watch, rank}
use Rattle.eg_record.specs.Facts.{off_from, reaction_in}
use Rattle.eg_record.specs.Texts.{watch_name}
use Rattle.eg_table.specs.Grid.{swept_classes, onset_count, onsets, faults_of, swept_faults, is_too_large}
use Rattle.eg_table.specs.Sweep.{facts_under, is_found_first, greatest_number, row_of, class_rows, table_of, greatest_listed}
use Rattle.eg_table.specs.SweepTexts.{reaction_text, watch_text, watches_text, sweep_line, class_line, sweep_end, sweep_lines, sweep_text_of}

-- every definition that these need
unfoldable sweeping : ℕ
unfolding swept swept_classes onset_count onsets faults_of swept_faults is_too_large class_index facts_under is_found_first greatest_number row_of class_rows table_of greatest_listed
    name_of class_text reaction_text watch_text watches_text sweep_line class_line sweep_end sweep_lines sweep_text_of is_watch rank off_from reaction_in watch_name digits
sweeping = 0

-- ---- onsets ----

by_twenty : onsets 60 20 ≡ 0 ∷ 20 ∷ 40 ∷ []
unfolding sweeping
by_twenty = refl

-- the last onset may be the last tick, and is never the count of ticks
to_the_end : (onsets 61 20 ≡ 0 ∷ 20 ∷ 40 ∷ 60 ∷ []) × (onsets 41 20 ≡ 0 ∷ 20 ∷ 40 ∷ []) × (onsets 40 20 ≡ 0 ∷ 20 ∷ [])
unfolding sweeping
to_the_end = (refl, refl, refl)

every_tick : (onsets 5 1 ≡ 0 ∷ 1 ∷ 2 ∷ 3 ∷ 4 ∷ []) × (length (onsets 100 1) ≡ 100)
unfolding sweeping
every_tick = (refl, refl)

-- a step that is longer than the run, or as long
only_the_first : (onsets 60 61 ≡ 0 ∷ []) × (onsets 60 60 ≡ 0 ∷ []) × (onsets 1 20000 ≡ 0 ∷ [])
unfolding sweeping
only_the_first = (refl, refl, refl)

-- ---- the faults ----

abbrev fault : ℕ → Class → Fault
fault onset class = record { onset = onset; class = class }

first_faults : take 4 (swept_faults 60 30) ≡ fault 0 (classes.Script 4 (0 ∷ [])) ∷ fault 30 (classes.Script 4 (0 ∷ [])) ∷ fault 0 (classes.Offset 0 (pos 200)) ∷ fault 30 (classes.Offset 0 (pos 200)) ∷ []
unfolding sweeping
first_faults = refl

one_of_each : map (λ (f : Fault). class_index (name_of f.class)) (swept_faults 60 60) ≡ 0 ∷ 1 ∷ 2 ∷ 3 ∷ 4 ∷ 5 ∷ 6 ∷ 7 ∷ 8 ∷ 9 ∷ 10 ∷ 11 ∷ 12 ∷ 13 ∷ []
unfolding sweeping
one_of_each = refl

-- ---- how large a grid may be ----

-- 71 onsets are 994 runs, and 72 are 1,008
runs_at_most : (is_too_large 71 1 ≡ false) × (is_too_large 72 1 ≡ true) × (is_too_large 100 1 ≡ true)
unfolding sweeping
runs_at_most = (refl, refl, refl)

-- 14 runs at 4 onsets of 17,857 ticks are 999,992 ticks, the most that a grid can have; the fewest that are too many are 1,000,020, at 5 onsets of 14,286
ticks_at_most : (is_too_large 17857 5000 ≡ false) × (is_too_large 17858 5000 ≡ true) × (is_too_large 14285 3000 ≡ false) × (is_too_large 14286 3000 ≡ true)
unfolding sweeping
ticks_at_most = (refl, refl, refl, refl)

-- the longest run, with three onsets and with four
longest_run : (is_too_large 20000 7000 ≡ false) × (is_too_large 20000 6000 ≡ true)
unfolding sweeping
longest_run = (refl, refl)

-- ---- rows ----

-- the facts of a run of 60 ticks
abbrev told : (first : Option (Watch × ℕ)) → (confirmed last_on : Option ℕ) → Facts
told first confirmed last_on = record {
  first = first;
  cut = None;
  off = None;
  last_on = last_on;
  confirmed = confirmed;
  stretch = 0;
  peak = 0;
  ticks = 60;
}

greatest_numbers : (greatest_number [] ≡ None) × (greatest_number (0 ∷ []) ≡ Some 0) × (greatest_number (3 ∷ 7 ∷ 5 ∷ []) ≡ Some 7) × (greatest_number (7 ∷ 5 ∷ []) ≡ Some 7)
unfolding sweeping
greatest_numbers = (refl, refl, refl, refl)

no_runs : row_of [] ≡ record { runs = 0; none = 0; by_watch = replicate 8 0; reaction = None }
unfolding sweeping
no_runs = refl

-- Of four runs one finds nothing, one finds the pedal first and two the torque. An excess is confirmed in three of them: in one of these the stages are off for good before, in one 3 ticks later, and in one they are on at the end.
four_runs : row_of (told None None (Some 59) ∷ told (Some (Pedal, 3)) (Some 12) (Some 3) ∷ told (Some (Torque, 9)) (Some 9) (Some 11) ∷ told (Some (Torque, 9)) (Some 9) (Some 59) ∷ [])
    ≡ record { runs = 4; none = 1; by_watch = 0 ∷ 1 ∷ 0 ∷ 0 ∷ 0 ∷ 2 ∷ 0 ∷ 0 ∷ []; reaction = Some 3 }
unfolding sweeping
four_runs = refl

-- a reaction of 0 is one, and a run that has none doesn't count as one of 0
reaction_of_none : ((row_of (told None (Some 12) (Some 3) ∷ [])).reaction ≡ Some 0) × ((row_of (told None (Some 12) (Some 59) ∷ [])).reaction ≡ None)
unfolding sweeping
reaction_of_none = (refl, refl)

-- ---- a table ----

-- Two runs under a script with other numbers than a sweep's, one where path 1 is closed, and a lapse. The greatest reaction is the lapse's, and doesn't count in the last line.
abbrev faults : List Fault
faults =
    fault 0 (classes.Script 0 (1 ∷ 2 ∷ [])) ∷ fault 5 classes.Path1Closed ∷ fault 7 (classes.Script 4 (0 ∷ [])) ∷ fault 0 (classes.Lapse (3 ∷ []) 0) ∷ []

abbrev facts : List Facts
facts =
    told (Some (Load, 3)) None (Some 3) ∷ told (Some (Torque, 9)) (Some 9) (Some 39) ∷ told (Some (Torque, 9)) (Some 9) (Some 9) ∷ told None (Some 9) (Some 49) ∷ []

small_table : table_of faults facts
    ≡ record { runs = 2; none = 0; by_watch = 0 ∷ 0 ∷ 0 ∷ 1 ∷ 0 ∷ 1 ∷ 0 ∷ 0 ∷ []; reaction = Some 1 }
    ∷ replicate 9 (record { runs = 0; none = 0; by_watch = replicate 8 0; reaction = None })
    ++ record { runs = 1; none = 0; by_watch = 0 ∷ 0 ∷ 0 ∷ 0 ∷ 0 ∷ 1 ∷ 0 ∷ 0 ∷ []; reaction = Some 31 }
    ∷ replicate 2 (record { runs = 0; none = 0; by_watch = replicate 8 0; reaction = None })
    ++ record { runs = 1; none = 1; by_watch = replicate 8 0; reaction = Some 41 } ∷ []
unfolding sweeping
small_table = refl

small_greatest : greatest_listed (table_of faults facts) ≡ Some 31
unfolding sweeping
small_greatest = refl

-- ---- the text ----

script_line : sweep_line (codes "script", record { runs = 3; none = 0; by_watch = 0 ∷ 0 ∷ 0 ∷ 1 ∷ 0 ∷ 2 ∷ 0 ∷ 0 ∷ []; reaction = Some 1 })
    ≡ codes "script: runs 3; none 0; mirror 0; pedal 0; plate 0; load 1; speed 0; torque 2; answers 0; start 0; reaction 1\n"
unfolding sweeping
script_line = refl

closed_line : sweep_line (codes "path1-closed", record { runs = 3; none = 0; by_watch = 0 ∷ 0 ∷ 0 ∷ 0 ∷ 0 ∷ 3 ∷ 0 ∷ 0 ∷ []; reaction = Some 31 })
    ≡ codes "path1-closed: runs 3; none 0; mirror 0; pedal 0; plate 0; load 0; speed 0; torque 3; answers 0; start 0; reaction 31\n"
unfolding sweeping
closed_line = refl

-- each number is another
numbers_line : sweep_line (codes "lapse", record { runs = 45; none = 1; by_watch = 2 ∷ 3 ∷ 4 ∷ 5 ∷ 6 ∷ 7 ∷ 8 ∷ 9 ∷ []; reaction = None })
    ≡ codes "lapse: runs 45; none 1; mirror 2; pedal 3; plate 4; load 5; speed 6; torque 7; answers 8; start 9; reaction none\n"
unfolding sweeping
numbers_line = refl

last_line : (sweep_end (table_of faults facts) ≡ codes "greatest reaction 31\n") × (sweep_end (table_of [] []) ≡ codes "greatest reaction none\n")
unfolding sweeping
last_line = (refl, refl)

fifteen_lines : length (sweep_lines (table_of faults facts)) ≡ 15
unfolding sweeping
fifteen_lines = refl

-- the whole text of a grid whose runs find nothing
quiet : sweep_text_of (table_of (swept_faults 60 30) (replicate 28 (told None None (Some 59)))) ≡
    codes "script: runs 2; none 2; mirror 0; pedal 0; plate 0; load 0; speed 0; torque 0; answers 0; start 0; reaction none\n"
    ++ codes "offset: runs 2; none 2; mirror 0; pedal 0; plate 0; load 0; speed 0; torque 0; answers 0; start 0; reaction none\n"
    ++ codes "bus: runs 2; none 2; mirror 0; pedal 0; plate 0; load 0; speed 0; torque 0; answers 0; start 0; reaction none\n"
    ++ codes "plate: runs 2; none 2; mirror 0; pedal 0; plate 0; load 0; speed 0; torque 0; answers 0; start 0; reaction none\n"
    ++ codes "skip: runs 2; none 2; mirror 0; pedal 0; plate 0; load 0; speed 0; torque 0; answers 0; start 0; reaction none\n"
    ++ codes "disturb: runs 2; none 2; mirror 0; pedal 0; plate 0; load 0; speed 0; torque 0; answers 0; start 0; reaction none\n"
    ++ codes "flip: runs 2; none 2; mirror 0; pedal 0; plate 0; load 0; speed 0; torque 0; answers 0; start 0; reaction none\n"
    ++ codes "halt: runs 2; none 2; mirror 0; pedal 0; plate 0; load 0; speed 0; torque 0; answers 0; start 0; reaction none\n"
    ++ codes "timing: runs 2; none 2; mirror 0; pedal 0; plate 0; load 0; speed 0; torque 0; answers 0; start 0; reaction none\n"
    ++ codes "wild: runs 2; none 2; mirror 0; pedal 0; plate 0; load 0; speed 0; torque 0; answers 0; start 0; reaction none\n"
    ++ codes "path1-closed: runs 2; none 2; mirror 0; pedal 0; plate 0; load 0; speed 0; torque 0; answers 0; start 0; reaction none\n"
    ++ codes "path2-closed: runs 2; none 2; mirror 0; pedal 0; plate 0; load 0; speed 0; torque 0; answers 0; start 0; reaction none\n"
    ++ codes "path-open: runs 2; none 2; mirror 0; pedal 0; plate 0; load 0; speed 0; torque 0; answers 0; start 0; reaction none\n"
    ++ codes "lapse: runs 2; none 2; mirror 0; pedal 0; plate 0; load 0; speed 0; torque 0; answers 0; start 0; reaction none\n"
    ++ codes "greatest reaction none\n"
unfolding sweeping
quiet = refl
