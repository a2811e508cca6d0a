-- Runs of other images, computed from the definitions.
use Rattle.std.proofs.Common.{◌≡◌, [], ◌∷◌, ◌++◌, map, replicate, take, drop, Some, None, refl}
use Rattle.eg_word.specs.declared.registers.Trap.TheVariants.{Fetch, Store}
use Rattle.eg_model.specs.Examples.{idle, storing, follow_run, looping_run, bench_run, moments_in_time, rows_in_time, report_on, reported}
use Rattle.eg_model.proofs.WholeModel.{whole_model}

-- ---- traps ----

pub store_is_refused : report_on (bench_run storing None 30)
    ≡ reported None None (Some (Store, 0)) None
unfolding whole_model
store_is_refused = refl

pub store_changes_nothing : rows_in_time (bench_run storing None 30) ≡ rows_in_time (bench_run idle None 30)
unfolding whole_model
store_changes_nothing = refl

pub runs_off_the_end : report_on (bench_run [] None 30)
    ≡ reported None None (Some (Fetch, 1)) None
unfolding whole_model
runs_off_the_end = refl

-- ---- a jump to itself ----

pub loops : report_on looping_run ≡ reported None None None None
unfolding whole_model
loops = refl

-- ---- the pedal is let go ----

pub followed : report_on follow_run ≡ reported None None None None
unfolding whole_model
followed = refl

pub followed-excess : map (λ m. m.signals.excess) (moments_in_time follow_run)
    ≡ replicate 25 0 ++ 1 ∷ 1 ∷ replicate 13 0
unfolding whole_model
followed-excess = refl

pub followed-charge : take 19 (drop 10 (map (λ m. m.entry.shown.load_1) (moments_in_time follow_run)))
    ≡ replicate 17 170 ++ 130 ∷ 90 ∷ []
unfolding whole_model
followed-charge = refl
