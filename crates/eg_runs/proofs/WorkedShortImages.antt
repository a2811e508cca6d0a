-- Short runs of some images, computed from the definitions.
use Rattle.std.proofs.Common.{◌≡◌, [], ◌∷◌, ◌++◌, map, Some, None, refl}
use Rattle.std.specs.Prelude.{replicate}
use Rattle.eg_record.specs.declared.watch.Watch.TheVariants.{Torque}
use Rattle.eg_model.specs.Examples.{full, probe_run, probe_row, alternating_run, flipped_probe_run, raise_run, bench_run, moments_in_time, rows_in_time, report_on, reported}
use Rattle.eg_model.proofs.WholeModel.{whole_model}

-- ---- full throttle, without a fault ----

pub full_throttle : report_on (bench_run full None 20)
    ≡ reported (Some (Torque, 9)) (Some 10) None (Some 9)
unfolding whole_model
full_throttle = refl

pub full_throttle-permitted : map (λ m. m.signals.permitted) (moments_in_time (bench_run full None 20)) ≡ replicate 10 200 ++ replicate 10 0
unfolding whole_model
full_throttle-permitted = refl

pub full_throttle-plate : map (λ m. m.entry.shown.position) (moments_in_time (bench_run full None 13))
    ≡ 0 ∷ 50 ∷ 100 ∷ 150 ∷ 200 ∷ 250 ∷ 300 ∷ 350 ∷ 400 ∷ 450 ∷ 400 ∷ 350 ∷ 300 ∷ []
unfolding whole_model
full_throttle-plate = refl

pub full_throttle-charge : map (λ m. m.entry.shown.load_1) (moments_in_time (bench_run full None 13))
    ≡ 40 ∷ 40 ∷ 80 ∷ 120 ∷ 160 ∷ 200 ∷ 240 ∷ 280 ∷ 320 ∷ 360 ∷ 400 ∷ 440 ∷ 431 ∷ []
unfolding whole_model
full_throttle-charge = refl

-- ---- slices lie between the modules ----

pub probed : map (λ m. m.world.throttle) (moments_in_time probe_run) ≡ 100 ∷ 0 ∷ 100 ∷ 65436 ∷ []
unfolding whole_model
probed = refl

pub probed-rows : rows_in_time probe_run ≡
    probe_row 0 0 40 100 100 ∷ probe_row 1 50 40 100 0 ∷ probe_row 2 0 80 200 100 ∷ probe_row 3 50 40 100 65436 ∷ []
unfolding whole_model
probed-rows = refl

-- ---- slice rows in turn, flipped words, and ports ----

pub alternated : map (λ m. m.world.throttle) (moments_in_time alternating_run) ≡ 0 ∷ 1000 ∷ []
unfolding whole_model
alternated = refl

pub flipped_probe : map (λ m. m.world.throttle) (moments_in_time flipped_probe_run) ≡ 0 ∷ 65436 ∷ []
unfolding whole_model
flipped_probe = refl

pub raise_read : map (λ m. m.world.throttle) (moments_in_time raise_run) ≡ 7 ∷ []
unfolding whole_model
raise_read = refl
