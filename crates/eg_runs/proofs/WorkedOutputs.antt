-- Runs by their outputs, computed from the definitions.
use Rattle.std.proofs.Common.{◌≡◌, [], ◌∷◌, map, take, None, refl}
use Rattle.eg_model.specs.Outputs.{without_outputs}
use Rattle.eg_model.specs.Examples.{full, alternating_run, bench_run, rows_in_time}
use Rattle.eg_model.proofs.WholeModel.{whole_model}
use Rattle.eg_runs.specs.Outputs.{full_anew}

pub two_ways : rows_in_time (bench_run full_anew None 20) ≡ rows_in_time (bench_run full None 20)
unfolding whole_model
two_ways = refl

pub first_row : map without_outputs (take 1 (rows_in_time (bench_run full None 2)))
    ≡ map without_outputs (take 1 (rows_in_time alternating_run))
unfolding whole_model without_outputs
first_row = refl

pub plates-full : map (λ row. row.plate) (rows_in_time (bench_run full None 2)) ≡ 0 ∷ 50 ∷ []
unfolding whole_model
plates-full = refl

pub plates-late : map (λ row. row.plate) (rows_in_time alternating_run) ≡ 0 ∷ 0 ∷ []
unfolding whole_model
plates-late = refl
