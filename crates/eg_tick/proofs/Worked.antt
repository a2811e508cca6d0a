-- What the rows of a run weigh, computed from the definition.
use Rattle.std.proofs.Common.{◌≡◌, [], ◌∷◌, map, refl}
use Rattle.eg_model.specs.Examples.{probe_row}
use Rattle.eg_tick.specs.Weights.{weight_of}

-- the four rows of the probe
weights : map weight_of (probe_row 0 0 40 100 100 ∷ probe_row 1 50 40 100 0 ∷ probe_row 2 0 80 200 100 ∷ probe_row 3 50 40 100 65436 ∷ [])
    ≡ 440 ∷ 341 ∷ 582 ∷ 65779 ∷ []
unfolding weight_of
weights = refl
