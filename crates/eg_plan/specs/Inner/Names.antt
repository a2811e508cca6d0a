-- The names of the runs that were read so far.
use Rattle.std.specs.Prelude.{◌≡◌, ℕ, List, bytes_eq}
use Rattle.std.specs.HashSet.{HashSet, contains}
use denote.Ref.{Bor}
use Rattle.eg_plan.specs.declared.run.RunPlan.{RunPlan}
use Rattle.eg_plan.specs.Runs.{has_name}

-- the set has the names of these runs, and no other
abbrev pub AreNamesOf : {S : Type 0} → List RunPlan → HashSet (Bor (List ℕ)) S → Type 0
AreNamesOf runs names =
    (name : Bor (List ℕ)) → contains (λ x y. bytes_eq x.now y.now) names name ≡ has_name name.now runs
