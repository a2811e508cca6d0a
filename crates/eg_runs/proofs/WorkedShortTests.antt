-- Short runs with a start-up test, computed from the definitions.
use Rattle.std.proofs.Common.{◌≡◌, true, false, ◌∷◌, ◌++◌, None, refl}
use Rattle.std.specs.Prelude.{replicate}
use Rattle.eg_fault.specs.declared.class.Class.TheVariants.{Path1Closed}
use Rattle.eg_model.specs.Examples.{idle, at_rest, resetting, fault_from, tested_run, stages_of}
use Rattle.eg_model.proofs.WholeModel.{whole_model}

pub test_passed : stages_of (tested_run idle None (resetting ∷ replicate 13 at_rest)) ≡ replicate 11 false ++ replicate 3 true
unfolding whole_model
test_passed = refl

pub test_failed : stages_of (tested_run idle (fault_from 0 Path1Closed) (resetting ∷ replicate 13 at_rest)) ≡ replicate 14 false
unfolding whole_model
test_failed = refl
