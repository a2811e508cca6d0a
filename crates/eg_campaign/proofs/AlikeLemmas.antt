-- Inputs of one group: what the test says, and that without their faults their runs are one.
use Rattle.std.proofs.Common.{◌≡◌, refl, ℕ, true, List}
use Rattle.std.specs.Prelude.{nat_eq}
use Rattle.std.specs.Bool.{Decides}
use Rattle.std.specs.Cmp.{unsigned_Decides}
use Rattle.std.specs.Cmp.Lexicographic.{pointwise}
use Rattle.std.proofs.lemmas.Slice.Eq.{slice_eq-Decides}
use Rattle.std.proofs.lemmas.Bool.Decides.{Decides-and, Decides-like}
use Rattle.eg_plan.proofs.DriveLemmas.{drives-Decides}
use Rattle.eg_values.specs.Calibration.{CalibrationParts}
use Rattle.eg_plant.specs.EngineKinds.{same_number-Decides}
use Rattle.eg_plan.specs.declared.run_input.RunInput.{RunInput}
use Rattle.eg_campaign.specs.Plays.{run_with}
use Rattle.eg_campaign.specs.Groups.{is_alike, AreAlike, faultless}

-- ---- what the test says ----

numbers-Decides : (a b : List ℕ) → Decides (pointwise nat_eq a b) (a ≡ b)
numbers-Decides a b = slice_eq-Decides unsigned_Decides a b (pointwise nat_eq a b) refl

plans-Decides : (a b : List (List ℕ)) → Decides (pointwise (pointwise nat_eq) a b) (a ≡ b)
plans-Decides a b = slice_eq-Decides numbers-Decides a b (pointwise (pointwise nat_eq) a b) refl

-- it decides four equations
pub is_alike-Decides : (x y : RunInput) → Decides (is_alike x y) (AreAlike x y)
unfolding is_alike
is_alike-Decides x y = Decides-like _ (λ (((e, i), p), d). record { engine = e; image = i; plan = p; drive = d })
    (λ h. (((h.engine, h.image), h.plan), h.drive))
    (Decides-and _ _ (Decides-and _ _ (Decides-and _ _ (same_number-Decides x.plan.engine y.plan.engine)
    (numbers-Decides x.image y.image)) (plans-Decides x.plan.slices y.plan.slices)) (drives-Decides x.drive y.drive))

pub alike : (x y : RunInput) → is_alike x y ≡ true → AreAlike x y
alike x y h = (is_alike-Decides x y).0 h

-- ---- the run without a fault ----

-- of one group there is one run without a fault
pub faultless-same : (cal : CalibrationParts) (x y : RunInput) → AreAlike x y → run_with cal (faultless x) ≡ run_with cal (faultless y)
faultless-same cal x y h = let a = h.engine in let b = h.image in let c = h.plan in let d = h.drive in cc
