-- Axes that rise, and those that don't.
use Rattle.std.proofs.Common.{◌≡◌, ℕ, ◌≤◌, Bool, true, false, length, List, [], Option, Some, None, unwrap_or, refl}
use Rattle.eg_num.specs.Interpolation.{IsAxis}
use Rattle.eg_cal.specs.declared.key.CalKey.{CalKey}
use Rattle.eg_cal.specs.declared.key.CalFault.TheVariants as fault
use Rattle.eg_toml.specs.Arrays.{is_rising}
use Rattle.eg_toml.proofs.RisingLemmas.{rising-true, true-rising}
use Rattle.eg_cal.specs.Checks.{axis_fault}

-- points that are an axis have no fault
pub axis-accepted : (key : CalKey) (o : Option (List ℕ)) (points axis : List ℕ) → Some points ≡ o → IsAxis points → axis ≡ points → (axis_fault key o ≡ None) × (axis ≡ unwrap_or o [])
axis-accepted key o points axis e is same = rw (← e) (rw (rising-true points is.2) (refl, same))

pub not-true : (b : Bool) → (b ≡ true → ⊥) → b ≡ false
not-true true h = absurd (h refl)
not-true false h = refl

-- 2 to 16 points that are no axis don't rise
pub axis-refused : (key : CalKey) (o : Option (List ℕ)) (found points : List ℕ) → Some found ≡ o → points ≡ found → 2 ≤ length found → length found ≤ 16 → (IsAxis points → ⊥) → axis_fault key o ≡ Some (fault.Axis key)
axis-refused key o found points e same least most fails = rw (← e) (rw (not-true (is_rising found) (λ rises. fails (rw same (least, most, true-rising found rises)))))
