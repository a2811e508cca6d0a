-- Drives that the test says to be equal.
use Rattle.std.proofs.Common.{◌≡◌, refl, ap, true, List}
use Rattle.std.specs.Bool.{Decides}
use Rattle.std.specs.Cmp.{unsigned_Decides, booleans_Decides}
use Rattle.std.specs.Cmp.Lexicographic.{pointwise}
use Rattle.std.proofs.lemmas.Slice.Eq.{slice_eq-Decides}
use Rattle.std.proofs.lemmas.Bool.Decides.{Decides-and, Decides-like}
use Rattle.eg_num.specs.Drive.{DriveRow, is_same_row}

same_row-Decides : (a b : DriveRow) → Decides (is_same_row a b) (a ≡ b)
same_row-Decides a b = Decides-like (is_same_row a b)
    (λ (p, (s, (r, (e, k)))) i. record { pedal = p i; speed = s i; raise = r i; reset = e i; brake = k i })
    (λ h. (
      ap (λ (r : DriveRow). r.pedal) h,
      (
        ap (λ (r : DriveRow). r.speed) h,
        (ap (λ (r : DriveRow). r.raise) h, (ap (λ (r : DriveRow). r.reset) h, ap (λ (r : DriveRow). r.brake) h)),
      ),
    ))
    (Decides-and _ _ (unsigned_Decides a.pedal b.pedal) (Decides-and _ _ (unsigned_Decides a.speed b.speed)
    (Decides-and _ _ (unsigned_Decides a.raise b.raise)
    (Decides-and _ _ (booleans_Decides a.reset b.reset) (booleans_Decides a.brake b.brake)))))

pub drives-Decides : (a b : List DriveRow) → Decides (pointwise is_same_row a b) (a ≡ b)
drives-Decides a b = slice_eq-Decides same_row-Decides a b (pointwise is_same_row a b) refl

pub same_rows : (a b : List DriveRow) → pointwise is_same_row a b ≡ true → a ≡ b
same_rows a b h = (drives-Decides a b).0 h
