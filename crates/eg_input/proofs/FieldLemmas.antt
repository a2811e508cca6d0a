-- What the readers of fields and records give.
use Rattle.std.proofs.Common.{◌≡◌, ◌∙◌, sym, ap, refl, ℕ, zero, suc, ◌+◌, add-one, ◌≤◌, ◌<◌, List, [], ◌∷◌, length, drop, map, get_or, Bool, true, false, arith, Option, Some, None, Bor, inl, inr}
use Rattle.std.specs.Prelude.{not, ◌&&◌, option_map, SomeIff}
use Rattle.std.specs.Bool.{Decides}
use Rattle.std.specs.Str.{bytes_eq}
use Rattle.std.specs.Option.{option_zip, option_eq}
use Rattle.std.proofs.lemmas.Bool.Decides.{nat_tests}
use Rattle.std.proofs.lemmas.Slice.Eq.{slice_eq-Decides, bytes_eq-Decides}
use Rattle.std.proofs.lemmas.List.{drop_all, length-map}
use Rattle.csv.specs.Records.{field_at}
use Rattle.std.proofs.lemmas.Bool.{cases_Bool}
use Rattle.std.proofs.lemmas.Option.{option_and_then_some}
use Rattle.eg_num.specs.Drive.{DriveRow, IsDrive}
use Rattle.eg_input.specs.Records.{Record, is_same_record}
use Rattle.eg_input.specs.Fields.{number_of, number_at, truth_at}
use Rattle.eg_input.specs.DriveTrace.{drive_from, drive_at, drive_of}
use Rattle.eg_input.specs.CheckFile.{CheckRow, IsCheckRow, check_row_of}

-- the test of two records decides whether they are equal
pub is_same_record-Decides : (xs ys : Record) → Decides (is_same_record xs ys) (xs ≡ ys)
unfolding is_same_record
is_same_record-Decides xs ys = slice_eq-Decides bytes_eq-Decides xs ys (is_same_record xs ys) refl

-- records of different lengths are not the same
pub is_same_record-lengths : (fields : Record) (names : List (Bor (List ℕ))) → (length fields ≡ length names → ⊥)
    → false ≡ is_same_record fields (map (λ name. name.now) names)
is_same_record-lengths fields names differ = elim (cases_Bool (is_same_record fields (map (λ name. name.now) names))) [
  | inl is ↦ absurd (let same : fields ≡ map (λ name. name.now) names = (is_same_record-Decides fields (map (λ name. name.now) names)).0 is in
      differ (ap length same ∙ length-map names (λ name. name.now)))
  | inr is ↦ sym is
]

-- the test of a field that was looked up
abbrev pub is_found : Option (Bor (List ℕ)) → Bor (List ℕ) → Bool
is_found got name = option_eq (λ x y. bytes_eq x.now y.now) got (Some name)

-- the test of the fields from a place on
abbrev is_same_from : ℕ → Record → List (Bor (List ℕ)) → Bool
is_same_from i fields names = is_same_record (drop i fields) (map (λ name. name.now) (drop i names))

-- the fields from a place on are the same exactly if the field at the place is, and those after it are
is_same_from-step : (i : ℕ) (fields : Record) (names : List (Bor (List ℕ))) (d : Bor (List ℕ)) (got : Option (Bor (List ℕ))) → length fields ≡ length names
    → i < length names → option_map (λ s. s.now) got ≡ field_at fields i → is_same_from i fields names ≡ (is_found got (get_or names i d) && is_same_from (suc i) fields names)
unfolding is_same_record field_at
is_same_from-step i fields [] d got long below at = absurd (omega arith)
is_same_from-step i [] (n ∷ ns) d got long below at = absurd (omega arith)
is_same_from-step zero (f ∷ fs) (n ∷ ns) d None long below at = absurd cc
is_same_from-step zero (f ∷ fs) (n ∷ ns) d (Some s) long below at = let same : s.now ≡ f = cc in rw same refl
is_same_from-step (suc i) (f ∷ fs) (n ∷ ns) d got long below at = is_same_from-step i fs ns d got (omega arith) (omega arith) at

-- where the field at a place is another, the records are not the same from there on
pub is_same_record-other : (i : ℕ) (fields : Record) (names : List (Bor (List ℕ))) (d : Bor (List ℕ)) (got : Option (Bor (List ℕ))) → length fields ≡ length names
    → i < length names → option_map (λ s. s.now) got ≡ field_at fields i → not (is_found got (get_or names i d)) ≡ true
    → is_same_record (drop i fields) (map (λ name. name.now) (drop i names)) ≡ false
is_same_record-other i fields names d got long below at other = grind (arith, is_same_from-step i fields names d got long below at, other)

-- where the field at a place is the same, the records are the same from there on exactly if they are behind it
pub is_same_record-more : (i : ℕ) (fields : Record) (names : List (Bor (List ℕ))) (d : Bor (List ℕ)) (got : Option (Bor (List ℕ))) → length fields ≡ length names
    → i < length names → option_map (λ s. s.now) got ≡ field_at fields i → not (is_found got (get_or names i d)) ≡ false
    → is_same_record (drop (i + 1) fields) (map (λ name. name.now) (drop (i + 1) names)) ≡ is_same_record (drop i fields) (map (λ name. name.now) (drop i names))
is_same_record-more i fields names d got long below at same = rw add-one (grind (arith, is_same_from-step i fields names d got long below at, same))

-- past the last field nothing is left to test
pub is_same_record-end : (i : ℕ) (fields : Record) (names : List (Bor (List ℕ))) → length fields ≡ length names → length names ≤ i
    → is_same_record (drop i fields) (map (λ name. name.now) (drop i names)) ≡ true
unfolding is_same_record
is_same_record-end i fields names long past =
    let left : drop i fields ≡ [] = drop_all i fields (omega arith) in
    let right : drop i names ≡ [] = drop_all i names past in
    rw (left, right) refl

-- a number that is read is at most `most`
pub number_of-le : (most : ℕ) (field : List ℕ) (n : ℕ) → number_of most field ≡ Some n → n ≤ most
unfolding number_of
number_of-le most field n e = grind (arith, nat_tests)

number_at-le : (fields : Record) (i most n : ℕ) → number_at fields i most ≡ Some n → n ≤ most
unfolding number_at
number_at-le fields i most n e = option_and_then_some (number_of most) (field_at fields i) n e (λ field at read. number_of-le most field n read)

-- the drive row that is made of what was read
pub drive_at-new : (fields : Record) (pedal speed raise : ℕ) (reset brake : Bool) (given other : Option Bool) (made : Option DriveRow) → number_at fields 0 1000 ≡ Some pedal
    → number_at fields 1 8000 ≡ Some speed → number_at fields 2 10000 ≡ Some raise → given ≡ Some reset → other ≡ Some brake
    → (let row : DriveRow = record { pedal = pedal; speed = speed; raise = raise; reset = reset; brake = brake } in SomeIff made (IsDrive row) row) → made ≡ drive_at fields given other
unfolding drive_at drive_from
drive_at-new fields pedal speed raise reset brake given other None p s r g o never =
    absurd (never (number_at-le fields 0 1000 pedal p, number_at-le fields 1 8000 speed s, number_at-le fields 2 10000 raise r))
drive_at-new fields pedal speed raise reset brake given other (Some row) p s r g o is = rw (p, s, r, g, o, is.1) refl

-- a drive row that is read is within its limits
drive_at-limits : (fields : Record) (reset brake : Option Bool) (row : DriveRow) → drive_at fields reset brake ≡ Some row → IsDrive row
unfolding drive_at drive_from
drive_at-limits fields reset brake row e = at (number_at fields 0 1000) (number_at fields 1 8000) (number_at fields 2 10000) reset brake refl refl refl e
  where
    at : (p s r : Option ℕ) (o b : Option Bool) → number_at fields 0 1000 ≡ p → number_at fields 1 8000 ≡ s → number_at fields 2 10000 ≡ r → drive_from p s r o b ≡ Some row
        → IsDrive row
    at (Some pedal) (Some speed) (Some raise) (Some reset) (Some brake) p s r e =
        let made : ◌≡◌ {A = DriveRow} (record { pedal = pedal; speed = speed; raise = raise; reset = reset; brake = brake }) row = cc in
        rw (← made) (number_at-le fields 0 1000 pedal p, number_at-le fields 1 8000 speed s, number_at-le fields 2 10000 raise r)
    at None s r o b p' s' r' e = absurd cc
    at (Some pedal) None r o b p' s' r' e = absurd cc
    at (Some pedal) (Some speed) None o b p' s' r' e = absurd cc
    at (Some pedal) (Some speed) (Some raise) None b p' s' r' e = absurd cc
    at (Some pedal) (Some speed) (Some raise) (Some reset) None p' s' r' e = absurd cc

pub drive_of-limits : (width : ℕ) (fields : Record) (row : DriveRow) → drive_of width fields ≡ Some row → IsDrive row
unfolding drive_of
drive_of-limits width fields row e = drive_at-limits fields (truth_at fields 3) (truth_at fields 4) row (grind arith)

pub check_row_of-limits : (fields : Record) (row : CheckRow) → check_row_of fields ≡ Some row → IsCheckRow row
unfolding check_row_of
check_row_of-limits fields row e = at (drive_at fields (Some false) (Some false)) (number_at fields 3 65535) refl refl (grind arith)
  where
    at : (d : Option DriveRow) (t : Option ℕ) → drive_at fields (Some false) (Some false) ≡ d → number_at fields 3 65535 ≡ t → option_zip d t ≡ Some row → IsCheckRow row
    at (Some drive) (Some torque) d t e =
        let made : (drive, torque) ≡ row = cc in
        rw (← made) (drive_at-limits fields (Some false) (Some false) drive d, number_at-le fields 3 65535 torque t)
    at (Some drive) None d t e = absurd cc
    at None t d t' e = absurd cc
