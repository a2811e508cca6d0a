-- What is read lies in its range.
use Rattle.std.proofs.Common.{◌≡◌, ℕ, ◌≤◌, option_map, pos, negsuc, ℤ, ◌&&◌, nat_le, if◌then◌else◌, Bool, true, false, List, [], ◌∷◌, ◌++◌, All, Option, Some, None, refl, arith}
use Rattle.std.proofs.lemmas.Bool.{and_parts}
use Rattle.std.proofs.lemmas.Bool.Decides.{nat_tests}
use Rattle.std.proofs.lemmas.List.Elements.{All-nil, All-cons, All-append}
use Rattle.toml.specs.Data.{Data, Items, no_items, item, as_integer}
use Rattle.eg_toml.specs.Values.{natural_in, number_in, ◌>>=◌}
use Rattle.eg_toml.specs.Arrays.{append_read, all_read, one, items_in, array_in, numbers_in, rows_in}

-- where two steps give something, the first gives something of which the second gives it
pub bind-some : {A B : Type 0} (o : Option A) (f : A → Option B) (y : B) → (o >>= f) ≡ Some y → (x : A) × ((o ≡ Some x) × (f x ≡ Some y))
bind-some None f y e = absurd (cc)
bind-some (Some x) f y e = (x, (refl, e))

-- a choice that gives something was made by a test that holds
pub if-some : {A : Type 0} (b : Bool) (x y : A) → (if b then Some x else None) ≡ Some y → (b ≡ true) × (x ≡ y)
if-some true x y e = (refl, cc)
if-some false x y e = absurd (cc)

-- an integer from low to high
pub natural_in-within : (low high : ℕ) (z : ℤ) (n : ℕ) → natural_in low high z ≡ Some n → (low ≤ n) × (n ≤ high)
natural_in-within low high (pos m) n e =
    let (passed, same) = if-some (nat_le low m && nat_le m high) m n e in
    let (least, most) = and_parts (nat_le low m) (nat_le m high) passed in
    (grind (arith, nat_tests), grind (arith, nat_tests))
natural_in-within low high (negsuc m) n e = absurd (cc)

pub number_in-within : (low high : ℕ) (d : Data) (n : ℕ) → number_in low high d ≡ Some n → (low ≤ n) × (n ≤ high)
number_in-within low high d n e =
    let found = bind-some (as_integer d) (natural_in low high) n e in
    natural_in-within low high found.0 n found.1.1

append_read-All : {X : Type 0} (P : X → Type 0) (a b : Option (List X)) (xs : List X)
    → ((ys : List X) → a ≡ Some ys → All P ys) → ((ys : List X) → b ≡ Some ys → All P ys) → append_read a b ≡ Some xs → All P xs
append_read-All P None b xs front back e = absurd (cc)
append_read-All P (Some ys) None xs front back e = absurd (cc)
append_read-All P (Some ys) (Some zs) xs front back e =
    let same : ys ++ zs ≡ xs = cc in
    rw (← same) (All-append P ys zs (front ys refl) (back zs refl))

-- what each item reads as has a property, so all that is read has it
pub all_read-All : {X : Type 0} (P : X → Type 0) (read : Data → Option (List X)) → ((d : Data) (xs : List X) → read d ≡ Some xs → All P xs)
    → (ds : Items) (xs : List X) → all_read read ds ≡ Some xs → All P xs
all_read-All P read each no_items xs e = let same : [] ≡ xs = cc in rw (← same) (All-nil P)
all_read-All P read each (item d ds) xs e = append_read-All P (read d) (all_read read ds) xs (each d) (all_read-All P read each ds) e

pub array_in-All : {X : Type 0} (P : X → Type 0) (least most : ℕ) (read : Data → Option (List X)) → ((d : Data) (xs : List X) → read d ≡ Some xs → All P xs)
    → (d : Data) (xs : List X) → array_in least most read d ≡ Some xs → All P xs
array_in-All P least most read each d xs e =
    let found = bind-some (items_in least most d) (all_read read) xs e in
    all_read-All P read each found.0 xs found.1.1

one-within : (high : ℕ) (o : Option ℕ) (xs : List ℕ) → ((n : ℕ) → o ≡ Some n → n ≤ high) → option_map (λ n. n ∷ []) o ≡ Some xs → All (λ n. n ≤ high) xs
one-within high None xs each e = absurd (cc)
one-within high (Some n) xs each e = let same : n ∷ [] ≡ xs = cc in rw (← same) (All-cons (λ m. m ≤ high) n [] (each n refl) (All-nil (λ m. m ≤ high)))

-- the numbers of an array
pub numbers_in-within : (least most high : ℕ) (d : Data) (xs : List ℕ) → numbers_in least most high d ≡ Some xs → All (λ n. n ≤ high) xs
numbers_in-within least most high d xs e =
    array_in-All (λ n. n ≤ high) least most (one (number_in 0 high)) (λ v ys read. one-within high (number_in 0 high v) ys (λ n is. (number_in-within 0 high v n is).1) read) d xs e

-- the numbers of the rows of an array
pub rows_in-within : (tall wide high : ℕ) (d : Data) (xs : List ℕ) → rows_in tall wide high d ≡ Some xs → All (λ n. n ≤ high) xs
rows_in-within tall wide high d xs e = array_in-All (λ n. n ≤ high) tall tall (numbers_in wide wide high) (numbers_in-within wide wide high) d xs e
