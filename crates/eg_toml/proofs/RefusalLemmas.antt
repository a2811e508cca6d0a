-- Where there is no refusal, whatever the faults of a kind of file are.
use Rattle.std.proofs.Common.{◌≡◌, Bool, true, false, List, [], ◌∷◌, Option, Some, None, option_map, Ok, if◌then◌else◌, refl}
use Rattle.std.specs.List.{AllByRecursion}
use Rattle.eg_toml.specs.Refusals.{or_else, first_of, unless_true, unless}

-- no fault of two is no fault of either
pub or-none : {F : Type 0} (a b : Option F) → or_else a b ≡ None → (a ≡ None) × (b ≡ None)
or-none None b e = (refl, e)
or-none (Some f) b e = absurd (cc)

pub none-or : {F : Type 0} (a b : Option F) → a ≡ None → b ≡ None → or_else a b ≡ None
none-or a b e f = rw (e, f) refl

-- no fault of several is no fault of each
pub first_of-none : {F : Type 0} (os : List (Option F)) → first_of os ≡ None → AllByRecursion (λ o. o ≡ None) os
first_of-none [] e = tt
first_of-none (o ∷ os) e = let (here, more) = or-none o (first_of os) e in (here, first_of-none os more)

pub map-none : {A F : Type 0} (f : A → F) (o : Option A) → option_map f o ≡ None → o ≡ None
map-none f None e = refl
map-none f (Some x) e = absurd (cc)

-- a test with no fault holds
pub if-none : {F : Type 0} (b : Bool) (f : F) → (if b then None else Some f) ≡ None → b ≡ true
if-none true f e = refl
if-none false f e = absurd (cc)

pub unless_true-none : {F : Type 0} (f : F) (b : Bool) → unless_true f b ≡ None → b ≡ true
unless_true-none f true e = refl
unless_true-none f false e = absurd (cc)

-- a value is given where there is no fault
pub unless-ok : {F X : Type 0} (f : Option F) (x y : X) → unless f x ≡ Ok y → (f ≡ None) × (y ≡ x)
unless-ok None x y e = (refl, cc)
unless-ok (Some f) x y e = absurd (cc)
