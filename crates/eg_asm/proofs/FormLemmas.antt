-- The table of forms.
use Rattle.std.proofs.Common.{◌≡◌, ◌∙◌, ap, refl, ℕ, ◌<◌, ◌≤◌, List, [], ◌∷◌, length, drop, get_or, Bool, true, map, Option, Some, None, option_map, arith}
use Rattle.std.specs.Prelude.{find, nat_le}
use Rattle.std.specs.List.{list_all}
use Rattle.std.specs.Str.{bytes_eq}
use Rattle.std.proofs.lemmas.Bool.Decides.{nat_tests}
use Rattle.std.proofs.lemmas.List.{drop_all, drop_more}
use Rattle.std.proofs.lemmas.Slice.Eq.{bytes_eq-Decides}
use Rattle.std.proofs.lemmas.Option.{same_Some}
use Rattle.eg_asm.specs.Forms.{Form, forms, form_named}

-- the first image that passes a test is the image of the first element whose image passes it
pub find-map : {X Y : Type 0} (f : X → Y) (p : Y → Bool) (xs : List X) → find p (map f xs) ≡ option_map f (find (λ x. p (f x)) xs)
find-map f p [] = refl
find-map f p (x ∷ xs) = grind (arith, find-map f p xs)

-- two functions of a value, one after the other, are one function of it
pub option_map-option_map : {X Y Z : Type 0} (f : X → Y) (g : Y → Z) (o : Option X) → option_map (λ x. g (f x)) o ≡ option_map g (option_map f o)
option_map-option_map f g None = refl
option_map-option_map f g (Some x) = refl

-- the value behind an image
pub option_map_some : {X Y : Type 0} (f : X → Y) (o : Option X) (y : Y) → option_map f o ≡ Some y → (x : X) × (o ≡ Some x) × (f x ≡ y)
option_map_some f None y is = absurd cc
option_map_some f (Some x) y is = (x, refl, same_Some (f x) y is)

-- where each value is absurd, there is none
pub none_if : {X : Type 0} (o : Option X) → ((x : X) → o ≡ Some x → ⊥) → o ≡ None
none_if None h = refl
none_if (Some x) h = absurd (h x refl)

-- ---- forms that are found by their names ----

-- the first that passes does pass
pub find-passes : {X : Type 0} (p : X → Bool) (xs : List X) (x : X) → find p xs ≡ Some x → p x ≡ true
find-passes p [] x is = absurd cc
find-passes p (y ∷ ys) x is = grind (arith, find-passes p ys x)

-- the one that is found passes a test that all pass
pub find-all : {X : Type 0} (p test : X → Bool) (xs : List X) (x : X) → list_all test xs ≡ true → find p xs ≡ Some x → test x ≡ true
find-all p test [] x all is = absurd cc
find-all p test (y ∷ ys) x all is = grind (arith, find-all p test ys x)

-- a form that is found has the name
pub form_named-mnemonic : (mnemonic : List ℕ) (f : Form) → form_named mnemonic ≡ Some f → f.mnemonic ≡ mnemonic
unfolding form_named
form_named-mnemonic mnemonic f is = (bytes_eq-Decides f.mnemonic mnemonic).0 (find-passes (λ f. bytes_eq f.mnemonic mnemonic) forms f is)

-- and is found by its own name
pub form_named-same : (mnemonic : List ℕ) (f : Form) → form_named mnemonic ≡ Some f → form_named f.mnemonic ≡ Some f
form_named-same mnemonic f is = ap form_named (form_named-mnemonic mnemonic f is) ∙ is

-- a test that all forms pass
abbrev pub passes : (Form → Bool) → Type 0
passes test = (mnemonic : List ℕ) (f : Form) → form_named mnemonic ≡ Some f → test f ≡ true

pub each_form : (test : Form → Bool) → list_all test forms ≡ true → passes test
unfolding form_named
each_form test all mnemonic f is = find-all (λ f. bytes_eq f.mnemonic mnemonic) test forms f all is

-- a form has at most three operands
few : list_all (λ f. nat_le (length f.operands) 3) forms ≡ true
unfolding forms
few = refl

pub form_named-few : (mnemonic : List ℕ) (f : Form) → form_named mnemonic ≡ Some f → length f.operands ≤ 3
form_named-few mnemonic f is = let small = each_form (λ f. nat_le (length f.operands) 3) few mnemonic f is in grind (arith, nat_tests)

-- ---- forms that are found one after the other ----

-- the first that passes stands here
pub find-here : {X Y : Type 0} (f : X → Y) (p : Y → Bool) (xs : List X) (i : ℕ) (d : X) → i < length xs → p (f (get_or xs i d)) ≡ true → find p (map f (drop i xs)) ≡ Some (f (get_or xs i d))
find-here f p xs i d room here = rw (drop_more xs i d room, here) refl

-- none that passes is left
pub find-nowhere : {X Y : Type 0} (f : X → Y) (p : Y → Bool) (xs : List X) (i : ℕ) → length xs ≤ i → find p (map f (drop i xs)) ≡ None
find-nowhere f p xs i end = rw (drop_all i xs end) refl
