-- What `rows_below` answers for each kind of list of records, and that a list is of one of these kinds.
use Rattle.std.proofs.Common.{◌≡◌, ◌∙◌, ap, refl, subst, ℕ, suc, ◌+◌, ◌-◌, ◌<◌, ◌≤◌, List, [], ◌∷◌, ◌++◌, length, take, drop, append_assoc, sym, Bool, true, false, arith, Option, Some, None, Ok, Err, ◌⊎◌, inl, inr}
use Rattle.std.specs.Prelude.{All, IsSome, is_none, nat_lt, filter_map}
use Rattle.std.specs.List.{AllZip, position_from}
use Rattle.std.proofs.lemmas.Bool.Decides.{nat_tests}
use Rattle.std.proofs.lemmas.List.{take_all, take-append-drop}
use Rattle.std.proofs.lemmas.List.Elements.{All-cons, All-head, All-tail, All-nil, All-weaker}
use Rattle.std.proofs.Math.Seq.{take-append-add, take-nil}
use Rattle.std.proofs.lemmas.Bool.{cases_Bool}
use Rattle.eg_input.specs.Records.{Record, RowRule}
use Rattle.eg_input.specs.Rows.{rows_unless, rows_below}
use Rattle.eg_input.specs.declared.fault.TraceFault.TheVariants as fault

-- where no item passes there is no place
pub position_from-none : {X : Type 0} (passes : X → Bool) (i : ℕ) (xs : List X) → All (λ x. passes x ≡ false) xs → position_from passes i xs ≡ None
position_from-none passes i [] h = refl
position_from-none passes i (x ∷ xs) h = rw (All-head (λ x. passes x ≡ false) x xs h) (position_from-none passes (i + 1) xs (All-tail (λ x. passes x ≡ false) x xs h))

-- the place of an item that passes, behind items that don't
position_from-first : {X : Type 0} (passes : X → Bool) (i : ℕ) (good : List X) (bad : X) (rest : List X) → All (λ x. passes x ≡ false) good
    → passes bad ≡ true
    → position_from passes i (good ++ bad ∷ rest) ≡ Some (length good + i)
position_from-first passes i [] bad rest h here = rw here (ap Some (omega arith))
position_from-first passes i (x ∷ xs) bad rest h here =
    let more = position_from-first passes (i + 1) xs bad rest (All-tail (λ x. passes x ≡ false) x xs h) here in
    let number : length xs + (i + 1) ≡ suc (length xs) + i = omega arith in
    rw (All-head (λ x. passes x ≡ false) x xs h) (more ∙ ap Some number)

-- the first item that passes, and what stands round it
pub record FirstIn {X : Type 0} (passes : X → Bool) (xs : List X) : Type 0 where
  pub good : List X
  pub bad : X
  pub rest : List X
  pub parts : xs ≡ good ++ bad ∷ rest
  pub before : All (λ x. passes x ≡ false) good
  pub here : passes bad ≡ true

-- what stands round it in all, where it is looked for among the first `most`
pub split-first : {X : Type 0} {passes : X → Bool} (most : ℕ) (xs : List X) (f : FirstIn passes (take most xs)) → xs ≡ f.good ++ f.bad ∷ (f.rest ++ drop most xs)
split-first most xs f = sym (take-append-drop most xs) ∙ ap (λ (front : List _). front ++ drop most xs) f.parts ∙ append_assoc f.good (f.bad ∷ f.rest) (drop most xs)

-- no item passes, or there is a first one
pub first_in : {X : Type 0} (passes : X → Bool) (xs : List X) → All (λ x. passes x ≡ false) xs ⊎ FirstIn passes xs
first_in passes [] = inl (All-nil _)
first_in passes (x ∷ xs) = elim (cases_Bool (passes x)) [
  | inl is ↦ inr (record { good = []; bad = x; rest = xs; parts = refl; before = All-nil _; here = is })
  | inr is ↦ elim (first_in passes xs) [
    | inl clean ↦ inl (All-cons (λ x. passes x ≡ false) x xs is clean)
    | inr f ↦ inr (record {
      good = x ∷ f.good;
      bad = f.bad;
      rest = f.rest;
      parts = ap (λ (ys : List _). x ∷ ys) f.parts;
      before = All-cons (λ x. passes x ≡ false) x f.good is f.before;
      here = f.here;
    })
  ]
]

-- the two ways to say that something is there
not_none : {X : Type 0} (o : Option X) → IsSome o → is_none o ≡ false
not_none None h = absurd cc
not_none (Some x) h = refl

is_there : {X : Type 0} (o : Option X) → is_none o ≡ false → IsSome o
is_there None h = absurd cc
is_there (Some x) h = refl

pub is_missing : {X : Type 0} (o : Option X) → is_none o ≡ true → o ≡ None
is_missing None h = refl
is_missing (Some x) h = absurd cc

pub clean-from_writes : {A X : Type 0} (row_of : A → Option X) (rs : List A) → All (λ r. IsSome (row_of r)) rs
    → All (λ r. is_none (row_of r) ≡ false) rs
clean-from_writes row_of rs h = All-weaker _ _ (λ r. not_none (row_of r)) rs h

pub writes-from_clean : {A X : Type 0} (row_of : A → Option X) (rs : List A) → All (λ r. is_none (row_of r) ≡ false) rs
    → All (λ r. IsSome (row_of r)) rs
writes-from_clean row_of rs h = All-weaker _ _ (λ r. is_there (row_of r)) rs h

-- records that each write the row of its place are those whose rows are these
pub filter_map-written : {A X : Type 0} (row_of : A → Option X) (rs : List A) (rows : List X) → AllZip (λ r row. row_of r ≡ Some row) rs rows
    → (filter_map row_of rs ≡ rows) × All (λ r. is_none (row_of r) ≡ false) rs
filter_map-written row_of [] [] h = (refl, All-nil _)
filter_map-written row_of [] (row ∷ rows) h = absurd h
filter_map-written row_of (r ∷ rs) [] h = absurd h
filter_map-written row_of (r ∷ rs) (row ∷ rows) h =
    let more = filter_map-written row_of rs rows h.1 in
    (rw (h.0, more.0) refl, All-cons (λ r. is_none (row_of r) ≡ false) r rs (rw h.0 refl) more.1)

pub written-filter_map : {A X : Type 0} (row_of : A → Option X) (rs : List A) → All (λ r. is_none (row_of r) ≡ false) rs
    → AllZip (λ r row. row_of r ≡ Some row) rs (filter_map row_of rs)
written-filter_map row_of [] h = tt
written-filter_map row_of (r ∷ rs) h =
    at_head (row_of r) refl (All-head (λ r. is_none (row_of r) ≡ false) r rs h) (written-filter_map row_of rs (All-tail (λ r. is_none (row_of r) ≡ false) r rs h))
  where
    at_head : (o : Option _) → row_of r ≡ o → is_none (row_of r) ≡ false → AllZip (λ r row. row_of r ≡ Some row) rs (filter_map row_of rs)
        → AllZip (λ r row. row_of r ≡ Some row) (r ∷ rs) (filter_map row_of (r ∷ rs))
    at_head None is there more = absurd cc
    at_head (Some row) is there more = rw is (is, more)

-- the place of the first item that gives none, counted from any number, where it is one of the first `most`
pub first_missing : {A X : Type 0} (from most : ℕ) (row_of : A → Option X) (good : List A) (bad : A) (rest : List A) → length good < most
    → All (λ r. is_none (row_of r) ≡ false) good
    → row_of bad ≡ None → position_from (λ r. is_none (row_of r)) from (take most (good ++ bad ∷ rest)) ≡ Some (length good + from)
first_missing from most row_of good bad rest room clean here =
    let split : length good + suc (most - length good - 1) ≡ most = omega arith in
    let P : ℕ → Type 0 = λ n. take n (good ++ bad ∷ rest) ≡ good ++ bad ∷ take (most - length good - 1) rest in
    let front : P most = subst P split (take-append-add good (bad ∷ rest) (suc (most - length good - 1))) in
    rw front (position_from-first (λ r. is_none (row_of r)) from good bad (take (most - length good - 1) rest) clean (rw here refl))

-- no record
pub below-empty : {X : Type 0} (most : ℕ) (row_of : RowRule X) → rows_below most row_of [] ≡ Err fault.Empty
unfolding rows_below rows_unless
below-empty most row_of = let few : nat_lt most 0 ≡ false = grind (arith, nat_tests) in rw (take-nil most, few) refl

-- records that each write a row, neither none nor too many
pub below-rows : {X : Type 0} (most : ℕ) (row_of : RowRule X) (below : List Record) → 1 ≤ length below → length below ≤ most
    → All (λ r. is_none (row_of r) ≡ false) below
    → rows_below most row_of below ≡ Ok (filter_map row_of below)
unfolding rows_below rows_unless
below-rows most row_of below some few clean =
    let enough : nat_lt most (length below) ≡ false = grind (arith, nat_tests) in
    let is_some : nat_lt 0 (length below) ≡ true = grind (arith, nat_tests) in
    rw (take_all most below few, position_from-none (λ r. is_none (row_of r)) 2 below clean, enough, is_some) refl

-- a record that writes no row, behind fewer than `most` records that do
pub below-bad : {X : Type 0} (most : ℕ) (row_of : RowRule X) (good : List Record) (bad : Record) (rest : List Record) → length good < most
    → All (λ r. is_none (row_of r) ≡ false) good
    → row_of bad ≡ None → rows_below most row_of (good ++ bad ∷ rest) ≡ Err (fault.Row (length good + 2))
unfolding rows_below rows_unless
below-bad most row_of good bad rest room clean here = rw (first_missing 2 most row_of good bad rest room clean here) refl

-- more than `most` records, the first `most` of which write a row
pub below-long : {X : Type 0} (most : ℕ) (row_of : RowRule X) (below : List Record) → most < length below
    → All (λ r. is_none (row_of r) ≡ false) (take most below)
    → rows_below most row_of below ≡ Err fault.Long
unfolding rows_below rows_unless
below-long most row_of below more clean =
    let long : nat_lt most (length below) ≡ true = grind (arith, nat_tests) in
    rw (position_from-none (λ r. is_none (row_of r)) 2 (take most below) clean, long) refl
