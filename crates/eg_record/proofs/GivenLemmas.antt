-- What the first row gives, in words: some row gives it, and no row of an earlier tick gives anything.
use Rattle.std.proofs.Common.{◌≡◌, ◌⊎◌, ◌∙◌, ◌∷◌, [], ◌<◌, inl, inr, List, ℕ, suc, zero, None, Some, length, refl, sym, ap, arith}
use Rattle.std.specs.Prelude.{Option}
use Rattle.std.specs.Option.{option_or}
use Rattle.std.specs.List.{All, Contains}
use Rattle.std.proofs.lemmas.List.Elements.{All-nil, All-cons, All-head, All-tail, All-weaker, All-contains}
use Rattle.std.proofs.lemmas.Option.{none-some}
use Rattle.eg_record.specs.declared.row.Row.{Row}
use Rattle.eg_record.specs.Rows.{AreRows, first_given}

pub record IsGivenFirst {X : Type 0} (gives : Row → Option X) (rows : List Row) (x : X) : Type 0 where
  pub row : Row
  pub stands : Contains rows row
  pub here : gives row ≡ Some x
  pub none_earlier : All (λ other. other.tick < row.tick → gives other ≡ None) rows

-- ---- ticks of a whole run ----

pub AreRows-ticks : (rows : List Row) → AreRows rows → All (λ row. row.tick < length rows) rows
AreRows-ticks [] whole = All-nil (λ row. row.tick < 0)
AreRows-ticks (row ∷ before) whole = All-cons (λ r. r.tick < suc (length before)) row before (let e = whole.0 in omega arith)
    (All-weaker (λ r. r.tick < length before) (λ r. r.tick < suc (length before)) (λ r below. omega arith) before (AreRows-ticks before whole.1))

pub Contains-tail : {X : Type 0} (x : X) (xs : List X) (y : X) → Contains xs y → Contains (x ∷ xs) y
Contains-tail x xs y (k, below, same) = (suc k, (omega arith), same)

pub Contains-head : {X : Type 0} (x : X) (xs : List X) → Contains (x ∷ xs) x
Contains-head x xs = (0, (omega arith), refl)

pub Contains-cons_cases : {X : Type 0} (x : X) (xs : List X) (y : X) → Contains (x ∷ xs) y → (x ≡ y) ⊎ Contains xs y
Contains-cons_cases x xs y (zero, below, same) = inl same
Contains-cons_cases x xs y (suc k, below, same) = inr (k, (omega arith), same)

-- ---- nothing is given ----

pub option_or-none : {X : Type 0} (o p : Option X) → option_or o p ≡ None → (o ≡ None) × (p ≡ None)
option_or-none None p none = (refl, none)
option_or-none (Some x) p none = absurd (none-some x (sym none))

pub option_or-some : {X : Type 0} (o p : Option X) (x : X) → option_or o p ≡ Some x → (o ≡ Some x) ⊎ ((o ≡ None) × (p ≡ Some x))
option_or-some None p x some = inr (refl, some)
option_or-some (Some y) p x some = inl some

pub first_given-none : {X : Type 0} (gives : Row → Option X) (rows : List Row) → All (λ row. gives row ≡ None) rows → first_given gives rows ≡ None
unfolding first_given
first_given-none gives [] none = refl
first_given-none gives (row ∷ before) none =
    ap (λ o. option_or o (gives row)) (first_given-none gives before (All-tail (λ r. gives r ≡ None) row before none)) ∙ All-head (λ r. gives r ≡ None) row before none

pub none_given : {X : Type 0} (gives : Row → Option X) (rows : List Row) → first_given gives rows ≡ None → All (λ row. gives row ≡ None) rows
unfolding first_given
none_given gives [] none = All-nil (λ row. gives row ≡ None)
none_given gives (row ∷ before) none =
    let parts = option_or-none (first_given gives before) (gives row) none in
    All-cons (λ r. gives r ≡ None) row before parts.1 (none_given gives before parts.0)

-- ---- something is given ----

-- the row at hand is the first that gives anything, where those before it give nothing
none_before : {X : Type 0} (gives : Row → Option X) (before : List Row) (tick : ℕ) → tick ≡ length before → AreRows before → All (λ other. other.tick < tick → gives other ≡ None) before → All (λ other. gives other ≡ None) before
none_before gives before tick here whole earlier k d below = earlier k d below (let low = AreRows-ticks before whole k d below in omega arith)

pub first_given-some : {X : Type 0} (gives : Row → Option X) (rows : List Row) (x : X) → AreRows rows → IsGivenFirst gives rows x → first_given gives rows ≡ Some x
unfolding first_given
first_given-some gives [] x whole given = absurd (let below = given.stands.1 in omega arith)
first_given-some {X} gives (row ∷ before) x whole given =
    let P : Row → Type 0 = λ (other : Row). other.tick < given.row.tick → gives other ≡ None in
    let tail = All-tail P row before given.none_earlier in
    elim (Contains-cons_cases row before given.row given.stands) [
      | inl same ↦ ap (λ (o : Option X). option_or o (gives row))
          (first_given-none gives before (none_before gives before given.row.tick (ap (λ (r : Row). r.tick) (sym same) ∙ whole.0) whole.1 tail))
          ∙ ap gives same ∙ given.here
      | inr stands ↦ ap (λ (o : Option X). option_or o (gives row))
          (first_given-some gives before x whole.1 (record { row = given.row; stands = stands; here = given.here; none_earlier = tail }))
    ]

pub given_first : {X : Type 0} (gives : Row → Option X) (rows : List Row) (x : X) → AreRows rows → first_given gives rows ≡ Some x → IsGivenFirst gives rows x
unfolding first_given
given_first gives [] x whole first = absurd (none-some x first)
given_first gives (row ∷ before) x whole first = elim (option_or-some (first_given gives before) (gives row) x first) [
  | inl earlier ↦ (let given = given_first gives before x whole.1 earlier in
      let low = All-contains (λ r. r.tick < length before) before given.row (AreRows-ticks before whole.1) given.stands in
      record {
        row = given.row;
        stands = Contains-tail row before given.row given.stands;
        here = given.here;
        none_earlier = All-cons (λ other. other.tick < given.row.tick → gives other ≡ None) row before (λ late. absurd (let here = whole.0 in omega arith)) given.none_earlier;
      })
  | inr now ↦ record {
    row = row;
    stands = Contains-head row before;
    here = now.1;
    none_earlier = All-cons (λ other. other.tick < row.tick → gives other ≡ None) row before (λ late. absurd (omega arith))
        (All-weaker (λ other. gives other ≡ None) (λ other. other.tick < row.tick → gives other ≡ None) (λ other none _. none) before (none_given gives before now.0));
  }
]
