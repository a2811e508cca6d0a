-- What the facts of rows tell of the rows: from which tick on the stages are off, and whether they go off once.
use Rattle.std.proofs.Common.{◌≡◌, ◌∙◌, ◌<◌, ◌≤◌, ◌+◌, ◌++◌, ◌∷◌, [], inl, inr, List, ℕ, suc, Bool, true, false, not, Some, None, length, refl, sym, ap, ap₂, subst, arith}
use Rattle.std.specs.Prelude.{IfSome, IsSomeAnd, MatchOption, nat_le, ◌&&◌, if◌then◌else◌}
use Rattle.std.specs.Option.{option_or}
use Rattle.std.specs.List.{All}
use Rattle.std.proofs.lemmas.Bool.{cases_Bool, cases_lt, both_ways, le-leb}
use Rattle.std.proofs.lemmas.List.Elements.{All-head, All-tail, All-weaker}
use Rattle.std.proofs.lemmas.Option.{none-some, same_Some}
use Rattle.eg_num.specs.Windows.{WeightParts}
use Rattle.eg_record.specs.declared.row.Row.{Row}
use Rattle.eg_record.specs.Rows.{AreRows, first_given}
use Rattle.eg_record.specs.Excess.{is_excess_confirmed, first_confirmed}
use Rattle.eg_record.specs.Stages.{is_off, off_at, first_off, last_on}
use Rattle.eg_record.proofs.FirstLemmas.{off_at-none, off_at-off}
use Rattle.eg_record.proofs.GivenLemmas.{AreRows-ticks, option_or-some}
use Rattle.eg_record.proofs.LastOnLemmas.{last_on-on, last_on-off}

-- ---- the last tick at which the stages are on ----

abbrev IsOff : Row → Type 0
IsOff row = row.on ≡ false

-- where they are off from some tick on, it comes before that tick
pub last_on-before : (rows : List Row) (n : ℕ) → All (λ row. n ≤ row.tick → row.on ≡ false) rows → IfSome (last_on rows) (λ last. last < n)
last_on-before [] n off = unfold last_on in tt
last_on-before (row ∷ before) n off = elim (cases_Bool row.on) [
  | inl on ↦ subst (λ o. IfSome o (λ last. last < n)) (sym (last_on-on row before on)) (elim (cases_lt row.tick n) [
    | inl low ↦ low
    | inr late ↦ absurd (both_ways row.on (All-head (λ r. n ≤ r.tick → r.on ≡ false) row before off late) on)
  ])
  | inr other ↦ subst (λ o. IfSome o (λ last. last < n)) (sym (last_on-off row before other))
      (last_on-before before n (All-tail (λ r. n ≤ r.tick → r.on ≡ false) row before off))
]

-- it is that of the rows before those at which they are off
pub last_on-append : (later before : List Row) → All (λ row. row.on ≡ false) later → last_on (later ++ before) ≡ last_on before
last_on-append [] before off = refl
last_on-append (row ∷ later) before off = last_on-off row (later ++ before) (All-head IsOff row later off) ∙ last_on-append later before (All-tail IsOff row later off)

-- it is a tick of the run
pub last_on-within : (rows : List Row) → AreRows rows → IfSome (last_on rows) (λ last. last < length rows)
last_on-within rows whole = last_on-before rows (length rows)
    (All-weaker (λ row. row.tick < length rows) (λ row. length rows ≤ row.tick → row.on ≡ false) (λ row low late. absurd (omega arith)) rows (AreRows-ticks rows whole))

-- ---- the first tick at which the excess is confirmed ----

-- the rows up to that tick, which confirm it
pub record ConfirmsAt (w : WeightParts) (t : ℕ) (rows : List Row) (c : ℕ) : Type 0 where
  pub later : List Row
  pub before : List Row
  pub split : rows ≡ later ++ before
  pub long : length before ≡ c + 1
  pub confirmed : is_excess_confirmed w t before ≡ true

if-some : (b : Bool) (n c : ℕ) → (if b then Some n else None) ≡ Some c → (b ≡ true) × (n ≡ c)
if-some true n c is = (refl, same_Some n c is)
if-some false n c is = absurd (none-some c is)

pub confirms_at : (w : WeightParts) (t : ℕ) (rows : List Row) (c : ℕ) → first_confirmed w t rows ≡ Some c → ConfirmsAt w t rows c
unfolding first_confirmed
confirms_at w t [] c first = absurd (none-some c first)
confirms_at w t (row ∷ before) c first = elim (option_or-some (first_confirmed w t before) _ c first) [
  | inl earlier ↦ (let at = confirms_at w t before c earlier in
      record { later = row ∷ at.later; before = at.before; split = ap (λ rows. row ∷ rows) at.split; long = at.long; confirmed = at.confirmed })
  | inr now ↦ (let here = if-some (is_excess_confirmed w t (row ∷ before)) (length before) c now.1 in
      record { later = []; before = row ∷ before; split = refl; long = (let place = here.1 in omega arith); confirmed = here.0 })
]

-- ---- stages that go off once ----

-- The stages are on up to tick k alone: they are on at each of these rows, or go off at tick k + 1.
data Once (row : Row) (before : List Row) (k : ℕ) : Type 0 where
  still_on : length before ≤ k → first_off (row ∷ before) ≡ None → last_on (row ∷ before) ≡ Some (length before) → Once row before k
  went_off : k < length before → first_off (row ∷ before) ≡ Some (k + 1) → last_on (row ∷ before) ≡ Some k → Once row before k

first_off-nil : first_off [] ≡ None
unfolding first_off first_given
first_off-nil = refl

first_off-cons : (row : Row) (before : List Row) → first_off (row ∷ before) ≡ option_or (first_off before) (off_at row)
unfolding first_off first_given
first_off-cons row before = refl

-- one row more at which they are on, or at which they are off and were off before or not
first_off-on : (row : Row) (before : List Row) → row.on ≡ true → first_off before ≡ None → first_off (row ∷ before) ≡ None
unfolding is_off
first_off-on row before on none = first_off-cons row before ∙ ap₂ option_or none (off_at-none row (ap (λ b. not b && not row.testing) on))

first_off-off : (row : Row) (before : List Row) → row.on ≡ false → row.testing ≡ false → first_off before ≡ None → first_off (row ∷ before) ≡ Some row.tick
unfolding is_off
first_off-off row before off untested none = first_off-cons row before
    ∙ ap₂ option_or none (off_at-off row (ap₂ (λ b c. not b && not c) off untested))

first_off-stays : (row : Row) (before : List Row) (tick : ℕ) → first_off before ≡ Some tick → first_off (row ∷ before) ≡ Some tick
first_off-stays row before tick some = first_off-cons row before ∙ ap (λ o. option_or o (off_at row)) some

module _ (k : ℕ) where
  abbrev OnUpTo : Row → Type 0
  OnUpTo row = row.on ≡ nat_le row.tick k

  abbrev Untested : Row → Type 0
  Untested row = row.testing ≡ false

  on_by : (row : Row) (n : ℕ) → row.tick ≡ n → n ≤ k → OnUpTo row → row.on ≡ true
  on_by row n here low is = is ∙ ap (λ m. nat_le m k) here ∙ le-leb n k low

  off_by : (row : Row) (n : ℕ) → row.tick ≡ n → k < n → OnUpTo row → row.on ≡ false
  off_by row n here late is = is ∙ ap (λ m. nat_le m k) here ∙ not_le n k late
    where
      not_le : (n k : ℕ) → k < n → nat_le n k ≡ false
      not_le n k late = grind arith

  once : (row : Row) (before : List Row) → AreRows (row ∷ before) → All Untested (row ∷ before) → All OnUpTo (row ∷ before) → Once row before k
  once one [] whole untested on =
      let now = on_by one 0 whole.0 (omega arith) (All-head OnUpTo one [] on) in
      still_on (omega arith) (first_off-on one [] now first_off-nil) (last_on-on one [] now ∙ ap Some whole.0)
  once row (last ∷ before) whole untested on =
      elim (once last before whole.1 (All-tail Untested row (last ∷ before) untested) (All-tail OnUpTo row (last ∷ before) on)) [
        | still_on early none latest ↦ elim (cases_lt k (length (last ∷ before))) [
          | inl late ↦ (let off = off_by row (length (last ∷ before)) whole.0 late (All-head OnUpTo row (last ∷ before) on) in
              let here : k ≡ length before = omega arith in
              went_off late
              (first_off-off row (last ∷ before) off (All-head Untested row (last ∷ before) untested) none ∙ ap Some (let tick = whole.0 in omega arith))
              (last_on-off row (last ∷ before) off ∙ latest ∙ ap Some (sym here)))
          | inr still ↦ (let now = on_by row (length (last ∷ before)) whole.0 still (All-head OnUpTo row (last ∷ before) on) in
              still_on still (first_off-on row (last ∷ before) now none) (last_on-on row (last ∷ before) now ∙ ap Some whole.0))
        ]
        | went_off late gone latest ↦ (let off = off_by row (length (last ∷ before)) whole.0 (omega arith) (All-head OnUpTo row (last ∷ before) on) in
            went_off (omega arith) (first_off-stays row (last ∷ before) (k + 1) gone) (last_on-off row (last ∷ before) off ∙ latest))
      ]

  -- so they are last on right before they are first off, or at the last row
  pub goes_off_once : (rows : List Row) → 1 ≤ length rows → AreRows rows → All Untested rows → All OnUpTo rows →
      IsSomeAnd (last_on rows) (λ last. MatchOption (first_off rows) (last + 1 ≡ length rows) (λ off. last + 1 ≡ off))
  goes_off_once [] some whole untested on = absurd (omega arith)
  goes_off_once (row ∷ before) some whole untested on = elim (once row before whole untested on) [
    | still_on early none latest ↦ subst (λ o. IsSomeAnd o (λ last. MatchOption (first_off (row ∷ before)) (last + 1 ≡ suc (length before)) (λ off. last + 1 ≡ off))) (sym latest)
        (subst (λ o. MatchOption o (length before + 1 ≡ suc (length before)) (λ off. length before + 1 ≡ off)) (sym none) (omega arith))
    | went_off late gone latest ↦ subst (λ o. IsSomeAnd o (λ last. MatchOption (first_off (row ∷ before)) (last + 1 ≡ suc (length before)) (λ off. last + 1 ≡ off))) (sym latest)
        (subst (λ o. MatchOption o (k + 1 ≡ suc (length before)) (λ off. k + 1 ≡ off)) (sym gone) refl)
  ]
