-- How far torque lies above what is permitted and the threshold together at the most: the engines give no more than
-- the torque of the greatest charge, and no drive row permits less than the least of the first row of the table.
use Rattle.std.proofs.Common.{◌≡◌, ℕ, zero, suc, inl, inr, ◌+◌, ◌-◌, ◌*◌, ◌≤◌, ◌<◌, Bool, true, false, nat_le, List, [], ◌∷◌, length, map, take, All, max, min, get_or, refl, ap, ◌∙◌, subst, arith, add-one}
use Rattle.std.specs.Prelude.{if◌then◌else◌, ◌==◌, slice_index}
use Rattle.std.specs.List.{fold}
use Rattle.std.proofs.Math.Nat.{div-le_of_le-mul}
use Rattle.std.proofs.lemmas.Nat.{le-div}
use Rattle.std.proofs.lemmas.Bool.{cases_lt, leb-true, leb-false}
use Rattle.std.proofs.lemmas.List.{get_or-take, get_or_past, length-take-le}
use Rattle.std.proofs.lemmas.List.Elements.{All-nil, All-cons, All-head, All-tail}
use Rattle.eg_num.specs.Drive.{DriveRow}
use Rattle.eg_num.specs.Windows.{greatest_of}
use Rattle.eg_num.specs.Interpolation.{Grid, IsGrid, lerp, value_at, cell, row_at, grid_at}
use Rattle.eg_torque.specs.Permit.{DoesNotFall, drive_permits}
use Rattle.eg_torque.specs.Ramp.{ramped}
use Rattle.eg_torque.specs.declared.ramp.TheConstants.{NO_RAMP}
use Rattle.eg_values.specs.Calibration.{CalibrationParts, IsAccepted}
use Rattle.eg_values.specs.Excess.{greatest_torque, least_permitted, greatest_permitted, greatest_excess}
use Rattle.eg_record.specs.declared.row.Row.{Row}
use Rattle.eg_record.specs.Excess.{above, peak_of}
use Rattle.eg_model.specs.History.{Setting}
use Rattle.eg_model.specs.Moments.{effective_drive, demand_at}
use Rattle.eg_plant.specs.declared.engine_kind.EngineKind.{EngineKind}
use Rattle.eg_model.specs.Engines.{bench_of}
use Rattle.eg_laws.specs.Showing.{engine_by, limit_before, ArePermitted, ShowEngine}
use Rattle.eg_laws.proofs.KindLaws.{laws_of, greatest_covers}

-- ---- what is permitted ----

-- a number lies in a range
abbrev pub IsWithin : (least most n : ℕ) → Type 0
IsWithin least most n = (least ≤ n) × (n ≤ most)

-- on the line between two points no value lies outside of what both values lie in
lerp-within : (least most x0 y0 x1 y1 x : ℕ) → x0 < x → x ≤ x1 → IsWithin least most y0 → IsWithin least most y1 →
    IsWithin least most (lerp x0 y0 x1 y1 x)
lerp-within least most x0 y0 x1 y1 x from to left right = (
  le-div least _ (x1 - x0) (omega (arith, from, to))
      (above y0 y1 (x1 - x) (x - x0) (x1 - x0) left.0 right.0 (omega (arith, from, to))),
  div-le_of_le-mul (x1 - x0) (below y0 y1 (x1 - x) (x - x0) (x1 - x0) left.1 right.1 (omega (arith, from, to))),
)
  where
    above : (a b u v w : ℕ) → least ≤ a → least ≤ b → w ≡ u + v → least * w ≤ a * u + b * v
    above a b u v w l m e = rw e (grind arith)

    below : (a b u v w : ℕ) → a ≤ most → b ≤ most → w ≡ u + v → a * u + b * v ≤ w * most
    below a b u v w l m e = rw e (grind arith)

-- and so it is at each place of a table
value_at-within : (least most : ℕ) (points : List ℕ) (value : ℕ → ℕ) (x : ℕ) → 1 ≤ length points →
    ((i : ℕ) → i < length points → IsWithin least most (value i)) → IsWithin least most (value_at points value x)
unfolding value_at
value_at-within least most [] value x some within = absurd (omega (arith, some))
value_at-within least most (x0 ∷ []) value x some within = within 0 (omega arith)
value_at-within least most (x0 ∷ x1 ∷ xs) value x some within =
    choice (nat_le x x0) (nat_le x x1) refl refl (within 0 (omega arith)) (within 1 (omega arith))
    (value_at-within least most (x1 ∷ xs) (λ i. value (suc i)) x (omega arith) (λ i place. within (suc i) (omega (arith, place))))
  where
    choice : (p q : Bool) → nat_le x x0 ≡ p → nat_le x x1 ≡ q → IsWithin least most (value 0) → IsWithin least most (value 1) →
        IsWithin least most (value_at (x1 ∷ xs) (λ i. value (suc i)) x) →
        IsWithin least most
        (if p then value 0 else if q then lerp x0 (value 0) x1 (value 1) x else value_at (x1 ∷ xs) (λ i. value (suc i)) x)
    choice true q e f first second rest = first
    choice false true e f first second rest =
        let after = leb-false _ _ e in
        lerp-within least most x0 (value 0) x1 (value 1) x (omega (arith, after)) (leb-true _ _ f) first second
    choice false false e f first second rest = rest

-- no number is less than the least
least_covers : (ns : List ℕ) (n : ℕ) → (fold min n ns ≤ n) × All (λ m. fold min n ns ≤ m) ns
least_covers [] n = (omega arith, All-nil (λ m. n ≤ m))
least_covers (m ∷ ns) n =
    let rest = least_covers ns (min n m) in
    let here = rest.0 in
    (omega (arith, here), All-cons (λ k. fold min (min n m) ns ≤ k) m ns (omega (arith, here)) rest.1)

module _ (g : Grid) (grid : IsGrid g) (rises : DoesNotFall g) where
  in_first : (j : ℕ) → j < length g.columns → least_permitted g ≤ cell g 0 j
  unfolding least_permitted
  in_first j within =
      let size : length first ≡ length g.columns = length-take-le (length g.columns) g.values columns_fit in
      subst (λ n. fold min (cell g 0 0) first ≤ n) is
      ((least_covers first (cell g 0 0)).1 j 0 (omega (arith, size, within)))
    where
      first : List ℕ
      first = take (length g.columns) g.values

      columns_fit : length g.columns ≤ length g.values
      columns_fit = let rows = grid.0.0 in let are = grid.2 in grind arith

      place : (n : ℕ) → j ≡ 0 * n + j
      place n = omega arith

      is : get_or first j 0 ≡ cell g 0 j
      is = get_or-take (length g.columns) g.values j 0 within ∙ ap (slice_index g.values) (place (length g.columns))

  in_each : (i j : ℕ) → i < length g.rows → j < length g.columns → least_permitted g ≤ cell g i j
  in_each zero j row column = in_first j column
  in_each (suc i) j row column =
      let before = in_each i j (omega (arith, row)) column in
      let rise = rises i j (omega (arith, row)) column in
      subst (λ n. least_permitted g ≤ cell g n j) (add-one i) (omega (arith, before, rise))

  -- each value of the table is one of its numbers, or 0
  at_most : (i j : ℕ) → cell g i j ≤ greatest_permitted g
  unfolding greatest_permitted
  at_most i j = elim (cases_lt place (length g.values)) [
    | inl within ↦ (greatest_covers g.values 0).1 place 0 within
    | inr past ↦ (let nothing = get_or_past g.values place 0 past in omega (arith, nothing))
  ]
    where
      place : ℕ
      place = i * length g.columns + j

  pub grid_at-within : (pedal speed : ℕ) → IsWithin (least_permitted g) (greatest_permitted g) (grid_at g pedal speed)
  grid_at-within pedal speed =
      value_at-within (least_permitted g) (greatest_permitted g) g.rows (row_at g speed) pedal
      (let rows = grid.0.0 in omega (arith, rows))
      (λ i row. value_at-within (least_permitted g) (greatest_permitted g) g.columns (cell g i) speed
      (let columns = grid.1.0 in omega (arith, columns)) (λ j column. (in_each i j row column, at_most i j)))

-- ---- the rows of a record ----

greatest_of-most : (most : ℕ) (ns : List ℕ) → All (λ n. n ≤ most) ns → greatest_of ns ≤ most
unfolding greatest_of
greatest_of-most most [] all = omega arith
greatest_of-most most (n ∷ ns) all =
    let here = All-head (λ m. m ≤ most) n ns all in
    let rest = greatest_of-most most ns (All-tail (λ m. m ≤ most) n ns all) in
    omega (arith, here, rest)

-- nothing less than the demand is permitted
pub ramped-least : (fall before demand : ℕ) → demand ≤ ramped fall before demand
unfolding ramped
ramped-least fall before demand = go (fall == NO_RAMP)
  where
    go : (none : Bool) → demand ≤ (if none then demand else max demand (before - fall))
    go true = omega arith
    go false = omega arith

-- the demand of a drive row isn't less than the least of the table
pub demand_at-least : (cal : CalibrationParts) → IsAccepted cal → (drive : DriveRow) →
    least_permitted cal.rules.permit ≤ demand_at cal drive
unfolding demand_at drive_permits
demand_at-least cal accepted drive =
    let effective = effective_drive cal drive in
    let table = (grid_at-within cal.rules.permit accepted.grid accepted.permit effective.pedal effective.speed).0 in
    omega (arith, table)

module _ (s : Setting) (accepted : IsAccepted s.cal) where
  pub limit-least : (row : Row) (before : ℕ) → row.limit ≡ ramped s.cal.rules.fall before (demand_at s.cal row.drive) →
      least_permitted s.cal.rules.permit ≤ row.limit
  limit-least row before is =
      let least = ramped-least s.cal.rules.fall before (demand_at s.cal row.drive) in
      let demand = demand_at-least s.cal accepted row.drive in
      omega (arith, is, least, demand)

  above-most : (row : Row) → row.torque ≤ greatest_torque s.cal.plant → least_permitted s.cal.rules.permit ≤ row.limit →
      above s.cal.rules.threshold row ≤ greatest_excess s.cal
  unfolding above greatest_excess
  above-most row most least = omega (arith, most, least)

module _ (engine : EngineKind) (s : Setting) (accepted : IsAccepted s.cal) where
  within : (rows : List Row) → (laws_of engine).Within s.cal.plant (engine_by (bench_of engine) s rows)
  unfolding engine_by
  within [] = (laws_of engine).within_first s.cal.plant
  within (row ∷ before) = (laws_of engine).within_next s.cal.plant (engine_by (bench_of engine) s before) (within before) _ _ _ _

  pub all_below : (rows : List Row) → ShowEngine (bench_of engine) s rows → ArePermitted s.cal rows →
      peak_of s.cal.rules.threshold rows ≤ greatest_excess s.cal
  unfolding peak_of ArePermitted
  all_below rows shows permitted = greatest_of-most (greatest_excess s.cal) (map (above s.cal.rules.threshold) rows) (each rows shows permitted)
    where
      each : (rows : List Row) → ShowEngine (bench_of engine) s rows → ArePermitted s.cal rows →
          All (λ n. n ≤ greatest_excess s.cal) (map (above s.cal.rules.threshold) rows)
      each [] shows permitted = All-nil (λ n. n ≤ greatest_excess s.cal)
      each (row ∷ before) shows permitted = All-cons (λ n. n ≤ greatest_excess s.cal) (above s.cal.rules.threshold row)
          (map (above s.cal.rules.threshold) before)
          (above-most s accepted row
          (let is = shows.0.torque in let most = (laws_of engine).torque s.cal.plant (engine_by (bench_of engine) s (row ∷ before))
          (within (row ∷ before)) in omega (arith, is, most))
          (limit-least s accepted row (limit_before row before) permitted.0))
          (each before shows.1 permitted.1)
