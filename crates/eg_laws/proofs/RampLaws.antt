-- How long the permitted torque lies above the demand: at each tick of a ramp it has come down by the whole fall.
use Rattle.std.proofs.Common.{◌≡◌, ◌∙◌, refl, sym, ap, subst, ℕ, zero, suc, ◌+◌, ◌-◌, ◌*◌, ◌≤◌, ◌<◌, ◌==◌, inl, inr, Bool, true, false, ◌&&◌, List, [], ◌∷◌, ◌++◌, All, map, take, length, max, Some, None, arith}
use Rattle.std.specs.Prelude.{if◌then◌else◌}
use Rattle.std.specs.List.{list_all}
use Rattle.std.proofs.lemmas.Bool.{cases_lt, cases_Bool, true≢false, eq-eqb, ltb-true, and_parts}
use Rattle.std.proofs.lemmas.List.Elements.{All-nil, All-cons, All-head, All-tail}
use Rattle.eg_num.specs.Arithmetic.{quotient_up}
use Rattle.eg_num.specs.Drive.{DriveRow}
use Rattle.eg_torque.specs.Permit.{drive_permits}
use Rattle.eg_torque.specs.Ramp.{ramped}
use Rattle.eg_torque.specs.declared.ramp.TheConstants.{NO_RAMP}
use Rattle.eg_values.specs.Calibration.{CalibrationParts, IsAccepted}
use Rattle.eg_values.specs.Excess.{least_permitted, greatest_permitted, ramp_ticks}
use Rattle.eg_record.specs.declared.row.Row.{Row}
use Rattle.eg_record.specs.Spans.{EachDriveSpan}
use Rattle.eg_model.specs.Moments.{effective_drive, demand_at}
use Rattle.eg_model.specs.Engines.{BenchEngine}
use Rattle.eg_model.specs.Bench.{Run}
use Rattle.eg_model.specs.Rows.{record_rows}
use Rattle.eg_model.proofs.LapseWeights.{rounded_up}
use Rattle.eg_laws.specs.Showing.{limit_before, ArePermitted}
use Rattle.eg_laws.specs.Ramps.{is_on_ramp, RampLasts, RampIsShort, RampComesDown, NoRampTakesNoTick, LevelRampHasNoEnd, RecordsLeaveRamps, RecordsComeDownRamps, RecordsPermitDemand}
use Rattle.eg_laws.proofs.PeakLaws.{grid_at-within, demand_at-least}
use Rattle.eg_laws.proofs.ShowingLaws.{permitted_rows}

-- ---- the rows of a span ----

-- the permitted torque after these rows of a span, and 0 where there is none
unfoldable limit_after : List Row → ℕ
limit_after [] = 0
limit_after (row ∷ before) = row.limit

-- each of them comes down the ramp from the row before
unfoldable ComeDown : CalibrationParts → List Row → Type 0
ComeDown cal [] = Unit {0}
ComeDown cal (row ∷ before) =
    (row.limit ≡ ramped cal.rules.fall (limit_after before) (demand_at cal row.drive)) × ComeDown cal before

abbrev NotFresh : Row → Type 0
NotFresh row = row.fresh ≡ false

come_down : (cal : CalibrationParts) (later : List Row) (first : Row) (older : List Row) → first.fresh ≡ true →
    All NotFresh later → ArePermitted cal ((later ++ first ∷ []) ++ older) → ComeDown cal (later ++ first ∷ [])
unfolding ArePermitted ComeDown limit_before limit_after
come_down cal [] first older begins goes_on permitted =
    (permitted.0 ∙ ap (λ before. ramped cal.rules.fall before (demand_at cal first.drive)) (at_first older), tt)
  where
    at_first : (older : List Row) → limit_before first older ≡ limit_after []
    at_first [] = refl
    at_first (row ∷ older) = rw begins refl
come_down cal (row ∷ later) first older begins goes_on permitted = (
  permitted.0 ∙ ap (λ before. ramped cal.rules.fall before (demand_at cal row.drive)) (at_next later),
  come_down cal later first older begins (All-tail NotFresh row later goes_on) permitted.1,
)
  where
    at_next : (later : List Row) → limit_before row ((later ++ first ∷ []) ++ older) ≡ limit_after (later ++ first ∷ [])
    at_next [] = rw (All-head NotFresh row _ goes_on) refl
    at_next (next ∷ later) = rw (All-head NotFresh row _ goes_on) refl

permitted-rest : (cal : CalibrationParts) (newer rows : List Row) → ArePermitted cal (newer ++ rows) → ArePermitted cal rows
unfolding ArePermitted
permitted-rest cal [] rows permitted = permitted
permitted-rest cal (row ∷ newer) rows permitted = permitted-rest cal newer rows permitted.1

come_down-rest : (cal : CalibrationParts) (later before : List Row) → ComeDown cal (later ++ before) → ComeDown cal before
unfolding ComeDown
come_down-rest cal [] before down = down
come_down-rest cal (row ∷ later) before down = come_down-rest cal later before down.1

-- ---- the limits on a ramp ----

abbrev IsRaisedAtMost : ℕ → Row → Type 0
IsRaisedAtMost most row = row.drive.raise ≤ most

module _ (cal : CalibrationParts) (accepted : IsAccepted cal) where
  abbrev least : ℕ
  least = least_permitted cal.rules.permit

  abbrev most : ℕ
  most = greatest_permitted cal.rules.permit

  raise-most : (drive : DriveRow) → drive.raise ≤ most → (effective_drive cal drive).raise ≤ most
  unfolding effective_drive
  raise-most drive few = elim (cases_Bool (cal.brake && drive.brake)) [
    | inl on ↦ rw on (omega arith)
    | inr off ↦ rw off few
  ]

  demand_at-most : (drive : DriveRow) → drive.raise ≤ most → demand_at cal drive ≤ most
  unfolding demand_at drive_permits
  demand_at-most drive few =
      let effective = effective_drive cal drive in
      let table = (grid_at-within cal.rules.permit accepted.grid accepted.permit effective.pedal effective.speed).1 in
      let raised = raise-most drive few in
      omega (arith, table, raised)

  -- where there is a ramp, a row above its demand has come down by the whole fall
  step : (before demand limit : ℕ) → (cal.rules.fall == NO_RAMP) ≡ false → limit ≡ ramped cal.rules.fall before demand →
      (demand < limit → limit + cal.rules.fall ≡ before) × (limit ≤ max demand before)
  unfolding ramped
  step before demand limit some is =
      let down : limit ≡ max demand (before - cal.rules.fall) =
      (is ∙ ap (λ none. if none then demand else max demand (before - cal.rules.fall)) some) in
      (λ above. omega (arith, down, above), omega (arith, down))

  -- so n rows in a row above it have come down by n falls, from the greatest number of the table at the most
  below : (cal.rules.fall == NO_RAMP) ≡ false → (rows : List Row) → ComeDown cal rows → All (IsRaisedAtMost most) rows → (n : ℕ) →
      n ≤ length rows → list_all (λ above. above) (take n (map (is_on_ramp cal) rows)) ≡ true →
      limit_after rows + n * cal.rules.fall ≤ most
  unfolding ComeDown limit_after is_on_ramp
  below some [] down raised zero within each = omega arith
  below some [] down raised (suc n) within each = absurd (omega (arith, within))
  below some (row ∷ before) down raised zero within each =
      let lower = step (limit_after before) (demand_at cal row.drive) row.limit some down.0 in
      let few = demand_at-most row.drive (All-head (IsRaisedAtMost most) row before raised) in
      let rest = below some before down.1 (All-tail (IsRaisedAtMost most) row before raised) 0 (omega arith) refl in
      let less = lower.1 in
      omega (arith, less, few, rest)
  below some (row ∷ before) down raised (suc n) within each =
      let above = ltb-true _ _ (and_parts _ _ each).0 in
      let lower = (step (limit_after before) (demand_at cal row.drive) row.limit some down.0).0 above in
      let rest = below some before down.1 (All-tail (IsRaisedAtMost most) row before raised) n (omega (arith, within))
      (and_parts _ _ each).1 in
      law row.limit (limit_after before) n cal.rules.fall lower rest
    where
      law : (limit was n fall : ℕ) → limit + fall ≡ was → was + n * fall ≤ most → limit + suc n * fall ≤ most
      law limit was n fall lower rest = grind arith

  -- the last of them is still above a demand that is at least the least number of the table
  fewer : (cal.rules.fall == NO_RAMP) ≡ false → 0 < cal.rules.fall → (rows : List Row) → ComeDown cal rows →
      All (IsRaisedAtMost most) rows → (n : ℕ) → RampLasts cal n rows → n ≤ quotient_up (most - least) cal.rules.fall - 1
  unfolding is_on_ramp limit_after
  fewer some falls rows down raised zero lasts = omega arith
  fewer some falls [] down raised (suc n) lasts = absurd (let within = lasts.within in omega (arith, within))
  fewer some falls (row ∷ before) down raised (suc n) lasts =
      let low = below some (row ∷ before) down raised (suc n) lasts.within lasts.each in
      let above = ltb-true _ _ (and_parts _ _ lasts.each).0 in
      let demand = demand_at-least cal accepted row.drive in
      let up = rounded_up (most - least) cal.rules.fall falls in
      let short : suc n < quotient_up (most - least) cal.rules.fall =
      under (suc n) (quotient_up (most - least) cal.rules.fall) cal.rules.fall
      (room row.limit (suc n * cal.rules.fall) above demand low) up in
      omega (arith, short)
    where
      room : (limit steps : ℕ) → demand_at cal row.drive < limit → least ≤ demand_at cal row.drive →
          limit + steps ≤ most → steps < most - least
      room limit steps above demand low = omega (arith, above, demand, low)

      under : (n q fall : ℕ) → n * fall < most - least → most - least ≤ q * fall → n < q
      under n q fall less up = grind (arith, less, up)

  -- without a ramp the permitted torque of a row is its demand
  level : (cal.rules.fall == NO_RAMP) ≡ true → (row : Row) (before : List Row) → ComeDown cal (row ∷ before) →
      row.limit ≡ demand_at cal row.drive
  unfolding ComeDown ramped
  level none row before down = down.0 ∙ ap (λ b. if b then demand_at cal row.drive
      else max (demand_at cal row.drive) (limit_after before - cal.rules.fall)) none

  -- so no row is above it
  never : (cal.rules.fall == NO_RAMP) ≡ true → (rows : List Row) → ComeDown cal rows → (n : ℕ) → RampLasts cal n rows → n ≤ 0
  unfolding is_on_ramp
  never none rows down zero lasts = omega arith
  never none [] down (suc n) lasts = absurd (let within = lasts.within in omega (arith, within))
  never none (row ∷ before) down (suc n) lasts = absurd
      (let above : demand_at cal row.drive < row.limit = ltb-true _ _ (and_parts _ _ lasts.each).0 in
      let same = level none row before down in
      omega (arith, above, same))

  -- ---- how far a row is above its demand ----

  near : (row : Row) (before : List Row) → ComeDown cal (row ∷ before) → All (IsRaisedAtMost most) (row ∷ before) →
      (n : ℕ) → RampLasts cal n (row ∷ before) →
      row.limit - demand_at cal row.drive ≤ most - least - n * cal.rules.fall
  unfolding limit_after
  near row before down raised n lasts = elim (cases_Bool (cal.rules.fall == NO_RAMP)) [
    | inl none ↦ let same = level none row before down in omega (arith, same)
    | inr some ↦ law row.limit (demand_at cal row.drive) (n * cal.rules.fall)
        (below some (row ∷ before) down raised n lasts.within lasts.each) (demand_at-least cal accepted row.drive)
  ]
    where
      law : (limit demand steps : ℕ) → limit + steps ≤ most → least ≤ demand → limit - demand ≤ most - least - steps
      law limit demand steps low high = omega (arith, low, high)

  -- ---- the law ----

  short : (start : ℕ) (rows : List Row) → ComeDown cal rows → RampIsShort cal start rows
  unfolding ramp_ticks
  short start rows down later before n ticks whole raised takes lasts =
      go (cal.rules.fall == NO_RAMP) (cal.rules.fall == 0) refl refl takes
    where
      down_before : ComeDown cal before
      down_before = come_down-rest cal later before (subst (ComeDown cal) whole down)

      some_fall : (cal.rules.fall == 0) ≡ false → 0 < cal.rules.fall
      some_fall e = elim (cases_lt 0 cal.rules.fall) [
        | inl some ↦ some
        | inr none ↦ absurd (true≢false (sym (eq-eqb cal.rules.fall 0 (omega (arith, none))) ∙ e))
      ]

      go : (p q : Bool) → (cal.rules.fall == NO_RAMP) ≡ p → (cal.rules.fall == 0) ≡ q →
          (if p then Some 0 else if q then None else Some (quotient_up (most - least) cal.rules.fall)) ≡ Some ticks →
          n ≤ ticks - 1
      go true q e f is = let none = never e before down_before n lasts in omega (arith, none)
      go false true e f is = absurd cc
      go false false e f is =
          let few = fewer e (some_fall f) before down_before raised n lasts in
          let same : quotient_up (most - least) cal.rules.fall ≡ ticks = cc in
          omega (arith, few, same)

  comes_down : (start : ℕ) (rows : List Row) → ComeDown cal rows → RampComesDown cal start rows
  comes_down start rows down later before row n whole raised lasts =
      near row before (come_down-rest cal later (row ∷ before) (subst (ComeDown cal) whole down)) raised n lasts

pub no_ramp_takes_no_tick : NoRampTakesNoTick
unfolding ramp_ticks
no_ramp_takes_no_tick rules none = rw (eq-eqb rules.fall NO_RAMP none) refl

pub level_ramp_has_no_end : LevelRampHasNoEnd
unfolding ramp_ticks
level_ramp_has_no_end rules level = rw level refl

-- without a ramp the permitted torque of each row is its demand
abbrev Demanded : CalibrationParts → Row → Type 0
Demanded cal row = row.limit ≡ demand_at cal row.drive

all_demanded : (cal : CalibrationParts) → cal.rules.fall ≡ NO_RAMP → (rows : List Row) → ArePermitted cal rows →
    All (Demanded cal) rows
unfolding ramped ArePermitted
all_demanded cal none [] permitted = All-nil (Demanded cal)
all_demanded cal none (row ∷ before) permitted = All-cons (Demanded cal) row before
    (permitted.0 ∙ rw (eq-eqb cal.rules.fall NO_RAMP none) refl) (all_demanded cal none before permitted.1)

-- ---- of every record ----

module _ {E : Type 0} (b : BenchEngine E) where
  each_comes_down : (r : Run) → EachDriveSpan (λ start rows. ComeDown r.setting.cal rows) (record_rows b r)
  each_comes_down r newer span older whole drive = subst (ComeDown r.setting.cal) (sym drive.span.is)
      (come_down r.setting.cal drive.span.later drive.span.first older drive.span.begins drive.span.goes_on
      (subst (λ rows. ArePermitted r.setting.cal (rows ++ older)) drive.span.is
      (permitted-rest r.setting.cal newer (span ++ older) (subst (ArePermitted r.setting.cal) whole (permitted_rows b r)))))

  pub records_leave_ramps : RecordsLeaveRamps b
  records_leave_ramps r run valid newer span older whole drive =
      short r.setting.cal run.accepted (length older) span (each_comes_down r newer span older whole drive)

  pub records_come_down_ramps : RecordsComeDownRamps b
  records_come_down_ramps r run valid newer span older whole drive =
      comes_down r.setting.cal run.accepted (length older) span (each_comes_down r newer span older whole drive)

  pub records_permit_demand : RecordsPermitDemand b
  records_permit_demand r none = all_demanded r.setting.cal none (record_rows b r) (permitted_rows b r)
