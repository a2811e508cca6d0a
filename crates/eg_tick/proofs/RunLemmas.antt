-- One tick of a run on the bench, and what its ticks come to.
use Rattle.std.proofs.Common.{◌≡◌, ◌∙◌, refl, sym, ap, ap₂, subst, ℕ, zero, suc, ◌+◌, ◌%◌, ◌^◌, ◌<◌, ◌&&◌, Bool, List, [], ◌∷◌, ◌++◌, map, length, arith, Option, Result, Ok, Err}
use Rattle.std.specs.Prelude.{reverse, slice_index_or, IfOk}
use Rattle.std.specs.List.{sum}
use Rattle.std.proofs.Math.Nat.{mod-add-mod, mod-eq_of_lt}
use Rattle.std.proofs.lemmas.List.{map-append}
use Rattle.std.proofs.lemmas.List.Sums.{fold-append}
use Rattle.eg_num.specs.Drive.{DriveRow}
use Rattle.eg_plant.specs.Engine.{Shown}
use Rattle.eg_plant.specs.Gasoline.{Gasoline}
use Rattle.eg_plant.specs.PlantParts.{PlantParts}
use Rattle.eg_fault.specs.Effects.{Effects}
use Rattle.eg_fault.specs.Faults.{effects}
use Rattle.eg_fault.specs.declared.class.Fault.{Fault}
use Rattle.eg_values.specs.Calibration.{CalibrationParts}
use Rattle.eg_word.specs.declared.registers.Trap.{Trap}
use Rattle.eg_word.specs.World.{World}
use Rattle.eg_record.specs.declared.row.Row.{Row}
use Rattle.eg_model.specs.History.{Setting, Entry, drives, Moment}
use Rattle.eg_model.specs.Paths.{both_conduct}
use Rattle.eg_model.specs.Level1.{last_world}
use Rattle.eg_model.specs.Moments.{moment_in}
use Rattle.eg_model.specs.Spans.{kind_at, before_at, moment_at, next_after, moments, next}
use Rattle.eg_model.specs.Engines.{BenchEngine, gasoline}
use Rattle.eg_model.specs.Bench.{Run, no_drive, stepped, engine_after, shown_at, drive_at, slices_at, entry_at, moments_to, entries_to}
use Rattle.eg_model.specs.Rows.{row_of, first_trap, record_rows, record_trap}
use Rattle.eg_model.specs.Records.{row_at, rows_to}
use Rattle.eg_model.proofs.SpanLemmas.{commands}
use Rattle.eg_model.proofs.RecordTicks.{length-entries, length-moments_to, records_are_histories}
use Rattle.eg_tick.specs.Benched.{ComeTo, ShowsAs, StepsAs}
use Rattle.eg_tick.specs.Kept.{ControllerParts}
use Rattle.eg_tick.specs.Stands.{Stands}
use Rattle.eg_tick.specs.Advancing.{effects_after, entry_of, world_before}
use Rattle.eg_tick.specs.Weights.{TickCount, weight_of}
use Rattle.eg_tick.specs.Run.{run_by, IsAt, IsRecordOf}

-- ---- the tick of a run on the bench ----

module _ {S E : Type 0} (b : BenchEngine S) (come_to : ComeTo S E) (r : Run) (t : ℕ) (old new : ControllerParts E)
    (at : IsAt b come_to r t old) (drive : DriveRow) (slices : List ℕ) (drives-at : drive_at r t ≡ drive) (sliced : slices ≡ slices_at r t) where
  s : Setting
  s = r.setting

  plant : PlantParts
  plant = r.setting.cal.plant

  h : List Entry
  h = entries_to b r t

  past : List Moment
  past = moments_to b r t

  past-is : past ≡ moments s h
  unfolding s h past
  past-is = records_are_histories b r t

  length-past : length past ≡ t
  unfolding past
  length-past = length-moments_to b r t

  state : S
  state = engine_after b s past

  -- the entry of the tick on the bench
  e : Entry
  e = entry_at b r t past

  -- what it begins with: its world, whether the stages are on, and where the plate is held
  world : World
  world = last_world (before_at drive past)

  on : Bool
  on = drives (kind_at drive past) && both_conduct (effects s.fault t) (before_at drive past)

  held : Option ℕ
  held = (effects s.fault t).held_plate

  -- the step that a controller's tick tells of is that of the bench
  module _ (Shows : E → Shown) (shows_as : ShowsAs b come_to Shows)
      (Steps : E → ℕ → ℕ → Bool → Option ℕ → E → Type 0) (steps_as : StepsAs b come_to Steps)
      (steps : Steps old.engine (world_before r.setting drive (entries_to b r t)).throttle
      (world_before r.setting drive (entries_to b r t)).ignition
      (next r.setting (entry_of drive slices new.kept.shown) (entries_to b r t)).on
      (effects_after r.setting (entries_to b r t)).held_plate new.engine)
      (shows : new.kept.shown ≡ Shows new.engine) where
    world-same : world_before s drive h ≡ world
    unfolding world_before world
    world-same = ap (λ p. last_world (before_at drive p)) (sym past-is)

    effects-same : effects_after s h ≡ effects s.fault t
    unfolding s h effects_after
    effects-same = ap (effects r.setting.fault) (length-entries b r t)

    on-same : (next s (entry_of drive slices new.kept.shown) h).on ≡ on
    unfolding on next next_after moment_at moment_in entry_of
    on-same = ap (λ p. drives (kind_at drive p) && both_conduct (effects s.fault (length p)) (before_at drive p)) (sym past-is)
        ∙ ap (λ n. drives (kind_at drive past) && both_conduct (effects s.fault n) (before_at drive past)) length-past

    -- the engine after a step from the state of the bench
    after_step : World → Bool → Option ℕ → E
    after_step w o k = come_to plant (b.step plant state w.throttle w.ignition o k)

    engine-is : new.engine ≡ after_step world on held
    unfolding s plant h past state held after_step
    engine-is = steps_as plant state _ _ _ _ new.engine
        (subst (λ g. Steps g (world_before s drive h).throttle (world_before s drive h).ignition
        (next s (entry_of drive slices new.kept.shown) h).on (effects_after s h).held_plate new.engine) at.engine steps)
        ∙ ap (λ (w : World). after_step w (next s (entry_of drive slices new.kept.shown) h).on (effects_after s h).held_plate) world-same
        ∙ ap₂ (λ o (x : Effects). after_step world o x.held_plate) on-same effects-same

    shown-is : new.kept.shown ≡ shown_at b s (effects s.fault t) drive past
    unfolding s plant state after_step world on held shown_at stepped
    shown-is = shows ∙ ap Shows engine-is ∙ shows_as plant _

    entry-is : entry_of drive slices new.kept.shown ≡ e
    unfolding s past e entry_of entry_at
    entry-is = ap (λ d. entry_of d slices new.kept.shown) (sym drives-at)
        ∙ ap (λ l. entry_of (drive_at r t) l new.kept.shown) sliced
        ∙ ap (entry_of (drive_at r t) (slices_at r t))
        (shown-is ∙ ap (λ d. shown_at b s (effects s.fault t) d past) (sym drives-at))

    -- the engine of the bench has made the same step
    next_engine : (d : DriveRow) → drive_at r t ≡ d →
        engine_after b s (next_after s e past ∷ past)
        ≡ b.step s.cal.plant (engine_after b s past) (last_world (before_at d past)).throttle (last_world (before_at d past)).ignition
        (drives (kind_at d past) && both_conduct (effects s.fault t) (before_at d past)) (effects s.fault t).held_plate
    unfolding engine_after stepped next_after moment_at moment_in e entry_at
    next_engine d is =
        ap (λ (w : World). b.step s.cal.plant (engine_after b s past) w.throttle w.ignition (next_after s e past).on
        (effects s.fault (length past)).held_plate) (commands (drive_at r t) past)
        ∙ ap (λ n. b.step s.cal.plant (engine_after b s past) (last_world (before_at (drive_at r t) past)).throttle
        (last_world (before_at (drive_at r t) past)).ignition
        (drives (kind_at (drive_at r t) past) && both_conduct (effects s.fault n) (before_at (drive_at r t) past)) (effects s.fault n).held_plate)
        length-past
        ∙ ap (λ row. b.step s.cal.plant (engine_after b s past) (last_world (before_at row past)).throttle
        (last_world (before_at row past)).ignition (drives (kind_at row past) && both_conduct (effects s.fault t) (before_at row past)) (effects s.fault t).held_plate) is

    engine-next : after_step world on held ≡ come_to r.setting.cal.plant (engine_after b r.setting (moments_to b r (suc t)))
    unfolding s plant past state after_step world on held e moments_to
    engine-next = ap (come_to s.cal.plant) (sym (next_engine drive drives-at))

    at_suc : Stands r.setting new.kept (entry_of drive slices new.kept.shown ∷ entries_to b r t) → IsAt b come_to r (suc t) new
    unfolding s past e entries_to
    at_suc stands = record {
      stands = subst (λ entry. Stands r.setting new.kept (entry ∷ entries_to b r t)) entry-is stands;
      engine = engine-is ∙ engine-next;
    }

    pub next_at : Stands r.setting new.kept (entry_of drive slices new.kept.shown ∷ entries_to b r t) → IsAt b come_to r (t + 1) new
    next_at stands = subst (λ n. IsAt b come_to r n new) (one_more t) (at_suc stands)
      where
        one_more : (t : ℕ) → suc t ≡ t + 1
        one_more t = omega arith

    pub next_row : (row : Row) →
        row ≡ row_of (length (entries_to b r t)) (next r.setting (entry_of drive slices new.kept.shown) (entries_to b r t)) →
        row ≡ row_at b r t
    unfolding s h past e next row_at
    next_row row is = is
        ∙ ap (λ entry. row_of (length (entries_to b r t)) (next_after r.setting entry (moments r.setting (entries_to b r t)))) entry-is
        ∙ ap₂ (λ n before. row_of n (next_after r.setting (entry_at b r t (moments_to b r t)) before))
        (length-entries b r t) (sym past-is)

-- ---- how a run begins ----

pub started : {S E F : Type 0} (b : BenchEngine S) (come_to : ComeTo S E) (cal cal' : CalibrationParts) (image : List ℕ) (fault fault' : Option Fault)
    (engine : E) → cal' ≡ cal → fault' ≡ fault → engine ≡ come_to cal.plant (b.rest cal.plant) →
    (made : Result (ControllerParts E) F) →
    IfOk made (λ c. Stands (record { cal = cal'; image = image; fault = fault' }) c.kept []) →
    IfOk made (λ c. c.engine ≡ engine) →
    IfOk made (λ c. (plan : List (List ℕ)) (drive : List DriveRow) → IsAt b come_to (run_by cal image fault plan drive) 0 c)
started b come_to cal cal' image fault fault' engine same same' still (Err e) stands is = stands
started b come_to cal cal' image fault fault' engine same same' still (Ok c) stands is = λ plan drive. record {
  stands = unfold entries_to in
      subst (λ k. Stands (record { cal = k; image = image; fault = fault }) c.kept []) same
      (subst (λ f. Stands (record { cal = cal'; image = image; fault = f }) c.kept []) same' stands);
  engine = unfold moments_to engine_after in is ∙ still;
}

-- ---- what a run is asked ----

-- the drive row of a tick within the drive
pub drive-at : (r : Run) (drive : List DriveRow) (t : ℕ) (row : DriveRow) → r.drive ≡ drive → t < length drive →
    row ≡ slice_index_or drive t row → drive_at r t ≡ row
unfolding drive_at
drive-at r drive t row is within at = ap (λ d. slice_index_or d t no_drive) is ∙ same drive t no_drive row within ∙ sym at
  where
    same : (rows : List DriveRow) (i : ℕ) (a b : DriveRow) → i < length rows → slice_index_or rows i a ≡ slice_index_or rows i b
    same [] i a b l = absurd (omega arith)
    same (first ∷ rest) zero a b l = refl
    same (first ∷ rest) (suc i) a b l = same rest i a b (omega arith)

-- the slice row of a tick
pub slices-at : (r : Run) (plan : List (List ℕ)) (t : ℕ) (row : List ℕ) → r.plan ≡ plan →
    row ≡ slice_index_or plan (t % length plan) [] → row ≡ slices_at r t
unfolding slices_at
slices-at r plan t row is at = at ∙ ap (λ p. slice_index_or p (t % length p) []) (sym is)

pub recorded : {E : Type 0} (come_to : ComeTo Gasoline E) (r : Run) (c : ControllerParts E) (rows : List Row) (trap : Option (Trap × ℕ)) →
    IsAt gasoline come_to r (length r.drive) c → rows ≡ reverse (rows_to gasoline r (length r.drive)) → trap ≡ c.kept.trap → IsRecordOf r rows trap
recorded come_to r c rows trap at are is = record {
  rows_are = unfold record_rows in (unfold rows_to in are);
  trap_is = unfold record_trap in is ∙ at.stands.trap ∙ ap first_trap (sym (records_are_histories gasoline r (length r.drive)));
  proper = at.stands.engine.proper;
}

-- ---- the counts ----

-- the count after t ticks more, which have these rows
abbrev pub counted : TickCount → ℕ → List Row → TickCount
counted from t rows = record {
  count = (from.count + t) % 2 ^ 64;
  weights = (from.weights + sum (map weight_of rows)) % 2 ^ 64;
}

-- before the first tick
pub counted-none : (from : TickCount) (rows : List Row) → rows ≡ [] → from.count < 2 ^ 64 → from.weights < 2 ^ 64 →
    from ≡ counted from 0 rows
counted-none from rows none count weights = ap₂ both (low from.count count)
    (low from.weights weights) ∙ ap (counted from 0) (sym none)
  where
    both : ℕ → ℕ → TickCount
    both a b = record { count = a; weights = b }

    low : (n : ℕ) → n < 2 ^ 64 → n ≡ (n + 0) % 2 ^ 64
    low n l = sym (ap (λ k. k % 2 ^ 64) (same n) ∙ mod-eq_of_lt l)
      where
        same : (n : ℕ) → n + 0 ≡ n
        same n = omega arith

pub more-mod : (m a n b w : ℕ) → b ≡ (a + n) % m → (b + w) % m ≡ (a + (n + w)) % m
more-mod m a n b w e = ap (λ k. (k + w) % m) e ∙ mod-add-mod (a + n) m w ∙ ap (λ k. k % m) (flat a n w)
  where
    flat : (a n w : ℕ) → a + n + w ≡ a + (n + w)
    flat a n w = omega arith

sum-more : (rows : List Row) (row : Row) → sum (map weight_of (rows ++ row ∷ [])) ≡ sum (map weight_of rows) + weight_of row
sum-more rows row = ap sum (map-append weight_of rows (row ∷ []))
    ∙ fold-append (λ a b. a + b) 0 (map weight_of rows) (weight_of row ∷ [])

pub counted-more : (from old new : TickCount) (t : ℕ) (rows : List Row) (row : Row) → old ≡ counted from t rows →
    new.count ≡ (old.count + 1) % 2 ^ 64 → new.weights ≡ (old.weights + weight_of row) % 2 ^ 64 →
    new ≡ counted from (t + 1) (rows ++ row ∷ [])
counted-more from old new t rows row is count weight = ap₂ both
    (count ∙ more-mod (2 ^ 64) from.count t old.count 1 (ap (λ (k : TickCount). k.count) is))
    (weight ∙ more-mod (2 ^ 64) from.weights (sum (map weight_of rows)) old.weights (weight_of row) (ap (λ (k : TickCount). k.weights) is)
    ∙ ap (λ n. (from.weights + n) % 2 ^ 64) (sym (sum-more rows row)))
  where
    both : ℕ → ℕ → TickCount
    both a b = record { count = a; weights = b }
