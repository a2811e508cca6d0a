-- The rows of a record show its run.
use Rattle.std.proofs.Common.{◌≡◌, ◌∙◌, refl, sym, ap, ap₂, subst, ℕ, zero, suc, ◌≤◌, ◌==◌, Bool, true, false, ◌&&◌, List, [], ◌∷◌, All, map, reverse, take, length, slice_index_or, ◌||◌, Option, if◌then◌else◌, arith}
use Rattle.std.proofs.Math.Seq.{take-suc, take-length}
use Rattle.std.proofs.lemmas.Bool.{false≢true, ne_eqb, false_from_ne_true}
use Rattle.std.proofs.lemmas.List.{reverse-append}
use Rattle.std.proofs.lemmas.List.Elements.{All-nil, All-cons}
use Rattle.eg_num.specs.Drive.{DriveRow}
use Rattle.eg_torque.specs.Ramp.{ramped}
use Rattle.eg_fault.specs.declared.class.Fault.{Fault}
use Rattle.eg_fault.specs.declared.paths.TheConstants.{PATH_1, PATH_2}
use Rattle.eg_fault.specs.Effects.{no_effects}
use Rattle.eg_fault.specs.Faults.{effects}
use Rattle.eg_fault.proofs.ActingLemmas.{of_all}
use Rattle.eg_fault.proofs.ClassLemmas.{ConductsMore, more_class}
use Rattle.eg_record.specs.declared.row.Row.{Row}
use Rattle.eg_word.specs.World.{World, new_world}
use Rattle.eg_model.specs.History.{Setting, Entry, drives, Moment}
use Rattle.eg_model.specs.Level1.{last_world}
use Rattle.eg_model.specs.Moments.{demand_at, last_limit, limit_at, moment_in}
use Rattle.eg_model.specs.Paths.{latch1, latch2, path1_at, path2_at, both_conduct}
use Rattle.eg_model.specs.Spans.{span_so_far, has_passed, kind_at, before_at, moment_at, next_after, moments, next}
use Rattle.eg_model.specs.Premises.{IsProperRun}
use Rattle.eg_model.specs.Engines.{BenchEngine, KeepsBenchLaws}
use Rattle.eg_model.specs.Bench.{Run, no_drive, stepped, engine_after, shown_at, drive_at, entry_at, moments_to, entries_to}
use Rattle.eg_model.specs.Rows.{row_of, rows_of, record_rows}
use Rattle.eg_laws.specs.Showing.{commands_at, engine_by, limit_before, ArePermitted, ShowEngine, RecordsShowRuns}
use Rattle.eg_model.proofs.SpanLemmas.{commands}
use Rattle.eg_model.proofs.RecordTicks.{length-moments_to, records_are_histories}
use Rattle.eg_model.proofs.RecordLaws.{proper_under, each_row}
use Rattle.eg_model.proofs.WholeRecord.{are_rows}
use Rattle.eg_plant.specs.PlantParts.{PlantParts}

-- ---- over the moments of any run ----

abbrev HasNoTorque : Row → Type 0
HasNoTorque row = row.on ≡ false → row.torque ≡ 0

-- the permitted torque before a tick stands in the row before it, and is 0 at the first tick of a span
limit_was : (row : Row) (drive : DriveRow) (past : List Moment) → row.fresh ≡ (length (before_at drive past) == 0) →
    last_limit (before_at drive past) ≡ limit_before row (rows_of past)
unfolding before_at span_so_far last_limit limit_before rows_of row_of
limit_was row drive [] fresh = go (drive.reset || has_passed [])
  where
    go : (begins : Bool) → last_limit (if begins then [] else []) ≡ 0
    go true = refl
    go false = refl
limit_was row drive (m ∷ past) fresh = go (drive.reset || has_passed (m ∷ past)) fresh
  where
    go : (begins : Bool) → row.fresh ≡ (length (if begins then [] else span_so_far (m ∷ past)) == 0) →
        last_limit (if begins then [] else span_so_far (m ∷ past)) ≡ (if row.fresh then 0 else m.limit)
    go true is = rw is refl
    go false is = rw (is ∙ ne_eqb (length (span_so_far (m ∷ past))) 0 (λ f. omega arith)) refl

pub permitted : (s : Setting) (h : List Entry) → ArePermitted s.cal (rows_of (moments s h))
unfolding moments rows_of row_of next_after moment_at moment_in limit_at ArePermitted
permitted s [] = tt
permitted s (e ∷ h) = (
  ap (λ before. ramped s.cal.rules.fall before (demand_at s.cal e.drive))
      (limit_was (row_of (length (moments s h)) (next_after s e (moments s h))) e.drive (moments s h) refl),
  permitted s h,
)

no_torque : (s : Setting) (h : List Entry) → IsProperRun s h → All HasNoTorque (rows_of (moments s h))
unfolding moments rows_of row_of next next_after moment_at moment_in IsProperRun
no_torque s [] proper = All-nil HasNoTorque
no_torque s (e ∷ h) proper = All-cons HasNoTorque (row_of (length (moments s h)) (next_after s e (moments s h))) (rows_of (moments s h))
    proper.0.no_torque (no_torque s h proper.1)

-- under every fault what conducts with its latch open conducts with it closed
conducts_more : (fault : Option Fault) (tick : ℕ) → ConductsMore (effects fault tick)
unfolding no_effects
conducts_more fault tick = of_all ConductsMore (λ path is. refl) more_class fault tick

conducts_forced : (fault : Option Fault) (tick path : ℕ) (state is_open : Bool) →
    (effects fault tick).conducts path state ≡ state → (effects fault tick).conducts path is_open ≡ state
conducts_forced fault tick path true true is = is
conducts_forced fault tick path true false is = conducts_more fault tick path is
conducts_forced fault tick path false false is = is
conducts_forced fault tick path false true is =
    false_from_ne_true _ (λ more. false≢true (sym is ∙ conducts_more fault tick path more))

-- where the fault alone says whether a path conducts, its column says the same
abbrev IsForced : ℕ → (Row → Bool) → Bool → Setting → Row → Type 0
IsForced path column state s row = (effects s.fault row.tick).conducts path state ≡ state → column row ≡ state

forced : (path : ℕ) (column : Row → Bool) (latch : List Moment → Bool) (state : Bool) (s : Setting) →
    ((e : Entry) (h : List Entry) → column (row_of (length (moments s h)) (next_after s e (moments s h))) ≡
    (effects s.fault (length (moments s h))).conducts path (latch (before_at e.drive (moments s h)))) →
    (h : List Entry) → All (IsForced path column state s) (rows_of (moments s h))
unfolding row_of
forced path column latch state s reads = each_row (IsForced path column state s) s
    (λ e h is. reads e h ∙ conducts_forced s.fault (length (moments s h)) path state (latch (before_at e.drive (moments s h))) is)

abbrev Forced1 : Bool → Setting → Row → Type 0
Forced1 = IsForced PATH_1 (λ row. row.path1)

abbrev Forced2 : Bool → Setting → Row → Type 0
Forced2 = IsForced PATH_2 (λ row. row.path2)

forced1 : (state : Bool) (s : Setting) (h : List Entry) → All (Forced1 state s) (rows_of (moments s h))
unfolding row_of next_after moment_at moment_in path1_at
forced1 state s = forced PATH_1 (λ row. row.path1) latch1 state s (λ e h. refl)

forced2 : (state : Bool) (s : Setting) (h : List Entry) → All (Forced2 state s) (rows_of (moments s h))
unfolding row_of next_after moment_at moment_in path2_at
forced2 state s = forced PATH_2 (λ row. row.path2) latch2 state s (λ e h. refl)

-- the two outputs of level 1's world
abbrev outputs : World → ℕ × ℕ
outputs w = (w.throttle, w.ignition)

abbrev no_outputs : ℕ × ℕ
no_outputs = (0, 0)

-- ---- on the bench ----

module _ {E : Type 0} (b : BenchEngine E) where
  driven_to : (r : Run) (n : ℕ) → n ≤ length r.drive → map (λ row. row.drive) (rows_of (moments_to b r n)) ≡ reverse (take n r.drive)
  unfolding moments_to rows_of row_of next_after moment_at moment_in entry_at drive_at
  driven_to r zero within = refl
  driven_to r (suc n) within = ap (λ rows. drive_at r n ∷ rows) (driven_to r n (omega arith))
      ∙ sym (ap reverse (take-suc r.drive n no_drive (omega arith)) ∙ reverse-append (take n r.drive) (slice_index_or r.drive n no_drive ∷ []))

  pub driven : (r : Run) → map (λ row. row.drive) (record_rows b r) ≡ reverse r.drive
  unfolding record_rows
  driven r = driven_to r (length r.drive) (omega arith) ∙ ap reverse (take-length r.drive)

  -- the engine by the rows is that of the run
  commands_are : (m : Moment) (past : List Moment) →
      commands_at (row_of (length past) m) (rows_of past) ≡ outputs (last_world (if m.fresh then [] else past))
  unfolding commands_at rows_of row_of last_world new_world
  commands_are m [] = go m.fresh
    where
      go : (b : Bool) → no_outputs ≡ outputs (last_world (if b then [] else []))
      go true = refl
      go false = refl
  commands_are m (last ∷ past) = go m.fresh
    where
      go : (b : Bool) → (if b then no_outputs else outputs last.world) ≡ outputs (last_world (if b then [] else last ∷ past))
      go true = refl
      go false = refl

  engine_is : (s : Setting) (past : List Moment) → engine_by b s (rows_of past) ≡ engine_after b s past
  unfolding engine_by engine_after stepped rows_of row_of
  engine_is s [] = refl
  engine_is s (m ∷ past) = ap₂ (λ e (w : ℕ × ℕ). b.step s.cal.plant e w.0 w.1 m.on (effects s.fault (length past)).held_plate)
      (engine_is s past) (commands_are m past)

  -- and what comes in at a tick is what it shows then
  shown_is : (r : Run) (t : ℕ) → (entry_at b r t (moments_to b r t)).shown ≡
      b.shows (engine_after b r.setting (next_after r.setting (entry_at b r t (moments_to b r t)) (moments_to b r t) ∷ moments_to b r t))
  unfolding entry_at shown_at engine_after stepped next_after moment_at moment_in
  shown_is r t = ap₂ (λ (w : World) n. b.shows (b.step r.setting.cal.plant (engine_after b r.setting past) w.throttle w.ignition
      (drives (kind_at (drive_at r t) past) && both_conduct (effects r.setting.fault n) (before_at (drive_at r t) past))
      (effects r.setting.fault n).held_plate)) (sym (commands (drive_at r t) past)) (sym (length-moments_to b r t))
    where
      past : List Moment
      past = moments_to b r t

  show_engine : (r : Run) (n : ℕ) → ShowEngine b r.setting (rows_of (moments_to b r n))
  unfolding moments_to rows_of row_of next_after moment_at moment_in
  show_engine r zero = tt
  show_engine r (suc t) = (record { plate = ap (λ w. w.position) is; charge = ap (λ w. w.load_1) is; torque = ap (λ w. w.torque) is }, show_engine r t)
    where
      now : Moment
      now = next_after r.setting (entry_at b r t (moments_to b r t)) (moments_to b r t)

      is : (entry_at b r t (moments_to b r t)).shown ≡ b.shows (engine_by b r.setting (rows_of (now ∷ moments_to b r t)))
      is = shown_is r t ∙ ap b.shows (sym (engine_is r.setting (now ∷ moments_to b r t)))

  pub shows_engine : (r : Run) → ShowEngine b r.setting (record_rows b r)
  unfolding record_rows
  shows_engine r = show_engine r (length r.drive)

  pub permitted_rows : (r : Run) → ArePermitted r.setting.cal (record_rows b r)
  unfolding record_rows
  permitted_rows r = subst (λ past. ArePermitted r.setting.cal (rows_of past)) (sym (records_are_histories b r (length r.drive)))
      (permitted r.setting (entries_to b r (length r.drive)))

  -- what holds of the rows of every list of entries holds of those of a record
  of_entries : (P : Row → Type 0) (r : Run) → All P (rows_of (moments r.setting (entries_to b r (length r.drive)))) → All P (record_rows b r)
  unfolding record_rows
  of_entries P r each = subst (λ past. All P (rows_of past)) (sym (records_are_histories b r (length r.drive))) each

module _ {E : Type 0} {b : BenchEngine E} {Keeps : PlantParts → E → Type 0} (keeps : KeepsBenchLaws b Keeps) where
  pub records_show_runs : RecordsShowRuns b
  records_show_runs r run valid = record {
    numbered = are_rows b r;
    driven = driven b r;
    permitted = permitted_rows b r;
    no_torque = of_entries b HasNoTorque r (no_torque r.setting (entries_to b r (length r.drive)) (proper_under keeps r run valid (length r.drive)));
    engine = shows_engine b r;
    closed1 = of_entries b (Forced1 true r.setting) r (forced1 true r.setting (entries_to b r (length r.drive)));
    closed2 = of_entries b (Forced2 true r.setting) r (forced2 true r.setting (entries_to b r (length r.drive)));
    open1 = of_entries b (Forced1 false r.setting) r (forced1 false r.setting (entries_to b r (length r.drive)));
    open2 = of_entries b (Forced2 false r.setting) r (forced2 false r.setting (entries_to b r (length r.drive)));
  }
