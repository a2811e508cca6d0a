-- Runs on the bench of which one has another level 1: while the two outputs are equal, so is all but level 1.
use Rattle.std.proofs.Common.{◌≡◌, ◌∙◌, refl, sym, ap, ap₂, ℕ, zero, suc, Bool, true, false, ◌||◌, ◌&&◌, List, [], ◌∷◌, ◌++◌, map, length}
use Rattle.std.specs.Prelude.{if◌then◌else◌}
use Rattle.std.proofs.lemmas.List.{length-map}
use Rattle.eg_num.specs.Drive.{DriveRow}
use Rattle.eg_fault.specs.Faults.{effects}
use Rattle.eg_record.specs.declared.row.Row.{Row}
use Rattle.eg_word.specs.World.{new_world}
use Rattle.eg_model.specs.History.{Setting, drives, Moment}
use Rattle.eg_model.specs.Level1.{last_world}
use Rattle.eg_model.specs.Spans.{span_so_far, has_passed, before_at, next_after}
use Rattle.eg_model.specs.Engines.{BenchEngine}
use Rattle.eg_model.specs.Bench.{Run, stepped, engine_after, shown_at, drive_at, entry_at, moments_to}
use Rattle.eg_model.specs.Rows.{row_of, rows_of, record_rows}
use Rattle.eg_model.specs.Records.{rows_to}
use Rattle.eg_model.specs.Outputs.{with_level1, without_slices, without_level1, without_outputs, outputs_of, RecordsActByOutputs, RecordsFollowOutputs}
use Rattle.eg_model.proofs.RecordTicks.{no_rows, front, record_rows-is}
use Rattle.eg_model.proofs.TickLemmas.{parts_of, nothing}
use Rattle.eg_model.proofs.OutputLaws.{length-bare, length-alike, passed-alike, kind-alike, before-alike, on-alike, next-alike}

-- ---- the two outputs after the last of some ticks ----

unfoldable outputs : List Moment → ℕ × ℕ
outputs past = ((last_world past).throttle, (last_world past).ignition)

outputs-span : (past : List Moment) → outputs (span_so_far past) ≡ outputs past
unfolding outputs span_so_far last_world
outputs-span [] = refl
outputs-span (m ∷ past) = refl

-- they are 0 where nothing is left of these ticks
left : (b : Bool) (past others : List Moment) → outputs past ≡ outputs others →
    outputs (if b then [] else past) ≡ outputs (if b then [] else others)
left true past others same = refl
left false past others same = same

outputs-before : (drive : DriveRow) (past others : List Moment) → map without_level1 past ≡ map without_level1 others →
    outputs past ≡ outputs others → outputs (before_at drive past) ≡ outputs (before_at drive others)
unfolding before_at
outputs-before drive past others alike same =
    ap (λ p. outputs (if drive.reset || p then [] else span_so_far past)) (passed-alike past others alike)
    ∙ left (drive.reset || has_passed others) (span_so_far past) (span_so_far others)
    (outputs-span past ∙ same ∙ sym (outputs-span others))

-- ---- rows ----

rows-bare : (past : List Moment) → rows_of (map without_level1 past) ≡ map without_outputs (rows_of past)
unfolding rows_of row_of without_level1 without_slices without_outputs new_world
rows-bare [] = refl
rows-bare (m ∷ past) = ap₂ (λ n rows. row_of n (without_level1 m) ∷ rows) (length-bare past) (rows-bare past)

rows-alike : (past others : List Moment) → map without_level1 past ≡ map without_level1 others →
    map without_outputs (rows_of past) ≡ map without_outputs (rows_of others)
rows-alike past others alike = sym (rows-bare past) ∙ ap rows_of alike ∙ rows-bare others

length-outputs : (rows : List Row) → length (outputs_of rows) ≡ length rows
unfolding outputs_of
length-outputs rows = length-map rows (λ row. (row.throttle, row.ignition))

-- a row is made of the rest of it and its outputs
unfoldable with_outputs : Row → ℕ × ℕ → Row
with_outputs row pair = record row { throttle = pair.0; ignition = pair.1 }

with_all : (rows others : List Row) → map without_outputs rows ≡ map without_outputs others →
    outputs_of rows ≡ outputs_of others → rows ≡ others
unfolding outputs_of with_outputs without_outputs
with_all [] [] rest same = refl
with_all [] (other ∷ others) rest same = absurd (nothing rest)
with_all (row ∷ rows) [] rest same = absurd (nothing (sym rest))
with_all (row ∷ rows) (other ∷ others) rest same =
    ap₂ (λ x xs. x ∷ xs) (ap₂ with_outputs (parts_of rest).0 (parts_of same).0)
    (with_all rows others (parts_of rest).1 (parts_of same).1)

-- ---- two runs of which one has another level 1 ----

-- these ticks of both runs are the same but for level 1, and the engine after them is the same
record Alike {E : Type 0} (b : BenchEngine E) (s t : Setting) (past others : List Moment) : Type 0 where
  pub moments : map without_level1 past ≡ map without_level1 others
  pub engine : engine_after b s past ≡ engine_after b t others

module _ {E : Type 0} (b : BenchEngine E) (r : Run) (image : List ℕ) (plan : List (List ℕ)) where
  abbrev s : Setting
  s = r.setting

  -- the run with the other level 1
  abbrev q : Run
  q = with_level1 image plan r

  -- what comes in next is the same but for the slices
  entry-alike : (t : ℕ) (past others : List Moment) → Alike b s q.setting past others → outputs past ≡ outputs others →
      without_slices (entry_at b r t past) ≡ without_slices (entry_at b q t others)
  unfolding entry_at shown_at stepped outputs drive_at without_slices
  entry-alike t past others alike same = λ i. record {
    drive = drive_at r t;
    slices = [];
    shown = b.shows (b.step s.cal.plant (alike.engine i)
        (outputs-before (drive_at r t) past others alike.moments same i).0
        (outputs-before (drive_at r t) past others alike.moments same i).1
        (drives (kind-alike past others alike.moments (drive_at r t) i)
        && on-alike (before_at (drive_at r t) past) (before_at (drive_at r t) others)
        (before-alike past others alike.moments (drive_at r t)) (effects s.fault t) i)
        (effects s.fault t).held_plate);
  }

  commanded : (m other : Moment) (past others : List Moment) → without_level1 m ≡ without_level1 other →
      outputs past ≡ outputs others →
      outputs (if m.fresh then [] else past) ≡ outputs (if other.fresh then [] else others)
  unfolding without_level1
  commanded m other past others one same =
      ap (λ x. outputs (if x.fresh then [] else past)) one ∙ left other.fresh past others same

  -- so is the engine after one tick more
  engine-alike : (m other : Moment) (past others : List Moment) → without_level1 m ≡ without_level1 other →
      Alike b s q.setting past others → outputs past ≡ outputs others →
      engine_after b s (m ∷ past) ≡ engine_after b q.setting (other ∷ others)
  unfolding engine_after stepped outputs without_level1
  engine-alike m other past others one alike same = λ i.
      b.step s.cal.plant (alike.engine i) (commanded m other past others one same i).0
      (commanded m other past others one same i).1 (one i).on
      (effects s.fault (length-alike past others alike.moments i)).held_plate

  step : (t : ℕ) (past others : List Moment) → Alike b s q.setting past others → outputs past ≡ outputs others →
      Alike b s q.setting (next_after s (entry_at b r t past) past ∷ past)
      (next_after q.setting (entry_at b q t others) others ∷ others)
  step t past others alike same = record {
    moments = ap₂ (λ m ms. m ∷ ms) now alike.moments;
    engine = engine-alike (next_after s (entry_at b r t past) past) (next_after q.setting (entry_at b q t others) others)
        past others now alike same;
  }
    where
      now : without_level1 (next_after s (entry_at b r t past) past)
          ≡ without_level1 (next_after q.setting (entry_at b q t others) others)
      now = next-alike s image (entry_at b r t past) (entry_at b q t others) past others
          (entry-alike t past others alike same) alike.moments

  -- equal outputs of one tick more: after that tick, and after those before it
  outputs_split : (n : ℕ) → outputs_of (rows_to b r (suc n)) ≡ outputs_of (rows_to b q (suc n)) →
      (outputs (moments_to b r (suc n)) ≡ outputs (moments_to b q (suc n)))
      × (outputs_of (rows_to b r n) ≡ outputs_of (rows_to b q n))
  unfolding moments_to rows_to outputs_of rows_of row_of outputs last_world
  outputs_split n same = parts_of same

  -- where the outputs after each of the first n ticks are equal, one tick more is the same but for level 1
  alike : (n : ℕ) → outputs_of (rows_to b r n) ≡ outputs_of (rows_to b q n) →
      Alike b s q.setting (moments_to b r (suc n)) (moments_to b q (suc n))
  unfolding moments_to engine_after
  alike zero same = step zero [] [] (record { moments = refl; engine = refl }) refl
  alike (suc n) same = step (suc n) (moments_to b r (suc n)) (moments_to b q (suc n))
      (alike n (outputs_split n same).1) (outputs_split n same).0

  rows_to-alike : (n : ℕ) → outputs_of (rows_to b r n) ≡ outputs_of (rows_to b q n) →
      map without_outputs (rows_to b r (suc n)) ≡ map without_outputs (rows_to b q (suc n))
  rows_to-alike n same = unfold rows_to in
      rows-alike (moments_to b r (suc n)) (moments_to b q (suc n)) (alike n same).moments

  -- where they are equal at each of these ticks, the rows are the same
  rows_to-same : (n : ℕ) → outputs_of (rows_to b r n) ≡ outputs_of (rows_to b q n) → rows_to b r n ≡ rows_to b q n
  rows_to-same zero same = no_rows b r ∙ sym (no_rows b q)
  rows_to-same (suc n) same =
      with_all (rows_to b r (suc n)) (rows_to b q (suc n)) (rows_to-alike n (outputs_split n same).1) same

-- ---- records ----

module _ {E : Type 0} (b : BenchEngine E) where
  -- a row of a record with those before it, and those before it
  up_to : (r : Run) (later : List Row) (row : Row) (before : List Row) → record_rows b r ≡ later ++ row ∷ before →
      row ∷ before ≡ rows_to b r (suc (length before))
  up_to r later row before is = front b r (length r.drive) later (row ∷ before) (sym (record_rows-is b r) ∙ is)

  below : (r : Run) (later : List Row) (row : Row) (before : List Row) → record_rows b r ≡ later ++ row ∷ before →
      before ≡ rows_to b r (length before)
  below r later row before is = front b r (suc (length before)) (row ∷ []) before (sym (up_to r later row before is))

  pub records_act_by_outputs : RecordsActByOutputs b
  records_act_by_outputs r image plan later before other_later other_before row other is others_are same =
      ap (map without_outputs) (up_to r later row before is)
      ∙ rows_to-alike b r image plan (length before) outputs_are
      ∙ ap (λ n. map without_outputs (rows_to b (with_level1 image plan r) (suc n))) long
      ∙ sym (ap (map without_outputs) (up_to (with_level1 image plan r) other_later other other_before others_are))
    where
      long : length before ≡ length other_before
      long = sym (length-outputs before) ∙ ap length same ∙ length-outputs other_before

      outputs_are : outputs_of (rows_to b r (length before)) ≡ outputs_of (rows_to b (with_level1 image plan r) (length before))
      outputs_are = ap outputs_of (sym (below r later row before is)) ∙ same
          ∙ ap outputs_of (below (with_level1 image plan r) other_later other other_before others_are)
          ∙ ap (λ n. outputs_of (rows_to b (with_level1 image plan r) n)) (sym long)

  pub records_follow_outputs : RecordsFollowOutputs b
  records_follow_outputs r image plan same =
      record_rows-is b r
      ∙ rows_to-same b r image plan (length r.drive)
      (ap outputs_of (sym (record_rows-is b r)) ∙ same ∙ ap outputs_of (record_rows-is b (with_level1 image plan r)))
      ∙ sym (record_rows-is b (with_level1 image plan r))
