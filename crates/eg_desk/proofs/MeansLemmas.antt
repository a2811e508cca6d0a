-- What the numbers of `coverage` mean, by the rows of records.
use Rattle.std.proofs.Common.{◌≡◌, ◌≢◌, ◌∙◌, refl, sym, ap, subst, ℕ, ◌+◌, ◌-◌, ◌≤◌, ◌<◌, Bool, true, false, not, ◌&&◌, ◌||◌, max, List, [], ◌∷◌, ◌++◌, All, length, append_assoc, arith, inl, inr, Option, Some, None}
use Rattle.std.specs.Prelude.{◌==◌, SomeIff, if◌then◌else◌}
use Rattle.std.specs.List.{list_any}
use Rattle.std.proofs.lemmas.Bool.{cases_lt, eq-eqb, ne_eqb, or_left, or_right, and_from, and_parts, true≢false}
use Rattle.eg_answer.specs.Times.{feeds_to_confirm, reaction_of, test_ticks_of}
use Rattle.eg_values.specs.Calibration.{CalibrationParts}
use Rattle.eg_values.specs.Excess.{BoundsMissed, longest_missed}
use Rattle.eg_plant.specs.PlantParts.{PlantParts}
use Rattle.eg_fault.specs.Effects.{Effects, no_effects}
use Rattle.eg_fault.specs.Faults.{effects_of, effects, is_lapse, IsValid, IsValidClass, IsNoneOrValid, IsListed}
use Rattle.eg_fault.specs.Running.{may_change_levels}
use Rattle.eg_fault.specs.declared.class.Class.{Class}
use Rattle.eg_fault.specs.declared.class.Class.TheVariants as class
use Rattle.eg_fault.specs.declared.class.Fault.{Fault}
use Rattle.eg_fault.specs.Names.{name_of, class_index}
use Rattle.eg_fault.specs.declared.class_name.ClassName.{ClassName}
use Rattle.eg_fault.specs.declared.class_name.ClassName.TheVariants as name
use Rattle.eg_fault.specs.declared.paths.TheConstants.{PATH_1, PATH_2}
use Rattle.eg_fault.proofs.ActingLemmas.{of_class, from_onset}
use Rattle.eg_record.specs.declared.row.Row.{Row}
use Rattle.eg_record.specs.Spans.{EachDriveSpan, EachTestSpan}
use Rattle.eg_model.specs.History.{Setting}
use Rattle.eg_model.specs.Lapses.{IsLapse}
use Rattle.eg_model.specs.Reaction.{is_at_once, spoils_answers}
use Rattle.eg_model.specs.Rows.{record_rows}
use Rattle.eg_model.specs.Engines.{BenchEngine, KeepsBenchLaws, ShowsOneLoad, bench_of}
use Rattle.eg_laws.proofs.KindLaws.{keeps_of, shows_one_load_of}
use Rattle.eg_model.specs.Bench.{Run}
use Rattle.eg_model.specs.Records.{IsRun, ExcessIsBelow}
use Rattle.eg_model.proofs.SpanRows.{EndOf, end_of}
use Rattle.eg_model.proofs.RecordSpans.{with_part}
use Rattle.eg_model.proofs.RecordLaws.{records_react, records_react_at_once, records_test_unpowered}
use Rattle.eg_laws.specs.Findings.{flips_at}
use Rattle.eg_laws.specs.Paths.{trips, opened_2, FollowsLatches, RowsFollowLatches}
use Rattle.eg_laws.specs.PairsFound.{Pair, Pedal, Plate, Load, Speed, SparesModules}
use Rattle.eg_laws.specs.Coverage.{OpensPath2, SpoiledOpenPath2, MovedAreCut, sends_outside, holds_closed, ClosedAreFound}
use Rattle.eg_laws.proofs.PairsFoundLaws.{disagreeing_rows_are_found}
use Rattle.eg_laws.proofs.PathLaws.{records_follow_latches}
use Rattle.eg_laws.proofs.CoverageRecords.{records_open_path_2, records_cut_moved, records_find_closed}
use Rattle.eg_laws.proofs.FindingRecords.{records_tell_flips}
use Rattle.eg_laws.specs.Availability.{misses_tick}
use Rattle.eg_laws.proofs.MissedStretchLaws.{records_end_missed_stretches}
use Rattle.eg_laws.proofs.MissedTickRecords.{records_open_on_misses}
use Rattle.eg_desk.specs.declared.coverage.CoverageCase.{CoverageCase}
use Rattle.eg_desk.specs.declared.coverage.CoverageCase.TheVariants as case
use Rattle.eg_desk.specs.declared.coverage.CoverageTicks.{CoverageTicks}
use Rattle.eg_desk.specs.declared.coverage.Off.TheVariants.{After, Confirmed}
use Rattle.eg_desk.specs.Coverage.{AreTicks, found, unfound, lapse_off, lapse_numbers, numbers_of}
use Rattle.eg_desk.specs.Means.{SmallOffsetsStay, SmallScriptsStay, MovesStay, on_contact, FindsFlip, FindsClosed, ReactsIn, RowMeans, MeansPedal, MeansApart, MeansUnfound, MeansSpoiled, MeansTested, MeansFoundLapse, MeansHiddenLapse, MeansMissed, NumbersMean, is_of, IsOffFrom, FindsMisses, CutsMisses, FindsAnswersWithin, FindsApart, CutsApart, CutsOrdered}
use Rattle.eg_desk.proofs.MeansRows.{at_row, all_by, any_append, IsBoth, both_paths, off_by_1, off_by_2, Obeys, Runs, obeys_plain, runs_plain, off_after_trip, answers_within, off_within, cuts, mirror_trips, cuts_apart, IsPlaced, placed, react_next}
use Rattle.eg_desk.proofs.MeansClasses.{IsAtOnce, MayRead, by_script, by_offset, spoils_obeys, moved_obeys, MayFlip, may_flip, named_lapse, named_spoils, named_closed, as_swept, at_once, of_swept, wild_obeys, bus_hides, contact_hides, all_hide, all_hide_at_rest, small_offsets_stay, small_scripts_stay, moves_stay, far_misses_stay, one_miss_stays, lapse_of, lapse_obeys}

path_in : (c : Class) → is_of name.PathOpen c ≡ true → (path : ℕ) × (c ≡ class.PathOpen path)
unfolding is_of name_of class_index
path_in (class.PathOpen path) e = (path, refl)
path_in _ e = absurd (true≢false (sym e))

-- ---- each run ----

module _ {E : Type 0} (b : BenchEngine E) (r : Run) (f : Fault) (is : r.setting.fault ≡ Some f) where
  abbrev Rows : List Row
  Rows = record_rows b r

  follow : EachDriveSpan (RowsFollowLatches (Some f)) Rows
  follow = subst (λ g. EachDriveSpan (RowsFollowLatches g) Rows) is (records_follow_latches b r)

  none_or_valid : IsValid f → IsNoneOrValid r.setting.fault
  none_or_valid valid = subst IsNoneOrValid (sym is) (unfold IsNoneOrValid in valid)

  is_listed : IsValid f → is_lapse f.class ≡ false → IsListed r.setting.fault
  is_listed valid listed = subst IsListed (sym is) (unfold IsListed in (valid, listed))

  always : IsAtOnce f.class → (t : ℕ) → is_at_once r.setting.fault t ≡ true
  always once t = ap (λ g. is_at_once g t) is ∙ (unfold is_at_once in once.soon f.onset t)

  under : (P : Effects → Type 0) → P no_effects → ((k : ℕ) → P (effects_of f.class k)) → (t : ℕ) → P (effects (Some f) t)
  under P none each t = of_class P f none each t

  -- where path 2 is open from n ticks after the onset on
  spoiled_by : (n : ℕ) → ((t : ℕ) → Obeys (effects (Some f) t)) → EachDriveSpan (OpensPath2 f.onset n) Rows →
      EachDriveSpan (FindsAnswersWithin f.onset n) Rows × EachDriveSpan (IsOffFrom f.onset n) Rows
  spoiled_by n obeys opens = (
    (λ newer span older e d. answers_within f (length older) span (follow newer span older e d)
        (both_paths b r newer span older e d) obeys f.onset n
        (opens newer span older e d)),
    (λ newer span older e d. off_within f (length older) span (follow newer span older e d)
        (both_paths b r newer span older e d) f.onset n
        (opens newer span older e d)),
  )

  -- after each tick that a lapse leaves out, where one wrong verdict confirms
  pub found_misses : IsRun r → IsLapse (Some f) → feeds_to_confirm r.setting.cal.times.weights ≡ 1 →
      EachDriveSpan (FindsMisses f (reaction_of r.setting.cal.times)) Rows × EachDriveSpan (CutsMisses f (reaction_of r.setting.cal.times)) Rows
  found_misses run lapse single = (
    (λ newer span older e d tick from out. answers_within f (length older) span (follow newer span older e d)
        (both_paths b r newer span older e d) (lapse_obeys f lapse) tick (reaction_of r.setting.cal.times)
        (opens newer span older e d tick from out)),
    (λ newer span older e d tick from out. off_within f (length older) span (follow newer span older e d)
        (both_paths b r newer span older e d) tick (reaction_of r.setting.cal.times)
        (opens newer span older e d tick from out)),
  )
    where
      opens : EachDriveSpan (λ start rows. (tick : ℕ) → start ≤ tick → misses_tick (Some f) tick ≡ true →
          OpensPath2 tick (reaction_of r.setting.cal.times) start rows) Rows
      opens newer span older e d tick from out = records_open_on_misses b r run (subst IsLapse (sym is) lapse) single newer span older e d tick from
          (subst (λ g. misses_tick g tick ≡ true) (sym is) out)

  pub spoiled : IsRun r → IsValid f → spoils_answers f.class ≡ true →
      EachDriveSpan (FindsAnswersWithin f.onset (reaction_of r.setting.cal.times)) Rows
      × EachDriveSpan (IsOffFrom f.onset (reaction_of r.setting.cal.times)) Rows
  spoiled run valid spoils = spoiled_by (reaction_of r.setting.cal.times) (under Obeys obeys_plain (spoils_obeys f.class spoils))
      (λ newer span older e d. law newer span older e d spoils)
    where
      law : EachDriveSpan (SpoiledOpenPath2 (Some f) (reaction_of r.setting.cal.times)) Rows
      law = subst (λ g. EachDriveSpan (SpoiledOpenPath2 g (reaction_of r.setting.cal.times)) Rows) is
          (records_open_path_2 b r run (none_or_valid valid))

  pub moved : IsRun r → sends_outside r.setting.cal.times f.class ≡ true →
      EachDriveSpan (FindsAnswersWithin f.onset (reaction_of r.setting.cal.times)) Rows
      × EachDriveSpan (IsOffFrom f.onset (reaction_of r.setting.cal.times)) Rows
  moved run out = spoiled_by (reaction_of r.setting.cal.times) (under Obeys obeys_plain
      (moved_obeys r.setting.cal.times f.class out))
      (λ newer span older e d. (law newer span older e d out).opens)
    where
      law : EachDriveSpan (MovedAreCut r.setting.cal.times (Some f) (reaction_of r.setting.cal.times)) Rows
      law = subst (λ g. EachDriveSpan (MovedAreCut r.setting.cal.times g (reaction_of r.setting.cal.times)) Rows) is
          (records_cut_moved b r run)

  -- ---- flips ----

  flips : All (λ row. row.found.mirror ≡ flips_at (Some f) row.tick) Rows
  flips = subst (λ g. All (λ row. row.found.mirror ≡ flips_at g row.tick) Rows) is (records_tell_flips b r)

  mirror_at : MayFlip f.class → (later before : List Row) (row : Row) → Rows ≡ later ++ row ∷ before → row.tick ≡ f.onset →
      row.found.mirror ≡ true
  mirror_at may later before row e now = at_row (λ y. y.found.mirror ≡ flips_at (Some f) y.tick) Rows later row before e flips
      ∙ (unfold flips_at in and_from _ _ may.is (eq-eqb row.tick f.onset now))

  pub finds_flip : MayFlip f.class → FindsFlip f.onset 1 Rows
  finds_flip may = (
    0,
    (omega arith),
    all_by (λ row. row.tick ≡ f.onset + 0 → row.found.mirror ≡ true) Rows (λ later before row e now.
        mirror_at may later before row e (omega (arith, now))),
  )

  -- the span's row at the onset stands before each later one
  trip_before : MayFlip f.class → (newer span older : List Row) → Rows ≡ newer ++ (span ++ older) → IsPlaced (length older) span
      →
      (later before : List Row) (row : Row) → span ≡ later ++ row ∷ before → length older ≤ f.onset →
      f.onset < length older + length before →
      list_any trips before ≡ true
  trip_before may newer span older e place later before row split from late =
      go (end_of before (f.onset - length older + 1) (omega (arith, from, late)))
    where
      at_end : (more rest : List Row) → before ≡ more ++ rest → length rest ≡ f.onset - length older + 1 →
          list_any trips before ≡ true
      at_end more [] whole size = absurd (omega (arith, size))
      at_end more (x ∷ rest) whole size = subst (λ l. list_any trips l ≡ true) (sym whole) (any_append trips more (x ∷ rest)
          (or_left _ _ (mirror_trips x (mirror_at may (newer ++ (later ++ row ∷ more)) (rest ++ older) x
          (with_part Rows newer span older (later ++ row ∷ more) x rest e parted)
          (place (later ++ row ∷ more) rest x parted ∙ (omega (arith, size, from)))))))
        where
          parted : span ≡ (later ++ row ∷ more) ++ x ∷ rest
          parted = split ∙ ap (λ l. later ++ row ∷ l) whole ∙ sym (append_assoc later (row ∷ more) (x ∷ rest))

      go : EndOf before (f.onset - length older + 1) → list_any trips before ≡ true
      go end = at_end end.more end.rest end.whole end.size

  pub cuts_flip : MayFlip f.class → EachDriveSpan (λ start span. start ≤ f.onset → IsOffFrom f.onset 1 start span) Rows
  cuts_flip may newer span older e d from =
      all_by (λ row. max f.onset (length older) + 1 ≤ row.tick → row.on ≡ false) span (λ later before row split late.
      off_after_trip f (length older) span (follow newer span older e d) (both_paths b r newer span older e d)
      (under Runs runs_plain may.runs) (under Obeys obeys_plain may.obeys) later before row split
      (trip_before may newer span older e place later before row split from
      (let at = place later before row split in omega (arith, at, late, from))))
    where
      place : IsPlaced (length older) span
      place = placed b r newer span older e d

  -- ---- a path that doesn't conduct ----

  pub cuts_open : IsValid f → (path : ℕ) → f.class ≡ class.PathOpen path → EachDriveSpan (IsOffFrom f.onset 0) Rows
  cuts_open valid path named newer span older e d =
      all_by (λ row. max f.onset (length older) + 0 ≤ row.tick → row.on ≡ false) span (λ later before row split late.
      off later before row split (omega (arith, late)))
    where
      shut : (t other : ℕ) (latch : Bool) → f.onset ≤ t → (other == path) ≡ true → (effects
          (Some f) t).conducts other latch ≡ false
      shut t other latch from same = ap (λ (x : Effects). x.conducts other latch) (from_onset f t from ∙ ap (λ c. effects_of c
          (t - f.onset)) named)
          ∙ (unfold effects_of no_effects in ap (λ k. not k && not latch) same)

      range : (PATH_1 ≤ path) × (path ≤ PATH_2)
      range = unfold IsValidClass in subst IsValidClass named valid.1

      off : (later before : List Row) (row : Row) → span ≡ later ++ row ∷ before → f.onset ≤ row.tick → row.on ≡ false
      off later before row split from = elim (cases_lt path PATH_2) [
        | inl first ↦ off_by_1 row both (latches.path1 ∙ shut row.tick PATH_1 _ from (eq-eqb PATH_1 path (omega (
          arith,
          range,
          first,
        ))))
        | inr second ↦ off_by_2 row both (latches.path2 ∙ shut row.tick PATH_2 _ from (eq-eqb PATH_2 path (omega (
          arith,
          range,
          second,
        ))))
      ]
        where
          both : IsBoth row
          both = at_row IsBoth span later row before split (both_paths b r newer span older e d)

          latches : FollowsLatches (Some f) row before
          latches = follow newer span older e d later row before split

  -- ---- a wild monitoring module ----

  pub cuts_ordered : ((t : ℕ) → (effects (Some f) t).conducts PATH_2 true ≡ false) → EachDriveSpan (CutsOrdered f 1) Rows
  cuts_ordered obeys newer span older e d later between before row ordered split orders close =
      off_by_2 row (at_row IsBoth span later row (between ++ ordered ∷ before) split (both_paths b r newer span older e d))
      ((follow newer span older e d later row (between ++ ordered ∷ before) split).path2
      ∙ ap ((effects (Some f) row.tick).conducts PATH_2) opened ∙ obeys row.tick)
    where
      opened : opened_2 (Some f) (between ++ ordered ∷ before) ≡ true
      opened = unfold opened_2 in any_append (λ y. y.found.answers || (effects (Some f) y.tick).opens) between (ordered ∷ before)
          (or_left _ _ (or_right ordered.found.answers _ orders))

  -- ---- a start-up test ----

  pub finds_closed : holds_closed f.class ≡ true → FindsClosed f (test_ticks_of r.setting.cal.times + 1) Rows
  finds_closed holds = (
    test_ticks_of r.setting.cal.times,
    (omega arith),
    subst (λ g. EachTestSpan (ClosedAreFound g (test_ticks_of r.setting.cal.times)) Rows) is (records_find_closed b r),
  )

  pub off_in_tests : EachTestSpan (λ start span. All (λ row. start + 0 ≤ row.tick → row.on ≡ false) span) Rows
  off_in_tests newer span older e d = all_by (λ row. length older + 0 ≤ row.tick → row.on ≡ false) span
      (λ later before row split late.
      at_row (λ y. y.on ≡ false) span later row before split (records_test_unpowered b r newer span older e d))

-- ---- each run on the bench ----

module _ {E : Type 0} {b : BenchEngine E} {Keeps : PlantParts → E → Type 0} (keeps : KeepsBenchLaws b Keeps)
    (once : ShowsOneLoad b)
    (r : Run) (f : Fault) (is : r.setting.fault ≡ Some f) (run : IsRun r) (valid : IsValid f) where
  pub finds_apart : (pair : Pair) (n : ℕ) → n ≡ feeds_to_confirm r.setting.cal.rules.pair → may_change_levels f.class ≡ false →
      EachDriveSpan (FindsApart pair r.setting n) (record_rows b r)
  finds_apart pair n same spares newer span older e d later stretch before split all enough =
      disagreeing_rows_are_found keeps once r run (subst SparesModules
      (sym is) spares) newer span older e d pair later stretch before split all
      (subst (λ m. m ≤ length stretch) same enough)

  pub cuts_pair : (pair : Pair) → cuts pair ≡ true → (n : ℕ) → n ≡ feeds_to_confirm r.setting.cal.rules.pair → MayRead f.class →
      EachDriveSpan (CutsApart pair r.setting n) (record_rows b r)
  cuts_pair pair cut n same may newer span older e d = cuts_apart pair cut r.setting f n (length older) span
      (follow b r f is newer span older e d) (both_paths b r newer span older e d) (of_class Runs f runs_plain may.runs)
      (of_class Obeys f obeys_plain may.obeys) (finds_apart pair n same may.spares newer span older e d)

  pub reacts_next : IsAtOnce f.class → ReactsIn r.setting (record_rows b r) 1
  reacts_next soon newer span older e d = react_next r.setting.fault r.setting.cal.rules.torque r.setting.cal.rules.threshold
      (length older) span
      (always b r f is soon) (placed b r newer span older e d)
      (records_react_at_once keeps r run (is_listed b r f is valid soon.listed) newer span older e d)

  pub reacts_within : is_lapse f.class ≡ false → ReactsIn r.setting (record_rows b r) (reaction_of r.setting.cal.times)
  reacts_within listed = records_react keeps r run (is_listed b r f is valid listed)

  pub excess_is_below : IsLapse (Some f) → BoundsMissed r.setting.cal →
      EachDriveSpan (ExcessIsBelow r.setting.cal.rules.threshold (longest_missed r.setting.cal + 1)) (record_rows b r)
  excess_is_below lapse bounds = records_end_missed_stretches keeps r run (none_or_valid b r f is valid) (subst IsLapse (sym is) lapse) bounds

-- ---- rows of `coverage` ----

module _ (cal : CalibrationParts) (ticks : CoverageTicks) (are : AreTicks cal ticks) where
  pair_is : (s : Setting) → s.cal ≡ cal → ticks.pair ≡ feeds_to_confirm s.cal.rules.pair
  pair_is s same = are.pair ∙ ap (λ (c : CalibrationParts). feeds_to_confirm c.rules.pair) (sym same)

  reaction_is : (s : Setting) → s.cal ≡ cal → reaction_of s.cal.times ≡ ticks.reaction
  reaction_is s same = ap (λ (c : CalibrationParts). reaction_of c.times) same ∙ sym are.reaction

  test_is : (s : Setting) → s.cal ≡ cal → test_ticks_of s.cal.times ≡ ticks.test
  test_is s same = ap (λ (c : CalibrationParts). test_ticks_of c.times) same ∙ sym are.test

  pub means_pedal : (meant : Class → Bool) → ((class : Class) → meant class ≡ true → MayRead class) →
      MeansPedal cal meant (found ticks.pair (Confirmed 1))
  means_pedal meant may = (
    refl,
    λ engine r f run same is valid one. (
      finds_apart (keeps_of engine) (shows_one_load_of engine) r f is run valid Pedal ticks.pair (pair_is r.setting same)
          (may f.class one).spares,
      reacts_next (keeps_of engine) (shows_one_load_of engine) r f is run valid (may f.class one).at_once,
    ),
  )

  pub means_apart : (meant : Class → Bool) → ((class : Class) → meant class ≡ true → MayRead class) → (pair : Pair) →
      cuts pair ≡ true →
      MeansApart cal meant pair (found ticks.pair (After ticks.pair))
  means_apart meant may pair cut = (
    refl,
    λ engine r f run same is valid one. (
      finds_apart (keeps_of engine) (shows_one_load_of engine) r f is run valid pair ticks.pair (pair_is r.setting same)
          (may f.class one).spares,
      cuts_pair (keeps_of engine) (shows_one_load_of engine) r f is run valid pair cut ticks.pair (pair_is r.setting same)
          (may f.class one),
    ),
  )

  pub means_at_once : (meant : Class → Bool) (hides : Type 0) → hides → ((class : Class) → meant class ≡ true → IsAtOnce class) →
      MeansUnfound cal meant hides (unfound (Confirmed 1))
  means_at_once meant hides stays soon = (
    refl,
    stays,
    (λ engine r f run same is valid one.
        reacts_next (keeps_of engine) (shows_one_load_of engine) r f is run valid (soon f.class one)),
  )

  pub means_within : (meant : Class → Bool) (hides : Type 0) → hides → ((class : Class) → meant class ≡ true →
      is_lapse class ≡ false) →
      MeansUnfound cal meant hides (unfound (Confirmed ticks.reaction))
  means_within meant hides stays listed = (
    refl,
    stays,
    (λ engine r f run same is valid one.
        subst (ReactsIn r.setting (record_rows (bench_of engine) r)) (reaction_is r.setting same)
        (reacts_within (keeps_of engine) (shows_one_load_of engine) r f is run valid (listed f.class one))),
  )

  pub means_spoiled : (meant : Class → Bool) → ((class : Class) → meant class ≡ true → spoils_answers class ≡ true) →
      MeansSpoiled cal meant (found ticks.reaction (After ticks.reaction))
  means_spoiled meant spoils = (
    refl,
    λ engine r f run same is valid one. subst
        (λ n. EachDriveSpan (FindsAnswersWithin f.onset n) (record_rows (bench_of engine) r)
        × EachDriveSpan (IsOffFrom f.onset n) (record_rows (bench_of engine) r)) (reaction_is r.setting same)
        (spoiled (bench_of engine) r f is run valid (spoils f.class one)),
  )

  pub means_moved : MeansSpoiled cal (sends_outside cal.times) (found ticks.reaction (After ticks.reaction))
  means_moved = (
    refl,
    λ engine r f run same is valid one. subst
        (λ n. EachDriveSpan (FindsAnswersWithin f.onset n) (record_rows (bench_of engine) r)
        × EachDriveSpan (IsOffFrom f.onset n) (record_rows (bench_of engine) r)) (reaction_is r.setting same)
        (moved (bench_of engine) r f is run (subst (λ (c : CalibrationParts). sends_outside c.times f.class ≡ true)
        (sym same) one)),
  )

  pub means_tested : (name : ClassName) → ((class : Class) → is_of name class ≡ true → holds_closed class ≡ true) →
      MeansTested cal name (found (ticks.test + 1) (After 0))
  means_tested name holds = (
    refl,
    λ engine r f run same is valid one. (
      subst (λ n. FindsClosed f (n + 1) (record_rows (bench_of engine) r)) (test_is r.setting same)
          (finds_closed (bench_of engine) r f is (holds f.class one)),
      off_in_tests (bench_of engine) r f is,
    ),
  )

  means_missed : (longest : Option ℕ) → SomeIff longest (BoundsMissed cal) (longest_missed cal) → MeansMissed cal (lapse_off longest)
  unfolding lapse_off
  means_missed None none = none
  means_missed (Some n) is_longest = λ engine r f run same is valid one. subst
      (λ n. EachDriveSpan (ExcessIsBelow r.setting.cal.rules.threshold (n + 1)) (record_rows (bench_of engine) r))
      (ap longest_missed same ∙ sym is_longest.1)
      (excess_is_below (keeps_of engine) (shows_one_load_of engine) r f is run valid (lapse_of f one) (subst BoundsMissed
      (sym same) is_longest.0))

  lapse_found : feeds_to_confirm cal.times.weights ≡ 1 → lapse_numbers ticks ≡ found ticks.reaction (After ticks.reaction)
  unfolding lapse_numbers
  lapse_found single = ap (λ b. if b then found ticks.reaction (After ticks.reaction) else unfound (lapse_off ticks.missed))
      (eq-eqb ticks.verdicts 1 (are.verdicts ∙ single))

  lapse_hides : feeds_to_confirm cal.times.weights ≢ 1 → lapse_numbers ticks ≡ unfound (lapse_off ticks.missed)
  unfolding lapse_numbers
  lapse_hides several = ap (λ b. if b then found ticks.reaction (After ticks.reaction) else unfound (lapse_off ticks.missed))
      (ne_eqb ticks.verdicts 1 (λ one. several (sym are.verdicts ∙ one)))

  means_found_lapse : feeds_to_confirm cal.times.weights ≡ 1 → MeansFoundLapse cal (found ticks.reaction (After ticks.reaction))
  means_found_lapse single = (
    refl,
    λ engine r f run same is valid one. subst
        (λ n. EachDriveSpan (FindsMisses f n) (record_rows (bench_of engine) r)
        × EachDriveSpan (CutsMisses f n) (record_rows (bench_of engine) r)) (reaction_is r.setting same)
        (found_misses (bench_of engine) r f is run (lapse_of f one)
        (ap (λ (c : CalibrationParts). feeds_to_confirm c.times.weights) same ∙ single)),
  )

  means_hidden_lapse : feeds_to_confirm cal.times.weights ≢ 1 → MeansHiddenLapse cal (unfound (lapse_off ticks.missed))
  means_hidden_lapse several = (refl, (one_miss_stays cal several, far_misses_stay), means_missed ticks.missed are.missed)

  means_lapse : (feeds_to_confirm cal.times.weights ≡ 1 → MeansFoundLapse cal (lapse_numbers ticks))
      × (feeds_to_confirm cal.times.weights ≢ 1 → MeansHiddenLapse cal (lapse_numbers ticks))
  means_lapse = (
    (λ single. subst (MeansFoundLapse cal) (sym (lapse_found single)) (means_found_lapse single)),
    (λ several. subst (MeansHiddenLapse cal) (sym (lapse_hides several)) (means_hidden_lapse several)),
  )

  means_open : RowMeans cal case.PathOpen (numbers_of ticks case.PathOpen)
  unfolding RowMeans numbers_of of_swept
  means_open = (
    refl,
    all_hide cal name.PathOpen refl,
    (λ engine r f run same is valid one. cuts_open
        (bench_of engine) r f is valid (path_in f.class one).0 (path_in f.class one).1),
  )

  means_ordered : RowMeans cal case.WildOpens (numbers_of ticks case.WildOpens)
  unfolding RowMeans numbers_of of_swept
  means_ordered = (
    refl,
    all_hide cal name.Wild refl,
    (λ engine r f run same is valid one. cuts_ordered (bench_of engine) r f is
        (of_class (λ x. x.conducts PATH_2 true ≡ false) f obeys_plain.open_2 (wild_obeys f.class (and_parts _ _ one).0))),
  )

  means_flip : RowMeans cal case.Flip (numbers_of ticks case.Flip)
  unfolding RowMeans numbers_of
  means_flip = (
    refl,
    λ engine r f run same is valid one. (
      finds_flip (bench_of engine) r f is (may_flip f.class one),
      cuts_flip (bench_of engine) r f is (may_flip f.class one),
    ),
  )

  pub means : (one : CoverageCase) → RowMeans cal one (numbers_of ticks one)
  unfolding RowMeans numbers_of of_swept
  means case.ScriptPedal = means_pedal (is_of name.Script) by_script
  means case.ScriptPlate = means_apart (is_of name.Script) by_script Plate (unfold cuts in refl)
  means case.ScriptLoad = means_apart (is_of name.Script) by_script Load (unfold cuts in refl)
  means case.ScriptSpeed = means_apart (is_of name.Script) by_script Speed (unfold cuts in refl)
  means case.ScriptWithin = means_at_once (is_of name.Script) SmallScriptsStay small_scripts_stay (λ class e.
      (by_script class e).at_once)
  means case.ScriptContact = means_at_once _ _ (all_hide_at_rest cal _ (λ class e. contact_hides class (and_parts
      (is_of name.Script class) _ e).1))
      (λ class e. (by_script class (and_parts _ (on_contact class) e).0).at_once)
  means case.OffsetPedal = means_pedal (is_of name.Offset) by_offset
  means case.OffsetPlate = means_apart (is_of name.Offset) by_offset Plate (unfold cuts in refl)
  means case.OffsetLoad = means_apart (is_of name.Offset) by_offset Load (unfold cuts in refl)
  means case.OffsetSpeed = means_apart (is_of name.Offset) by_offset Speed (unfold cuts in refl)
  means case.OffsetWithin = means_at_once (is_of name.Offset) SmallOffsetsStay small_offsets_stay (λ class e.
      (by_offset class e).at_once)
  means case.OffsetContact = means_at_once _ _ (all_hide_at_rest cal _ (λ class e. contact_hides class (and_parts
      (is_of name.Offset class) _ e).1))
      (λ class e. (by_offset class (and_parts _ (on_contact class) e).0).at_once)
  means case.Bus = means_at_once (is_of name.Bus) _ (all_hide_at_rest cal (is_of name.Bus) bus_hides)
      (at_once name.Bus refl (λ onset tick. refl))
  means case.Plate = means_at_once (is_of name.Plate) _ (all_hide cal name.Plate refl)
      (at_once name.Plate refl (λ onset tick. refl))
  means case.Skip = means_spoiled (is_of name.Skip) (as_swept spoils_answers named_spoils name.Skip true refl)
  means case.Disturb = means_spoiled (is_of name.Disturb) (as_swept spoils_answers named_spoils name.Disturb true refl)
  means case.Flip = means_flip
  means case.Halt = means_spoiled (is_of name.Halt) (as_swept spoils_answers named_spoils name.Halt true refl)
  means case.TimingOutside = means_moved
  means case.TimingInside = means_at_once _ MovesStay moves_stay (λ class e.
      at_once name.Timing refl (λ onset tick. refl) class (and_parts _ _ e).0)
  means case.WildOpens = means_ordered
  means case.WildNever = means_at_once _ _ (all_hide cal name.Wild refl) (λ class e.
      at_once name.Wild refl (λ onset tick. refl) class (and_parts _ _ e).0)
  means case.Path1Driven = means_within (is_of name.Path1Closed) _ (all_hide cal name.Path1Closed refl)
      (as_swept is_lapse named_lapse name.Path1Closed false refl)
  means case.Path1Tested = means_tested name.Path1Closed (as_swept holds_closed named_closed name.Path1Closed true refl)
  means case.Path2Driven = means_at_once (is_of name.Path2Closed) _ (all_hide cal name.Path2Closed refl)
      (at_once name.Path2Closed refl (λ onset tick. refl))
  means case.Path2Tested = means_tested name.Path2Closed (as_swept holds_closed named_closed name.Path2Closed true refl)
  means case.PathOpen = means_open
  means case.Lapse = means_lapse

pub numbers_mean : NumbersMean
numbers_mean cal ticks are one = means cal ticks are one
