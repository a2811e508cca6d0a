-- Throttles that never cut: the engine's load stays below what they can bring it to, and so no excess is ever confirmed.
use Rattle.std.proofs.Common.{◌≡◌, ◌∙◌, refl, sym, ap, subst, ℕ, ◌+◌, ◌≤◌, Bool, true, false, not, List, [], ◌∷◌, ◌++◌, All, map, arith, None}
use Rattle.std.specs.Prelude.{if◌then◌else◌}
use Rattle.std.proofs.lemmas.Bool.{le-ltb}
use Rattle.std.proofs.lemmas.List.Elements.{All-nil, All-cons, All-head, All-tail}
use Rattle.eg_num.specs.Arithmetic.{estimate}
use Rattle.eg_num.proofs.RisingLemmas.{estimate-rises}
use Rattle.eg_torque.specs.Excess.{is_excess}
use Rattle.eg_plant.specs.declared.engine_kind.EngineKind.{EngineKind}
use Rattle.eg_values.specs.Calibration.{IsAccepted}
use Rattle.eg_values.specs.Excess.{least_permitted}
use Rattle.eg_fault.specs.Effects.{no_effects}
use Rattle.eg_fault.specs.Faults.{effects, IsNoneOrValid}
use Rattle.eg_record.specs.declared.row.Row.{Row}
use Rattle.eg_record.specs.Excess.{full_excess}
use Rattle.eg_record.specs.Spans.{IsDriveSpan}
use Rattle.eg_model.specs.History.{Setting}
use Rattle.eg_model.specs.Engines.{bench_of}
use Rattle.eg_model.specs.Bench.{Run}
use Rattle.eg_model.specs.Rows.{record_rows}
use Rattle.eg_model.specs.Records.{IsRun, is_before_onset}
use Rattle.eg_laws.specs.Showing.{commands_at, engine_by, limit_before, ArePermitted, ShowEngine, ShowsRun}
use Rattle.eg_laws.specs.NeverCuts.{load_up_to, IsPermittedUpTo, PermittedThrottlesNeverCut}
use Rattle.eg_model.proofs.SharpCutLaw.{AllGood}
use Rattle.eg_model.proofs.RecordLaws.{records_cut_sharply_before}
use Rattle.eg_laws.proofs.FewVerdicts.{never}
use Rattle.eg_laws.proofs.KindLaws.{laws_of, keeps_of, shows_one_load_of}
use Rattle.eg_laws.proofs.PairsFoundLaws.{All-end}
use Rattle.eg_laws.proofs.PeakLaws.{limit-least}
use Rattle.eg_laws.proofs.ShowingLaws.{records_show_runs}

-- ---- the rows of a record ----

-- P of each row, by what stands before and after it
all_parts : (P : Row → Type 0) (rows : List Row) →
    ((later before : List Row) (row : Row) → rows ≡ later ++ row ∷ before → P row) → All P rows
all_parts P [] p = All-nil P
all_parts P (row ∷ rows) p = All-cons P row rows (p [] rows row refl)
    (all_parts P rows (λ later before r e. p (row ∷ later) before r (ap (λ k. row ∷ k) e)))

good_bits : (bit : Row → Bool) (rows : List Row) → All (λ row. bit row ≡ false) rows → AllGood (map bit rows)
unfolding AllGood
good_bits bit [] all = tt
good_bits bit (row ∷ rows) all =
    (All-head (λ r. bit r ≡ false) row rows all, good_bits bit rows (All-tail (λ r. bit r ≡ false) row rows all))

module _ (engine : EngineKind) (s : Setting) (accepted : IsAccepted s.cal) (none : s.fault ≡ None) (x : ℕ)
    (permitted : IsPermittedUpTo engine s.cal x) where
  abbrev Low : List Row → Type 0
  Low rows = All (λ row. row.throttle ≤ x) rows

  commands-low : (row : Row) (before : List Row) → Low before → (commands_at row before).0 ≤ x
  unfolding commands_at
  commands-low row [] low = omega arith
  commands-low row (last ∷ before) low = go row.fresh
    where
      pair : Bool → ℕ × ℕ
      pair fresh = if fresh then (0, 0) else (last.throttle, last.ignition)

      go : (fresh : Bool) → (pair fresh).0 ≤ x
      go true = omega arith
      go false = All-head (λ r. r.throttle ≤ x) last before low

  free : (t : ℕ) → (effects s.fault t).held_plate ≡ None
  free t = ap (λ f. (effects f t).held_plate) none ∙ (unfold effects no_effects in refl)

  below : (rows : List Row) → Low rows → (laws_of engine).Below s.cal.plant x (engine_by (bench_of engine) s rows)
  unfolding engine_by
  below [] low = (laws_of engine).below_first s.cal.plant x
  below (row ∷ before) low = subst
      (λ held. (laws_of engine).Below s.cal.plant x ((bench_of engine).step s.cal.plant (engine_by (bench_of engine) s before)
      (commands_at row before).0 (commands_at row before).1 row.on held)) (sym (free row.tick))
      ((laws_of engine).below_next s.cal.plant x (engine_by (bench_of engine) s before) (below before rest) _ _ row.on
      (commands-low row before rest))
    where
      rest : Low before
      rest = All-tail (λ r. r.throttle ≤ x) row before low

  abbrev bit : Row → Bool
  bit = full_excess s.cal.rules.kt s.cal.rules.threshold

  no_excess : (row : Row) → row.charge ≤ load_up_to engine s.cal.plant x → least_permitted s.cal.rules.permit ≤ row.limit → bit row ≡ false
  unfolding full_excess is_excess
  no_excess row few least = le-ltb (row.limit + s.cal.rules.threshold) (estimate s.cal.rules.kt row.charge)
      (let rises = estimate-rises s.cal.rules.kt row.charge (load_up_to engine s.cal.plant x) few in omega (arith, rises, permitted, least))

  none_exceeds : (rows : List Row) → Low rows → ShowEngine (bench_of engine) s rows → ArePermitted s.cal rows → All (λ row. bit row ≡ false) rows
  unfolding ArePermitted
  none_exceeds [] low shows limits = All-nil (λ row. bit row ≡ false)
  none_exceeds (row ∷ before) low shows limits = All-cons (λ r. bit r ≡ false) row before
      (no_excess row (let is = shows.0.charge in let load = (laws_of engine).load s.cal.plant x (engine_by (bench_of engine) s (row ∷ before))
      (below (row ∷ before) low) in
      omega (arith, is, load))
      (limit-least s accepted row (limit_before row before) limits.0))
      (none_exceeds before (All-tail (λ r. r.throttle ≤ x) row before low) shows.1 limits.1)

module _ (engine : EngineKind) where
  never_cuts : (r : Run) → IsRun r → r.setting.fault ≡ None → (x : ℕ) → IsPermittedUpTo engine r.setting.cal x →
      All (λ row. row.throttle ≤ x) (record_rows (bench_of engine) r) → (newer span older : List Row) →
      record_rows (bench_of engine) r ≡ newer ++ (span ++ older) → IsDriveSpan span → All (λ row. row.on ≡ true) span
  never_cuts r run none x permitted low newer span older e is = all_parts (λ row. row.on ≡ true) span (λ later before row split.
      records_cut_sharply_before (keeps_of engine) (shows_one_load_of engine) r run newer span older e is later before row split
      (ap (λ f. is_before_onset f row.tick) none ∙ (unfold is_before_onset in refl))
      ∙ ap not (never s.cal.rules.torque (map (full s) before) (let l = run.accepted.torque.3 in omega (arith, l))
      (good_bits (full s) before (part later before row split))))
    where
      s : Setting
      s = r.setting

      full : Setting → Row → Bool
      full t = full_excess t.cal.rules.kt t.cal.rules.threshold

      shows : ShowsRun (bench_of engine) s r.drive (record_rows (bench_of engine) r)
      shows = records_show_runs (keeps_of engine) r run (subst IsNoneOrValid (sym none) (unfold IsNoneOrValid in tt))

      all : All (λ row. full s row ≡ false) (record_rows (bench_of engine) r)
      all = none_exceeds engine s run.accepted none x permitted
          (record_rows (bench_of engine) r) low shows.engine shows.permitted

      part : (later before : List Row) (row : Row) → span ≡ later ++ row ∷ before → All (λ row. full s row ≡ false) before
      part later before row split = All-tail (λ row. full s row ≡ false) row before
          (All-end (λ row. full s row ≡ false) later (row ∷ before)
          (subst (All (λ row. full s row ≡ false)) split (All-front span older
          (All-end (λ row. full s row ≡ false) newer (span ++ older) (subst (All (λ row. full s row ≡ false)) e all)))))
        where
          All-front : (xs ys : List Row) → All (λ row. full s row ≡ false) (xs ++ ys) → All (λ row. full s row ≡ false) xs
          All-front [] ys every = All-nil (λ row. full s row ≡ false)
          All-front (y ∷ xs) ys every = All-cons (λ row. full s row ≡ false) y xs
              (All-head (λ row. full s row ≡ false) y (xs ++ ys) every)
              (All-front xs ys (All-tail (λ row. full s row ≡ false) y (xs ++ ys) every))

  pub permitted_never_cut : PermittedThrottlesNeverCut engine
  permitted_never_cut cal accepted x permitted r run same none low newer span older e is =
      never_cuts r run none x (subst (λ c. IsPermittedUpTo engine c x) (sym same) permitted) low newer span older e is
