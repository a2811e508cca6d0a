-- Runs at rest: level 1 does nothing, so that the engine stays as it was before its first step.
use Rattle.std.proofs.Common.{◌≡◌, refl, sym, ap, subst, ℕ, zero, suc, ◌+◌, ◌≤◌, ◌<◌, Bool, true, false, ◌||◌, List, [], ◌∷◌, All, length, replicate, arith, Option, Some, None}
use Rattle.std.specs.Prelude.{if◌then◌else◌, slice_index_or, ◌%◌}
use Rattle.std.proofs.lemmas.List.Elements.{All-nil, All-cons}
use Rattle.eg_num.specs.Drive.{DriveRow}
use Rattle.eg_plant.specs.declared.engine_kind.EngineKind.{EngineKind}
use Rattle.eg_values.specs.Calibration.{CalibrationParts}
use Rattle.eg_word.specs.World.{View, World, new_world}
use Rattle.eg_fault.specs.Effects.{Effects}
use Rattle.eg_fault.specs.Faults.{effects}
use Rattle.eg_fault.specs.declared.class.Fault.{Fault}
use Rattle.eg_model.specs.History.{Entry, Signals, Moment}
use Rattle.eg_model.specs.Signals.{last_signals}
use Rattle.eg_sensor.specs.declared.readings.Readings.{Readings}
use Rattle.eg_host.specs.Slices.{slices_from}
use Rattle.eg_model.specs.Level1.{last_world, view_in, world_at}
use Rattle.eg_model.specs.Moments.{moment_in}
use Rattle.eg_model.specs.Spans.{span_so_far, has_passed, before_at, moment_at, next_after}
use Rattle.eg_model.specs.Engines.{BenchEngine, state_of, bench_of}
use Rattle.eg_model.specs.Bench.{Run, no_drive, stepped, engine_after, shown_at, drive_at, slices_at, entry_at, moments_to, entries_to}
use Rattle.eg_model.proofs.WholeModel.{whole_model}
use Rattle.eg_laws.proofs.KindLaws.{laws_of}
use Rattle.eg_laws.proofs.LatentRuns.{still_run, row_in}

-- ---- level 1 does nothing ----

record IsIdle (world : World) : Type 0 where
  throttle : world.throttle ≡ 0
  ignition : world.ignition ≡ 0

idle_slices : (count j : ℕ) (view : ℕ → View) (world : World) → IsIdle world →
    IsIdle (slices_from j view (replicate count 0) world)
unfolding slices_from
idle_slices zero j view world idle = idle
idle_slices (suc count) j view world idle = idle_slices count (j + 1) view _
    (unfold whole_model in record { throttle = idle.throttle; ignition = idle.ignition })

idle_first : IsIdle new_world
unfolding new_world
idle_first = record { throttle = refl; ignition = refl }

idle_span : (drive : DriveRow) (past : List Moment) → IsIdle (last_world past) → IsIdle (last_world (before_at drive past))
unfolding before_at last_world span_so_far
idle_span drive past idle = go (drive.reset || has_passed past)
  where
    same : (past : List Moment) → IsIdle (last_world past) → IsIdle (last_world (span_so_far past))
    same [] idle = idle
    same (m ∷ past) idle = idle

    go : (begins : Bool) → IsIdle (last_world (if begins then [] else span_so_far past))
    go true = idle_first
    go false = same past idle

abbrev no_slices : List ℕ
no_slices = replicate 9 0

idle_world : (image : List ℕ) (x : Effects) (slices : List ℕ) (reads : Readings) (now : Signals) (past : List Moment) →
    slices ≡ no_slices → IsIdle (last_world past) → IsIdle (world_at image x slices reads now past)
unfolding world_at
idle_world image x slices reads now past none idle = go x.level1
  where
    view : ℕ → View
    view = view_in image x reads (last_signals past) now

    go : (runs : Bool) → IsIdle (if runs then slices_from 0 view slices (last_world past) else last_world past)
    go true = subst (λ these. IsIdle (slices_from 0 view these (last_world past))) (sym none)
        (idle_slices 9 0 view (last_world past) idle)
    go false = idle

-- what comes in at a tick of a run at rest
pub record RestsWith {E : Type 0} (b : BenchEngine E) (cal : CalibrationParts) (d : DriveRow) (e : Entry) : Type 0 where
  pub drive : e.drive ≡ d
  pub shown : e.shown ≡ b.shows (b.rest cal.plant)

module _ (engine : EngineKind) (cal : CalibrationParts) (f : Fault)
    (free : (t : ℕ) → (effects (Some f) t).held_plate ≡ None) (d : DriveRow) (n : ℕ) where
  abbrev b : BenchEngine (state_of engine)
  b = bench_of engine

  abbrev r : Run
  r = still_run cal f d n

  -- the outputs of level 1 stay 0
  idle_next : (e : Entry) (past : List Moment) → e.slices ≡ no_slices → IsIdle (last_world past) →
      IsIdle (next_after r.setting e past).world
  unfolding next_after moment_at moment_in
  idle_next e past none idle = idle_world [] (effects (Some f) (length past)) e.slices _ _ (before_at e.drive past) none
      (idle_span e.drive past idle)

  idle_after : (t : ℕ) → IsIdle (last_world (moments_to b r t))
  unfolding moments_to last_world
  idle_after zero = idle_first
  idle_after (suc t) = idle_next (entry_at b r t (moments_to b r t)) (moments_to b r t)
      (unfold entry_at slices_at in each_row t) (idle_after t)
    where
      each_row : (t : ℕ) → slice_index_or (no_slices ∷ []) (t % 1) [] ≡ no_slices
      each_row t = ap (λ i. slice_index_or (no_slices ∷ []) i []) (first t)
        where
          first : (t : ℕ) → t % 1 ≡ 0
          first t = omega arith

  -- and so the engine stays at rest
  step_rests : (t : ℕ) (e : state_of engine) (past : List Moment) (on : Bool) → e ≡ b.rest cal.plant → IsIdle (last_world past) →
      stepped b cal.plant e past on (effects (Some f) t).held_plate ≡ b.rest cal.plant
  unfolding stepped
  step_rests t e past on rest idle = go e (last_world past).throttle
      (last_world past).ignition _ rest idle.throttle idle.ignition (free t)
    where
      go : (e : state_of engine) (throttle ignition : ℕ) (held : Option ℕ) → e ≡ b.rest cal.plant → throttle ≡ 0 → ignition ≡ 0 → held ≡ None →
          b.step cal.plant e throttle ignition on held ≡ b.rest cal.plant
      go e throttle ignition held u v w x = rw (u, v, w, x) ((laws_of engine).rests cal.plant on)

  rests_after : (t : ℕ) → engine_after b r.setting (moments_to b r t) ≡ b.rest cal.plant
  unfolding moments_to engine_after
  rests_after zero = refl
  rests_after (suc t) = step_rests (length past) (engine_after b r.setting past) _ _ (rests_after t) (go m.fresh)
    where
      past : List Moment
      past = moments_to b r t

      m : Moment
      m = next_after r.setting (entry_at b r t past) past

      go : (fresh : Bool) → IsIdle (last_world (if fresh then [] else past))
      go true = unfold last_world in idle_first
      go false = idle_after t

  -- what comes in at its ticks
  rest_at : (t : ℕ) → t < n → RestsWith b cal d (entry_at b r t (moments_to b r t))
  unfolding entry_at drive_at shown_at
  rest_at t l = record {
    drive = row_in d no_drive n t l;
    shown = ap b.shows (step_rests t (engine_after b r.setting past) (before_at (drive_at r t) past) _ (rests_after t)
        (idle_span (drive_at r t) past (idle_after t)));
  }
    where
      past : List Moment
      past = moments_to b r t

  pub rest_to : (m : ℕ) → m ≤ n → All (RestsWith (bench_of engine) cal d) (entries_to (bench_of engine) r m)
  unfolding entries_to
  rest_to zero l = All-nil (RestsWith b cal d)
  rest_to (suc t) l = All-cons (RestsWith b cal d) (entry_at b r t (moments_to b r t)) (entries_to b r t)
      (rest_at t (omega (arith, l))) (rest_to t (omega (arith, l)))
