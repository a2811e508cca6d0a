-- What a controller commands next is what the model says, by whether a span begins with the tick.
use Rattle.std.proofs.Common.{◌≡◌, ◌∙◌, refl, sym, ap, ap₂, subst, ℕ, not, ◌||◌, ◌&&◌, Bool, true, false, Option, List, [], length, slice_index}
use Rattle.std.specs.Prelude.{if◌then◌else◌}
use Rattle.eg_num.specs.Drive.{DriveRow}
use Rattle.eg_fault.specs.Faults.{effects}
use Rattle.eg_word.specs.World.{new_world}
use Rattle.eg_model.specs.History.{Setting, Entry, SpanKind, Drive, Test, drives}
use Rattle.eg_model.specs.Paths.{latch1, latch2, path1_at, path2_at, both_conduct}
use Rattle.eg_model.specs.Level1.{last_world}
use Rattle.eg_model.specs.Moments.{moment_in}
use Rattle.eg_model.specs.Spans.{span_kind, has_passed, kind_at, before_at, moment_at, next_after, moments, next}
use Rattle.eg_model.proofs.SpanLemmas.{length-run_moments, kind-goes_on, ticks_before, ticks_before-goes_on, before-begins}
use Rattle.eg_tick.specs.Kept.{Kept}
use Rattle.eg_tick.specs.Stands.{kind_of, HoldsSpan, Stands}
use Rattle.eg_tick.specs.Advancing.{effects_after, entry_of, world_before}
use Rattle.eg_tick.specs.Commanding.{commands_after, commanded_at}
use Rattle.eg_tick.specs.declared.commands.Commands.{Commands}
use Rattle.eg_tick.specs.declared.paths.Paths.{Paths}
use Rattle.eg_tick.proofs.StandsLemmas.{Enters}
use Rattle.eg_tick.proofs.AdvanceLemmas.{step-begun}

abbrev of_parts : ℕ → ℕ → Bool → Option ℕ → Commands
of_parts throttle ignition on held = record { throttle = throttle; ignition = ignition; on = on; held = held }

module _ (s : Setting) (drive : DriveRow) (h : List Entry) where
  -- how many moments there are is how many entries came in
  held-are : (effects_after s h).held_plate ≡ (effects s.fault (length (moments s h))).held_plate
  unfolding effects_after
  held-are = ap (λ n. (effects s.fault n).held_plate) (sym (length-run_moments s h))

  module _ (k : Kept) (stands : Stands s k h) where
    abbrev e : Entry
    e = entry_of drive [] k.shown

    -- ---- the span goes on ----

    on-enters : (drive.reset || has_passed (moments s h)) ≡ false → Enters s k e h
    unfolding entry_of
    on-enters goes = record {
      cal = stands.cal;
      fault = stands.fault;
      count = stands.count;
      span = subst (λ kind. HoldsSpan kind s k.span k.registers k.memory.words (ticks_before s e h)) (sym (kind-goes_on drive (moments s h) goes))
          (subst (HoldsSpan (span_kind (moments s h)) s k.span k.registers k.memory.words) (sym (ticks_before-goes_on s e h goes)) stands.span);
      engine = stands.engine;
      trap = stands.trap;
    }

    on-are : of_parts (world_before s drive h).throttle (world_before s drive h).ignition (next s e h).on (effects_after s h).held_plate ≡ commanded_at s drive h
    unfolding commanded_at commands_after world_before next next_after moment_at moment_in entry_of
    on-are = ap (of_parts (last_world (before_at drive (moments s h))).throttle (last_world (before_at drive (moments s h))).ignition
        (drives (kind_at drive (moments s h)) && both_conduct (effects s.fault (length (moments s h))) (before_at drive (moments s h)))) held-are

    pub goes-commands : (paths : Paths) → (drive.reset || k.span.passed) ≡ false
        → paths.path1 ≡ (effects k.fault k.ticks).conducts 1 k.span.open1 → paths.path2 ≡ (effects k.fault k.ticks).conducts 2 k.span.open2
        → paths.on ≡ (drives (kind_of k.span.tests) && (paths.path1 && paths.path2))
        → of_parts (slice_index k.memory.words 2064) (slice_index k.memory.words 2065) paths.on (effects k.fault k.ticks).held_plate ≡ commanded_at s drive h
    unfolding entry_of
    goes-commands paths goes path1 path2 on =
        step-begun s e h k paths (on-enters (ap (λ b. drive.reset || b) (sym stands.passed) ∙ goes)) path1 path2 on
        (λ throttle ignition on held. of_parts (slice_index k.memory.words 2064) (slice_index k.memory.words 2065) paths.on (effects k.fault k.ticks).held_plate
        ≡ of_parts throttle ignition on held) refl
        ∙ on-are

    -- ---- a span begins ----

    drives-begins : (reset passed : Bool) (kind : SpanKind) → (reset || passed) ≡ true
        → not reset ≡ drives (if reset then Test else if passed then Drive else kind)
    unfolding drives
    drives-begins true passed kind begins = refl
    drives-begins false true kind begins = refl
    drives-begins false false kind begins = absurd (let clash : false ≡ true = begins in cc)

    begun-are : (begins : (drive.reset || has_passed (moments s h)) ≡ true) → of_parts 0 0
        (not drive.reset && ((effects s.fault (length (moments s h))).conducts 1 false && (effects s.fault (length (moments s h))).conducts 2 false))
        (effects s.fault (length (moments s h))).held_plate ≡ commanded_at s drive h
    unfolding commanded_at commands_after
    begun-are begins =
        subst (λ before. of_parts 0 0
        (not drive.reset && ((effects s.fault (length (moments s h))).conducts 1 false && (effects s.fault (length (moments s h))).conducts 2 false))
        (effects s.fault (length (moments s h))).held_plate
        ≡ of_parts (last_world before).throttle (last_world before).ignition
        (drives (kind_at drive (moments s h)) && both_conduct (effects s.fault (length (moments s h))) before) (effects s.fault (length (moments s h))).held_plate)
        (sym (before-begins drive (moments s h) begins))
        (unfold kind_at last_world new_world both_conduct path1_at path2_at latch1 latch2 in
        ap (λ b. of_parts 0 0
        (b && ((effects s.fault (length (moments s h))).conducts 1 false && (effects s.fault (length (moments s h))).conducts 2 false))
        (effects s.fault (length (moments s h))).held_plate)
        (drives-begins drive.reset (has_passed (moments s h)) (span_kind (moments s h)) begins))

    pub begun-commands : (drive.reset || k.span.passed) ≡ true → of_parts 0 0
        (not drive.reset && ((effects k.fault k.ticks).conducts 1 false && (effects k.fault k.ticks).conducts 2 false)) (effects k.fault k.ticks).held_plate
        ≡ commanded_at s drive h
    begun-commands begins =
        ap₂ (λ fault n. of_parts 0 0 (not drive.reset && ((effects fault n).conducts 1 false && (effects fault n).conducts 2 false)) (effects fault n).held_plate)
        stands.fault (stands.count ∙ sym (length-run_moments s h))
        ∙ begun-are (ap (λ b. drive.reset || b) (sym stands.passed) ∙ begins)
