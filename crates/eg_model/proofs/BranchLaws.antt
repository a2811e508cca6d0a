-- Runs that branch: before its onset a fault does nothing, and all that a run reads of its setting besides is
-- calibration and image.
use Rattle.std.proofs.Common.{◌≡◌, ◌∙◌, refl, sym, ap, ap₂, subst, ℕ, zero, suc, ◌≤◌, ◌&&◌, List, [], ◌∷◌, take, length, arith, Option, Some, None}
use Rattle.std.specs.Prelude.{if◌then◌else◌}
use Rattle.eg_fault.specs.Effects.{Effects, no_effects}
use Rattle.eg_fault.specs.Faults.{effects}
use Rattle.eg_fault.specs.declared.class.Fault.{Fault}
use Rattle.eg_fault.proofs.ActingLemmas.{before_onset}
use Rattle.eg_model.specs.History.{Setting, Entry, Tick, SpanKind, drives, Moment}
use Rattle.eg_model.specs.Paths.{both_conduct}
use Rattle.eg_model.specs.Moments.{moment_in, moments_in}
use Rattle.eg_model.specs.Spans.{span_so_far, kind_at, before_at, moment_at, next_after, moments, next, ticks, span_ticks}
use Rattle.eg_model.specs.Engines.{BenchEngine}
use Rattle.eg_model.specs.Bench.{Run, stepped, engine_after, shown_at, drive_at, slices_at, entry_at, moments_to, entries_to}
use Rattle.eg_model.specs.Rows.{rows_of}
use Rattle.eg_model.specs.Records.{rows_to}
use Rattle.eg_model.specs.Branching.{BeginsFrom, under, AreOneRun, RunsBranch, BeginAlike, RecordsBranch}
use Rattle.eg_model.proofs.SpanLemmas.{length-run_moments}
use Rattle.eg_model.proofs.RecordTicks.{length-moments_to}

-- ---- a fault before its onset ----

quiet : (fault : Option Fault) (t : ℕ) → BeginsFrom (suc t) fault → effects fault t ≡ no_effects
quiet None t from = unfold effects in refl
quiet (Some f) t from = before_onset f t from

-- it begins after fewer ticks too
pub fewer : (fault : Option Fault) (t : ℕ) → BeginsFrom (suc t) fault → BeginsFrom t fault
fewer None t from = tt
fewer (Some f) t from = lower f.onset from
  where
    lower : (onset : ℕ) → suc t ≤ onset → t ≤ onset
    lower onset l = omega arith

-- where there is no fault nothing is out of order
none_acts : (fault : Option Fault) (t : ℕ) → fault ≡ None → effects fault t ≡ no_effects
none_acts fault t none = ap (λ f. effects f t) none ∙ (unfold effects in refl)

-- ---- what reads no fault ----

pub moment_in-under : (kind : SpanKind) (s : Setting) (fault : Option Fault) (x : Effects) (e : Entry) (past : List Moment) →
    moment_in kind (under fault s) x e past ≡ moment_in kind s x e past
unfolding moment_in
moment_in-under kind s fault x e past = refl

pub moments_in-under : (kind : SpanKind) (s : Setting) (fault : Option Fault) (h : List Tick) →
    moments_in kind (under fault s) h ≡ moments_in kind s h
unfolding moments_in
moments_in-under kind s fault [] = refl
moments_in-under kind s fault (x ∷ h) =
    ap (λ past. moment_in kind (under fault s) x.effects x.entry past ∷ past) (moments_in-under kind s fault h)
    ∙ ap (λ m. m ∷ moments_in kind s h) (moment_in-under kind s fault x.effects x.entry (moments_in kind s h))

module _ (s : Setting) (none : s.fault ≡ None) (fault : Option Fault) where
  pub effects-alike : (t : ℕ) → BeginsFrom (suc t) fault → effects fault t ≡ effects s.fault t
  effects-alike t from = quiet fault t from ∙ sym (none_acts s.fault t none)

  pub next-alike : (e : Entry) (past : List Moment) → BeginsFrom (suc (length past)) fault →
      next_after (under fault s) e past ≡ next_after s e past
  unfolding next_after moment_at
  next-alike e past from =
      ap (λ x. moment_in (kind_at e.drive past) (under fault s) x e (before_at e.drive past)) (effects-alike (length past) from)
      ∙ moment_in-under (kind_at e.drive past) s fault (effects s.fault (length past)) e (before_at e.drive past)

  -- ---- runs ----

  pub moments-alike : (h : List Entry) → BeginsFrom (length h) fault → moments (under fault s) h ≡ moments s h
  unfolding moments
  moments-alike [] from = refl
  moments-alike (e ∷ h) from =
      ap (λ past. next_after (under fault s) e past ∷ past) (moments-alike h (fewer fault (length h) from))
      ∙ ap (λ m. m ∷ moments s h) (next-alike e (moments s h)
      (subst (λ n. BeginsFrom (suc n) fault) (sym (length-run_moments s h)) from))

  -- the moment of one tick more
  pub next_moment-alike : (e : Entry) (h : List Entry) → BeginsFrom (suc (length h)) fault → next (under fault s) e h ≡ next s e h
  unfolding next
  next_moment-alike e h from = ap (next_after (under fault s) e) (moments-alike h (fewer fault (length h) from))
      ∙ next-alike e (moments s h) (subst (λ n. BeginsFrom (suc n) fault) (sym (length-run_moments s h)) from)

  pub ticks-alike : (h : List Entry) → BeginsFrom (length h) fault → ticks (under fault s) h ≡ ticks s h
  unfolding ticks
  ticks-alike [] from = refl
  ticks-alike (e ∷ h) from =
      ap₂ (λ x before. record { effects = x; entry = e } ∷ before) (effects-alike (length h) from)
      (ticks-alike h (fewer fault (length h) from))

  pub are_one_run : (h : List Entry) → BeginsFrom (length h) fault → AreOneRun s (under fault s) h
  unfolding span_ticks
  are_one_run h from = record {
    moments_are = moments-alike h from;
    ticks_are = ticks-alike h from;
    span_is = ap₂ (λ past run. take (length (span_so_far past)) run) (moments-alike h from) (ticks-alike h from);
  }

pub runs_branch : RunsBranch
runs_branch s none fault h from = are_one_run s none fault h from

-- ---- runs on the bench ----

module _ {E : Type 0} (b : BenchEngine E) (r : Run) (none : r.setting.fault ≡ None) (fault : Option Fault) where
  abbrev s : Setting
  s = r.setting

  -- the run under the fault
  abbrev q : Run
  q = record r { setting = under fault r.setting }

  engine-alike : (past : List Moment) → BeginsFrom (length past) fault →
      engine_after b (under fault s) past ≡ engine_after b s past
  unfolding engine_after
  engine-alike [] from = refl
  engine-alike (m ∷ past) from =
      ap₂ (λ engine (x : Effects). stepped b s.cal.plant engine (if m.fresh then [] else past) m.on x.held_plate)
      (engine-alike past (fewer fault (length past) from)) (effects-alike s none fault (length past) from)

  entry-alike : (t : ℕ) (past : List Moment) → BeginsFrom (suc t) fault → BeginsFrom (length past) fault →
      entry_at b q t past ≡ entry_at b r t past
  unfolding entry_at shown_at drive_at slices_at
  entry-alike t past from before =
      ap₂ (λ engine (x : Effects). record {
        drive = drive_at r t;
        slices = slices_at r t;
        shown = b.shows (stepped b s.cal.plant engine (before_at (drive_at r t) past)
            (drives (kind_at (drive_at r t) past) && both_conduct x (before_at (drive_at r t) past)) x.held_plate);
      }) (engine-alike past before) (effects-alike s none fault t from)

  -- the moments before a tick are as many as it has ticks before it
  long : (t : ℕ) (P : ℕ → Type 0) → P t → P (length (moments_to b r t))
  long t P = subst P (sym (length-moments_to b r t))

  entry-same : (t : ℕ) → BeginsFrom (suc t) fault → entry_at b q t (moments_to b r t) ≡ entry_at b r t (moments_to b r t)
  entry-same t from = entry-alike t (moments_to b r t) from (long t (λ n. BeginsFrom n fault) (fewer fault t from))

  moments_to-alike : (n : ℕ) → BeginsFrom n fault → moments_to b q n ≡ moments_to b r n
  unfolding moments_to
  moments_to-alike zero from = refl
  moments_to-alike (suc t) from =
      ap (λ past. next_after (under fault s) (entry_at b q t past) past ∷ past) (moments_to-alike t (fewer fault t from))
      ∙ ap (λ e. next_after (under fault s) e (moments_to b r t) ∷ moments_to b r t) (entry-same t from)
      ∙ ap (λ m. m ∷ moments_to b r t) (next-alike s none fault (entry_at b r t (moments_to b r t)) (moments_to b r t)
      (long t (λ n. BeginsFrom (suc n) fault) from))

  entries_to-alike : (n : ℕ) → BeginsFrom n fault → entries_to b q n ≡ entries_to b r n
  unfolding entries_to
  entries_to-alike zero from = refl
  entries_to-alike (suc t) from =
      ap₂ (λ past before. entry_at b q t past ∷ before) (moments_to-alike t (fewer fault t from))
      (entries_to-alike t (fewer fault t from))
      ∙ ap (λ e. e ∷ entries_to b r t) (entry-same t from)

  begin_alike : (n : ℕ) → BeginsFrom n fault → BeginAlike b r q n
  unfolding rows_to
  begin_alike n from = record {
    entries_are = entries_to-alike n from;
    moments_are = moments_to-alike n from;
    rows_are = ap rows_of (moments_to-alike n from);
    engine_is = ap (engine_after b (under fault s)) (moments_to-alike n from)
        ∙ engine-alike (moments_to b r n) (long n (λ k. BeginsFrom k fault) from);
  }

pub records_branch : {E : Type 0} (b : BenchEngine E) → RecordsBranch b
records_branch b r none fault n from = begin_alike b r none fault n from
