-- Runs that are never reset, with one drive row at each tick, and level 1 that does nothing: what comes in at their ticks,
-- and that no watch is found in them where each tick gives level 2 nothing to find.
use Rattle.std.proofs.Common.{◌≡◌, ◌∙◌, refl, sym, ap, subst, ℕ, zero, suc, ◌+◌, ◌≤◌, ◌<◌, Bool, false, ◌&&◌, List, [], ◌∷◌, All, length, replicate, arith, Some}
use Rattle.std.specs.Prelude.{slice_index_or}
use Rattle.std.proofs.lemmas.List.{length-replicate}
use Rattle.std.proofs.lemmas.List.Elements.{All-nil, All-cons, All-head, All-tail, All-replicate}
use Rattle.eg_num.specs.Drive.{DriveRow, IsDrive}
use Rattle.eg_num.specs.declared.watches.Watches.{Watches}
use Rattle.eg_plant.specs.declared.engine_kind.EngineKind.{EngineKind}
use Rattle.eg_values.specs.Calibration.{CalibrationParts, IsAccepted}
use Rattle.eg_fault.specs.Faults.{effects, IsValid, IsNoneOrValid}
use Rattle.eg_fault.specs.declared.class.Fault.{Fault}
use Rattle.eg_fault.proofs.ClassLemmas.{plates_are_held_within}
use Rattle.eg_record.specs.declared.watch.Watch.{Watch}
use Rattle.eg_record.specs.declared.watch.Watch.TheVariants as watch
use Rattle.eg_record.specs.Detection.{is_found}
use Rattle.eg_model.specs.History.{Setting, Entry, Tick, Moment, drives}
use Rattle.eg_model.specs.Paths.{both_conduct}
use Rattle.eg_model.specs.Moments.{moment, moments_of}
use Rattle.eg_model.specs.Level1.{last_world}
use Rattle.eg_model.specs.Spans.{before_at, kind_at, ticks}
use Rattle.eg_model.specs.Engines.{BenchEngine, IsOneLoad, state_of, bench_of}
use Rattle.eg_model.specs.Bench.{Run, no_drive, stepped, shown_at, drive_at, entry_at, moments_to, entries_to, engine_after}
use Rattle.eg_model.specs.Rows.{row_of, rows_of, record_rows}
use Rattle.eg_model.specs.Records.{IsRun}
use Rattle.eg_model.specs.Premises.{Follows}
use Rattle.eg_laws.specs.Latent.{FindsNothing, HiddenRun}
use Rattle.eg_model.proofs.TickLemmas.{Each, Pair, Pedal, Plate, Load, Speed, found_by}
use Rattle.eg_model.proofs.RecordTicks.{records_are_histories}
use Rattle.eg_model.proofs.SpanLemmas.{length-ticks}
use Rattle.eg_model.proofs.StartUpLaws.{runs_without_reset}
use Rattle.eg_laws.proofs.KindLaws.{laws_of, keeps_of, shows_one_load_of}
use Rattle.eg_laws.proofs.LatentTicks.{GiveNothing, Unfound, unfound_after}

-- ---- the run ----

-- what comes in at each of its ticks
pub record Comes (d : DriveRow) (e : Entry) : Type 0 where
  pub drive : e.drive ≡ d
  pub position : e.shown.position ≤ 1000
  pub load : e.shown.load_1 ≤ 1000
  pub one : IsOneLoad e.shown

abbrev pub still_run : CalibrationParts → Fault → DriveRow → ℕ → Run
still_run cal f d n = record {
  setting = record { cal = cal; image = []; fault = Some f };
  plan = replicate 9 0 ∷ [];
  drive = replicate n d;
}

pub row_in : (d other : DriveRow) (n t : ℕ) → t < n → slice_index_or (replicate n d) t other ≡ d
row_in d other zero t l = absurd (omega (arith, l))
row_in d other (suc n) zero l = refl
row_in d other (suc n) (suc t) l = row_in d other n t (omega (arith, l))

module _ (engine : EngineKind) (cal : CalibrationParts) (accepted : IsAccepted cal) (f : Fault) (valid : IsValid f) (d : DriveRow)
    (within : IsDrive d) (n : ℕ) where
  abbrev b : BenchEngine (state_of engine)
  b = bench_of engine

  abbrev r : Run
  r = still_run cal f d n

  pub proper_run : IsRun r
  proper_run = record { accepted = accepted; drive = All-replicate IsDrive n d within }

  -- a step under the fault keeps what the engine keeps
  kept_step : (t : ℕ) (e : state_of engine) (past : List Moment) (on : Bool) → (laws_of engine).Keeps cal.plant e →
      (laws_of engine).Keeps cal.plant (stepped b cal.plant e past on (effects (Some f) t).held_plate)
  unfolding stepped
  kept_step t e past on kept = (keeps_of engine).goes_on cal.plant e kept (last_world past).throttle (last_world past).ignition on _
      (plates_are_held_within (Some f) (unfold IsNoneOrValid in valid) t)

  kept_at : (past : List Moment) → (laws_of engine).Keeps cal.plant (engine_after b r.setting past)
  unfolding engine_after
  kept_at [] = (keeps_of engine).at_first cal.plant accepted.plant
  kept_at (m ∷ past) = kept_step (length past) (engine_after b r.setting past) _ _ (kept_at past)

  comes_at : (t : ℕ) → t < n → Comes d (entry_at b r t (moments_to b r t))
  unfolding entry_at drive_at shown_at
  comes_at t l = record {
    drive = row_in d no_drive n t l;
    position = ((keeps_of engine).laws cal.plant _ kept).position;
    load = (laws_of engine).low cal.plant _ kept;
    one = (shows_one_load_of engine).loads _;
  }
    where
      past : List Moment
      past = moments_to b r t

      before : List Moment
      before = before_at (drive_at r t) past

      kept : (laws_of engine).Keeps cal.plant (stepped b cal.plant (engine_after b r.setting past) before
          (drives (kind_at (drive_at r t) past) && both_conduct (effects (Some f) t) before) (effects (Some f) t).held_plate)
      kept = kept_step t (engine_after b r.setting past) _ _ (kept_at past)

  pub come_to : (m : ℕ) → m ≤ n → All (Comes d) (entries_to b r m)
  unfolding entries_to
  come_to zero l = All-nil (Comes d)
  come_to (suc t) l = All-cons (Comes d) (entry_at b r t (moments_to b r t)) (entries_to b r t)
      (comes_at t (omega (arith, l))) (come_to t (omega (arith, l)))

-- ---- the ticks of such a run ----

-- they follow the fault from tick 0
pub follow_ticks : (s : Setting) (h : List Entry) → Follows s.fault 0 (ticks s h)
unfolding ticks Follows
follow_ticks s [] = tt
follow_ticks s (e ∷ h) = (ap (effects s.fault) (sum (length h) (length (ticks s h)) (length-ticks s h)), follow_ticks s h)
  where
    sum : (a c : ℕ) → c ≡ a → a ≡ 0 + c
    sum a c same = omega arith

-- what holds by what comes in, and by what is out of order at a tick
pub each_tick : (P : Entry → Type 0) (Q : Tick → Type 0) (s : Setting) →
    ((e : Entry) (t : ℕ) → P e → Q (record { effects = effects s.fault t; entry = e })) → (h : List Entry) → All P h →
    Each Q (ticks s h)
unfolding ticks Each
each_tick P Q s q [] all = tt
each_tick P Q s q (e ∷ h) all = (q e (length h) (All-head P e h all), each_tick P Q s q h (All-tail P e h all))

-- ---- no watch is found ----

-- that no watch is found at a row, by its parts
finds_nothing : (found : Watches) → found.mirror ≡ false → ((p : Pair) → found_by p found ≡ false) → found.torque ≡ false →
    found.answers ≡ false → found.start ≡ false → (w : Watch) → is_found found w ≡ false
unfolding is_found found_by
finds_nothing found mirror pairs torque answers start watch.Mirror = mirror
finds_nothing found mirror pairs torque answers start watch.Pedal = pairs Pedal
finds_nothing found mirror pairs torque answers start watch.Plate = pairs Plate
finds_nothing found mirror pairs torque answers start watch.Load = pairs Load
finds_nothing found mirror pairs torque answers start watch.Speed = pairs Speed
finds_nothing found mirror pairs torque answers start watch.Torque = torque
finds_nothing found mirror pairs torque answers start watch.Answers = answers
finds_nothing found mirror pairs torque answers start watch.Start = start

-- no wrong answers are found at any tick of a history
unfoldable pub AnswersUnfound : Setting → List Tick → Type 0
AnswersUnfound s [] = Unit {0}
AnswersUnfound s (x ∷ h) = ((moment s x.effects x.entry (moments_of s h)).found.answers ≡ false) × AnswersUnfound s h

rows_hidden : (s : Setting) → IsAccepted s.cal → (h : List Tick) → GiveNothing s.cal h → AnswersUnfound s h →
    All FindsNothing (rows_of (moments_of s h))
unfolding rows_of moments_of Each AnswersUnfound row_of
rows_hidden s accepted [] each answers = All-nil FindsNothing
rows_hidden s accepted (x ∷ h) each answers = All-cons FindsNothing _ _
    (finds_nothing _ u.mirror u.pairs u.torque answers.0 u.start) (rows_hidden s accepted h each.1 answers.1)
  where
    u : Unfound (moment s x.effects x.entry (moments_of s h))
    u = unfound_after s accepted x h each

-- ---- so the fault can stay hidden ----

module _ (engine : EngineKind) (cal : CalibrationParts) (accepted : IsAccepted cal) (f : Fault) (valid : IsValid f) (d : DriveRow)
    (within : IsDrive d) (quiet : d.reset ≡ false) where
  abbrev of_run : ℕ → List Tick
  of_run n = ticks (still_run cal f d n).setting (entries_to (bench_of engine) (still_run cal f d n) n)

  never_reset : (n : ℕ) → All (λ e. e.drive.reset ≡ false) (entries_to (bench_of engine) (still_run cal f d n) n)
  never_reset n = go (entries_to (bench_of engine) (still_run cal f d n) n)
      (come_to engine cal accepted f valid d within n n (omega arith))
    where
      go : (h : List Entry) → All (Comes d) h → All (λ e. e.drive.reset ≡ false) h
      go [] all = All-nil (λ e. e.drive.reset ≡ false)
      go (e ∷ h) all = All-cons (λ e. e.drive.reset ≡ false) e h
          (ap (λ (row : DriveRow). row.reset) (All-head (Comes d) e h all).drive ∙ quiet) (go h (All-tail (Comes d) e h all))

  pub hidden_run : (n : ℕ) → GiveNothing cal (of_run n) →
      AnswersUnfound (still_run cal f d n).setting (of_run n) → HiddenRun (bench_of engine) cal f n
  hidden_run n each answers = record {
    run = r;
    proper = proper_run engine cal accepted f valid d within n;
    cal_is = refl;
    fault_is = refl;
    image_is = refl;
    plan_is = refl;
    size = length-replicate n d;
    driven = All-replicate (λ (row : DriveRow). row.reset ≡ false) n d quiet;
    hidden = subst (All FindsNothing) (sym rows_are) (rows_hidden r.setting accepted (of_run n) each answers);
  }
    where
      r : Run
      r = still_run cal f d n

      rows_are : record_rows (bench_of engine) r ≡ rows_of (moments_of r.setting (of_run n))
      rows_are = unfold record_rows in ap (λ k. rows_of (moments_to (bench_of engine) r k)) (length-replicate n d)
          ∙ ap rows_of (records_are_histories (bench_of engine) r n ∙ runs_without_reset r.setting (entries_to (bench_of engine) r n) (never_reset n))
