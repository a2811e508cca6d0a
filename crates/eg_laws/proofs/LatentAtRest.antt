-- Faults that change nothing that counts where pedal, plate and raise are at 0 can stay hidden.
use Rattle.std.proofs.Common.{◌≡◌, ◌∙◌, refl, sym, ap, ℕ, ℤ, pos, negsuc, ◌+◌, ◌-◌, ◌%◌, ◌≤◌, ◌==◌, ◌≢◌, ◌||◌, ◌⊎◌, Bool, true, false, List, arith, inl, inr, Some, None, min, max}
use Rattle.std.specs.Prelude.{if◌then◌else◌, slice_index}
use Rattle.std.proofs.lemmas.Bool.{ne_eqb, eqb-true, leb-true, or_cases, false≢true}
use Rattle.eg_num.specs.Arithmetic.{estimate}
use Rattle.eg_num.specs.Interpolation.{grid_at}
use Rattle.eg_num.specs.Drive.{DriveRow, driven}
use Rattle.eg_torque.specs.Permit.{permitted}
use Rattle.eg_torque.proofs.PermitLemmas.{grid_at-rises}
use Rattle.eg_plant.specs.Engine.{Shown}
use Rattle.eg_plant.specs.declared.engine_kind.EngineKind.{EngineKind}
use Rattle.eg_sensor.specs.Readings.{checked_raise}
use Rattle.eg_sensor.specs.Brake.{gated}
use Rattle.eg_sensor.specs.declared.readings.Readings.{Readings}
use Rattle.eg_answer.specs.Formulas.{permitted_torque, estimated_torque, disagreeing_pairs}
use Rattle.eg_values.specs.Calibration.{CalibrationParts, IsAccepted}
use Rattle.eg_fault.specs.Effects.{Effects, no_effects, readings_under}
use Rattle.eg_fault.specs.Faults.{offset_by, in_turn, effects_of, effects, is_lapse}
use Rattle.eg_fault.specs.Classes.{may_change_answers}
use Rattle.eg_fault.specs.declared.class.Class.{Class}
use Rattle.eg_fault.specs.declared.class.Class.TheVariants.{Script, Offset, Bus}
use Rattle.eg_fault.proofs.ActingLemmas.{of_class}
use Rattle.eg_model.specs.History.{Setting, Entry, Tick}
use Rattle.eg_model.specs.Moments.{is_braking, sensed_at, readings_at}
use Rattle.eg_model.specs.Spans.{ticks}
use Rattle.eg_model.specs.Engines.{bench_of}
use Rattle.eg_model.specs.Bench.{entries_to}
use Rattle.eg_model.specs.Reaction.{spoils_answers}
use Rattle.eg_laws.specs.Latent.{IsCalmAtRest, is_cut_off, hides_at_rest, RestHides}
use Rattle.eg_laws.proofs.KindLaws.{laws_of, shows_one_load_of}
use Rattle.eg_laws.proofs.LatentTicks.{GivesNothing, GiveNothing}
use Rattle.eg_laws.proofs.LatentRuns.{still_run, follow_ticks, each_tick, hidden_run}
use Rattle.eg_laws.proofs.LatentLaws.{agree, SparesAll, answers_of, answers_spared}
use Rattle.eg_laws.proofs.LatentRest.{RestsWith, rest_to}

-- ---- readings at rest ----

-- what counts is read as it is at rest, at this load and this speed
pub record ReadsRest (r : Readings) (load speed : ℕ) : Type 0 where
  pub pedal_1 : slice_index r.pedal 0 ≡ 0
  pub pedal_2 : 1000 - slice_index r.pedal 1 ≡ 0
  pub plate_1 : slice_index r.plate 0 ≡ 0
  pub plate_2 : 1000 - slice_index r.plate 1 ≡ 0
  pub load_1 : slice_index r.load 0 ≡ load
  pub load_2 : slice_index r.load 1 ≡ load
  pub speed_1 : slice_index r.speed 0 ≡ speed
  pub speed_2 : slice_index r.speed 1 ≡ speed

module _ (cal : CalibrationParts) (accepted : IsAccepted cal) (r : Readings) (load speed : ℕ)
    (reads : ReadsRest r load speed) where
  pairs_agree : disagreeing_pairs cal.rules r ≡ 0
  unfolding disagreeing_pairs
  pairs_agree = rw (
    agree (slice_index r.pedal 0) (1000 - slice_index r.pedal 1) (slice_index cal.rules.tolerances 0)
        (reads.pedal_1 ∙ sym reads.pedal_2),
    agree (slice_index r.plate 0) (1000 - slice_index r.plate 1) (slice_index cal.rules.tolerances 1)
        (reads.plate_1 ∙ sym reads.plate_2),
    agree (slice_index r.load 0) (slice_index r.load 1) (slice_index cal.rules.tolerances 2) (reads.load_1 ∙ sym reads.load_2),
    agree (slice_index r.speed 0) (slice_index r.speed 1) (slice_index cal.rules.tolerances 3)
        (reads.speed_1 ∙ sym reads.speed_2),
  ) refl

  no_excess : estimate cal.rules.kt load ≤ grid_at cal.rules.permit 0 speed + cal.rules.threshold → (pedal : ℕ) →
      estimated_torque cal.rules r ≤ permitted_torque cal.rules r pedal + cal.rules.threshold
  unfolding estimated_torque permitted_torque permitted
  no_excess calm pedal = below _ (grid_at cal.rules.permit pedal (slice_index r.speed 0))
      (grid_at cal.rules.permit pedal (slice_index r.speed 1))
      (checked_raise r.raise r.raise_check)
      (ap (estimate cal.rules.kt) (same (slice_index r.load 0) (slice_index r.load 1) reads.load_1 reads.load_2))
      (ap (grid_at cal.rules.permit pedal) reads.speed_1) (ap (grid_at cal.rules.permit pedal) reads.speed_2)
      (grid_at-rises cal.rules.permit accepted.grid accepted.permit 0 pedal speed (omega arith))
    where
      same : (a b : ℕ) → a ≡ load → b ≡ load → max a b ≡ load
      same a b u v = omega (arith, u, v)

      below : (estimated a b raise : ℕ) → estimated ≡ estimate cal.rules.kt load → a ≡ grid_at cal.rules.permit pedal speed →
          b ≡ grid_at cal.rules.permit pedal speed → grid_at cal.rules.permit 0 speed ≤ grid_at cal.rules.permit pedal speed →
          estimated ≤ max (min a b) raise + cal.rules.threshold
      below estimated a b raise e u v rises = omega (arith, calm, e, u, v, rises)

-- ---- classes that change none of it ----

pub record MovesNothing (x : Effects) : Type 0 where
  pub pedal_1 : x.track 0 0 ≡ 0
  pub pedal_2 : 1000 - x.track 1 1000 ≡ 0
  pub plate_1 : x.track 2 0 ≡ 0
  pub plate_2 : 1000 - x.track 3 1000 ≡ 0
  pub others : (i v : ℕ) → 4 ≤ i → i ≤ 7 → x.track i v ≡ v
  pub ran : (i : ℕ) → x.ran i ≡ true
  pub unflipped : x.flip ≡ None
  pub undisturbed : (i : ℕ) → x.disturbance i ≡ 0
  pub free : x.held_plate ≡ None

moves_plain : MovesNothing no_effects
unfolding no_effects
moves_plain = record {
  pedal_1 = refl;
  pedal_2 = refl;
  plate_1 = refl;
  plate_2 = refl;
  others = λ i v l m. refl;
  ran = λ i. refl;
  unflipped = refl;
  undisturbed = λ i. refl;
  free = refl;
}

either : (P : ℕ → Type 0) (b : Bool) (x y : ℕ) → (b ≡ true → P x) → P y → P (if b then x else y)
either P true x y there other = there refl
either P false x y there other = other

-- one track reads something else: of pedal and plate 0 where it should, a second one 1000, or it is a contact's
moves_track : (track : ℕ) (read : ℕ → ℕ) → (track % 2 ≡ 0 → track ≤ 3 → read 0 ≡ 0) →
    (track % 2 ≡ 1 → track ≤ 3 → 1000 - read 1000 ≡ 0) → ((track ≤ 3) ⊎ (8 ≤ track)) →
    MovesNothing (record no_effects { track = λ i x. if i == track then read x else x })
unfolding no_effects
moves_track track read first second paired = record {
  pedal_1 = either (λ v. v ≡ 0) (0 == track) (read 0) 0 (λ e. at 0 (eqb-true 0 track e) first (omega arith) (omega arith)) refl;
  pedal_2 = either (λ v. 1000 - v ≡ 0) (1 == track) (read 1000) 1000
      (λ e. at 1 (eqb-true 1 track e) second (omega arith) (omega arith)) refl;
  plate_1 = either (λ v. v ≡ 0) (2 == track) (read 0) 0 (λ e. at 2 (eqb-true 2 track e) first (omega arith) (omega arith)) refl;
  plate_2 = either (λ v. 1000 - v ≡ 0) (3 == track) (read 1000) 1000
      (λ e. at 3 (eqb-true 3 track e) second (omega arith) (omega arith)) refl;
  others = λ i v l m. rw (ne_eqb i track (apart i l m)) refl;
  ran = λ i. refl;
  unflipped = refl;
  undisturbed = λ i. refl;
  free = refl;
}
  where
    at : (i : ℕ) → i ≡ track → {p : ℕ} {X : Type 0} → (track % 2 ≡ p → track ≤ 3 → X) → i % 2 ≡ p → i ≤ 3 → X
    at i same {p} gives parity low =
        gives (let e : track % 2 ≡ i % 2 = ap (λ n. n % 2) (sym same) in e ∙ parity) (omega (arith, same, low))

    apart : (i : ℕ) → 4 ≤ i → i ≤ 7 → i ≢ track
    apart i l m same = elim paired [ inl low ↦ omega (arith, same, low, l) | inr high ↦ omega (arith, same, high, m) ]

-- a contact of the brake reads anything
moves_contact : (track : ℕ) (read : ℕ → ℕ) → 8 ≤ track →
    MovesNothing (record no_effects { track = λ i x. if i == track then read x else x })
moves_contact track read contact =
    moves_track track read (λ even low. absurd (omega (arith, low, contact)))
    (λ odd low. absurd (omega (arith, low, contact))) (inr contact)

-- of the first or of the second tracks of pedal and plate
of_two : (track a : ℕ) → a ≤ 1 → (track == a || track == a + 2) ≡ true → (track % 2 ≡ a) × (track ≤ 3)
of_two track a few one = elim (or_cases _ _ one) [
  | inl e ↦ (let t = eqb-true track a e in (omega (arith, t, few), omega (arith, t, few)))
  | inr e ↦ (let t = eqb-true track (a + 2) e in (omega (arith, t, few), omega (arith, t, few)))
]

module _ (k : ℕ) where
  -- an offset is cut off
  moves_cut : (track : ℕ) (add : ℤ) → is_cut_off track add ≡ true → MovesNothing (effects_of (Offset track add) k)
  unfolding is_cut_off effects_of offset_by
  moves_cut track (pos more) cut =
      let second = of_two track 1 (omega arith) cut in
      moves_track track (offset_by (pos more)) (λ even low. absurd (let odd = second.0 in omega (arith, even, odd)))
      (λ odd low. omega arith) (inl second.1)
  moves_cut track (negsuc less) cut =
      let first = of_two track 0 (omega arith) cut in
      moves_track track (offset_by (negsuc less)) (λ even low. omega arith)
      (λ odd low. absurd (let even = first.0 in omega (arith, even, odd))) (inl first.1)

  moves_class : (class : Class) → hides_at_rest class ≡ true → MovesNothing (effects_of class k)
  unfolding hides_at_rest effects_of
  moves_class (Bus mask) hides = unfold no_effects in record {
    pedal_1 = refl;
    pedal_2 = refl;
    plate_1 = refl;
    plate_2 = refl;
    others = λ i v l m. refl;
    ran = λ i. refl;
    unflipped = refl;
    undisturbed = λ i. refl;
    free = refl;
  }
  moves_class (Script track values) hides = moves_contact track (λ x. in_turn values k) (leb-true _ _ hides)
  moves_class (Offset track add) hides = elim (or_cases _ _ hides) [
    | inl contact ↦ moves_contact track (offset_by add) (leb-true _ _ contact)
    | inr cut ↦ moves_cut track add cut
  ]
  moves_class _ hides = absurd (false≢true hides)

spares_class : (class : Class) → hides_at_rest class ≡ true → SparesAll class
unfolding hides_at_rest is_lapse may_change_answers spoils_answers
spares_class (Bus mask) hides = record { listed = refl; spares = refl; spoils = refl }
spares_class (Script track values) hides = record { listed = refl; spares = refl; spoils = refl }
spares_class (Offset track add) hides = record { listed = refl; spares = refl; spoils = refl }
spares_class _ hides = absurd (false≢true hides)

-- ---- a tick ----

module _ (engine : EngineKind) (cal : CalibrationParts) (accepted : IsAccepted cal) (calm : IsCalmAtRest (bench_of engine) cal)
    (x : Effects) (moves : MovesNothing x) (e : Entry) (comes : RestsWith (bench_of engine) cal (driven 0 calm.speed 0) e) where
  abbrev load : ℕ
  load = ((bench_of engine).shows ((bench_of engine).rest cal.plant)).load_1

  sensed : ReadsRest (sensed_at x e) load calm.speed
  unfolding sensed_at readings_under
  sensed = record {
    pedal_1 = ap (λ d. x.track 0 d.pedal) comes.drive ∙ moves.pedal_1;
    pedal_2 = ap (λ d. 1000 - x.track 1 (1000 - d.pedal)) comes.drive ∙ moves.pedal_2;
    plate_1 = ap (x.track 2) closed ∙ moves.plate_1;
    plate_2 = ap (λ p. 1000 - x.track 3 (1000 - p)) closed ∙ moves.plate_2;
    load_1 = moves.others 4 _ (omega arith) (omega arith) ∙ ap (λ (s : Shown). s.load_1) comes.shown;
    load_2 = moves.others 5 _ (omega arith) (omega arith) ∙ ap (λ (s : Shown). s.load_2) comes.shown
        ∙ (shows_one_load_of engine).loads ((bench_of engine).rest cal.plant);
    speed_1 = moves.others 6 _ (omega arith) (omega arith) ∙ ap (λ (d : DriveRow). d.speed) comes.drive;
    speed_2 = moves.others 7 _ (omega arith) (omega arith) ∙ ap (λ (d : DriveRow). d.speed) comes.drive;
  }
    where
      closed : e.shown.position ≡ 0
      closed = ap (λ (s : Shown). s.position) comes.shown ∙ (laws_of engine).closed cal.plant

  read : ReadsRest (readings_at cal x e) load calm.speed
  unfolding readings_at
  read = go (is_braking cal x e.drive)
    where
      go : (brakes : Bool) → ReadsRest (if brakes then gated (sensed_at x e) else sensed_at x e) load calm.speed
      go true = record {
        pedal_1 = refl;
        pedal_2 = refl;
        plate_1 = sensed.plate_1;
        plate_2 = sensed.plate_2;
        load_1 = sensed.load_1;
        load_2 = sensed.load_2;
        speed_1 = sensed.speed_1;
        speed_2 = sensed.speed_2;
      }
      go false = sensed

  gives_rest : GivesNothing cal (record { effects = x; entry = e })
  gives_rest = record {
    runs = true;
    ran = moves.ran;
    unflipped = moves.unflipped;
    undisturbed = moves.undisturbed;
    pairs = pairs_agree cal accepted (readings_at cal x e) load calm.speed read;
    torque = no_excess cal accepted (readings_at cal x e) load calm.speed read calm.calm;
  }

module _ (engine : EngineKind) where
  pub rest_hides : RestHides (bench_of engine)
  rest_hides cal accepted calm f valid hides n = hidden_run engine cal accepted f valid d
      (omega arith, calm.within, omega arith) refl n each
      (answers_of s h each (follow_ticks s entries) (answers_spared s accepted f valid refl (spares_class f.class hides)))
    where
      d : DriveRow
      d = driven 0 calm.speed 0

      moves : (t : ℕ) → MovesNothing (effects (Some f) t)
      moves = of_class MovesNothing f moves_plain (λ k. moves_class k f.class hides)

      s : Setting
      s = (still_run cal f d n).setting

      entries : List Entry
      entries = entries_to (bench_of engine) (still_run cal f d n) n

      h : List Tick
      h = ticks s entries

      each : GiveNothing cal h
      each = each_tick (RestsWith (bench_of engine) cal d) (GivesNothing cal) s
          (λ e t comes. gives_rest engine cal accepted calm (effects (Some f) t) (moves t) e comes)
          entries (rest_to engine cal f (λ t. (moves t).free) d n n (omega arith))
