-- Where a track reads something near what it reads soundly, the pairs don't disagree by more than their tolerances, and the
-- greatest raise permits what is read of the load: so a tick gives level 2 nothing to find.
use Rattle.std.proofs.Common.{nat_lt, ◌≡◌, ◌∙◌, refl, sym, ap, subst, ℕ, ◌+◌, ◌-◌, ◌/◌, ◌≤◌, ◌<◌, Bool, true, false, List, [], ◌∷◌, arith, inl, inr, ◌⊎◌, min, max}
use Rattle.std.specs.Prelude.{if◌then◌else◌, slice_index, ◌==◌}
use Rattle.std.proofs.lemmas.Bool.{cases_lt, le-ltb, and_right, ne_eqb, eqb-true}
use Rattle.eg_num.specs.Arithmetic.{estimate}
use Rattle.eg_num.specs.Interpolation.{grid_at}
use Rattle.eg_torque.specs.Permit.{permitted}
use Rattle.eg_sensor.specs.declared.tracks.TheConstants.{PAIRED_TRACKS}
use Rattle.eg_sensor.specs.Brake.{sound_contacts, is_pressed, gated}
use Rattle.eg_sensor.specs.declared.readings.Readings.{Readings}
use Rattle.eg_answer.specs.Formulas.{permitted_torque, estimated_torque, disagreeing_pairs}
use Rattle.eg_values.specs.Calibration.{CalibrationParts, IsAccepted}
use Rattle.eg_fault.specs.Effects.{Effects, no_effects, readings_under, contacts_under}
use Rattle.eg_model.specs.History.{Setting, Entry, Tick}
use Rattle.eg_model.specs.Moments.{is_braking, sensed_at, readings_at}
use Rattle.eg_laws.specs.Latent.{CanStayHidden, IsStillTrack, still_reading}
use Rattle.eg_laws.proofs.LatentTicks.{GivesNothing, GiveNothing}
use Rattle.eg_laws.proofs.LatentRuns.{Comes, still_run, follow_ticks, each_tick, come_to, hidden_run}
use Rattle.eg_laws.proofs.LatentLaws.{loud, loud_within, estimate-most, gives_alike, SparesAll, answers_of, answers_spared}
use Rattle.eg_plant.specs.declared.engine_kind.EngineKind.{EngineKind}
use Rattle.eg_fault.specs.Faults.{effects_of, IsValid}
use Rattle.eg_fault.specs.declared.class.Fault.{Fault}
use Rattle.eg_fault.proofs.ActingLemmas.{of_class}
use Rattle.eg_model.specs.Spans.{ticks}
use Rattle.eg_model.specs.Engines.{bench_of}
use Rattle.eg_model.specs.Bench.{entries_to}
use Rattle.eg_laws.proofs.SharpUnderLaws.{act_plain}

-- ---- how far apart readings are ----

abbrev pub apart : ℕ → ℕ → ℕ
apart a b = (a - b) + (b - a)

-- A track of a pair, and what is read of it: no further from what it reads soundly in the run than its pair's tolerance, and
-- the greatest raise permits what is read of a load.
pub record ReadsNear (cal : CalibrationParts) (track : ℕ) (read : ℕ → ℕ) : Type 0 where
  pub paired : track < PAIRED_TRACKS
  pub small : (v : ℕ) → v ≤ 8000 → (IsStillTrack track → v ≡ still_reading track) →
      apart (read v) v ≤ slice_index cal.rules.tolerances (track / 2)
  pub load : (v : ℕ) → v ≤ 1000 → track / 2 ≡ 2 → estimate cal.rules.kt (read v) ≤ 10000 + cal.rules.threshold

module _ (cal : CalibrationParts) (track : ℕ) (read : ℕ → ℕ) (near : ReadsNear cal track read) where
  -- what the tracks read
  abbrev reads_on : ℕ → ℕ → ℕ
  reads_on i v = if i == track then read v else v

  abbrev tolerance : ℕ
  tolerance = slice_index cal.rules.tolerances (track / 2)

  abbrev far : ℕ → ℕ
  far i = if i == track then tolerance else 0

  -- this value is what a track reads soundly
  abbrev Sound : ℕ → ℕ → Type 0
  Sound i v = (v ≤ 8000) × (IsStillTrack i → v ≡ still_reading i)

  near_on : (i v : ℕ) → Sound i v → apart (reads_on i v) v ≤ far i
  near_on i v sound = go (i == track) refl
    where
      go : (b : Bool) → (i == track) ≡ b → apart (if b then read v else v) v ≤ (if b then tolerance else 0)
      go true is = near.small v sound.0 (subst (λ t. IsStillTrack t → v ≡ still_reading t) (eqb-true i track is) sound.1)
      go false is = omega arith

  -- a pair is no further apart than its tracks together
  rising : (i j v : ℕ) → Sound i v → Sound j v → apart (reads_on i v) (reads_on j v) ≤ far i + far j
  rising i j v one two = sums (reads_on i v) (reads_on j v) v (far i) (far j) (near_on i v one) (near_on j v two)
    where
      sums : (a b v m n : ℕ) → apart a v ≤ m → apart b v ≤ n → apart a b ≤ m + n
      sums a b v m n k l = omega arith

  falling : (i j v : ℕ) → v ≤ 1000 → Sound i v → Sound j (1000 - v) →
      apart (reads_on i v) (1000 - reads_on j (1000 - v)) ≤ far i + far j
  falling i j v l one two = sums (reads_on i v) (reads_on j (1000 - v)) v (far i) (far j) l (near_on i v one)
      (near_on j (1000 - v) two)
    where
      sums : (a b v m n : ℕ) → v ≤ 1000 → apart a v ≤ m → apart b (1000 - v) ≤ n → apart a (1000 - b) ≤ m + n
      sums a b v m n w k l = omega arith

  -- one track of a pair is moved at most
  fits : (pair i j : ℕ) → i / 2 ≡ pair → j / 2 ≡ pair → (i ≡ j → ⊥) → far i + far j ≤ slice_index cal.rules.tolerances pair
  fits pair i j one two other = go (i == track) (j == track) refl refl
    where
      place : (k : ℕ) → (k == track) ≡ true → k / 2 ≡ pair → tolerance ≤ slice_index cal.rules.tolerances pair
      place k is of_pair = same (slice_index cal.rules.tolerances (track / 2)) (slice_index cal.rules.tolerances pair)
          (ap (slice_index cal.rules.tolerances) (sym (ap (λ m. m / 2) (eqb-true k track is)) ∙ of_pair))
        where
          same : (a b : ℕ) → a ≡ b → a ≤ b
          same a b e = omega (arith, e)

      go : (b c : Bool) → (i == track) ≡ b → (j == track) ≡ c →
          (if b then tolerance else 0) + (if c then tolerance else 0) ≤ slice_index cal.rules.tolerances pair
      go true true e f = absurd (other (eqb-true i track e ∙ sym (eqb-true j track f)))
      go true false e f = let l = place i e one in omega (arith, l)
      go false true e f = let l = place j f two in omega (arith, l)
      go false false e f = omega arith

-- ---- a tick ----

module _ (cal : CalibrationParts) (accepted : IsAccepted cal) (track : ℕ) (read : ℕ → ℕ)
    (near : ReadsNear cal track read) (e : Entry) (comes : Comes loud e) where
  abbrev x : Effects
  x = record no_effects { track = λ i v. if i == track then read v else v }

  abbrev on : ℕ → ℕ → ℕ
  on = reads_on cal track read near

  abbrev l₁ : ℕ
  l₁ = e.shown.load_1

  -- what is read
  abbrev reads : Readings
  reads = record {
    pedal = on 0 0 ∷ on 1 1000 ∷ [];
    plate = on 2 e.shown.position ∷ on 3 (1000 - e.shown.position) ∷ [];
    load = on 4 l₁ ∷ on 5 l₁ ∷ [];
    speed = on 6 0 ∷ on 7 0 ∷ [];
    raise = 10000;
    raise_check = 55535;
  }

  contacts : is_pressed (contacts_under x (sound_contacts false)) ≡ false
  unfolding contacts_under no_effects
  contacts = rw (ne_eqb 8 track (λ f. omega (arith, near.paired)), ne_eqb 9 track (λ f. omega (arith, near.paired))) refl

  senses : readings_at cal x e ≡ reads
  unfolding readings_at
  senses = ap (λ (b : Bool). if b then gated (sensed_at x e) else sensed_at x e) unpressed ∙ sensed
    where
      unpressed : is_braking cal x e.drive ≡ false
      unpressed = unfold is_braking in and_right cal.brake _
          (ap (λ d. is_pressed (contacts_under x (sound_contacts d.brake))) comes.drive ∙ contacts)

      sensed : sensed_at x e ≡ reads
      sensed = unfold sensed_at readings_under no_effects in rw (comes.drive, comes.one) refl

  abbrev Sound_on : ℕ → ℕ → Type 0
  Sound_on = Sound cal track read near

  -- no pair is further apart than its tolerance
  falling_within : (pair i j v : ℕ) → v ≤ 1000 → Sound_on i v → Sound_on j (1000 - v) → i / 2 ≡ pair → j / 2 ≡ pair →
      (i ≡ j → ⊥) → nat_lt (slice_index cal.rules.tolerances pair) (apart (on i v) (1000 - on j (1000 - v))) ≡ false
  falling_within pair i j v l sound also one two other = le-ltb _ (apart (on i v) (1000 - on j (1000 - v))) (
      let moved = falling cal track read near i j v l sound also in
      let most = fits cal track read near pair i j one two other in
      omega (arith, moved, most)
      )

  rising_within : (pair i j v : ℕ) → Sound_on i v → Sound_on j v → i / 2 ≡ pair → j / 2 ≡ pair → (i ≡ j → ⊥) →
      nat_lt (slice_index cal.rules.tolerances pair) (apart (on i v) (on j v)) ≡ false
  rising_within pair i j v sound also one two other = le-ltb _ (apart (on i v) (on j v)) (
      let moved = rising cal track read near i j v sound also in
      let most = fits cal track read near pair i j one two other in
      omega (arith, moved, most)
      )

  -- plate and load don't stand still
  moving : (i v : ℕ) → v ≤ 8000 → 2 ≤ i → i ≤ 5 → Sound_on i v
  moving i v l low high = (
    l,
    λ still. elim still [
      | inl pedal ↦ absurd (omega (arith, pedal, low))
      | inr speed ↦ absurd (omega (arith, speed, high))
    ],
  )

  pairs_agree : disagreeing_pairs cal.rules reads ≡ 0
  unfolding disagreeing_pairs still_reading
  pairs_agree = rw (
    falling_within 0 0 1 0 (omega arith) (omega arith, λ still. refl) (omega arith, λ still. refl) refl refl (λ f. omega arith),
    falling_within 1 2 3 e.shown.position comes.position (moving 2 e.shown.position (let p = comes.position in omega (arith, p))
        (omega arith) (omega arith)) (moving 3 (1000 - e.shown.position) (omega arith) (omega arith) (omega arith)) refl refl
        (λ f. omega arith),
    rising_within 2 4 5 l₁ (moving 4 l₁ low (omega arith) (omega arith)) (moving 5 l₁ low (omega arith) (omega arith)) refl refl
        (λ f. omega arith),
    rising_within 3 6 7 0 (omega arith, λ still. refl) (omega arith, λ still. refl) refl refl (λ f. omega arith),
  ) refl
    where
      low : l₁ ≤ 8000
      low = let c = comes.load in omega (arith, c)

  -- the load that is read, and its estimate
  loads_below : (i : ℕ) → i / 2 ≡ 2 → estimate cal.rules.kt (on i l₁) ≤ 10000 + cal.rules.threshold
  loads_below i of_load = go (i == track) refl
    where
      go : (b : Bool) → (i == track) ≡ b →
          estimate cal.rules.kt (if b then read l₁ else l₁) ≤ 10000 + cal.rules.threshold
      go true is = near.load l₁ comes.load (sym (ap (λ m. m / 2) (eqb-true i track is)) ∙ of_load)
      go false is = let most = estimate-most cal.rules.kt l₁ (let same = accepted.together.one_kt in
          let most = accepted.plant.kt_most in omega (arith, same, most)) comes.load in omega (arith, most)

  no_excess : (pedal : ℕ) → estimated_torque cal.rules reads ≤ permitted_torque cal.rules reads pedal + cal.rules.threshold
  unfolding estimated_torque permitted_torque permitted
  no_excess pedal = below (on 4 l₁) (on 5 l₁)
      (min (grid_at cal.rules.permit pedal (on 6 0)) (grid_at cal.rules.permit pedal (on 7 0)))
      (loads_below 4 refl) (loads_below 5 refl)
    where
      higher : (a b : ℕ) → (max a b ≡ a) ⊎ (max a b ≡ b)
      higher a b = elim (cases_lt a b) [ inl l ↦ inr (omega (arith, l)) | inr l ↦ inl (omega (arith, l)) ]

      over : (a table threshold : ℕ) → a ≤ 10000 + threshold → a ≤ max table 10000 + threshold
      over a table threshold l = omega arith

      below : (a b table : ℕ) → estimate cal.rules.kt a ≤ 10000 + cal.rules.threshold →
          estimate cal.rules.kt b ≤ 10000 + cal.rules.threshold →
          estimate cal.rules.kt (max a b) ≤ max table 10000 + cal.rules.threshold
      below a b table l m = let most : estimate cal.rules.kt (max a b) ≤ 10000 + cal.rules.threshold = elim (higher a b) [
        | inl e ↦ subst (λ v. estimate cal.rules.kt v ≤ 10000 + cal.rules.threshold) (sym e) l
        | inr e ↦ subst (λ v. estimate cal.rules.kt v ≤ 10000 + cal.rules.threshold) (sym e) m
      ] in over (estimate cal.rules.kt (max a b)) table cal.rules.threshold most

  pub gives_moved : GivesNothing cal (record { effects = x; entry = e })
  gives_moved = record {
    runs = true;
    ran = λ i. unfold no_effects in refl;
    unflipped = unfold no_effects in refl;
    undisturbed = λ i. unfold no_effects in refl;
    pairs = ap (disagreeing_pairs cal.rules) senses ∙ pairs_agree;
    torque = λ pedal. subst (λ r. estimated_torque cal.rules r ≤ permitted_torque cal.rules r pedal + cal.rules.threshold)
        (sym senses) (no_excess pedal);
  }

-- ---- a run ----

-- a fault that makes one track read near what it reads soundly at each tick, and spares the answers, can stay hidden
module _ (engine : EngineKind) where
  pub near_hides : (cal : CalibrationParts) → IsAccepted cal → (f : Fault) → IsValid f → SparesAll f.class →
      ((k : ℕ) (e : Entry) → Comes loud e → GivesNothing cal (record { effects = effects_of f.class k; entry = e })) →
      CanStayHidden (bench_of engine) cal f
  near_hides cal accepted f valid spares gives n =
      hidden_run engine cal accepted f valid loud loud_within refl n each
      (answers_of s h each (follow_ticks s entries) (answers_spared s accepted f valid refl spares))
    where
      s : Setting
      s = (still_run cal f loud n).setting

      entries : List Entry
      entries = entries_to (bench_of engine) (still_run cal f loud n) n

      h : List Tick
      h = ticks s entries

      each : GiveNothing cal h
      each = each_tick (Comes loud) (GivesNothing cal) s
          (λ e t comes. of_class (λ y. GivesNothing cal (record { effects = y; entry = e })) f
          (gives_alike cal accepted e comes no_effects act_plain) (λ k. gives k e comes) t)
          entries (come_to engine cal accepted f valid loud loud_within n n (omega arith))
