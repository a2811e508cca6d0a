-- Which faults can stay hidden: in the run at rest with the greatest raise no excess can be, and each class leaves alone what
-- the pairs are judged by.
use Rattle.std.proofs.Common.{◌≡◌, ◌∙◌, refl, sym, ap, subst, ℕ, ◌+◌, ◌-◌, ◌*◌, ◌/◌, ◌≤◌, ◌<◌, Bool, true, false, not, ◌&&◌, List, [], ◌∷◌, take, length, arith, inl, inr, ◌⊎◌, Some, None, IfSome, is_some, lit≤, min, max, nat_lt, ◌%◌}
use Rattle.std.specs.Prelude.{if◌then◌else◌, slice_index}
use Rattle.std.proofs.Math.Nat.{mul-le-mul}
use Rattle.std.proofs.lemmas.Bool.{cases_lt, le-ltb, and_right, or_parts, false≢true}
use Rattle.eg_num.specs.Arithmetic.{estimate}
use Rattle.eg_num.specs.Drive.{DriveRow, IsDrive, driven}
use Rattle.eg_num.specs.Interpolation.{grid_at}
use Rattle.eg_torque.specs.Permit.{permitted}
use Rattle.eg_sensor.specs.Readings.{sound_readings}
use Rattle.eg_sensor.specs.declared.readings.Readings.{Readings}
use Rattle.eg_answer.specs.Times.{HasMissSpacing, miss_spacing_of}
use Rattle.eg_answer.specs.Periods.{place_of}
use Rattle.eg_model.specs.Lapses.{IsLapse}
use Rattle.eg_answer.specs.Periods.{verdict_of}
use Rattle.eg_answer.specs.Formulas.{permitted_torque, estimated_torque, disagreeing_pairs}
use Rattle.eg_values.specs.Calibration.{CalibrationParts, IsAccepted}
use Rattle.eg_fault.specs.Effects.{Effects, no_effects, readings_under, contacts_under}
use Rattle.eg_fault.specs.Faults.{effects_of, effects, is_lapse, IsValid, IsListed}
use Rattle.eg_fault.specs.Classes.{may_change_answers}
use Rattle.eg_fault.specs.Running.{may_change_levels}
use Rattle.eg_fault.specs.declared.class.Class.{Class}
use Rattle.eg_fault.specs.declared.class.Class.TheVariants.{Skip, Disturb, Halt, Timing, Wild, Lapse}
use Rattle.eg_fault.specs.declared.class.Fault.{Fault}
use Rattle.eg_fault.proofs.ActingLemmas.{of_class, before_onset, from_onset}
use Rattle.eg_model.specs.History.{Setting, Entry, Tick, Drive, Moment}
use Rattle.eg_model.specs.Answers.{with_answer, answers_in, verdict_at, confirms_at}
use Rattle.eg_model.specs.Paths.{latch2}
use Rattle.eg_model.specs.Moments.{effective_drive, is_braking, sensed_at, readings_at, moment, moment_in, moments_in, moments_of}
use Rattle.eg_model.specs.Spans.{ticks}
use Rattle.eg_model.specs.Engines.{bench_of}
use Rattle.eg_model.specs.Bench.{entries_to}
use Rattle.eg_model.specs.Premises.{Follows}
use Rattle.eg_model.specs.Branching.{under}
use Rattle.eg_model.specs.Reaction.{spoils_answers}
use Rattle.eg_plant.specs.declared.engine_kind.EngineKind.{EngineKind}
use Rattle.eg_laws.specs.SharpUnder.{leaves_readings}
use Rattle.eg_laws.specs.Latent.{always_hides, CanStayHidden, ReadingsApartHide, FarMissesHide, SingleMissesHide, single_miss, OneMissHides}
use Rattle.eg_laws.specs.Availability.{misses_tick, MissesAreSpaced}
use Rattle.eg_model.proofs.TickLemmas.{Each, fields}
use Rattle.eg_model.proofs.BrakeLemmas.{plain_readings}
use Rattle.eg_model.proofs.BranchLaws.{moment_in-under, moments_in-under}
use Rattle.eg_model.proofs.Silence.{latch2-cons}
use Rattle.eg_laws.proofs.SharpUnderLaws.{ActAlike, act_class, act_plain}
use Rattle.eg_laws.proofs.SingleMisses.{single_misses_are_spaced, misses_once}
use Rattle.eg_laws.proofs.MissVerdicts.{SparesVerdicts, spaced_spares, recovering}
use Rattle.eg_laws.proofs.MissTicks.{missed, lapse_tick}
use Rattle.eg_laws.proofs.LatentTicks.{GivesNothing, GiveNothing, still_after, no_answers_found}
use Rattle.eg_laws.proofs.LatentRuns.{Comes, still_run, follow_ticks, each_tick, come_to, AnswersUnfound, hidden_run}

-- ---- the greatest raise ----

-- nobody touches the pedal, and the greatest raise permits all torque
abbrev pub loud : DriveRow
loud = driven 0 0 10000

pub loud_within : IsDrive loud
loud_within = (lit≤ tt, lit≤ tt, lit≤ tt)

-- what sound tracks read then
abbrev loud_reads : (position load_1 load_2 : ℕ) → Readings
loud_reads position load_1 load_2 = sound_readings 0 position (load_1 ∷ load_2 ∷ []) 0 10000

plain_loud : (cal : CalibrationParts) (e : Entry) → e.drive ≡ loud →
    readings_at cal no_effects e ≡ loud_reads e.shown.position e.shown.load_1 e.shown.load_2
unfolding effective_drive
plain_loud cal e is = plain_readings cal e
    ∙ ap (λ (d : DriveRow). sound_readings (effective_drive cal d).pedal e.shown.position
    (e.shown.load_1 ∷ e.shown.load_2 ∷ []) d.speed
    (effective_drive cal d).raise) is ∙ go cal.brake
  where
    row : Bool → DriveRow
    row b = if b && false then record loud { pedal = 0; raise = 0 } else loud

    go : (b : Bool) → sound_readings (row b).pedal e.shown.position (e.shown.load_1 ∷ e.shown.load_2 ∷ []) 0 (row b).raise
        ≡ loud_reads e.shown.position e.shown.load_1 e.shown.load_2
    go true = refl
    go false = refl

pub agree : (a b tolerance : ℕ) → a ≡ b → nat_lt tolerance ((a - b) + (b - a)) ≡ false
agree a b tolerance e = le-ltb tolerance ((a - b) + (b - a)) (omega arith)

pub estimate-most : (kt load : ℕ) → kt ≤ 10000 → load ≤ 1000 → estimate kt load ≤ 10000
estimate-most kt load k l = few (load * kt) (mul-le-mul l k)
  where
    few : (full : ℕ) → full ≤ 10000000 → min 65535 ((full + 999) / 1000) ≤ 10000
    few full m = omega arith

module _ (cal : CalibrationParts) (accepted : IsAccepted cal) (e : Entry) (comes : Comes loud e) where
  abbrev reads : Readings
  reads = loud_reads e.shown.position e.shown.load_1 e.shown.load_2

  pairs_agree : disagreeing_pairs cal.rules reads ≡ 0
  unfolding disagreeing_pairs
  pairs_agree = rw (
    agree 0 0 (slice_index cal.rules.tolerances 0) refl,
    agree 0 0 (slice_index cal.rules.tolerances 3) refl,
    agree e.shown.position (1000 - (1000 - e.shown.position)) (slice_index cal.rules.tolerances 1)
        (let p = comes.position in omega (arith, p)),
    agree e.shown.load_1 e.shown.load_2 (slice_index cal.rules.tolerances 2) (sym comes.one),
  ) refl

  no_excess : (pedal : ℕ) → estimated_torque cal.rules reads ≤ permitted_torque cal.rules reads pedal + cal.rules.threshold
  unfolding estimated_torque permitted_torque permitted
  no_excess pedal = below (estimated_torque cal.rules reads)
      (min (grid_at cal.rules.permit pedal 0) (grid_at cal.rules.permit pedal 0))
      cal.rules.threshold
      (estimate-most cal.rules.kt (max e.shown.load_1 e.shown.load_2)
      (let same = accepted.together.one_kt in let most = accepted.plant.kt_most in omega (arith, same, most))
      (let one = comes.one in let load = comes.load in omega (arith, one, load)))
    where
      below : (estimated table threshold : ℕ) → estimated ≤ 10000 → estimated ≤ max table 10000 + threshold
      below estimated table threshold l = omega arith

  -- so a tick gives level 2 nothing where the tracks read rightly
  pub gives : (x : Effects) → x.track ≡ no_effects.track → x.raise ≡ no_effects.raise → (runs : Bool) →
      ((i : ℕ) → x.ran i ≡ runs) → x.flip ≡ None → ((i : ℕ) → x.disturbance i ≡ 0) →
      GivesNothing cal (record { effects = x; entry = e })
  gives x track raise runs ran unflipped undisturbed = record {
    runs = runs;
    ran = ran;
    unflipped = unflipped;
    undisturbed = undisturbed;
    pairs = ap (disagreeing_pairs cal.rules) read ∙ pairs_agree;
    torque = λ pedal. subst (λ r. estimated_torque cal.rules r ≤ permitted_torque cal.rules r pedal + cal.rules.threshold)
        (sym read) (no_excess pedal);
  }
    where
      alike : readings_at cal x e ≡ readings_at cal no_effects e
      alike = unfold readings_at is_braking sensed_at readings_under contacts_under in rw (track, raise) refl

      read : readings_at cal x e ≡ reads
      read = alike ∙ plain_loud cal e comes.drive

  pub gives_alike : (x : Effects) → ActAlike x no_effects → GivesNothing cal (record { effects = x; entry = e })
  unfolding no_effects
  gives_alike x act = gives x act.track act.raise true (λ i. ap (λ (ran : ℕ → Bool). ran i) act.ran) act.flip
      (λ i. ap (λ (mixed : ℕ → ℕ). mixed i) act.disturbance)

-- ---- classes that leave readings alone ----

always-leaves : (class : Class) → always_hides class ≡ true → leaves_readings class ≡ true
unfolding always_hides
always-leaves (Timing offset) is = absurd (false≢true is)
always-leaves _ is = is

-- where no answers are found at any tick
pub answers_of : (s : Setting) (h : List Tick) → GiveNothing s.cal h → Follows s.fault 0 h →
    ((x : Tick) (before : List Tick) → GiveNothing s.cal (x ∷ before) → Follows s.fault 0 (x ∷ before) →
    (moment s x.effects x.entry (moments_of s before)).found.answers ≡ false) → AnswersUnfound s h
unfolding AnswersUnfound Each Follows
answers_of s [] each follows now = tt
answers_of s (x ∷ h) each follows now = (now x h each follows, answers_of s h each.1 follows.1 now)

-- a history before the onset follows no fault
early : (f : Fault) (h : List Tick) → length h ≤ f.onset → Follows (Some f) 0 h → Follows None 0 h
unfolding Follows effects
early f [] l follows = tt
early f (x ∷ h) l follows = (
  follows.0 ∙ (unfold effects in before_onset f (0 + length h) (omega (arith, l))),
  early f h (omega (arith, l)) follows.1,
)

-- a wild monitoring module gives no verdicts
wild_unfound : (s : Setting) (x : Tick) (h : List Tick) → is_some x.effects.wild ≡ true →
    (moment s x.effects x.entry (moments_of s h)).found.answers ≡ false
unfolding verdict_at confirms_at
wild_unfound s x h wild = (fields s x.effects x.entry past).answers ∙ (fields s x.effects x.entry past).confirms
    ∙ ap (λ v. confirms_at s.cal.times v past) ((fields s x.effects x.entry past).verdict ∙ none)
  where
    past : List Moment
    past = moments_of s h

    none : verdict_at s.cal.times x.effects (moment s x.effects x.entry past).mark past ≡ None
    none = ap (λ (b : Bool). if b then Some
        (verdict_of s.cal.times (with_answer (length past) (moment s x.effects x.entry past).mark
        (answers_in (take (s.cal.times.period - 1) past)))) else None) (and_right _ _ (ap not wild))

-- and before the onset all is as without a fault
early_unfound : (s : Setting) → IsAccepted s.cal → (f : Fault) → s.fault ≡ Some f → (x : Tick) (h : List Tick) →
    length h < f.onset →
    GiveNothing s.cal (x ∷ h) → Follows s.fault 0 (x ∷ h) → (moment s x.effects x.entry (moments_of s h)).found.answers ≡ false
unfolding moment moments_of
early_unfound s accepted f is x h l each follows = sym (ap (λ (m : Moment). m.found.answers)
    (ap (moment_in Drive (under None s) x.effects x.entry) (moments_in-under Drive s None h)
    ∙ moment_in-under Drive s None x.effects x.entry (moments_in Drive s h)))
    ∙ no_answers_found (under None s) accepted (unfold IsListed in tt) tt tt 0 x h
    (early f (x ∷ h) (omega (arith, l)) (subst (λ g. Follows g 0 (x ∷ h)) is follows)) each

answers_wild : (s : Setting) → IsAccepted s.cal → (f : Fault) → s.fault ≡ Some f →
    ((k : ℕ) → is_some (effects_of f.class k).wild ≡ true) →
    (x : Tick) (h : List Tick) → GiveNothing s.cal (x ∷ h) → Follows s.fault 0 (x ∷ h) →
    (moment s x.effects x.entry (moments_of s h)).found.answers ≡ false
unfolding Follows
answers_wild s accepted f is wild x h each follows = elim (cases_lt (length h) f.onset) [
  | inl before ↦ early_unfound s accepted f is x h before each follows
  | inr from ↦ wild_unfound s x h (ap (λ (y : Effects). is_some y.wild) (follows.0 ∙ ap (λ g. effects g (0 + length h)) is
      ∙ from_onset f (0 + length h) (omega (arith, from))) ∙ wild (0 + length h - f.onset))
]

-- the class is that of a wild monitoring module, or it spares the answers
pub record SparesAll (class : Class) : Type 0 where
  pub listed : is_lapse class ≡ false
  pub spares : may_change_answers class ≡ false
  pub spoils : spoils_answers class ≡ false

wild_or_not : (class : Class) → always_hides class ≡ true → ((k : ℕ) → is_some (effects_of class k).wild ≡ true) ⊎ SparesAll class
unfolding always_hides leaves_readings may_change_levels is_lapse may_change_answers spoils_answers effects_of no_effects
wild_or_not (Wild questions opens) is = inl (λ k. refl)
wild_or_not (Timing offset) is = absurd (false≢true is)
wild_or_not (Skip index) is = absurd (false≢true is)
wild_or_not (Disturb index mask) is = absurd (false≢true is)
wild_or_not Halt is = absurd (false≢true is)
wild_or_not (Lapse after every) is = absurd (false≢true is)
wild_or_not _ is = inr (record { listed = refl; spares = refl; spoils = refl })

pub answers_spared : (s : Setting) → IsAccepted s.cal → (f : Fault) → IsValid f → s.fault ≡ Some f → SparesAll f.class →
    (x : Tick) (h : List Tick) → GiveNothing s.cal (x ∷ h) → Follows s.fault 0 (x ∷ h) →
    (moment s x.effects x.entry (moments_of s h)).found.answers ≡ false
answers_spared s accepted f valid is other x h each follows = no_answers_found s accepted
    (subst IsListed (sym is) (unfold IsListed in (valid, other.listed)))
    (subst (λ g. IfSome g (λ f. may_change_answers f.class ≡ false)) (sym is) other.spares)
    (subst (λ g. IfSome g (λ f. spoils_answers f.class ≡ false)) (sym is) other.spoils) 0 x h follows each

answers_always : (s : Setting) → IsAccepted s.cal → (f : Fault) → IsValid f → s.fault ≡ Some f → always_hides f.class ≡ true →
    (x : Tick) (h : List Tick) → GiveNothing s.cal (x ∷ h) → Follows s.fault 0 (x ∷ h) →
    (moment s x.effects x.entry (moments_of s h)).found.answers ≡ false
answers_always s accepted f valid is hides x h each follows = elim (wild_or_not f.class hides) [
  | inl wild ↦ answers_wild s accepted f is wild x h each follows
  | inr other ↦ answers_spared s accepted f valid is other x h each follows
]

module _ (engine : EngineKind) where
  pub readings_apart_hide : ReadingsApartHide (bench_of engine)
  readings_apart_hide cal accepted f valid hides n = hidden_run engine cal accepted f valid loud loud_within refl n each
      (answers_of s h each follows (answers_always s accepted f valid refl hides))
    where
      s : Setting
      s = (still_run cal f loud n).setting

      h : List Tick
      h = ticks s (entries_to (bench_of engine) (still_run cal f loud n) n)

      follows : Follows s.fault 0 h
      follows = follow_ticks s (entries_to (bench_of engine) (still_run cal f loud n) n)

      each : GiveNothing cal h
      each = each_tick (Comes loud) (GivesNothing cal) s
          (λ e t comes. gives_alike cal accepted e comes (effects (Some f) t)
          (of_class (λ x. ActAlike x no_effects) f act_plain (λ k. act_class f.class k (always-leaves f.class hides)) t))
          (entries_to (bench_of engine) (still_run cal f loud n) n)
          (come_to engine cal accepted f valid loud loud_within n n (omega arith))

  -- a lapse that spares verdicts up to each tick
  spared_hide : (cal : CalibrationParts) → IsAccepted cal → (f : Fault) → IsValid f → (lapse : IsLapse (Some f)) →
      ((s : Setting) → s.cal ≡ cal → s.fault ≡ Some f → (end : ℕ) → SparesVerdicts s 0 end) → CanStayHidden (bench_of engine) cal f
  spared_hide cal accepted f valid lapse spares n = hidden_run engine cal accepted f valid loud loud_within refl n each
      (answers_of s h each follows answers)
    where
      s : Setting
      s = (still_run cal f loud n).setting

      h : List Tick
      h = ticks s (entries_to (bench_of engine) (still_run cal f loud n) n)

      follows : Follows s.fault 0 h
      follows = follow_ticks s (entries_to (bench_of engine) (still_run cal f loud n) n)

      now : (e : Entry) (t : ℕ) → Comes loud e → GivesNothing cal (record { effects = effects (Some f) t; entry = e })
      now e t comes = elim (lapse_tick (Some f) lapse t) [
        | inl plain ↦ subst (λ x. GivesNothing cal (record { effects = x; entry = e })) (sym plain)
            (gives_alike cal accepted e comes no_effects act_plain)
        | inr out ↦ subst (λ x. GivesNothing cal (record { effects = x; entry = e })) (sym out)
            (unfold missed no_effects in gives cal accepted e comes missed refl refl false (λ i. refl) refl (λ i. refl))
      ]

      each : GiveNothing cal h
      each = each_tick (Comes loud) (GivesNothing cal) s now (entries_to (bench_of engine) (still_run cal f loud n) n)
          (come_to engine cal accepted f valid loud loud_within n n (omega arith))

      answers : (x : Tick) (before : List Tick) → GiveNothing cal (x ∷ before) → Follows s.fault 0 (x ∷ before) →
          (moment s x.effects x.entry (moments_of s before)).found.answers ≡ false
      answers x before all on = (fields s x.effects x.entry past).answers
          ∙ (or_parts m.confirms m.opens (or_parts _ (latch2 past) (sym (latch2-cons m past) ∙ closed)).0).0
        where
          past : List Moment
          past = moments_of s before

          m : Moment
          m = moment s x.effects x.entry past

          closed : latch2 (m ∷ past) ≡ false
          closed = unfold moments_of in (recovering s accepted 0 (x ∷ before) (spares s refl refl (0 + length (x ∷ before))) on
              (still_after s accepted (x ∷ before) all).untripped).closed

  pub far_misses_hide : FarMissesHide (bench_of engine)
  far_misses_hide cal accepted f valid apart = spared_hide cal accepted f valid apart.lapse (λ s cal_is fault_is end.
      spaced_spares s 0 end (record {
        has = subst (λ (c : CalibrationParts). HasMissSpacing c.times) (sym cal_is) apart.has;
        lapse = subst IsLapse (sym fault_is) apart.lapse;
        spaced = subst (λ c. MissesAreSpaced s.fault (miss_spacing_of c.times) 0 end) (sym cal_is)
            (subst (λ g. MissesAreSpaced g (miss_spacing_of cal.times) 0 end) (sym fault_is) (apart.spaced end));
      }))

  pub single_misses_hide : SingleMissesHide (bench_of engine)
  single_misses_hide cal accepted has onset after every apart valid = far_misses_hide cal accepted
      (record { onset = onset; class = Lapse (after ∷ []) every }) valid (record {
        has = has;
        lapse = record { onset = onset; after = after ∷ []; every = every; is = refl };
        spaced = λ end. single_misses_are_spaced onset after every (miss_spacing_of cal.times) 0 end apart;
      })

  -- a single tick that is no send tick
  pub one_miss_hides : OneMissHides (bench_of engine)
  unfolding place_of
  one_miss_hides cal accepted few onset after off valid = spared_hide cal accepted (single_miss onset after) valid
      (record { onset = onset; after = after ∷ []; every = 0; is = refl })
      (λ s cal_is fault_is end. record {
        lapse = record { onset = onset; after = after ∷ []; every = 0; is = fault_is };
        most = 1;
        some = omega arith;
        small = omega arith;
        few = subst (λ (c : CalibrationParts). 1 * c.times.weights.up < c.times.weights.limit) (sym cal_is) (omega (arith, few));
        sent = λ t before out place. absurd (off (subst (λ (c : CalibrationParts). (onset + after) % c.times.period ≡ c.times.send) cal_is
            (subst (λ n. n % s.cal.times.period ≡ s.cal.times.send)
            (let once = misses_once onset after (0 + t) (subst (λ g. misses_tick g (0 + t) ≡ true) fault_is out) in
            let same : t ≡ onset + after = omega (arith, once) in same) place)));
        apart = λ first second from before one two less. absurd (
            let a = misses_once onset after first (subst (λ g. misses_tick g first ≡ true) fault_is one) in
            let b = misses_once onset after second (subst (λ g. misses_tick g second ≡ true) fault_is two) in omega (arith, a, b, less));
      })
