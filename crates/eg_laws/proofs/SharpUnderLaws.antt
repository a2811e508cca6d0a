-- Where a fault leaves alone what level 2 reads and does, level 2 finds what it would find without a fault: the history has
-- a twin in which nothing is out of order, with the same signals and watches, and of that the sharp cut holds.
use Rattle.std.proofs.Common.{◌≡◌, ℕ, ◌≤◌, Bool, true, false, ◌&&◌, ◌||◌, List, [], ◌∷◌, ◌++◌, All, map, refl, sym, ap, ap₂, ◌∙◌, subst, arith, inl, inr, Option, Some, None, is_some}
use Rattle.std.proofs.lemmas.Bool.{cases_Bool, false≢true}
use Rattle.std.proofs.lemmas.List.Elements.{All-head, All-tail}
use Rattle.eg_num.specs.Windows.{WeightParts, is_confirmed, is_first}
use Rattle.eg_num.specs.Arithmetic.{estimate}
use Rattle.eg_plant.specs.PlantParts.{PlantParts}
use Rattle.eg_sensor.specs.declared.readings.Readings.{Readings}
use Rattle.eg_torque.specs.Excess.{is_excess}
use Rattle.eg_answer.specs.declared.rules.Rules.{Rules}
use Rattle.eg_answer.specs.declared.modules.TheConstants.{REACT}
use Rattle.eg_values.specs.Calibration.{CalibrationParts, IsAccepted}
use Rattle.eg_fault.specs.Effects.{Effects, no_effects, readings_under, contacts_under}
use Rattle.eg_fault.specs.Faults.{effects_of, effects}
use Rattle.eg_fault.specs.Running.{may_change_levels}
use Rattle.eg_fault.specs.declared.class.Class.{Class}
use Rattle.eg_fault.specs.declared.class.Class.TheVariants.{Script, Offset, Bus, Skip, Disturb, Flip, Halt, Lapse}
use Rattle.eg_fault.specs.declared.class.Fault.{Fault}
use Rattle.eg_fault.specs.declared.paths.TheConstants.{PATH_1}
use Rattle.eg_fault.proofs.ActingLemmas.{of_class}
use Rattle.eg_record.specs.declared.row.Row.{Row}
use Rattle.eg_record.specs.Excess.{full_excess}
use Rattle.eg_model.specs.History.{Setting, Entry, Tick, Drive, Moment, Signals}
use Rattle.eg_model.specs.Signals.{tripped, is_limited, last_signals, signal, signals_at}
use Rattle.eg_model.specs.Detection.{feeds_at, fed_bits, finds, torque_bit}
use Rattle.eg_model.specs.Moments.{sensed_at, is_braking, readings_at, last_limit, limit_at, moment, moments_of}
use Rattle.eg_model.specs.Paths.{latch1, path1_at}
use Rattle.eg_model.specs.Rows.{row_of, rows_of}
use Rattle.eg_model.specs.Premises.{AreProper, Follows, full_excesses}
use Rattle.eg_model.specs.SharpCut.{ArePlain}
use Rattle.eg_model.specs.Engines.{BenchEngine, IsOneLoad, KeepsBenchLaws, ShowsOneLoad}
use Rattle.eg_laws.specs.SharpUnder.{leaves_readings, SparesReadings, IsSharpAt, IsSharp, RecordsCutSharplyUnder}
use Rattle.eg_model.proofs.TickLemmas.{Each, Pair, Pedal, Plate, Load, Speed, bit_of, found_by, Fields, fields, tripped-cons, moment-full_excess}
use Rattle.eg_model.proofs.TripLemmas.{fed_bits-cons, fed_bits-skip, latch1_from_trip}
use Rattle.eg_model.proofs.ClassLemmas.{of_history}
use Rattle.eg_model.proofs.SharpCutLaw.{FoundSharply, found_sharply, full_excesses-cons, calm_until, trip_once_confirmed, latch1_shut, reacts_plain}
use Rattle.eg_model.proofs.SpanRows.{SpanRows, RowAfter, row_found, row_tick, Split, split, LastOf, last_of, follows-end, proper-end, bits_after, full_unnumbered}
use Rattle.eg_model.proofs.RecordSpans.{SpanTo}
use Rattle.eg_model.proofs.RecordLaws.{each_drive, loads_in, proper_span}
use Rattle.eg_laws.proofs.PairsFoundLaws.{All-end}
use Rattle.eg_laws.proofs.TripRows.{rows-cons}

-- ---- what level 2 reads and does ----

-- it is alike
pub record ActAlike (x y : Effects) : Type 0 where
  pub track : x.track ≡ y.track
  pub raise : x.raise ≡ y.raise
  pub ran : x.ran ≡ y.ran
  pub disturbance : x.disturbance ≡ y.disturbance
  pub flip : x.flip ≡ y.flip

pub act_class : (class : Class) (k : ℕ) → leaves_readings class ≡ true → ActAlike (effects_of class k) no_effects
unfolding effects_of no_effects leaves_readings may_change_levels
act_class (Script track values) k is = absurd (false≢true is)
act_class (Offset track add) k is = absurd (false≢true is)
act_class (Bus mask) k is = absurd (false≢true is)
act_class (Skip index) k is = absurd (false≢true is)
act_class (Disturb index mask) k is = absurd (false≢true is)
act_class (Flip word mask) k is = absurd (false≢true is)
act_class Halt k is = absurd (false≢true is)
act_class (Lapse after every) k is = absurd (false≢true is)
act_class _ k is = record { track = refl; raise = refl; ran = refl; disturbance = refl; flip = refl }

pub act_plain : ActAlike no_effects no_effects
act_plain = record { track = refl; raise = refl; ran = refl; disturbance = refl; flip = refl }

act_under : (fault : Option Fault) → SparesReadings fault → (t : ℕ) → ActAlike (effects fault t) no_effects
act_under None spared t = unfold effects in act_plain
act_under (Some fault) spared t =
    of_class (λ x. ActAlike x no_effects) fault act_plain (λ k. act_class fault.class k spared) t

-- ---- one tick ----

-- the entry of a tick, but that the engine shows no torque: it is proper whether the stages are on or not
abbrev still : Entry → Entry
still e = record {
  drive = e.drive;
  slices = e.slices;
  shown = record { position = e.shown.position; load_1 = e.shown.load_1; load_2 = e.shown.load_2; torque = 0 };
}

read_alike : (cal : CalibrationParts) (x y : Effects) (e : Entry) → ActAlike x y →
    readings_at cal x e ≡ readings_at cal y (still e)
unfolding readings_at sensed_at is_braking readings_under contacts_under
read_alike cal x y e alike = rw (alike.track, alike.raise) refl

-- what level 2 makes of two pasts is alike
pub record Alike (past other : List Moment) : Type 0 where
  pub tripped_is : tripped past ≡ tripped other
  pub limited_is : is_limited past ≡ is_limited other
  pub signals_are : last_signals past ≡ last_signals other
  pub limit_is : last_limit past ≡ last_limit other
  pub fed : (bit : Signals → Bool) → fed_bits bit past ≡ fed_bits bit other

-- and of two ticks
pub record SameTick (m n : Moment) : Type 0 where
  pub signals : m.signals ≡ n.signals
  pub limit : m.limit ≡ n.limit
  pub feeds : m.feeds ≡ n.feeds
  pub mirror : m.found.mirror ≡ n.found.mirror
  pub pairs : (p : Pair) → found_by p m.found ≡ found_by p n.found
  pub torque : m.found.torque ≡ n.found.torque
  pub trip : m.trip ≡ n.trip

signals_alike : (rules : Rules) (x y : Effects) (reads : Readings) (past other : List Moment) → ActAlike x y → Alike past other →
    signals_at rules x reads past ≡ signals_at rules y reads other
unfolding signals_at signal
signals_alike rules x y reads past other act a =
    rw (act.ran, act.disturbance, act.flip, a.signals_are, a.tripped_is, a.limited_is) refl

feeds_alike : (x y : Effects) (past other : List Moment) → ActAlike x y → Alike past other → feeds_at x past ≡ feeds_at y other
unfolding feeds_at
feeds_alike x y past other act a = rw (act.ran, act.flip, a.tripped_is) refl

finds_alike : (w : WeightParts) (bit : Signals → Bool) (f g : Bool) (now then_ : Signals) (past other : List Moment) → f ≡ g →
    now ≡ then_ → Alike past other → finds w bit f now past ≡ finds w bit g then_ other
unfolding finds
finds_alike w bit f g now then_ past other feeds signals a = rw (feeds, signals, a.fed bit) refl

module _ (s : Setting) (x : Effects) (e : Entry) (past other : List Moment) (act : ActAlike x no_effects)
    (a : Alike past other) where
  abbrev m : Moment
  m = moment s x e past

  abbrev n : Moment
  n = moment s no_effects (still e) other

  abbrev f : Fields Drive true s x e past m
  f = fields s x e past

  abbrev g : Fields Drive true s no_effects (still e) other n
  g = fields s no_effects (still e) other

  signals-same : m.signals ≡ n.signals
  signals-same = f.signals ∙ ap (λ reads. signals_at s.cal.rules x reads past) (read_alike s.cal x no_effects e act)
      ∙ signals_alike s.cal.rules x no_effects (readings_at s.cal no_effects (still e)) past other act a ∙ sym g.signals

  limit-same : m.limit ≡ n.limit
  unfolding limit_at
  limit-same = f.limit ∙ rw a.limit_is refl ∙ sym g.limit

  feeds-same : m.feeds ≡ n.feeds
  feeds-same = f.feeds ∙ ap (λ b. true && b) (feeds_alike x no_effects past other act a) ∙ sym g.feeds

  mirror-same : m.found.mirror ≡ n.found.mirror
  mirror-same = f.mirror ∙ ap (λ flip. is_some flip) act.flip ∙ sym g.mirror

  pairs-same : (p : Pair) → found_by p m.found ≡ found_by p n.found
  pairs-same p = f.pair p ∙ finds_alike s.cal.rules.pair (bit_of p) _ _ _ _ past other feeds-same signals-same a ∙ sym (g.pair p)

  torque-same : m.found.torque ≡ n.found.torque
  torque-same = f.torque ∙ finds_alike s.cal.rules.torque torque_bit _ _ _ _ past other feeds-same signals-same a ∙ sym g.torque

  trip-same : m.trip ≡ n.trip
  unfolding found_by
  trip-same = f.trip ∙ rw (mirror-same, pairs-same Plate, pairs-same Load, pairs-same Speed, torque-same) refl ∙ sym g.trip

  same_tick : SameTick m n
  same_tick = record {
    signals = signals-same;
    limit = limit-same;
    feeds = feeds-same;
    mirror = mirror-same;
    pairs = pairs-same;
    torque = torque-same;
    trip = trip-same;
  }

  fed-same : (bit : Signals → Bool) → fed_bits bit (m ∷ past) ≡ fed_bits bit (n ∷ other)
  fed-same bit = elim (cases_Bool m.feeds) [
    | inl is ↦ fed_bits-cons bit m past is ∙ ap₂ (λ b bits. b ∷ bits) (ap bit signals-same) (a.fed bit)
        ∙ sym (fed_bits-cons bit n other (sym feeds-same ∙ is))
    | inr skips ↦ fed_bits-skip bit m past skips ∙ a.fed bit ∙ sym (fed_bits-skip bit n other (sym feeds-same ∙ skips))
  ]

  alike_next : Alike (m ∷ past) (n ∷ other)
  unfolding is_limited last_signals last_limit found_by
  alike_next = record {
    tripped_is = tripped-cons m past ∙ ap₂ (λ b c. b || c) trip-same a.tripped_is ∙ sym (tripped-cons n other);
    limited_is = ap₂ (λ b c. b || c) (pairs-same Pedal) a.limited_is;
    signals_are = signals-same;
    limit_is = limit-same;
    fed = fed-same;
  }

-- ---- a history and its twin ----

abbrev twin : Tick → Tick
twin x = record { effects = no_effects; entry = still x.entry }

abbrev Spared : List Tick → Type 0
Spared h = Each (λ x. ActAlike x.effects no_effects) h

alike_twins : (s : Setting) (h : List Tick) → Spared h → Alike (moments_of s h) (moments_of s (map twin h))
unfolding moments_of Each
alike_twins s [] spared = record { tripped_is = refl; limited_is = refl; signals_are = refl; limit_is = refl; fed = λ bit. refl }
alike_twins s (x ∷ h) spared =
    alike_next s x.effects x.entry (moments_of s h) (moments_of s (map twin h)) spared.0 (alike_twins s h spared.1)

twins_now : (s : Setting) (x : Tick) (h : List Tick) → Spared (x ∷ h) →
    SameTick (moment s x.effects x.entry (moments_of s h)) (moment s no_effects (still x.entry) (moments_of s (map twin h)))
unfolding Each
twins_now s x h spared =
    same_tick s x.effects x.entry (moments_of s h) (moments_of s (map twin h)) spared.0 (alike_twins s h spared.1)

-- the full-efficiency excess is the same
full_twins : (s : Setting) (h : List Tick) → Spared h → full_excesses s h ≡ full_excesses s (map twin h)
unfolding Each
full_twins s [] spared = refl
full_twins s (x ∷ h) spared = full_excesses-cons s x h
    ∙ ap₂ (λ b bits. b ∷ bits)
    (moment-full_excess s x.effects x.entry (moments_of s h) _
    ∙ ap (λ limit. is_excess (estimate s.cal.rules.kt x.entry.shown.load_1) limit s.cal.rules.threshold)
    (twins_now s x h spared).limit
    ∙ sym (moment-full_excess s no_effects (still x.entry) (moments_of s (map twin h)) _))
    (full_twins s h spared.1)
    ∙ sym (full_excesses-cons s (twin x) (map twin h))

plain_twins : (h : List Tick) → All (λ x. IsOneLoad x.entry.shown) h → ArePlain (map twin h)
unfolding ArePlain
plain_twins [] loads = tt
plain_twins (x ∷ h) loads = (
  record { effects = refl; loads = All-head (λ x. IsOneLoad x.entry.shown) x h loads },
  plain_twins h (All-tail (λ x. IsOneLoad x.entry.shown) x h loads),
)

proper_twins : (s : Setting) (h : List Tick) → AreProper s h → AreProper s (map twin h)
unfolding AreProper
proper_twins s [] proper = tt
proper_twins s (x ∷ h) proper = (
  record {
    drive = proper.0.drive;
    engine = record { position = proper.0.engine.position; load_1 = least _; load_2 = least _ };
    no_torque = λ off. refl;
  },
  proper_twins s h proper.1,
)
  where
    least : (n : ℕ) → 0 ≤ n
    least n = omega arith

-- a trip has come, and so path 1 been ordered open, exactly if that excess is confirmed
module _ (s : Setting) (accepted : IsAccepted s.cal) where
  trip_is : (h : List Tick) → Spared h → AreProper s h → All (λ x. IsOneLoad x.entry.shown) h →
      tripped (moments_of s h) ≡ is_confirmed s.cal.rules.torque (full_excesses s h)
  trip_is h spared proper loads = (alike_twins s h spared).tripped_is ∙ of_twin
      ∙ ap (is_confirmed s.cal.rules.torque) (sym (full_twins s h spared))
    where
      other : List Tick
      other = map twin h

      of_twin : tripped (moments_of s other) ≡ is_confirmed s.cal.rules.torque (full_excesses s other)
      of_twin = elim (cases_Bool (is_confirmed s.cal.rules.torque (full_excesses s other))) [
        | inl late ↦ trip_once_confirmed s accepted other (plain_twins h loads) (proper_twins s h proper) late ∙ sym late
        | inr quiet ↦ (calm_until s accepted other (plain_twins h loads) (proper_twins s h proper) quiet).untouched.untripped
            ∙ sym quiet
      ]

  latch_is : (h : List Tick) → Spared h → AreProper s h → All (λ x. IsOneLoad x.entry.shown) h →
      latch1 (moments_of s h) ≡ is_confirmed s.cal.rules.torque (full_excesses s h)
  unfolding Each
  latch_is [] spared proper loads = unfold latch1 moments_of full_excesses rows_of is_confirmed in refl
  latch_is (x ∷ h) spared proper loads = elim (cases_Bool (tripped (moments_of s (x ∷ h)))) [
    | inl trip ↦ latch1_from_trip s x h (ap (λ ran. ran REACT) spared.0.ran ∙ reacts_plain) trip
        ∙ sym trip ∙ trip_is (x ∷ h) spared proper loads
    | inr none ↦ latch1_shut s (x ∷ h) none ∙ sym none ∙ trip_is (x ∷ h) spared proper loads
  ]

-- what is found at the tick x after h
module _ (s : Setting) (accepted : IsAccepted s.cal) (x : Tick) (h : List Tick) (spared : Spared (x ∷ h))
    (proper : AreProper s (x ∷ h)) (loads : All (λ x. IsOneLoad x.entry.shown) (x ∷ h)) where
  abbrev now : Moment
  now = moment s x.effects x.entry (moments_of s h)

  found : FoundSharply s (twin x) (map twin h)
  found = found_sharply s accepted (twin x) (map twin h) (plain_twins (x ∷ h) loads) (proper_twins s (x ∷ h) proper)

  same : SameTick now (moment s no_effects (still x.entry) (moments_of s (map twin h)))
  same = twins_now s x h spared

  torque_now : now.found.torque ≡ is_first s.cal.rules.torque (full_excesses s (x ∷ h))
  torque_now = same.torque ∙ found.torque ∙ ap (is_first s.cal.rules.torque) (sym (full_twins s (x ∷ h) spared))

  pairs_now : (p : Pair) → found_by p now.found ≡ false
  pairs_now p = same.pairs p ∙ found.pairs p

  path1_now : now.path1 ≡ x.effects.conducts PATH_1 (is_confirmed s.cal.rules.torque (full_excesses s h))
  unfolding path1_at Each AreProper
  path1_now = (fields s x.effects x.entry (moments_of s h)).path1 ∙ ap (x.effects.conducts PATH_1)
      (latch_is s accepted h spared.1 proper.1 (All-tail (λ x. IsOneLoad x.entry.shown) x h loads))

  -- and at its row
  module _ (start : ℕ) (follows : Follows s.fault start (x ∷ h)) where
    abbrev row : Row
    row = RowAfter s start x h

    abbrev bit : Row → Bool
    bit = full_excess s.cal.rules.kt s.cal.rules.threshold

    bits : (g : List Tick) → full_excesses s g ≡ map bit (SpanRows s start g)
    unfolding full_excesses
    bits g = sym (bits_after bit (full_unnumbered s.cal.rules.kt s.cal.rules.threshold) s start g)

    effects-is : x.effects ≡ effects s.fault row.tick
    unfolding Follows
    effects-is = follows.0 ∙ ap (effects s.fault) (sym (row_tick s start x h))

    path1-is : row.path1 ≡ now.path1
    unfolding row_of
    path1-is = refl

    pair-is : (p : Pair) → found_by p row.found ≡ false
    pair-is p = ap (found_by p) (row_found s start x h) ∙ pairs_now p

    is_sharp_at : IsSharpAt s.fault s.cal.rules.torque s.cal.rules.kt s.cal.rules.threshold row (SpanRows s start h)
    unfolding found_by
    is_sharp_at = record {
      torque = ap (λ w. w.torque) (row_found s start x h) ∙ torque_now
          ∙ ap (is_first s.cal.rules.torque) (bits (x ∷ h) ∙ ap (map bit) (rows-cons s start x h));
      mirror = ap (λ w. w.mirror) (row_found s start x h) ∙ same.mirror ∙ found.mirror;
      pedal = pair-is Pedal;
      plate = pair-is Plate;
      load = pair-is Load;
      speed = pair-is Speed;
      path1 = path1-is ∙ path1_now ∙ ap₂ (λ (y : Effects) b. y.conducts PATH_1 b) effects-is
          (ap (is_confirmed s.cal.rules.torque) (bits h));
    }

-- ---- the rows of a history, and of each record ----

is_sharp : (s : Setting) (start : ℕ) (h : List Tick) → IsAccepted s.cal → SparesReadings s.fault → Follows s.fault start h →
    AreProper s h → All (λ x. IsOneLoad x.entry.shown) h →
    IsSharp s.fault s.cal.rules.torque s.cal.rules.kt s.cal.rules.threshold start (SpanRows s start h)
is_sharp s start h accepted spared follows proper loads later before row e =
    subst (λ r. IsSharpAt s.fault w kt threshold r before) (sym last.row_is)
    (subst (IsSharpAt s.fault w kt threshold (RowAfter s start last.tick last.past)) (sym last.before_are)
    (is_sharp_at s accepted last.tick last.past
    (of_history (λ y. ActAlike y no_effects) s.fault start (last.tick ∷ last.past) follows_last
    (λ t low high. act_under s.fault spared t)) (at_last (AreProper s) (proper-end s) proper)
    (at_last (All (λ x. IsOneLoad x.entry.shown)) (All-end (λ x. IsOneLoad x.entry.shown)) loads) start follows_last))
  where
    w : WeightParts
    w = s.cal.rules.torque

    kt : ℕ
    kt = s.cal.rules.kt

    threshold : ℕ
    threshold = s.cal.rules.threshold

    parts : Split s start h later (row ∷ before)
    parts = split s start h later (row ∷ before) e

    last : LastOf s start parts.rest row before
    last = last_of s start parts.rest row before parts.rows_are

    -- what each end of a history keeps holds up to the tick of the row
    at_last : (P : List Tick → Type 0) → ((newer rest : List Tick) → P (newer ++ rest) → P rest) → P h → P (last.tick ∷ last.past)
    at_last P ends p = subst P last.is (ends parts.more parts.rest (subst P parts.whole p))

    follows_last : Follows s.fault start (last.tick ∷ last.past)
    follows_last = at_last (Follows s.fault start) (follows-end s.fault start) follows

pub records_cut_sharply_under : {E : Type 0} {b : BenchEngine E} {Keeps : PlantParts → E → Type 0} → KeepsBenchLaws b Keeps →
    ShowsOneLoad b → RecordsCutSharplyUnder b
records_cut_sharply_under {b = b} keeps once r run valid spared = each_drive b
    (IsSharp r.setting.fault r.setting.cal.rules.torque r.setting.cal.rules.kt r.setting.cal.rules.threshold) r
    (λ start count span is. is_sharp r.setting start (SpanTo b r count) run.accepted spared is.follows
    (proper_span keeps r run valid start count span is) (loads_in keeps once r count))
