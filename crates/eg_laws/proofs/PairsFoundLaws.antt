-- The watches of the four pairs: where level 2's modules run at each tick, a debouncer is fed with whether its pair disagrees.
use Rattle.std.proofs.Common.{◌≡◌, ◌⊎◌, ℕ, ◌+◌, ◌*◌, ◌≤◌, Bool, true, false, not, ◌&&◌, List, [], ◌∷◌, ◌++◌, All, map, length, refl, sym, ap, ap₂, ◌∙◌, subst, arith, inl, inr, Option, Some, None}
use Rattle.std.proofs.lemmas.Bool.{cases_Bool, or_left, or_right, and_left, true≢false}
use Rattle.std.proofs.lemmas.List.Elements.{All-head, All-tail}
use Rattle.eg_num.specs.Windows.{WeightParts, AreWeights, is_confirmed, is_first}
use Rattle.eg_num.specs.declared.watches.Watches.{Watches}
use Rattle.eg_num.proofs.FirstIndexLemmas.{is_first_from}
use Rattle.eg_plant.specs.PlantParts.{PlantParts}
use Rattle.eg_sensor.specs.Readings.{bit, has_bit}
use Rattle.eg_answer.specs.Times.{feeds_to_confirm}
use Rattle.eg_answer.specs.Formulas.{disagreeing_pairs}
use Rattle.eg_values.specs.Calibration.{CalibrationParts}
use Rattle.eg_fault.specs.Effects.{Effects}
use Rattle.eg_fault.specs.Faults.{effects}
use Rattle.eg_fault.specs.declared.class.Fault.{Fault}
use Rattle.eg_fault.proofs.ActingLemmas.{of_class}
use Rattle.eg_record.specs.declared.row.Row.{Row}
use Rattle.eg_model.specs.History.{Setting, Entry, Tick, Moment}
use Rattle.eg_model.specs.Signals.{tripped, last_signals}
use Rattle.eg_model.specs.Detection.{feeds_at, fed_bits, finds, pedal_bit, plate_bit, load_bit, speed_bit}
use Rattle.eg_model.specs.Moments.{sensed_at, is_braking, readings_at, moment_in, moment, moments_of}
use Rattle.eg_model.specs.Rows.{row_of}
use Rattle.eg_model.specs.Premises.{Follows}
use Rattle.eg_model.specs.Seeing.{SeesExcess}
use Rattle.eg_model.specs.Engines.{BenchEngine, IsOneLoad, KeepsBenchLaws, ShowsOneLoad}
use Rattle.eg_laws.specs.Availability.{has_tripped}
use Rattle.eg_laws.specs.PairsFound.{SparesModules, Pair, Pedal, Plate, Load, Speed, finds_pair, pair_disagrees, entry_of, read_at, disagrees_at, FindsPairs, has_found, FindsDisagreement, RecordsFindPairs, DisagreeingRowsAreFound}
use Rattle.eg_model.proofs.TickLemmas.{bit_of, found_by, fields, length-moments, moment-feeds, untripped_before}
use Rattle.eg_model.proofs.TickLemmas as ticks
use Rattle.eg_model.proofs.TripLemmas.{fed_bits-cons}
use Rattle.eg_model.proofs.Seeing.{signal_value}
use Rattle.eg_model.proofs.ClassLemmas.{sees_plain, sees_spared}
use Rattle.eg_model.proofs.Silence.{TrueRun, run_confirms}
use Rattle.eg_model.proofs.LapseWeights.{rounded_up}
use Rattle.eg_model.proofs.SpanRows.{rows_after, SpanRows, RowAfter, row_found, Split, split, LastOf, last_of, follows-end}
use Rattle.eg_model.proofs.RecordSpans.{SpanTo}
use Rattle.eg_model.proofs.RecordLaws.{each_drive, loads_in}
use Rattle.eg_laws.proofs.TripRows.{tripped_rows}

-- ---- at one tick ----

-- the pair by its name in lemmas of ticks
abbrev same : Pair → ticks.Pair
same Pedal = ticks.Pedal
same Plate = ticks.Plate
same Load = ticks.Load
same Speed = ticks.Speed

found-same : (pair : Pair) (f : Watches) → finds_pair pair f ≡ found_by (same pair) f
unfolding finds_pair found_by
found-same Pedal f = refl
found-same Plate f = refl
found-same Load f = refl
found-same Speed f = refl

-- each of four bits is found again in their sum
pub record Four (a b c d : Bool) : Type 0 where
  pub first : has_bit 1 (bit 1 a + bit 2 b + bit 4 c + bit 8 d) ≡ a
  pub second : has_bit 2 (bit 1 a + bit 2 b + bit 4 c + bit 8 d) ≡ b
  pub third : has_bit 4 (bit 1 a + bit 2 b + bit 4 c + bit 8 d) ≡ c
  pub fourth : has_bit 8 (bit 1 a + bit 2 b + bit 4 c + bit 8 d) ≡ d

four : (a b c d : Bool) → Four a b c d
unfolding has_bit
four true true true true = record { first = refl; second = refl; third = refl; fourth = refl }
four true true true false = record { first = refl; second = refl; third = refl; fourth = refl }
four true true false true = record { first = refl; second = refl; third = refl; fourth = refl }
four true true false false = record { first = refl; second = refl; third = refl; fourth = refl }
four true false true true = record { first = refl; second = refl; third = refl; fourth = refl }
four true false true false = record { first = refl; second = refl; third = refl; fourth = refl }
four true false false true = record { first = refl; second = refl; third = refl; fourth = refl }
four true false false false = record { first = refl; second = refl; third = refl; fourth = refl }
four false true true true = record { first = refl; second = refl; third = refl; fourth = refl }
four false true true false = record { first = refl; second = refl; third = refl; fourth = refl }
four false true false true = record { first = refl; second = refl; third = refl; fourth = refl }
four false true false false = record { first = refl; second = refl; third = refl; fourth = refl }
four false false true true = record { first = refl; second = refl; third = refl; fourth = refl }
four false false true false = record { first = refl; second = refl; third = refl; fourth = refl }
four false false false true = record { first = refl; second = refl; third = refl; fourth = refl }
four false false false false = record { first = refl; second = refl; third = refl; fourth = refl }

module _ (s : Setting) (x : Tick) (past : List Moment) (sees : SeesExcess x.effects) (untripped : tripped past ≡ false) where
  abbrev m : Moment
  m = moment s x.effects x.entry past

  pairs-is : m.signals.pairs ≡ disagreeing_pairs s.cal.rules (readings_at s.cal x.effects x.entry)
  pairs-is = (fields s x.effects x.entry past).pairs
      ∙ signal_value x.effects past 5 (last_signals past).pairs _ sees.runs sees.undisturbed untripped

  -- the bit of a pair says whether it disagrees
  bit-is : (pair : Pair) → bit_of (same pair) m.signals
      ≡ pair_disagrees pair s.cal.rules.tolerances (readings_at s.cal x.effects x.entry)
  unfolding bit_of pedal_bit plate_bit load_bit speed_bit pair_disagrees
  bit-is Pedal = ap (has_bit 1) pairs-is ∙ (unfold disagreeing_pairs in (four _ _ _ _).first)
  bit-is Plate = ap (has_bit 2) pairs-is ∙ (unfold disagreeing_pairs in (four _ _ _ _).second)
  bit-is Load = ap (has_bit 4) pairs-is ∙ (unfold disagreeing_pairs in (four _ _ _ _).third)
  bit-is Speed = ap (has_bit 8) pairs-is ∙ (unfold disagreeing_pairs in (four _ _ _ _).fourth)

-- ---- by the rows ----

-- readings know nothing of an entry but its drive row, its plate and its two loads
read_again : (cal : CalibrationParts) (x : Effects) (e : Entry) → IsOneLoad e.shown → readings_at cal x (record {
  drive = e.drive;
  slices = [];
  shown = record { position = e.shown.position; load_1 = e.shown.load_1; load_2 = e.shown.load_1; torque = e.shown.torque };
}) ≡ readings_at cal x e
unfolding readings_at sensed_at is_braking
read_again cal x e one = ap (λ load. readings_at cal x (record {
  drive = e.drive;
  slices = [];
  shown = record { position = e.shown.position; load_1 = e.shown.load_1; load_2 = load; torque = e.shown.torque };
})) (sym one)

abbrev HasOneLoad : Tick → Type 0
HasOneLoad x = IsOneLoad x.entry.shown

-- a history of a run under a fault that leaves level 2's modules alone, in which the engine shows one load twice
pub record IsSpared (s : Setting) (start : ℕ) (h : List Tick) : Type 0 where
  pub follows : Follows s.fault start h
  pub sees : (t : ℕ) → SeesExcess (effects s.fault t)
  pub loads : All HasOneLoad h

module _ (s : Setting) (start : ℕ) (x : Tick) (h : List Tick) (is : IsSpared s start (x ∷ h)) where
  rest : IsSpared s start h
  rest = record { follows = unfold Follows in is.follows.1; sees = is.sees; loads = All-tail HasOneLoad x h is.loads }

  effects-is : x.effects ≡ effects s.fault (start + length h)
  effects-is = unfold Follows in is.follows.0

  sees_now : SeesExcess x.effects
  sees_now = subst SeesExcess (sym effects-is) (is.sees (start + length h))

  -- the row of a tick has its readings
  read-is : read_at s (RowAfter s start x h) ≡ readings_at s.cal x.effects x.entry
  unfolding read_at row_of moment moment_in
  read-is = ap (λ t. readings_at s.cal (effects s.fault (start + t)) (entry_of (RowAfter s start x h))) (length-moments s h)
      ∙ ap (λ y. readings_at s.cal y (entry_of (RowAfter s start x h))) (sym effects-is)
      ∙ read_again s.cal x.effects x.entry (All-head HasOneLoad x h is.loads)

  disagrees-is : (pair : Pair) → disagrees_at pair s (RowAfter s start x h)
      ≡ pair_disagrees pair s.cal.rules.tolerances (readings_at s.cal x.effects x.entry)
  unfolding disagrees_at
  disagrees-is pair = ap (pair_disagrees pair s.cal.rules.tolerances) read-is

-- before a trip each row has fed its bit
fed_rows : (pair : Pair) (s : Setting) (start : ℕ) (h : List Tick) → IsSpared s start h → tripped (moments_of s h) ≡ false →
    fed_bits (bit_of (same pair)) (moments_of s h) ≡ map (disagrees_at pair s) (SpanRows s start h)
unfolding moments_of rows_after
fed_rows pair s start [] is untripped = unfold fed_bits in refl
fed_rows pair s start (x ∷ h) is untripped =
    fed_bits-cons (bit_of (same pair)) (moment s x.effects x.entry (moments_of s h)) (moments_of s h)
    (moment-feeds s x.effects x.entry (moments_of s h) (sees_now s start x h is).runs before)
    ∙ ap₂ (λ b bits. b ∷ bits)
    (bit-is s x (moments_of s h) (sees_now s start x h is) before pair ∙ sym (disagrees-is s start x h is pair))
    (fed_rows pair s start h (rest s start x h is) before)
  where
    before : tripped (moments_of s h) ≡ false
    before = untripped_before _ (moments_of s h) untripped

module _ (pair : Pair) (s : Setting) (start : ℕ) (x : Tick) (h : List Tick) (is : IsSpared s start (x ∷ h)) where
  abbrev w : WeightParts
  w = s.cal.rules.pair

  abbrev past : List Moment
  past = moments_of s h

  abbrev now : Moment
  now = moment s x.effects x.entry past

  abbrev Bits : List Row → List Bool
  Bits rows = map (disagrees_at pair s) rows

  found-is : finds_pair pair (RowAfter s start x h).found ≡ finds w (bit_of (same pair)) now.feeds now.signals past
  found-is = ap (finds_pair pair) (row_found s start x h) ∙ found-same pair now.found
      ∙ (fields s x.effects x.entry past).pair (same pair)

  untripped-found : tripped past ≡ false → finds w (bit_of (same pair)) now.feeds now.signals past
      ≡ is_first w (Bits (RowAfter s start x h ∷ SpanRows s start h))
  unfolding finds
  untripped-found none = ap (λ f. f && is_first w (bit_of (same pair) now.signals ∷ fed_bits (bit_of (same pair)) past))
      (moment-feeds s x.effects x.entry past (sees_now s start x h is).runs none)
      ∙ ap₂ (λ b bits. is_first w (b ∷ bits))
      (bit-is s x past (sees_now s start x h is) none pair ∙ sym (disagrees-is s start x h is pair))
      (fed_rows pair s start h (rest s start x h is) none)

  tripped-found : tripped past ≡ true → finds w (bit_of (same pair)) now.feeds now.signals past ≡ false
  unfolding finds feeds_at
  tripped-found some = and_left _ _ ((fields s x.effects x.entry past).feeds ∙ rw some (fed_none (x.effects.ran 6) _))
    where
      fed_none : (a b : Bool) → (true && (a && not true && b)) ≡ false
      fed_none a b = grind arith

  found_exactly : finds_pair pair (RowAfter s start x h).found
      ≡ (not (has_tripped (SpanRows s start h)) && is_first w (Bits (RowAfter s start x h ∷ SpanRows s start h)))
  found_exactly = elim (cases_Bool (tripped past)) [
    | inl some ↦ found-is ∙ tripped-found some ∙ sym (and_left _ _ (ap not (tripped_rows s start h ∙ some)))
    | inr none ↦ found-is ∙ untripped-found none
        ∙ ap (λ t. not t && is_first w (Bits (RowAfter s start x h ∷ SpanRows s start h))) (sym (tripped_rows s start h ∙ none))
  ]

pub All-end : {X : Type 0} (P : X → Type 0) (newer h : List X) → All P (newer ++ h) → All P h
All-end P [] h all = all
All-end P (x ∷ newer) h all = All-end P newer h (All-tail P x (newer ++ h) all)

spared-end : (s : Setting) (start : ℕ) (newer h : List Tick) → IsSpared s start (newer ++ h) → IsSpared s start h
spared-end s start newer h is = record {
  follows = follows-end s.fault start newer h is.follows;
  sees = is.sees;
  loads = All-end HasOneLoad newer h is.loads;
}

finds_pairs : (s : Setting) (start : ℕ) (h : List Tick) → IsSpared s start h → FindsPairs s start (SpanRows s start h)
finds_pairs s start h is pair later before row e =
    ap (λ (r : Row). finds_pair pair r.found) last.row_is
    ∙ found_exactly pair s start last.tick last.past
    (subst (IsSpared s start) last.is (spared-end s start parts.more parts.rest (subst (IsSpared s start) parts.whole is)))
    ∙ sym (ap₂ (λ r rows. not (has_tripped rows) && is_first s.cal.rules.pair (map (disagrees_at pair s) (r ∷ rows)))
    last.row_is last.before_are)
  where
    parts : Split s start h later (row ∷ before)
    parts = split s start h later (row ∷ before) e

    last : LastOf s start parts.rest row before
    last = last_of s start parts.rest row before parts.rows_are

-- ---- as many rows as confirm ----

-- rows that disagree are a run of true bits
run_of : (bit : Row → Bool) (stretch before : List Row) → All (λ row. bit row ≡ true) stretch →
    TrueRun (length stretch) (map bit (stretch ++ before))
unfolding TrueRun
run_of bit [] before all = tt
run_of bit (row ∷ stretch) before all = (
  All-head (λ r. bit r ≡ true) row stretch all,
  run_of bit stretch before (All-tail (λ r. bit r ≡ true) row stretch all),
)

confirmed_rows : (w : WeightParts) → AreWeights w → (bit : Row → Bool) (stretch before : List Row) →
    All (λ row. bit row ≡ true) stretch → feeds_to_confirm w ≤ length stretch →
    is_confirmed w (map bit (stretch ++ before)) ≡ true
unfolding feeds_to_confirm
confirmed_rows w are bit stretch before all enough = run_confirms w (length stretch) (map bit (stretch ++ before))
    (omega (arith, are.3)) (more _ _ _ _ (rounded_up w.limit w.up (omega (arith, are.0))) enough) (run_of bit stretch before all)
  where
    more : (limit q n up : ℕ) → limit ≤ q * up → q ≤ n → limit ≤ n * up
    more limit q n up l k = grind arith

module _ (pair : Pair) (s : Setting) where
  abbrev ByConfirmed : List Row → Type 0
  ByConfirmed rows = is_confirmed s.cal.rules.pair (map (disagrees_at pair s) rows) ≡ true →
      (has_found pair rows ≡ true) ⊎ (has_tripped rows ≡ true)

  -- where the limit is reached, the watch was found, or a trip came
  found_or_tripped : (start : ℕ) (rows : List Row) → FindsPairs s start rows → ByConfirmed rows
  unfolding has_found has_tripped
  found_or_tripped start [] finds confirmed = absurd (true≢false (sym confirmed ∙ (unfold is_confirmed in refl)))
  found_or_tripped start (row ∷ before) finds confirmed = elim (cases_Bool (has_tripped before)) [
    | inl trip ↦ inr (or_right _ _ trip)
    | inr none ↦ elim (cases_Bool (is_confirmed s.cal.rules.pair (map (disagrees_at pair s) before))) [
      | inl earlier ↦ later (found_or_tripped start before
          (λ p more rows r e. finds p (row ∷ more) rows r (ap (λ k. row ∷ k) e)) earlier)
      | inr unconfirmed ↦ inl (or_left _ _ (finds pair [] before row refl
          ∙ ap₂ (λ t f. not t && f) none (is_first_from s.cal.rules.pair _ _ confirmed unconfirmed)))
    ]
  ]
    where
      later : (has_found pair before ≡ true) ⊎ (has_tripped before ≡ true) →
          (has_found pair (row ∷ before) ≡ true) ⊎ (has_tripped (row ∷ before) ≡ true)
      later (inl found) = inl (or_right _ _ found)
      later (inr trip) = inr (or_right _ _ trip)

FindsPairs-end : (s : Setting) (start : ℕ) (later rows : List Row) → FindsPairs s start (later ++ rows) → FindsPairs s start rows
FindsPairs-end s start [] rows finds = finds
FindsPairs-end s start (row ∷ later) rows finds =
    FindsPairs-end s start later rows (λ p more before r e. finds p (row ∷ more) before r (ap (λ k. row ∷ k) e))

finds_disagreement : (s : Setting) (start : ℕ) (rows : List Row) → AreWeights s.cal.rules.pair → FindsPairs s start rows →
    FindsDisagreement s start rows
finds_disagreement s start rows are finds pair later stretch before e all enough =
    found_or_tripped pair s start (stretch ++ before)
    (FindsPairs-end s start later (stretch ++ before) (subst (FindsPairs s start) e finds))
    (confirmed_rows s.cal.rules.pair are (disagrees_at pair s) stretch before all enough)

-- ---- each record ----

sees_under : (fault : Option Fault) → SparesModules fault → (t : ℕ) → SeesExcess (effects fault t)
sees_under None spared t = unfold effects in sees_plain
sees_under (Some fault) spared t = of_class SeesExcess fault sees_plain (λ k. sees_spared fault.class k spared) t

module _ {E : Type 0} {b : BenchEngine E} {Keeps : PlantParts → E → Type 0} (keeps : KeepsBenchLaws b Keeps)
    (once : ShowsOneLoad b) where
  pub records_find_pairs : RecordsFindPairs b
  records_find_pairs r spared = each_drive b (FindsPairs r.setting) r (λ start count span is.
      finds_pairs r.setting start (SpanTo b r count) (record {
        follows = is.follows;
        sees = sees_under r.setting.fault spared;
        loads = loads_in keeps once r count;
      }))

  pub disagreeing_rows_are_found : DisagreeingRowsAreFound b
  disagreeing_rows_are_found r run spared newer span older e is =
      finds_disagreement r.setting (length older) span run.accepted.pair (records_find_pairs r spared newer span older e is)
