-- The signals, and what else stands before debounce, through modules 0 to 5.
use Rattle.std.proofs.Common.{arith, ◌≡◌, ℕ, Bool, true, false, ◌||◌, ◌&&◌, List, refl, sym, ap, ap₂, ◌∙◌}
use Rattle.std.specs.Prelude.{if◌then◌else◌, is_some, bit_xor}
use Rattle.std.proofs.lemmas.Bool.{false≢true}
use Rattle.eg_sensor.specs.Readings.{bit, used_pedal}
use Rattle.eg_sensor.specs.declared.readings.Readings.{Readings}
use Rattle.eg_torque.specs.Ramp.{ramped}
use Rattle.eg_answer.specs.Formulas.{permitted_torque, excess_number}
use Rattle.eg_answer.specs.declared.rules.Rules.{Rules}
use Rattle.eg_answer.specs.declared.rules.TestRow.{TestRow}
use Rattle.eg_fault.specs.Effects.{Effects}
use Rattle.eg_fault.specs.Classes.{ChecksFlips}
use Rattle.eg_level2.specs.Words.{Words, is_set}
use Rattle.eg_level2.specs.Modules.{check_step, given_up, written, pedal_step, permitted_step, actual_step, excess_step, pairs_step}
use Rattle.eg_model.specs.History.{Setting, Signals, Moment}
use Rattle.eg_model.specs.Signals.{tripped, is_limited, last_signals, signal, signals_at}
use Rattle.eg_model.specs.Detection.{pedal_bit, plate_bit, load_bit, speed_bit, torque_bit}
use Rattle.eg_model.specs.Level1.{seen}
use Rattle.eg_agree.specs.Standing.{signals_of, mirror_found, counter_after, limp_after, trip_after, KeepsWords}
use Rattle.eg_agree.proofs.BoolLaws.{if-part, if-same, is_set-bit, written-law}

-- the signals as slice j sees them
unfoldable pub seen_by : Bool → Signals → Signals → ℕ → Signals
seen_by flip before now j = record {
  pedal = seen flip j 1 before.pedal now.pedal;
  permitted = seen flip j 2 before.permitted now.permitted;
  actual = seen flip j 3 before.actual now.actual;
  excess = seen flip j 4 before.excess now.excess;
  pairs = seen flip j 5 before.pairs now.pairs;
}

-- The words that debounce changes.
pub record Fed : Type 0 where
  pub pedal : ℕ
  pub plate : ℕ
  pub load : ℕ
  pub speed : ℕ
  pub torque : ℕ
  pub limp : ℕ
  pub trip : ℕ

unfoldable pub fed_of : Words → Fed
fed_of w = record {
  pedal = w.pedal_counter;
  plate = w.plate_counter;
  load = w.load_counter;
  speed = w.speed_counter;
  torque = w.torque_counter;
  limp = w.limp;
  trip = w.trip;
}

-- what they stand for after these ticks, where module 0 gives them up at a flip
unfoldable pub fed_after : Rules → Bool → List Moment → Fed
fed_after rules flip past = record {
  pedal = if flip then 0 else counter_after rules.pair pedal_bit past;
  plate = if flip then 0 else counter_after rules.pair plate_bit past;
  load = if flip then 0 else counter_after rules.pair load_bit past;
  speed = if flip then 0 else counter_after rules.pair speed_bit past;
  torque = if flip then 0 else counter_after rules.torque torque_bit past;
  limp = if flip then 0 else limp_after past;
  trip = bit 1 (flip || tripped past);
}

-- a trip came where a word was found to differ from its complement
abbrev pub MirrorTrips : List Moment → Type 0
MirrorTrips past = mirror_found past ≡ true → tripped past ≡ true

-- what a slice sees after module 0, where no word is flipped
pub unflipped : (flip : Bool) (n : ℕ) → flip ≡ false → (if flip && true then 0 else n) ≡ n
unflipped flip n calm = grind arith

-- whether the limp word is set, where no trip stood
limits : (flip mirror trip limited : Bool) (word : ℕ) →
    word ≡ (if flip then 0 else if mirror then 0 else bit 1 limited) → (mirror ≡ true → trip ≡ true) →
    flip ≡ false → trip ≡ false
    → is_set word ≡ limited
limits flip mirror trip limited word e m calm untripped = grind (arith, is_set-bit)

-- where a module that runs changes one signal alone, which then is n
one_changed : (change : Signals → ℕ → Signals) (part : Words → ℕ) (runs : Bool) (v w : Words) {before : Signals} {n : ℕ} →
    signals_of v ≡ change (signals_of w) (part v) → change (signals_of w) (part w) ≡ signals_of w → signals_of w ≡ before →
    part (if runs then v else w) ≡ n → signals_of (if runs then v else w) ≡ change before n
one_changed change part true v w ev ew e now = ev ∙ ap₂ change e now
one_changed change part false v w ev ew e now = sym ew ∙ ap₂ change e now

module _ (s : Setting) (x : Effects) (reads : Readings) (past : List Moment) where
  abbrev flip : Bool
  flip = is_some x.flip

  abbrev before : Signals
  before = last_signals past

  abbrev now : Signals
  now = signals_at s.cal.rules x reads past

  -- how the words stand after the first j modules, before debounce
  pub record Between (j : ℕ) (w : Words) : Type 0 where
    pub signals : signals_of w ≡ seen_by flip before now j
    pub others : fed_of w ≡ fed_after s.cal.rules flip past

  pub seen-begin : (w : Words) → KeepsWords s w past → signals_of w ≡ seen_by flip before now 0
  seen-begin w keeps = keeps.signals ∙ unmet flip
    where
      unmet : (flip : Bool) → before ≡ seen_by flip before now 0
      unmet true = unfold seen_by seen in refl
      unmet false = unfold seen_by seen in refl

  -- module 0
  kept-others : (w : Words) → KeepsWords s w past → fed_of w ≡ fed_after s.cal.rules false past
  unfolding fed_of fed_after trip_after
  kept-others w keeps = λ i. record {
    pedal = keeps.pedal i;
    plate = keeps.plate i;
    load = keeps.load i;
    speed = keeps.speed i;
    torque = keeps.torque i;
    limp = keeps.limp i;
    trip = keeps.trip i;
  }

  pub check-between : ChecksFlips x → (w : Words) (seed tick : ℕ) → KeepsWords s w past
      → Between 1 (if x.ran 0 then (if flip then given_up tick else check_step seed tick w) else w)
  check-between checks w seed tick keeps =
      record { signals = signals flip (x.ran 0) checks; others = others flip (x.ran 0) checks }
    where
      signals : (flip runs : Bool) → (flip ≡ true → runs ≡ true) →
          signals_of (if runs then (if flip then given_up tick else check_step seed tick w) else w) ≡ seen_by flip before now 1
      signals true true c = unfold signals_of given_up seen_by seen in refl
      signals true false c = absurd (false≢true (c refl))
      signals false true c = unfold signals_of check_step seen_by seen in keeps.signals
      signals false false c = unfold seen_by seen in keeps.signals

      others : (flip runs : Bool) → (flip ≡ true → runs ≡ true) →
          fed_of (if runs then (if flip then given_up tick else check_step seed tick w) else w) ≡ fed_after s.cal.rules flip past
      others true true c = unfold fed_of fed_after given_up in refl
      others true false c = absurd (false≢true (c refl))
      others false true c = unfold fed_of check_step in kept-others w keeps
      others false false c = kept-others w keeps

  -- module i, which writes one signal alone, after those before it
  moved : (change : Signals → ℕ → Signals) (part : Words → ℕ) (i k : ℕ) (v w : Words) (was value told : ℕ) →
      signals_of v ≡ change (signals_of w) (part v) → change (signals_of w) (part w) ≡ signals_of w → fed_of v ≡ fed_of w →
      part v ≡ (if is_set w.trip then 0 else bit_xor value (x.disturbance i)) → part w ≡ (if flip && true then 0 else was) →
      (flip ≡ false → tripped past ≡ false → value ≡ told) →
      change (seen_by flip before now i) (if flip && true then 0 else signal x past i was told) ≡ seen_by flip before now k →
      Between i w → Between k (if x.ran i then v else w)
  unfolding signal fed_of fed_after
  moved change part i k v w was value told ev ew same e eo et is b = record {
    signals = one_changed change part (x.ran i) v w ev ew b.signals (if-part part (x.ran i) v w ∙ ap (λ n. if x.ran i then n else part w) e
        ∙ written-law flip (x.ran i) (tripped past) w.trip (part w) was value told (x.disturbance i) (ap (λ f. f.trip) b.others) eo et) ∙ is;
    others = if-same fed_of (x.ran i) v w _ same b.others;
  }

  -- module 1
  pub pedal-between : MirrorTrips past → (w : Words) (row : TestRow) → Between 1 w →
      Between 2 (if x.ran 1 then pedal_step reads row (x.disturbance 1) w else w)
  unfolding signals_of fed_of fed_after seen_by seen signals_at pedal_step written limp_after
  pedal-between trips w row b = moved (λ g n. record g { pedal = n }) (λ u. u.pedal) 1 2 _ w _ _ _ refl refl refl refl
      (ap (λ g. g.pedal) b.signals) (λ calm untripped. ap (used_pedal reads.pedal) (limits flip (mirror_found past)
      (tripped past) (is_limited past) w.limp (ap (λ f. f.limp) b.others) trips calm untripped)) refl b

  -- module 2
  pub permitted-between : (w : Words) (row : TestRow) → Between 2 w →
      Between 3 (if x.ran 2 then permitted_step s.cal.rules reads row (x.disturbance 2) w else w)
  unfolding signals_of fed_of seen_by seen signals_at permitted_step written
  permitted-between w row b = moved (λ g n. record g { permitted = n }) (λ u. u.permitted) 2 3 _ w _ _ _ refl refl refl refl
      (ap (λ g. g.permitted) b.signals)
      (λ calm untripped. ap₂ (λ from pedal. ramped s.cal.rules.fall from (permitted_torque s.cal.rules reads pedal))
      (ap (λ g. g.permitted) b.signals ∙ unflipped flip before.permitted calm)
      (ap (λ g. g.pedal) b.signals ∙ unflipped flip now.pedal calm)) refl b

  -- module 3
  pub actual-between : (w : Words) (row : TestRow) → Between 3 w →
      Between 4 (if x.ran 3 then actual_step s.cal.rules reads row (x.disturbance 3) w else w)
  unfolding signals_of fed_of seen_by seen signals_at actual_step written
  actual-between w row b = moved (λ g n. record g { actual = n }) (λ u. u.actual) 3 4 _ w _ _ _ refl refl refl refl
      (ap (λ g. g.actual) b.signals) (λ calm untripped. refl) refl b

  -- module 4
  pub excess-between : (w : Words) (row : TestRow) → Between 4 w →
      Between 5 (if x.ran 4 then excess_step s.cal.rules row (x.disturbance 4) w else w)
  unfolding signals_of fed_of seen_by seen signals_at excess_step written
  excess-between w row b = moved (λ g n. record g { excess = n }) (λ u. u.excess) 4 5 _ w _ _ _ refl refl refl refl
      (ap (λ g. g.excess) b.signals) (λ calm untripped. ap₂ (excess_number s.cal.rules)
      (ap (λ g. g.permitted) b.signals ∙ unflipped flip now.permitted calm)
      (ap (λ g. g.actual) b.signals ∙ unflipped flip now.actual calm)) refl b

  -- module 5
  pub pairs-between : (w : Words) (row : TestRow) → Between 5 w →
      Between 6 (if x.ran 5 then pairs_step s.cal.rules reads row (x.disturbance 5) w else w)
  unfolding signals_of fed_of seen_by seen signals_at pairs_step written
  pairs-between w row b = moved (λ g n. record g { pairs = n }) (λ u. u.pairs) 5 6 _ w _ _ _ refl refl refl refl
      (ap (λ g. g.pairs) b.signals) (λ calm untripped. refl) refl b
