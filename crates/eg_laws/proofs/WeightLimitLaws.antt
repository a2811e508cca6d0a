-- Nothing but the watches of the torque and of the pairs reads the limits of their weights, so two runs that differ
-- in one limit alone are the same as long as neither finds what that limit confirms.
use Rattle.std.proofs.Common.{◌≡◌, ◌∙◌, refl, sym, ap, ap₂, subst, ℕ, zero, suc, ◌&&◌, false, List, [], ◌∷◌, length, All}
use Rattle.std.specs.Prelude.{if◌then◌else◌}
use Rattle.std.proofs.lemmas.List.Elements.{All-head, All-tail}
use Rattle.eg_num.specs.Windows.{WeightParts}
use Rattle.eg_num.specs.declared.watches.Watches.{Watches}
use Rattle.eg_answer.specs.Formulas.{permitted_torque, estimated_torque, excess_number, disagreeing_pairs}
use Rattle.eg_fault.specs.Effects.{Effects}
use Rattle.eg_fault.specs.Faults.{effects}
use Rattle.eg_record.specs.declared.row.Row.{Row}
use Rattle.eg_model.specs.History.{Setting, Entry, SpanKind, drives, Moment}
use Rattle.eg_model.specs.Paths.{both_conduct}
use Rattle.eg_model.specs.Signals.{signals_at}
use Rattle.eg_model.specs.Moments.{effective_drive, demand_at, limit_at, is_braking, readings_at, moment_in}
use Rattle.eg_model.specs.Spans.{kind_at, before_at, moment_at, next_after}
use Rattle.eg_model.specs.Engines.{BenchEngine}
use Rattle.eg_model.specs.Bench.{Run, stepped, engine_after, shown_at, drive_at, slices_at, entry_at, moments_to}
use Rattle.eg_model.specs.Rows.{row_of, rows_of}
use Rattle.eg_model.specs.Records.{rows_to}
use Rattle.eg_laws.specs.WeightLimits.{limited, weighing, torque_limited, pairs_limited, run_in, FindsNoPair, AreSameTo, RecordsDisregardTorqueLimit, RecordsDisregardPairLimit}

-- two moments find the same of the five watches that are debounced
pub record FindAlike (m n : Moment) : Type 0 where
  pub pedal : n.found.pedal ≡ m.found.pedal
  pub plate : n.found.plate ≡ m.found.plate
  pub load : n.found.load ≡ m.found.load
  pub speed : n.found.speed ≡ m.found.speed
  pub torque : n.found.torque ≡ m.found.torque

-- two settings that differ in weights alone
module _ (s : Setting) (pair other_pair torque other_torque : WeightParts) where
  abbrev one : Setting
  one = weighing pair torque s

  abbrev two : Setting
  two = weighing other_pair other_torque s

  -- a tick at which the same is found is the same
  tick-same : (kind : SpanKind) (x : Effects) (e : Entry) (past : List Moment) →
      FindAlike (moment_in kind one x e past) (moment_in kind two x e past) →
      moment_in kind two x e past ≡ moment_in kind one x e past
  unfolding moment_in readings_at is_braking limit_at demand_at effective_drive signals_at permitted_torque
      estimated_torque excess_number disagreeing_pairs
  tick-same kind x e past alike = rw (alike.pedal, alike.plate, alike.load, alike.speed, alike.torque) refl

  pub next-same : (e : Entry) (past : List Moment) → FindAlike (next_after one e past) (next_after two e past) →
      next_after two e past ≡ next_after one e past
  unfolding next_after moment_at
  next-same e past alike =
      tick-same (kind_at e.drive past) (effects s.fault (length past)) e (before_at e.drive past) alike

-- by two limits of the torque's weights the pairs are found alike, and by two of the pairs' the torque is
module _ (s : Setting) (limit other : ℕ) (e : Entry) (past : List Moment) where
  pub by_torque : (next_after (torque_limited limit s) e past).found.torque ≡ false →
      (next_after (torque_limited other s) e past).found.torque ≡ false →
      FindAlike (next_after (torque_limited limit s) e past) (next_after (torque_limited other s) e past)
  unfolding next_after moment_at moment_in readings_at is_braking signals_at permitted_torque estimated_torque
      excess_number disagreeing_pairs
  by_torque none no_other =
      record { pedal = refl; plate = refl; load = refl; speed = refl; torque = no_other ∙ sym none }

  by_pairs : FindsNoPair (next_after (pairs_limited limit s) e past).found →
      FindsNoPair (next_after (pairs_limited other s) e past).found →
      FindAlike (next_after (pairs_limited limit s) e past) (next_after (pairs_limited other s) e past)
  unfolding next_after moment_at moment_in readings_at is_braking signals_at permitted_torque estimated_torque
      excess_number disagreeing_pairs
  by_pairs none no_other = record {
    pedal = no_other.pedal ∙ sym none.pedal;
    plate = no_other.plate ∙ sym none.plate;
    load = no_other.load ∙ sym none.load;
    speed = no_other.speed ∙ sym none.speed;
    torque = refl;
  }

-- a run in both
module _ {E : Type 0} (b : BenchEngine E) (r : Run) (pair other_pair torque other_torque : WeightParts) where
  abbrev first : Run
  first = run_in (weighing pair torque r.setting) r

  abbrev second : Run
  second = run_in (weighing other_pair other_torque r.setting) r

  engine-same : (past : List Moment) → engine_after b second.setting past ≡ engine_after b first.setting past
  unfolding engine_after
  engine-same [] = refl
  engine-same (m ∷ past) =
      ap (λ engine. stepped b r.setting.cal.plant engine (if m.fresh then [] else past) m.on
      (effects r.setting.fault (length past)).held_plate) (engine-same past)

  pub entry-same : (t : ℕ) (past : List Moment) → entry_at b second t past ≡ entry_at b first t past
  unfolding entry_at shown_at drive_at slices_at
  entry-same t past =
      let x : Effects = effects r.setting.fault t in
      ap (λ engine. record {
        drive = drive_at r t;
        slices = slices_at r t;
        shown = b.shows (stepped b r.setting.cal.plant engine (before_at (drive_at r t) past)
            (drives (kind_at (drive_at r t) past) && both_conduct x (before_at (drive_at r t) past)) x.held_plate);
      }) (engine-same past)

  -- what comes next in each, where the ticks before are the same
  abbrev next_first : ℕ → Moment
  next_first t = next_after first.setting (entry_at b first t (moments_to b first t)) (moments_to b first t)

  abbrev next_second : ℕ → Moment
  next_second t = next_after second.setting (entry_at b first t (moments_to b first t)) (moments_to b first t)

  next-is : (t : ℕ) → moments_to b second t ≡ moments_to b first t →
      next_after second.setting (entry_at b second t (moments_to b second t)) (moments_to b second t) ≡ next_second t
  next-is t same =
      ap (λ past. next_after second.setting (entry_at b second t past) past) same
      ∙ ap (λ e. next_after second.setting e (moments_to b first t)) (entry-same t (moments_to b first t))

  -- one tick more
  moments-more : (t : ℕ) → moments_to b second t ≡ moments_to b first t → FindAlike (next_first t) (next_second t) →
      moments_to b second (suc t) ≡ moments_to b first (suc t)
  unfolding moments_to
  moments-more t same alike =
      ap₂ (λ m past. m ∷ past) (next-is t same ∙ next-same r.setting pair other_pair torque other_torque
      (entry_at b first t (moments_to b first t)) (moments_to b first t) alike) same

  -- Where a tick of both finds none of what the limits confirm, the same is found: so the runs are the same as long as
  -- that is so.
  module _ (FindsNone : Watches → Type 0) (alike : (t : ℕ) → FindsNone (next_first t).found →
      FindsNone (next_second t).found → FindAlike (next_first t) (next_second t)) where
    abbrev FindNone : List Row → Type 0
    FindNone rows = All (λ row. FindsNone row.found) rows

    moments-same : (n : ℕ) → FindNone (rows_to b first n) → FindNone (rows_to b second n) →
        moments_to b second n ≡ moments_to b first n
    unfolding rows_to moments_to rows_of row_of
    moments-same zero none no_other = refl
    moments-same (suc t) none no_other =
        let same = moments-same t (All-tail (λ row. FindsNone row.found) _ _ none)
        (All-tail (λ row. FindsNone row.found) _ _ no_other) in
        moments-more t same (alike t (All-head (λ row. FindsNone row.found) _ _ none)
        (subst (λ m. FindsNone m.found) (next-is t same) (All-head (λ row. FindsNone row.found) _ _ no_other)))

    pub same_to : (n : ℕ) → FindNone (rows_to b first n) → FindNone (rows_to b second n) → AreSameTo b first second n
    unfolding rows_to
    same_to n none no_other =
        let same = moments-same n none no_other in record { moments_are = same; rows_are = ap rows_of same }

pub records_disregard_torque_limit : {E : Type 0} (b : BenchEngine E) → RecordsDisregardTorqueLimit b
records_disregard_torque_limit b r limit other =
    let w : WeightParts = r.setting.cal.rules.torque in
    same_to b r r.setting.cal.rules.pair r.setting.cal.rules.pair (limited limit w) (limited other w)
    (λ found. found.torque ≡ false) (λ t. by_torque r.setting limit other _ _)

pub records_disregard_pair_limit : {E : Type 0} (b : BenchEngine E) → RecordsDisregardPairLimit b
records_disregard_pair_limit b r limit other =
    let w : WeightParts = r.setting.cal.rules.pair in
    same_to b r (limited limit w) (limited other w) r.setting.cal.rules.torque r.setting.cal.rules.torque
    FindsNoPair (λ t. by_pairs r.setting limit other _ _)
