-- How near a run came to a cut, with one row more.
use Rattle.std.proofs.Common.{◌≡◌, ◌∙◌, ◌∷◌, [], List, ℕ, ℤ, Bool, true, false, not, ◌&&◌, ◌||◌, Some, map, drop, max, refl, sym, ap, ap₂, arith}
use Rattle.std.specs.Prelude.{Option, if◌then◌else◌}
use Rattle.eg_num.specs.Windows.{greatest_of}
use Rattle.eg_record.specs.declared.row.Row.{Row}
use Rattle.eg_record.specs.declared.margins.Counters.{Counters}
use Rattle.eg_record.specs.declared.margins.Margins.{Margins}
use Rattle.eg_record.specs.declared.margins.MarginTally.{MarginTally}
use Rattle.eg_record.specs.Detection.{is_trip}
use Rattle.eg_record.specs.Spans.{this_span}
use Rattle.eg_record.specs.Margins.{Weighed, rows_in, is_driven, is_tripped, is_driven_untripped, weighed_where, greatest_weight, surplus_at, greater_than, greatest_integer, surplus_of, margins_of, IsMarginTallyOf}
use Rattle.eg_record.specs.Inner.RowMore.{greater_counters}

-- ---- rows of drive spans, and rows that trip ----

rows_in-cons : (w : Weighed) (before : List Weighed) → rows_in (w ∷ before) ≡ w.row ∷ rows_in before
unfolding rows_in
rows_in-cons w before = refl

is_driven-cons : (row : Row) (rows : List Row) → is_driven (row ∷ rows) ≡ (if row.fresh then not row.testing else is_driven rows)
unfolding is_driven
is_driven-cons row rows = refl

-- whether a row before the last one trips in its span
tripped-before : (row : Row) (rows : List Row) → is_tripped (drop 1 (this_span (row ∷ rows))) ≡ (if row.fresh then false else is_tripped (this_span rows))
unfolding this_span is_tripped
tripped-before row rows = go row.fresh
  where
    go : (fresh : Bool) → is_tripped (if fresh then [] else this_span rows) ≡ (if fresh then false else is_tripped (this_span rows))
    go true = refl
    go false = refl

tripped-cons : (row : Row) (rows : List Row) → is_tripped (this_span (row ∷ rows)) ≡ (is_tripped (drop 1 (this_span (row ∷ rows))) || is_trip row.found)
unfolding is_tripped this_span
tripped-cons row rows = go (is_trip row.found) (is_tripped (drop 1 (this_span (row ∷ rows))))
  where
    go : (a b : Bool) → (a || b) ≡ (b || a)
    go a b = grind arith

-- ---- one row more ----

-- one row more of those that count, or one that doesn't
greatest_weight-more : (weight : Counters → ℕ) (w : Weighed) (before : List Weighed) (drives : Bool) → drives ≡ is_driven (rows_in (w ∷ before)) →
    greatest_weight weight (w ∷ before) ≡ (if drives then max (weight w.counters) (greatest_weight weight before) else greatest_weight weight before)
unfolding greatest_weight weighed_where greatest_of
greatest_weight-more weight w before drives is = go (is_driven (rows_in (w ∷ before))) drives is
  where
    go : (driven drives : Bool) → drives ≡ driven → greatest_of (map (λ w. weight w.counters) (if driven then w ∷ weighed_where is_driven before else weighed_where is_driven before))
        ≡ (if drives then max (weight w.counters) (greatest_weight weight before) else greatest_weight weight before)
    go true true same = refl
    go false false same = refl
    go true false same = absurd cc
    go false true same = absurd cc

surplus_of-more : (w : Weighed) (before : List Weighed) (counts : Bool) → counts ≡ is_driven_untripped (rows_in (w ∷ before)) →
    surplus_of (w ∷ before) ≡ (if counts then Some (greater_than (surplus_at w.row) (surplus_of before)) else surplus_of before)
unfolding surplus_of weighed_where greatest_integer
surplus_of-more w before counts is = go (is_driven_untripped (rows_in (w ∷ before))) counts is
  where
    go : (untripped counts : Bool) → counts ≡ untripped → greatest_integer (map (λ w. surplus_at w.row) (if untripped then w ∷ weighed_where is_driven_untripped before else weighed_where is_driven_untripped before))
        ≡ (if counts then Some (greater_than (surplus_at w.row) (surplus_of before)) else surplus_of before)
    go true true same = refl
    go false false same = refl
    go true false same = absurd cc
    go false true same = absurd cc

-- the greatest weights of all six
margins-more : (w : Weighed) (before : List Weighed) (drives : Bool) → drives ≡ is_driven (rows_in (w ∷ before)) →
    (if drives then greater_counters w.counters (margins_of before).greatest else (margins_of before).greatest) ≡ (margins_of (w ∷ before)).greatest
unfolding margins_of greater_counters
margins-more w before drives is = of_bool drives ∙ (λ i. record {
  pedal = sym (greatest_weight-more (λ c. c.pedal) w before drives is) i;
  plate = sym (greatest_weight-more (λ c. c.plate) w before drives is) i;
  load = sym (greatest_weight-more (λ c. c.load) w before drives is) i;
  speed = sym (greatest_weight-more (λ c. c.speed) w before drives is) i;
  torque = sym (greatest_weight-more (λ c. c.torque) w before drives is) i;
  answers = sym (greatest_weight-more (λ c. c.answers) w before drives is) i;
})
  where
    of_bool : (drives : Bool) → (if drives then greater_counters w.counters (margins_of before).greatest else (margins_of before).greatest)
        ≡ record {
          pedal = if drives then max w.counters.pedal (greatest_weight (λ c. c.pedal) before) else greatest_weight (λ c. c.pedal) before;
          plate = if drives then max w.counters.plate (greatest_weight (λ c. c.plate) before) else greatest_weight (λ c. c.plate) before;
          load = if drives then max w.counters.load (greatest_weight (λ c. c.load) before) else greatest_weight (λ c. c.load) before;
          speed = if drives then max w.counters.speed (greatest_weight (λ c. c.speed) before) else greatest_weight (λ c. c.speed) before;
          torque = if drives then max w.counters.torque (greatest_weight (λ c. c.torque) before) else greatest_weight (λ c. c.torque) before;
          answers = if drives then max w.counters.answers (greatest_weight (λ c. c.answers) before) else greatest_weight (λ c. c.answers) before;
        }
    of_bool true = refl
    of_bool false = refl

surplus_is : (weighed : List Weighed) → (margins_of weighed).surplus ≡ surplus_of weighed
unfolding margins_of
surplus_is weighed = refl

untripped_is : (rows : List Row) (drives tripped : Bool) → drives ≡ is_driven rows → tripped ≡ is_tripped (drop 1 (this_span rows)) →
    (drives && not tripped) ≡ is_driven_untripped rows
unfolding is_driven_untripped
untripped_is rows drives tripped driven earlier = ap₂ (λ a b. a && not b) driven earlier

-- What a tally keeps of one row more: whether a row before it trips in its span, whether it is one of a drive
-- span, and what is told with it.
pub record IsMore (old : MarginTally) (w : Weighed) (tripped drives : Bool) (greatest : Counters) (surplus : Option ℤ) : Type 0 where
  pub tripped_is : tripped ≡ (if w.row.fresh then false else old.tripped)
  pub drives_is : drives ≡ (if w.row.fresh then not w.row.testing else old.drives)
  pub greatest_is : greatest ≡ (if drives then greater_counters w.counters old.margins.greatest else old.margins.greatest)
  pub surplus_is : surplus ≡ (if drives && not tripped then Some (greater_than (surplus_at w.row) old.margins.surplus) else old.margins.surplus)

-- so it stands for the rows and that one
pub stands_more : (old : MarginTally) (w : Weighed) (tripped drives trips : Bool) (greatest : Counters) (surplus : Option ℤ) →
    IsMore old w tripped drives greatest surplus → trips ≡ is_trip w.row.found → (before : List Weighed) → IsMarginTallyOf old before →
    IsMarginTallyOf (record { margins = record { greatest = greatest; surplus = surplus }; drives = drives; tripped = tripped || trips }) (w ∷ before)
stands_more old w tripped drives trips greatest surplus more trip before is =
    let driven : drives ≡ is_driven (rows_in (w ∷ before)) =
    more.drives_is ∙ ap (λ (b : Bool). if w.row.fresh then not w.row.testing else b) is.drives
    ∙ sym (is_driven-cons w.row (rows_in before)) ∙ ap is_driven (sym (rows_in-cons w before)) in
    let earlier : tripped ≡ is_tripped (drop 1 (this_span (rows_in (w ∷ before)))) =
    more.tripped_is ∙ ap (λ (b : Bool). if w.row.fresh then false else b) is.tripped
    ∙ sym (tripped-before w.row (rows_in before)) ∙ ap (λ rows. is_tripped (drop 1 (this_span rows))) (sym (rows_in-cons w before)) in
    record {
      margins = λ i. record {
        greatest = (more.greatest_is ∙ ap (λ (g : Counters). if drives then greater_counters w.counters g else g) (ap (λ (m : Margins). m.greatest) is.margins)
            ∙ margins-more w before drives driven) i;
        surplus = (more.surplus_is
            ∙ ap (λ (s : Option ℤ). if drives && not tripped then Some (greater_than (surplus_at w.row) s) else s) (ap (λ (m : Margins). m.surplus) is.margins ∙ surplus_is before)
            ∙ sym (surplus_of-more w before (drives && not tripped) (untripped_is (rows_in (w ∷ before)) drives tripped driven earlier)) ∙ sym (surplus_is (w ∷ before))) i;
      };
      drives = driven;
      tripped = ap₂ (λ a b. a || b) (earlier ∙ ap (λ rows. is_tripped (drop 1 (this_span rows))) (rows_in-cons w before)) trip ∙ sym (tripped-cons w.row (rows_in before)) ∙ ap (λ rows. is_tripped (this_span rows)) (sym (rows_in-cons w before));
    }
