-- No cut without a watch, by the ticks and the rows of a history in which the engine is driven.
use Rattle.std.proofs.Common.{◌≡◌, ◌∙◌, refl, sym, ap, subst, ℕ, ◌+◌, ◌-◌, ◌≤◌, ◌<◌, Bool, true, false, ◌&&◌, ◌||◌, List, [], ◌∷◌, ◌++◌, length, inl, inr, Option, Some, None, max, arith}
use Rattle.std.specs.Prelude.{IsTrue, Contains}
use Rattle.std.specs.List.{list_any}
use Rattle.std.proofs.lemmas.Bool.{or_cases, or_left, or_right, and_from, and_parts, and_right, le-leb, true≢false}
use Rattle.eg_num.specs.declared.watches.Watches.{Watches}
use Rattle.eg_answer.specs.Times.{reaction_of}
use Rattle.eg_answer.specs.declared.modules.TheConstants.{REACT}
use Rattle.eg_values.specs.Calibration.{IsAccepted}
use Rattle.eg_fault.specs.Faults.{effects, opens_path, IsNoneOrValid}
use Rattle.eg_fault.specs.declared.class.Class.{Class}
use Rattle.eg_fault.specs.declared.class.Class.TheVariants.{Skip, Disturb, Halt}
use Rattle.eg_fault.specs.declared.class.Fault.{Fault}
use Rattle.eg_fault.specs.declared.paths.TheConstants.{PATH_1, PATH_2}
use Rattle.eg_fault.proofs.ActingLemmas.{at_tick}
use Rattle.eg_fault.proofs.ClassLemmas.{OpensNothing, opens_nothing_plain, opens_nothing_class}
use Rattle.eg_record.specs.declared.row.Row.{Row}
use Rattle.eg_record.specs.declared.watch.Watch.{Watch}
use Rattle.eg_record.specs.declared.watch.Watch.TheVariants as watch
use Rattle.eg_record.specs.Detection.{is_found}
use Rattle.eg_record.proofs.GivenLemmas.{Contains-head, Contains-tail}
use Rattle.eg_model.specs.History.{Setting, Tick, Moment}
use Rattle.eg_model.specs.Signals.{tripped}
use Rattle.eg_model.specs.Paths.{latch1, latch2, path1_at, path2_at, both_conduct}
use Rattle.eg_model.specs.Moments.{moment, moments_of}
use Rattle.eg_model.specs.Premises.{Follows, is_on_after}
use Rattle.eg_model.specs.Reaction.{spoils_answers}
use Rattle.eg_model.specs.Rows.{row_of}
use Rattle.eg_laws.specs.Findings.{cutting, Finds, opens_by_itself, FindsBeforeOff, FindsFromOnset}
use Rattle.eg_model.proofs.TickLemmas.{Each, length-moments, moment-orders, tripped-cons, fields}
use Rattle.eg_model.proofs.TripLemmas.{latch1-cons}
use Rattle.eg_model.proofs.ClassLemmas.{of_history}
use Rattle.eg_model.proofs.SpanRows.{Split, split, follows-end, rows_after, length-rows_after, SpanRows, row_on, row_tick, LastTick, last_tick}
use Rattle.eg_model.proofs.SpanLaws.{reaction_least, onset_off}

-- ---- faults that open no path ----

-- up to each tick by which no fault that opens a path has begun nothing opens one
opens_nothing : (fault : Option Fault) (tick : ℕ) → opens_by_itself fault tick ≡ false → (t : ℕ) → t ≤ tick →
    OpensNothing (effects fault t)
unfolding opens_by_itself
opens_nothing None tick none t l = unfold effects in opens_nothing_plain
opens_nothing (Some fault) tick none t l = at_tick OpensNothing fault t (λ early. opens_nothing_plain)
    (λ from. opens_nothing_class fault.class (t - fault.onset) (spared (opens_path fault.class) (le-leb fault.onset tick (omega (arith, from, l))) none))
  where
    spared : {begun : Bool} (opens : Bool) → begun ≡ true → (begun && opens) ≡ false → opens ≡ false
    spared opens e f = grind arith

-- ---- a watch that cuts ----

unfoldable pub finds_cut : Watches → Bool
finds_cut f = (f.mirror || f.plate || f.load || f.speed || f.torque) || f.answers

-- one of these watches is found
pub record FindsOne (which : List Watch) (f : Watches) : Type 0 where
  pub watch : Watch
  pub is_one : Contains which watch
  pub found : IsTrue (is_found f watch)

finds_one : (f : Watches) → finds_cut f ≡ true → FindsOne cutting f
unfolding finds_cut is_found
finds_one f e = elim (or_cases _ f.answers e) [
  | inr answers ↦ record { watch = watch.Answers; is_one = (5, (omega arith), refl); found = answers }
  | inl e ↦ elim (or_cases _ f.torque e) [
    | inr torque ↦ record { watch = watch.Torque; is_one = (4, (omega arith), refl); found = torque }
    | inl e ↦ elim (or_cases _ f.speed e) [
      | inr speed ↦ record { watch = watch.Speed; is_one = (3, (omega arith), refl); found = speed }
      | inl e ↦ elim (or_cases _ f.load e) [
        | inr load ↦ record { watch = watch.Load; is_one = (2, (omega arith), refl); found = load }
        | inl e ↦ elim (or_cases f.mirror f.plate e) [
          | inr plate ↦ record { watch = watch.Plate; is_one = (1, (omega arith), refl); found = plate }
          | inl mirror ↦ record { watch = watch.Mirror; is_one = (0, (omega arith), refl); found = mirror }
        ]
      ]
    ]
  ]
]

-- where a bit tells such a watch at each moment, and it is set at one of them, one is found at their rows
pub finds_in_rows : (which : List Watch) (bit : Watches → Bool) → ((f : Watches) → bit f ≡ true → FindsOne which f) →
    (start : ℕ) (past : List Moment) → list_any (λ m. bit m.found) past ≡ true → Finds which (rows_after start past)
unfolding rows_after
finds_in_rows which bit tells start [] e = absurd (true≢false (sym e))
finds_in_rows which bit tells start (m ∷ past) e = elim (or_cases (bit m.found) (list_any (λ m. bit m.found) past) e) [
  | inl now ↦ here (tells m.found now)
  | inr before ↦ earlier (finds_in_rows which bit tells start past before)
]
  where
    row : Row
    row = row_of (start + length past) m

    here : FindsOne which m.found → Finds which (row ∷ rows_after start past)
    here f = record {
      row = row;
      stands = Contains-head row (rows_after start past);
      watch = f.watch;
      is_one = f.is_one;
      found = unfold row_of in f.found;
    }

    earlier : Finds which (rows_after start past) → Finds which (row ∷ rows_after start past)
    earlier f = record {
      row = f.row;
      stands = Contains-tail row (rows_after start past) f.row f.stands;
      watch = f.watch;
      is_one = f.is_one;
      found = f.found;
    }

-- ---- a trip, or an open latch, comes with a watch that cuts ----

abbrev HasCut : List Moment → Type 0
HasCut past = list_any (λ m. finds_cut m.found) past ≡ true

cut_now : (m : Moment) (past : List Moment) → finds_cut m.found ≡ true → HasCut (m ∷ past)
cut_now m past now = or_left _ _ now

cut_before : (m : Moment) (past : List Moment) → HasCut past → HasCut (m ∷ past)
cut_before m past before = or_right (finds_cut m.found) _ before

cut_by_trip : (s : Setting) (h : List Tick) → tripped (moments_of s h) ≡ true → HasCut (moments_of s h)
unfolding moments_of tripped finds_cut
cut_by_trip s [] e = absurd (true≢false (sym e))
cut_by_trip s (x ∷ h) e = elim (or_cases m.trip (tripped past) (sym (tripped-cons m past) ∙ e)) [
  | inl now ↦ cut_now m past (or_left _ m.found.answers (sym (fields s x.effects x.entry past).trip ∙ now))
  | inr before ↦ cut_before m past (cut_by_trip s h before)
]
  where
    past : List Moment
    past = moments_of s h

    m : Moment
    m = moment s x.effects x.entry past

trip_by_latch1 : (s : Setting) (h : List Tick) → latch1 (moments_of s h) ≡ true → tripped (moments_of s h) ≡ true
unfolding moments_of latch1
trip_by_latch1 s [] e = absurd (true≢false (sym e))
trip_by_latch1 s (x ∷ h) e = elim (or_cases m.orders (latch1 past) (sym (latch1-cons m past) ∙ e)) [
  | inl now ↦ (and_parts (x.effects.ran REACT) (tripped (m ∷ past)) (sym (moment-orders s x.effects x.entry past) ∙ now)).1
  | inr before ↦ tripped-cons m past ∙ or_right m.trip (tripped past) (trip_by_latch1 s h before)
]
  where
    past : List Moment
    past = moments_of s h

    m : Moment
    m = moment s x.effects x.entry past

cut_by_latch2 : (s : Setting) (h : List Tick) → Each (λ x. OpensNothing x.effects) h → latch2 (moments_of s h) ≡ true →
    HasCut (moments_of s h)
unfolding moments_of latch2 Each finds_cut
cut_by_latch2 s [] quiet e = absurd (true≢false (sym e))
cut_by_latch2 s (x ∷ h) quiet e = elim (or_cases (m.confirms || m.opens) (latch2 past) e) [
  | inl now ↦ elim (or_cases m.confirms m.opens now) [
    | inl confirms ↦ cut_now m past (or_right _ m.found.answers ((fields s x.effects x.entry past).answers ∙ confirms))
    | inr opens ↦ absurd (true≢false (sym opens ∙ (fields s x.effects x.entry past).opens ∙ quiet.0.orders))
  ]
  | inr before ↦ cut_before m past (cut_by_latch2 s h quiet.1 before)
]
  where
    past : List Moment
    past = moments_of s h

    m : Moment
    m = moment s x.effects x.entry past

-- where the stages are off at a tick, such a watch was found before it
cut_by_off : (s : Setting) (x : Tick) (h : List Tick) → OpensNothing x.effects → Each (λ y. OpensNothing y.effects) h →
    is_on_after s h x ≡ false → HasCut (moments_of s h)
unfolding is_on_after
cut_by_off s x h now before off = go (latch1 past) refl (latch2 past) refl
  where
    past : List Moment
    past = moments_of s h

    on_is : (x.effects.conducts PATH_1 (latch1 past) && x.effects.conducts PATH_2 (latch2 past)) ≡ false
    on_is = sym ((fields s x.effects x.entry past).on ∙ (unfold both_conduct path1_at path2_at in refl)) ∙ off

    both : latch1 past ≡ false → latch2 past ≡ false →
        (x.effects.conducts PATH_1 (latch1 past) && x.effects.conducts PATH_2 (latch2 past)) ≡ true
    both a b = and_from _ _ (ap (x.effects.conducts PATH_1) a ∙ now.path_1) (ap (x.effects.conducts PATH_2) b ∙ now.path_2)

    go : (a : Bool) → latch1 past ≡ a → (b : Bool) → latch2 past ≡ b → HasCut past
    go true a b e = cut_by_trip s h (trip_by_latch1 s h a)
    go false a true e = cut_by_latch2 s h before e
    go false a false e = absurd (true≢false (sym (both a e) ∙ on_is))

-- the same of a history of a run
finds_by_off : (s : Setting) (start : ℕ) (x : Tick) (h : List Tick) → Follows s.fault start (x ∷ h) →
    opens_by_itself s.fault (start + length h) ≡ false → is_on_after s h x ≡ false → Finds cutting (SpanRows s start h)
unfolding Follows
finds_by_off s start x h follows spared off = finds_in_rows cutting finds_cut finds_one start (moments_of s h)
    (cut_by_off s x h
    (subst OpensNothing (sym follows.0) (opens_nothing s.fault (start + length h) spared (start + length h) (omega arith)))
    (of_history OpensNothing s.fault start h follows.1
    (λ t low high. opens_nothing s.fault (start + length h) spared t (omega (arith, high)))) off)

-- ---- the laws of a history ----

pub find_before_off : (s : Setting) (start : ℕ) (h : List Tick) → Follows s.fault start h →
    FindsBeforeOff s.fault start (SpanRows s start h)
find_before_off s start h follows later before row e off spared = subst (Finds cutting) (sym last.before_are)
    (finds_by_off s start last.tick last.past last.follows
    (subst (λ t. opens_by_itself s.fault t ≡ false) (ap (λ (r : Row). r.tick) last.row_is ∙ row_tick s start last.tick last.past) spared)
    (sym (ap (λ (r : Row). r.on) last.row_is ∙ row_on s start last.tick last.past) ∙ off))
  where
    last : LastTick s start row before
    last = last_tick s start h follows later before row e

-- ---- found in time ----

spoiling_opens_none : (class : Class) → spoils_answers class ≡ true → opens_path class ≡ false
unfolding spoils_answers opens_path
spoiling_opens_none (Skip index) e = refl
spoiling_opens_none (Disturb index mask) e = refl
spoiling_opens_none Halt e = refl
spoiling_opens_none _ e = absurd (true≢false (sym e))

-- Where the stages are off at each tick that comes `end` or later, and no fault opens a path by itself, a watch that
-- cuts is found at one of the ticks before: else they would be on at a tick more.
pub found_by_off : (s : Setting) (start : ℕ) (h : List Tick) → Follows s.fault start h →
    ((tick : ℕ) → opens_by_itself s.fault tick ≡ false) → (end : ℕ) → start < end →
    ((x : Tick) (g : List Tick) → Follows s.fault start (x ∷ g) → end ≤ start + length g → is_on_after s g x ≡ false) →
    (later before : List Row) → SpanRows s start h ≡ later ++ before → start + length before ≡ end → Finds cutting before
found_by_off s start h follows spared end some off later before e size = part (split s start h later before e)
  where
    by_ticks : (g : List Tick) → Follows s.fault start g → end ≤ start + length g → Finds cutting (SpanRows s start g)
    by_ticks [] rest late = absurd (omega (arith, some, late))
    by_ticks (y ∷ g) rest late = finds_by_off s start x (y ∷ g) one_more (spared (start + length (y ∷ g))) (off x (y ∷ g) one_more late)
      where
        x : Tick
        x = record { effects = effects s.fault (start + length (y ∷ g)); entry = y.entry }

        one_more : Follows s.fault start (x ∷ y ∷ g)
        one_more = unfold Follows in (refl, unfold Follows in rest)

    part : Split s start h later before → Finds cutting before
    part parts = subst (Finds cutting) (sym parts.rows_are) (by_ticks parts.rest
        (follows-end s.fault start parts.more parts.rest (subst (Follows s.fault start) parts.whole follows))
        (let long = ap length parts.rows_are in let same = length-rows_after start (moments_of s parts.rest) in
        let count = length-moments s parts.rest in omega (arith, size, long, same, count)))

pub find_from_onset : (s : Setting) (start : ℕ) (h : List Tick) → IsAccepted s.cal → IsNoneOrValid s.fault →
    Follows s.fault start h → FindsFromOnset s.fault (reaction_of s.cal.times) start (SpanRows s start h)
find_from_onset s start h accepted valid follows = go s.fault refl
  where
    go : (f : Option Fault) → s.fault ≡ f → FindsFromOnset f (reaction_of s.cal.times) start (SpanRows s start h)
    go None is = tt
    go (Some fault) is = λ spoils. found_by_off s start h follows
        (λ tick. ap (λ f. opens_by_itself f tick) is ∙ (unfold opens_by_itself in
        and_right _ (opens_path fault.class) (spoiling_opens_none fault.class spoils)))
        (max fault.onset start + reaction_of s.cal.times)
        (let some = reaction_least s.cal.times accepted.times accepted.answers in omega (arith, some))
        (λ x g rest late. onset_off s start (x ∷ g) fault is accepted valid spoils rest [] x g refl late)
