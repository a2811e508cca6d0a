-- The reaction theorem, class by class.
use Rattle.std.proofs.Common.{◌≡◌, ℕ, ◌+◌, ◌-◌, ◌≤◌, ◌<◌, Bool, true, false, ◌||◌, List, [], ◌∷◌, ◌++◌, length, refl, sym, ap, ◌∙◌, arith, inl, inr, Option, Some, None, length-append, append_assoc, nat_le, subst, is_some}
use Rattle.std.proofs.lemmas.Bool.{cases_lt, false≢true, or_left, or_right, leb-true, le-leb}
use Rattle.eg_num.specs.Windows.{is_confirmed}
use Rattle.eg_answer.specs.Times.{TimeParts, reaction_of}
use Rattle.eg_answer.specs.declared.marks.AnswerMark.TheVariants.{Absent, Good}
use Rattle.eg_answer.specs.declared.modules.TheConstants.{REACT}
use Rattle.eg_values.specs.Calibration.{IsAccepted}
use Rattle.eg_fault.specs.Effects.{Effects, no_effects}
use Rattle.eg_fault.specs.Faults.{effects_of, effects, IsValidClass, is_lapse, IsListed}
use Rattle.eg_fault.specs.Running.{may_change_levels}
use Rattle.eg_fault.specs.Classes.{IsRegular, may_change_answers, closes}
use Rattle.eg_fault.specs.declared.class.Class.{Class}
use Rattle.eg_fault.specs.declared.class.Class.TheVariants.{Skip, Disturb, Flip, Halt, Path1Closed, Lapse}
use Rattle.eg_fault.specs.declared.class.Fault.{Fault}
use Rattle.eg_fault.specs.declared.paths.TheConstants.{PATH_1, PATH_2}
use Rattle.eg_fault.proofs.ActingLemmas.{at_tick, of_class}
use Rattle.eg_fault.proofs.ClassLemmas.{regular, regular-class, obeys, obeys-class}
use Rattle.eg_model.specs.History.{Setting, Tick, Moment}
use Rattle.eg_model.specs.Signals.{tripped}
use Rattle.eg_model.specs.Answers.{is_sent, mark_at}
use Rattle.eg_model.specs.Moments.{moment, moments_of}
use Rattle.eg_model.specs.Rows.{rows_of}
use Rattle.eg_model.specs.Premises.{AreProper, Follows, is_on_after, true_excesses, IsExcessConfirmed}
use Rattle.eg_model.specs.Reaction.{OffFrom, ReactsInTime, ReactsAtOnce, reacts_at_once, is_at_once, spoils_answers, CutsFromOnset}
use Rattle.eg_model.specs.Seeing.{SeesExcess}
use Rattle.eg_model.proofs.TickLemmas.{Each, Each-map, trip_from_mirror, tripped-cons, tripped_on, fields}
use Rattle.eg_model.proofs.SpanRows.{end_of, follows-end, proper-end}
use Rattle.eg_model.proofs.TripLemmas.{trip_by_excess, off_after_trip}
use Rattle.eg_model.proofs.Seeing.{sees_all}
use Rattle.eg_model.proofs.Silence.{AreRegular, NoGood, off_after_silence}
use Rattle.eg_model.proofs.ClassLemmas.{of_history, sees_plain, sees_spared, sees_flip, mark_not_good, IsSpoiled, spoiled_skip, spoiled_halt, spoiled_disturb}

-- ---- what holds at each tick of a run ----

-- P of what is out of order, from tick `from` on and below tick `to`
abbrev pub Between : (Effects → Type 0) → Option Fault → ℕ → ℕ → Type 0
Between P f from to = (t : ℕ) → from ≤ t → t < to → P (effects f t)

abbrev pub Always : (Effects → Type 0) → Option Fault → Type 0
Always P f = (t : ℕ) → P (effects f t)

-- a path doesn't conduct where its latch is open
abbrev pub Obeys : ℕ → Effects → Type 0
Obeys path x = x.conducts path true ≡ false

-- where the fault hasn't begun
of_early : (P : Effects → Type 0) (x : Fault) (end : ℕ) → end ≤ x.onset → P no_effects →
    Between P (Some x) 0 end
of_early P x end late none t low high = at_tick P x t (λ early. none) (λ from. absurd (omega arith))

-- ---- excess is seen, and react orders path 1 open ----

abbrev SeenEach : List Tick → Type 0
SeenEach h = Each (λ x. SeesExcess x.effects) h

-- whatever is out of order, where level 2 could see an excess at every tick so far a trip has come by the tick that
-- confirms one
seen_trips : (s : Setting) → IsAccepted s.cal → (h : List Tick) → SeenEach h → AreProper s h → IsExcessConfirmed s h →
    tripped (moments_of s h) ≡ true
seen_trips s accepted h each proper confirmed =
    trip_by_excess s h (Each-map (λ y e. e.runs) h each) (sees_all s accepted h each proper) confirmed

-- and the stages are off at each later tick at which path 1 obeys
pub seen_cut : (s : Setting) → IsAccepted s.cal → (h : List Tick) → SeenEach h → AreProper s h → IsExcessConfirmed s h →
    (more : List Tick) (x : Tick) → Obeys PATH_1 x.effects → is_on_after s (more ++ h) x ≡ false
seen_cut s accepted h each proper confirmed more x obeys =
    off_after_trip s h more (Each-map (λ y e. e.runs.ran REACT) h each)
    (seen_trips s accepted h each proper confirmed) x obeys

-- what is told of a history h and what comes after it
pub record Given (s : Setting) (start : ℕ) (h more : List Tick) (x : Tick) : Type 0 where
  pub accepted : IsAccepted s.cal
  pub follows : Follows s.fault start (x ∷ more ++ h)
  pub proper : AreProper s (more ++ h)
  pub confirmed : IsExcessConfirmed s h

abbrev IsOff : Setting → List Tick → List Tick → Tick → Type 0
IsOff s h more x = is_on_after s (more ++ h) x ≡ false

module _ {s : Setting} {start : ℕ} {h more : List Tick} {x : Tick} (g : Given s start h more x) where
  history : Follows s.fault start h
  unfolding Follows
  history = follows-end s.fault start more h g.follows.1

  seen : Between SeesExcess s.fault start (start + length h) → Each (λ x. SeesExcess x.effects) h
  seen sees = of_history SeesExcess s.fault start h history sees

  -- the tick that is asked of
  opened : (P : Effects → Type 0) → Always P s.fault → P x.effects
  unfolding Follows
  opened P obeys = subst P (sym g.follows.0) (obeys (start + length (more ++ h)))

  off_by_sight : Always (Obeys PATH_1) s.fault → Between SeesExcess s.fault start (start + length h) → IsOff s h more x
  off_by_sight obeys sees = seen_cut s g.accepted h (seen sees) (proper-end s more h g.proper) g.confirmed more x
      (opened (Obeys PATH_1) obeys)

-- ---- no good answer, and path 2 opens ----

-- no answer is sent where a trip has come
absent : (times : TimeParts) (x : Effects) (trip : Bool) (past : List Moment) →
    (trip || tripped past) ≡ true → mark_at times x trip past ≡ Absent
unfolding mark_at is_sent
absent times x trip past u = rw u (grind arith)

-- from the end of h on no answer was sent
unfoldable pub Unanswered : Setting → List Tick → List Tick → Type 0
Unanswered s [] h = Unit {0}
Unanswered s (x ∷ more) h = ((moment s x.effects x.entry
    (moments_of s (more ++ h))).mark ≡ Absent) × Unanswered s more h

-- so it is from the tick of a trip on
pub unanswered_on : (s : Setting) (y : Tick) (more h : List Tick) → tripped (moments_of s (y ∷ h)) ≡ true →
    Unanswered s (more ++ y ∷ []) h
unfolding Unanswered moments_of
unanswered_on s y [] h u = (
  (fields s y.effects y.entry (moments_of s h)).mark
      ∙ absent s.cal.times y.effects _ (moments_of s h) (sym (tripped-cons _ _) ∙ u),
  tt,
)
unanswered_on s y (z ∷ more) h u =
    let here : tripped (moments_of s ((more ++ y ∷ []) ++ h)) ≡ true =
    rw append_assoc (tripped_on s more (y ∷ h) u) in (
      (fields s z.effects z.entry (moments_of s ((more ++ y ∷ []) ++ h))).mark
          ∙ absent s.cal.times z.effects _ (moments_of s ((more ++ y ∷ []) ++ h)) (or_right _ _ here),
      unanswered_on s y more h u,
    )

-- and then no good one was
none_good_of : (s : Setting) (more h : List Tick) → Unanswered s more h → NoGood s more h
unfolding Unanswered NoGood
none_good_of s [] h none = tt
none_good_of s (x ∷ more) h none =
    ((λ good. let same : Absent ≡ Good = sym none.0 ∙ good in cc), none_good_of s more h none.1)

nothing_confirmed : (s : Setting) → IsExcessConfirmed s [] → ⊥
unfolding is_confirmed true_excesses moments_of rows_of
nothing_confirmed s c = false≢true c

some_confirmed : (s : Setting) (h : List Tick) → IsExcessConfirmed s h → 0 < length h
some_confirmed s [] c = absurd (nothing_confirmed s c)
some_confirmed s (x ∷ h) c = omega arith

off_by_silence : (s : Setting) → IsAccepted s.cal → Always IsRegular s.fault → Always (Obeys PATH_2) s.fault →
    (start : ℕ) (front back : List Tick) (x : Tick) → Follows s.fault start (x ∷ front ++ back) →
    NoGood s front back → reaction_of s.cal.times ≤ length front → is_on_after s (front ++ back) x ≡ false
unfolding Follows
off_by_silence s accepted regular obeys start front back x follows none long =
    off_after_silence s accepted.times (let a = accepted.answers.0 in omega arith)
    (let a = accepted.answers.3 in omega arith) front back
    (of_history IsRegular s.fault start (front ++ back) follows.1 (λ t low high. regular t)) none long x
    (subst (Obeys PATH_2) (sym follows.0) (obeys (start + length (front ++ back))))

-- Where level 2 could see an excess at every tick up to the one that confirms it, a trip comes, and then silence. So
-- the stages are off from R ticks after that tick, where path 2 obeys, and the monitoring module asks and judges as
-- ever.
pub seen_cut_by_answers : (s : Setting) → IsAccepted s.cal → (h : List Tick) → SeenEach h → AreProper s h →
    IsExcessConfirmed s h → (more : List Tick) (x : Tick) → AreRegular (more ++ h) →
    reaction_of s.cal.times ≤ length more + 1 → Obeys PATH_2 x.effects → is_on_after s (more ++ h) x ≡ false
seen_cut_by_answers s accepted [] each proper confirmed more x regular long obeys = absurd (nothing_confirmed s confirmed)
seen_cut_by_answers s accepted (y ∷ h) each proper confirmed more x regular long obeys =
    let trip = seen_trips s accepted (y ∷ h) each proper confirmed in
    let same : AreRegular ((more ++ y ∷ []) ++ h) = rw append_assoc regular in
    let off = off_after_silence s accepted.times (let a = accepted.answers.0 in omega arith)
    (let a = accepted.answers.3 in omega arith) (more ++ y ∷ []) h same
    (none_good_of s (more ++ y ∷ []) h (unanswered_on s y more h trip)) (simp length-append (omega arith)) x obeys in
    rw append_assoc at off

off_after_trip_by_path2 : (s : Setting) (start : ℕ) (h more : List Tick) (x : Tick) →
    Given s start h more x → Always IsRegular s.fault → Always (Obeys PATH_2) s.fault →
    Between SeesExcess s.fault start (start + length h) → reaction_of s.cal.times ≤ length more + 1 →
    IsOff s h more x
unfolding Follows
off_after_trip_by_path2 s start h more x g regular obeys sees long =
    seen_cut_by_answers s g.accepted h (seen g sees) (proper-end s more h g.proper) g.confirmed more x
    (of_history IsRegular s.fault start (more ++ h) g.follows.1 (λ t low high. regular t)) long
    (opened g (Obeys PATH_2) obeys)

-- ---- no answer is good from the onset on ----

spoiled_history : (s : Setting) (f : Fault) → s.fault ≡ Some f →
    ((t : ℕ) → f.onset ≤ t → IsSpoiled (effects s.fault t)) → (start : ℕ) (front back : List Tick) →
    Follows s.fault start (front ++ back) → f.onset ≤ start + length back → NoGood s front back
unfolding Follows NoGood
spoiled_history s f is spoiled start [] back follows late = tt
spoiled_history s f is spoiled start (y ∷ front) back follows late = (
  (λ m. mark_not_good s.cal.times y.effects _ (moments_of s (front ++ back))
      (subst IsSpoiled (sym follows.0)
      (spoiled (start + length (front ++ back)) (rw length-append (omega arith))))
      (sym ((fields s y.effects y.entry (moments_of s (front ++ back))).mark) ∙ m)),
  spoiled_history s f is spoiled start front back follows.1 late,
)

off_after_onset : (s : Setting) (f : Fault) → s.fault ≡ Some f →
    (start : ℕ) (h more : List Tick) (x : Tick) → Given s start h more x → Always IsRegular s.fault →
    Always (Obeys PATH_2) s.fault → ((t : ℕ) → f.onset ≤ t → IsSpoiled (effects s.fault t)) →
    f.onset < start + length h → reaction_of s.cal.times ≤ length more + 1 → IsOff s h more x
off_after_onset s f is start h more x g regular obeys spoiled late long =
    let some = some_confirmed s h g.confirmed in
    let both : length (more ++ h) ≡ length more + length h = length-append more h in
    let cut = end_of (more ++ h) (f.onset - start) (omega arith) in
    let sizes = ap length cut.whole ∙ length-append cut.more cut.rest in
    let follows : Follows s.fault start (x ∷ cut.more ++ cut.rest) = rw cut.whole at g.follows in
    let none = spoiled_history s f is spoiled start cut.more cut.rest
    (follows-end s.fault start (x ∷ []) (cut.more ++ cut.rest) follows)
    (let z = cut.size in omega arith) in
    rw cut.whole (off_by_silence s g.accepted regular obeys start cut.more cut.rest x follows none
    (lots (length more) (length h) (length cut.more) (length cut.rest)
    (reaction_of s.cal.times) start f.onset some late long (sym sizes ∙ both) cut.size))
  where
    lots : (m l fr b r st o : ℕ) → 0 < l → o < st + l → r ≤ m + 1 → fr + b ≡ m + l → b ≡ o - st → r ≤ fr
    lots m l fr b r st o h0 h1 h2 h3 h4 = omega arith

-- ---- a word is flipped: the mirror trips at the onset ----

flip_begins : (f : Fault) (word mask : ℕ) → f.class ≡ Flip word mask → (t : ℕ) → t ≡ f.onset →
    is_some (effects (Some f) t).flip ≡ true
unfolding effects effects_of no_effects
flip_begins f word mask class t now = rw (now, class, leb_self f.onset, none_left f.onset) refl
  where
    leb_self : (n : ℕ) → nat_le n n ≡ true
    leb_self n = le-leb n n (omega arith)

    none_left : (n : ℕ) → n - n ≡ 0
    none_left n = omega arith

flip_trips : (s : Setting) (f : Fault) (word mask : ℕ) → s.fault ≡ Some f → f.class ≡ Flip word mask →
    (start : ℕ) (h : List Tick) → Follows s.fault start h → start ≤ f.onset → f.onset < start + length h →
    tripped (moments_of s h) ≡ true
unfolding moments_of Follows
flip_trips s f word mask is class start [] follows low high = absurd (omega arith)
flip_trips s f word mask is class start (y ∷ h) follows low high =
    tripped-cons (moment s y.effects y.entry (moments_of s h)) (moments_of s h)
    ∙ elim (cases_lt f.onset (start + length h)) [
      | inl before ↦ or_right _ _ (flip_trips s f word mask is class start h follows.1 low before)
      | inr now ↦ or_left _ _ (trip_from_mirror s y.effects y.entry (moments_of s h)
          ((fields s y.effects y.entry (moments_of s h)).mirror ∙ ap (λ x. is_some x.flip) follows.0
          ∙ ap (λ g. is_some (effects g (start + length h)).flip) is
          ∙ flip_begins f word mask class (start + length h) (omega arith)))
    ]

-- ---- each class ----

-- what is told of the fault, and of the class c that it has
record IsOf (s : Setting) (f : Fault) (c : Class) : Type 0 where
  pub is : s.fault ≡ Some f
  pub class : f.class ≡ c

-- what is told of a class under which no answer is good: Skip, Disturb, Halt
pub record IsSpoiling (c : Class) : Type 0 where
  pub answers : may_change_answers c ≡ false
  pub path_1 : closes c PATH_1 ≡ false
  pub path_2 : closes c PATH_2 ≡ false
  pub spoiled : (k : ℕ) → IsSpoiled (effects_of c k)

flip_reacts : (word mask k : ℕ) → (effects_of (Flip word mask) k).ran REACT ≡ true
unfolding effects_of no_effects
flip_reacts word mask k = refl

module _ {s : Setting} {f : Fault} {c : Class} (of : IsOf s f c) where
  -- what holds where nothing is out of order, and of the class, holds at each tick
  always : (P : Effects → Type 0) → P no_effects → ((k : ℕ) → P (effects_of c k)) → Always P s.fault
  always P none each = rw of.is (of_class P f none (λ k. rw of.class (each k)))

  -- a path whose latch is open stays open, but under the classes that close it
  obeys_always : (path : ℕ) → closes c path ≡ false → Always (Obeys path) s.fault
  obeys_always path opens = always (Obeys path) (obeys path) (λ k. obeys-class c k path opens)

  regular_always : may_change_answers c ≡ false → Always IsRegular s.fault
  regular_always is = always IsRegular regular (λ k. regular-class c k is)

  seen_always : may_change_levels c ≡ false → Always SeesExcess s.fault
  seen_always spares = always SeesExcess sees_plain (λ k. sees_spared c k spares)

  spoiled_on : IsSpoiling c → (t : ℕ) → f.onset ≤ t → IsSpoiled (effects s.fault t)
  spoiled_on spoiling t from = rw of.is (at_tick IsSpoiled f t (λ early. absurd (omega arith))
      (λ late. rw of.class (spoiling.spoiled (t - f.onset))))

  module _ {start : ℕ} {h more : List Tick} {x : Tick} (g : Given s start h more x) where
    -- classes under which excess is seen, and path 1 obeys
    cut_seen : may_change_levels c ≡ false → closes c PATH_1 ≡ false → IsOff s h more x
    cut_seen spares opens = off_by_sight g (obeys_always PATH_1 opens) (λ t low high. seen_always spares t)

    -- where the excess is confirmed before the onset
    cut_before : closes c PATH_1 ≡ false → start + length h ≤ f.onset → IsOff s h more x
    cut_before opens early = off_by_sight g (obeys_always PATH_1 opens)
        (λ t low high. rw of.is (of_early SeesExcess f (start + length h) early sees_plain t (omega arith) high))

    -- a trip before the onset, or no good answer from it on
    bound_spoiled : IsSpoiling c → reaction_of s.cal.times ≤ length more + 1 → IsOff s h more x
    bound_spoiled spoiling long = elim (cases_lt f.onset (start + length h)) [
      | inr early ↦ cut_before spoiling.path_1 early
      | inl late ↦ off_after_onset s f of.is start h more x g (regular_always spoiling.answers)
          (obeys_always PATH_2 spoiling.path_2) (spoiled_on spoiling) late long
    ]

cut_none : {s : Setting} {start : ℕ} {h more : List Tick} {x : Tick} → Given s start h more x → s.fault ≡ None → IsOff s h more x
cut_none g is = off_by_sight g (rw is (λ t. unfold effects in obeys PATH_1)) (rw is (λ t low high. unfold effects in sees_plain))

module _ {s : Setting} {f : Fault} {word mask : ℕ} (of : IsOf s f (Flip word mask))
    {start : ℕ} {h more : List Tick} {x : Tick} (g : Given s start h more x) where
  opens : Always (Obeys PATH_1) s.fault
  opens = obeys_always of PATH_1 (unfold closes in refl)

  -- of a flip that lies behind the history nothing is left
  seen_behind : (t : ℕ) → f.onset < t → SeesExcess (effects s.fault t)
  seen_behind t older = rw of.is (at_tick SeesExcess f t (λ early. sees_plain)
      (λ from. rw of.class (sees_flip word mask (t - f.onset) (omega arith))))

  cut_flip : IsOff s h more x
  cut_flip = elim (cases_lt f.onset (start + length h)) [
    | inr early ↦ cut_before of g (unfold closes in refl) early
    | inl late ↦ elim (cases_lt f.onset start) [
      | inr within ↦ off_after_trip s h more
          (of_history (λ y. y.ran REACT ≡ true) s.fault start h (history g)
          (λ t low high. always of (λ y. y.ran REACT ≡ true) (unfold no_effects in refl) (flip_reacts word mask) t))
          (flip_trips s f word mask of.is of.class start h (history g) within late) x (opened g (Obeys PATH_1) opens)
      | inl older ↦ off_by_sight g opens (λ t low high. seen_behind t (omega arith))
    ]
  ]

-- ---- all of them ----

-- off from the next tick on
cut_at_once : {s : Setting} {f : Fault} {start : ℕ} {h more : List Tick} {x : Tick} (c : Class) → IsOf s f c →
    Given s start h more x → is_lapse c ≡ false → reacts_at_once c f.onset (start + length h) ≡ true → IsOff s h more x
unfolding reacts_at_once is_lapse may_change_levels closes
cut_at_once (Skip i) of g l b = cut_before of g refl (leb-true _ _ b)
cut_at_once (Disturb i mask) of g l b = cut_before of g refl (leb-true _ _ b)
cut_at_once (Flip word mask) of g l b = cut_flip of g
cut_at_once Halt of g l b = cut_before of g refl (leb-true _ _ b)
cut_at_once Path1Closed of g l b = absurd (false≢true b)
cut_at_once (Lapse after every) of g l b = absurd (false≢true (sym l))
cut_at_once c of g l b = cut_seen of g refl refl

pub spoiling : (c : Class) → IsValidClass c → spoils_answers c ≡ true → IsSpoiling c
unfolding spoils_answers may_change_answers closes IsValidClass
spoiling (Skip i) v b =
    record { answers = refl; path_1 = refl; path_2 = refl; spoiled = λ k. spoiled_skip i k v }
spoiling (Disturb i mask) v b = record {
  answers = refl;
  path_1 = refl;
  path_2 = refl;
  spoiled = λ k. spoiled_disturb i mask k (let a = v.1 in omega arith) (let a = v.2.0 in omega arith);
}
spoiling Halt v b = record { answers = refl; path_1 = refl; path_2 = refl; spoiled = spoiled_halt }
spoiling _ v b = absurd (false≢true b)

-- off from R ticks after on; where path 1 is closed, by a trip, and then no answer
cut_in_time : {s : Setting} {f : Fault} {start : ℕ} {h more : List Tick} {x : Tick} (c : Class) → IsOf s f c →
    Given s start h more x → IsValidClass c → is_lapse c ≡ false → reaction_of s.cal.times ≤ length more + 1 → IsOff s h more x
unfolding reacts_at_once spoils_answers may_change_levels may_change_answers closes
cut_in_time (Skip i) of g v l long = bound_spoiled of g (spoiling (Skip i) v refl) long
cut_in_time (Disturb i mask) of g v l long = bound_spoiled of g (spoiling (Disturb i mask) v refl) long
cut_in_time Halt of g v l long = bound_spoiled of g (spoiling Halt v refl) long
cut_in_time Path1Closed of g v l long = off_after_trip_by_path2 _ _ _ _ _ g (regular_always of refl)
    (obeys_always of PATH_2 refl) (λ t low high. seen_always of refl t) long
cut_in_time c of g v l long = cut_at_once c of g l refl

pub reacts_in_time : (s : Setting) → IsAccepted s.cal → IsListed s.fault → (start : ℕ) (h : List Tick) →
    IsExcessConfirmed s h → OffFrom s start h (reaction_of s.cal.times)
reacts_in_time s accepted listed start h confirmed more x follows proper long = go s.fault refl listed
  where
    g : Given s start h more x
    g = record { accepted = accepted; follows = follows; proper = proper; confirmed = confirmed }

    go : (f : Option Fault) → s.fault ≡ f → IsListed f → is_on_after s (more ++ h) x ≡ false
    go None is listed = cut_none g is
    go (Some f) is listed = unfold IsListed in
        cut_in_time f.class (record { is = is; class = refl }) g listed.0.1 listed.1 long

pub reacts_in_time_law : ReactsInTime
reacts_in_time_law cal accepted s is listed start h confirmed =
    subst (λ n. OffFrom s start h (reaction_of n.times)) is
    (reacts_in_time s (subst IsAccepted (sym is) accepted) listed start h confirmed)

pub reacts_at_once_law : ReactsAtOnce
reacts_at_once_law s accepted listed start h soon confirmed more x follows proper long =
    go s.fault refl listed soon
  where
    g : Given s start h more x
    g = record { accepted = accepted; follows = follows; proper = proper; confirmed = confirmed }

    go : (f : Option Fault) → s.fault ≡ f → IsListed f → is_at_once f (start + length h) ≡ true →
        is_on_after s (more ++ h) x ≡ false
    go None is listed soon = cut_none g is
    go (Some f) is listed soon = unfold IsListed is_at_once in
        cut_at_once f.class (record { is = is; class = refl }) g listed.1 soon

-- ---- whatever the torque ----

pub cuts_from_onset : CutsFromOnset
unfolding Follows
cuts_from_onset s f accepted is valid spoils start h more x late follows long =
    off_by_silence s accepted (regular_always of bad.answers) (obeys_always of PATH_2 bad.path_2)
    start more h x follows (spoiled_history s f is (spoiled_on of bad) start more h follows.1 late) long
  where
    of : IsOf s f f.class
    of = record { is = is; class = refl }

    bad : IsSpoiling f.class
    bad = spoiling f.class valid.1 spoils
