-- What each class of faults leaves alone, which word it flips, which module it leaves out or disturbs, whether it does
-- something at a tick, and which numbers it has.
use Rattle.std.proofs.Common.{◌≡◌, ◌≢◌, ◌∙◌, ℕ, zero, suc, ◌+◌, ◌-◌, ◌≤◌, ◌<◌, ◌⊎◌, inl, inr, Bool, true, false, not, ◌&&◌, ◌||◌, List, [], ◌∷◌, All, length, Some, None, refl, sym, ap, subst, le_trans, lit≤, lit<, arith}
use Rattle.std.specs.Prelude.{◌==◌, ◌%◌, ℤ, pos, negsuc, min, is_some, if◌then◌else◌, IfSome, slice_index_or}
use Rattle.std.specs.List.{list_any, AllByRecursion}
use Rattle.std.specs.List.Sorted.{IsStrictlyIncreasing}
use Rattle.std.specs.Int.Bits.{xor_zero_l}
use Rattle.std.proofs.lemmas.Bool.{cases_lt, cases_Bool, eq-eqb, eqb-true, eqb-false, ne_eqb, true≢false, false≢true, or_right, or_parts, and_right}
use Rattle.std.proofs.lemmas.List.Elements.{All-nil, All-cons, All-weaker}
use Rattle.eg_sensor.specs.Brake.{sound_contacts, is_pressed}
use Rattle.eg_sensor.specs.declared.tracks.TheConstants.{BRAKE_1, BRAKE_2}
use Rattle.eg_answer.specs.Modules.{OthersRun, AtMostOneIsDisturbed}
use Rattle.eg_fault.specs.Effects.{Effects, no_effects, contacts_under}
use Rattle.eg_fault.specs.Faults.{effects_of, effects, in_turn, truth_in_turn, offset_by, has_effect, opens_path, AreFew, IsMask, IsOffset, IsValidClass}
use Rattle.eg_fault.specs.Classes.{IsSound, OneTrackIsFaulty, PressedBrakesAreSeen, IsHeldWithin, PlatesAreHeldWithin, IsFlip, FlipsAreInWords, ChecksFlips, FaultsCheckFlips, OneOfEightIsLeftOut, FaultsDisturbOne, IsRegular, may_change_answers, OthersSpareLevels, OthersSpareAnswers, WildStaysWild, closes, OthersObeyLatches}
use Rattle.eg_fault.specs.Names.{Held, held, swept}
use Rattle.eg_fault.specs.Names as it
use Rattle.eg_fault.specs.declared.class.Class.{Class}
use Rattle.eg_fault.specs.declared.class.Class.TheVariants.{Script, Offset, Bus, Plate, Skip, Disturb, Flip, Halt, Timing, Wild, Path1Closed, Path2Closed, PathOpen, Lapse}
use Rattle.eg_fault.specs.declared.class_name.ClassName.{ClassName}
use Rattle.eg_fault.specs.declared.class_name.ClassName.TheVariants as name
use Rattle.eg_fault.specs.declared.key.FaultKey.{FaultKey}
use Rattle.eg_fault.specs.declared.paths.TheConstants.{PATH_1, PATH_2}
use Rattle.eg_fault.proofs.ActingLemmas.{before_onset, from_onset, of_class, of_all, of_valid}
use Rattle.eg_fault.proofs.RunningLemmas.{same-spared}

-- ---- tracks ----

-- a class has one track that it may change
faulty_track : (class : Class) → (one : ℕ) × ((k i : ℕ) → i ≢ one → IsSound (effects_of class k) i)
unfolding effects_of no_effects
faulty_track (Script track values) = (track, λ k i other v. rw (ne_eqb i track other) refl)
faulty_track (Offset track add) = (track, λ k i other v. rw (ne_eqb i track other) refl)
faulty_track _ = (0, λ k i other v. refl)

pub one_track_is_faulty : OneTrackIsFaulty
one_track_is_faulty None = (0, λ tick i other. unfold effects no_effects in (λ v. refl))
one_track_is_faulty (Some fault) =
    let found = faulty_track fault.class in
    (found.0, λ tick i other. of_class (λ x. IsSound x i) fault (unfold no_effects in (λ v. refl)) (λ k. found.1 k i other) tick)

-- so one of two tracks is sound
pub one_of_two : (class : Class) (k a b : ℕ) → a ≢ b → IsSound (effects_of class k) a ⊎ IsSound (effects_of class k) b
one_of_two class k a b apart = go (faulty_track class)
  where
    go : ((one : ℕ) × ((k i : ℕ) → i ≢ one → IsSound (effects_of class k) i)) → IsSound (effects_of class k) a ⊎ IsSound (effects_of class k) b
    go found = elim (cases_Bool (a == found.0)) [
      | inl same ↦ inr (found.1 k b (λ also. apart (eqb-true _ _ same ∙ sym also)))
      | inr other ↦ inl (found.1 k a (eqb-false _ _ other))
    ]

-- ---- the brake ----

-- a first contact that reads 1 says pressed, and so does a second one that reads 0
pressed_by_first : (b : ℕ) → (not (1 == 0) || b == 0) ≡ true
pressed_by_first b = refl

pressed_by_second : (a : ℕ) → (not (a == 0) || 0 == 0) ≡ true
pressed_by_second a = or_right (not (a == 0)) (0 == 0) refl

-- one sound contact is enough
pub pressed_is_seen : (x : Effects) → IsSound x BRAKE_1 ⊎ IsSound x BRAKE_2 → is_pressed (contacts_under x (sound_contacts true)) ≡ true
unfolding contacts_under
pressed_is_seen x (inl sound) = subst (λ a. (not (a == 0) || x.track BRAKE_2 0 == 0) ≡ true) (sym (sound 1)) (pressed_by_first (x.track BRAKE_2 0))
pressed_is_seen x (inr sound) = subst (λ b. (not (x.track BRAKE_1 1 == 0) || b == 0) ≡ true) (sym (sound 0)) (pressed_by_second (x.track BRAKE_1 1))

pub pressed_brakes_are_seen : PressedBrakesAreSeen
pressed_brakes_are_seen fault tick = pressed_is_seen (effects fault tick) (elim (cases_Bool (BRAKE_1 == found.0)) [
  | inl same ↦ inr (found.1 tick BRAKE_2 (λ also. let f : BRAKE_1 ≡ found.0 = eqb-true _ _ same in omega (arith, f, also)))
  | inr other ↦ inl (found.1 tick BRAKE_1 (eqb-false _ _ other))
])
  where
    found : (one : ℕ) × ((t i : ℕ) → i ≢ one → IsSound (effects fault t) i)
    found = one_track_is_faulty fault

-- ---- the plate ----

held-class : (class : Class) (k : ℕ) → IsValidClass class → IsHeldWithin (effects_of class k).held_plate
unfolding effects_of no_effects IsValidClass
held-class (Plate at) k valid = valid
held-class _ k valid = tt

pub plates_are_held_within : PlatesAreHeldWithin
plates_are_held_within = of_valid (λ x. IsHeldWithin x.held_plate) (unfold no_effects in tt) held-class

-- ---- the word that is flipped ----

flipped_now : (now : Bool) (word mask : ℕ) → IsFlip (word, mask) → IfSome (if now then Some (word, mask) else None) IsFlip
flipped_now true word mask valid = valid
flipped_now false word mask valid = tt

flips-class : (class : Class) (k : ℕ) → IsValidClass class → IfSome (effects_of class k).flip IsFlip
unfolding effects_of no_effects IsValidClass
flips-class (Flip word mask) k valid = flipped_now (k == 0) word mask (valid.0, valid.1.0)
flips-class _ k valid = tt

pub flips_are_in_words : FlipsAreInWords
flips_are_in_words = of_valid (λ x. IfSome x.flip IsFlip) (unfold no_effects in tt) flips-class

-- the classes that leave module 0 out flip no word
checks-class : (class : Class) (k : ℕ) → ChecksFlips (effects_of class k)
unfolding effects_of no_effects
checks-class (Skip one) k flipped = absurd (false≢true flipped)
checks-class Halt k flipped = absurd (false≢true flipped)
checks-class (Lapse after every) k flipped = absurd (false≢true flipped)
checks-class _ k flipped = refl

pub faults_check_flips : FaultsCheckFlips
faults_check_flips = of_all ChecksFlips (λ flipped. unfold no_effects in refl) checks-class

-- ---- the module that is left out ----

itself : (n : ℕ) → (n == n) ≡ true
itself n = eq-eqb n n refl

one_below : (class : Class) (k : ℕ) → IsValidClass class → (one : ℕ) → OthersRun one (effects_of class k).ran →
    one < 8
unfolding effects_of no_effects IsValidClass
one_below (Skip index) k valid one others =
    let same : one ≡ index = go (one == index) refl in
    omega arith
  where
    go : (b : Bool) → (one == index) ≡ b → one ≡ index
    go true e = eqb-true one index e
    go false e = absurd (let f : true ≡ false = sym (ap not e) ∙ others one ∙ ap not (itself one) in cc)
one_below Halt k valid one others =
    absurd (let f : false ≡ true = others (suc one) ∙ ap not (ne_eqb (suc one) one (λ e. omega arith)) in
    cc)
one_below (Lapse after every) k valid one others =
    absurd (let f : false ≡ true = sym (ap not (itself one)) ∙ sym (others one) ∙ others (suc one)
    ∙ ap not (ne_eqb (suc one) one (λ e. omega arith)) in cc)
one_below _ k valid one others = absurd (let f : true ≡ false = others one ∙ ap not (itself one) in cc)

pub one_of_eight_is_left_out : OneOfEightIsLeftOut
one_of_eight_is_left_out fault valid one out =
    one_below fault.class (fault.onset - fault.onset) valid.1 one
    (subst (λ (x : Effects). OthersRun one x.ran) (from_onset fault fault.onset (omega arith)) (out.after fault.onset (omega arith)))

-- ---- the module that is disturbed ----

disturbs-class : (class : Class) (k : ℕ) → IsValidClass class → AtMostOneIsDisturbed (effects_of class k).disturbance
unfolding effects_of no_effects IsValidClass
disturbs-class (Disturb index mask) k valid = inr (record {
  one = index;
  mask = mask;
  from_1 = valid.0;
  to_5 = valid.1;
  some = valid.2.0;
  word = let few = valid.2.1 in omega arith;
  alone = λ i. refl;
})
disturbs-class _ k valid = inl (λ i. refl)

pub at_most_one_is_disturbed : FaultsDisturbOne
at_most_one_is_disturbed = of_valid (λ x. AtMostOneIsDisturbed x.disturbance) (unfold no_effects in inl (λ i. refl)) disturbs-class

-- ---- questions and answers ----

pub regular : IsRegular no_effects
unfolding no_effects
regular = record { sends = refl; judged = refl }

pub regular-class : (class : Class) (k : ℕ) → may_change_answers class ≡ false → IsRegular (effects_of class k)
unfolding effects_of no_effects may_change_answers
regular-class (Timing offset) k is = absurd (let clash : true ≡ false = is in cc)
regular-class (Wild questions opens) k is = absurd (let clash : true ≡ false = is in cc)
regular-class _ k is = record { sends = refl; judged = refl }

pub others_spare_answers : OthersSpareAnswers
others_spare_answers fault tick is = of_class IsRegular fault regular (λ k. regular-class fault.class k is) tick

-- a class is wild at each tick or at none
wild-class : (class : Class) (k j : ℕ) → (effects_of class k).wild ≡ None → (effects_of class j).wild ≡ None
unfolding effects_of no_effects
wild-class (Wild questions opens) k j tame = cc
wild-class _ k j tame = refl

pub wild_stays_wild : WildStaysWild
wild_stays_wild None earlier later before tame = unfold effects no_effects in refl
wild_stays_wild (Some fault) earlier later before tame = elim (cases_lt earlier fault.onset) [
  | inl early ↦ ap (λ (x : Effects). x.wild) (before_onset fault earlier early) ∙ (unfold no_effects in refl)
  | inr late ↦ ap (λ (x : Effects). x.wild) (from_onset fault earlier late)
      ∙ wild-class fault.class (later - fault.onset) (earlier - fault.onset)
      (sym (ap (λ (x : Effects). x.wild) (from_onset fault later (le_trans late before))) ∙ tame)
]

-- ---- the shut-off paths ----

abbrev Obeys : ℕ → Effects → Type 0
Obeys path x = x.conducts path true ≡ false

pub obeys : (path : ℕ) → Obeys path no_effects
unfolding no_effects
obeys path = refl

never : (b : Bool) → (b && false) ≡ false
never true = refl
never false = refl

or_never : (b : Bool) → b ≡ false → (b || false) ≡ false
or_never true is = is
or_never false is = refl

pub obeys-class : (class : Class) (k path : ℕ) → closes class path ≡ false → Obeys path (effects_of class k)
unfolding effects_of no_effects closes
obeys-class Path1Closed k path is = or_never _ is
obeys-class Path2Closed k path is = or_never _ is
obeys-class (PathOpen broken) k path is = never (not (path == broken))
obeys-class _ k path is = refl

pub others_obey_latches : OthersObeyLatches
others_obey_latches fault tick path is =
    of_class (Obeys path) fault (obeys path) (λ k. obeys-class fault.class k path is) tick

-- what conducts with its latch open conducts with it closed
abbrev pub ConductsMore : Effects → Type 0
ConductsMore x = (path : ℕ) → x.conducts path true ≡ true → x.conducts path false ≡ true

pub more_class : (class : Class) (k : ℕ) → ConductsMore (effects_of class k)
unfolding effects_of no_effects
more_class Path1Closed k path is = or_right (path == PATH_1) true refl
more_class Path2Closed k path is = or_right (path == PATH_2) true refl
more_class (PathOpen other) k path is = absurd (false≢true (sym (and_right (not (path == other)) false refl) ∙ is))
more_class _ k path is = refl

-- a path whose latch isn't open conducts, and nothing orders path 2 open
pub record OpensNothing (x : Effects) : Type 0 where
  pub path_1 : x.conducts PATH_1 false ≡ true
  pub path_2 : x.conducts PATH_2 false ≡ true
  pub orders : x.opens ≡ false

pub opens_nothing_plain : OpensNothing no_effects
unfolding no_effects
opens_nothing_plain = record { path_1 = refl; path_2 = refl; orders = refl }

never_in_turn : (opens : List Bool) (i : ℕ) → list_any (λ order. order) opens ≡ false → slice_index_or opens i false ≡ false
never_in_turn [] i none = refl
never_in_turn (o ∷ opens) zero none = (or_parts o (list_any (λ order. order) opens) none).0
never_in_turn (o ∷ opens) (suc i) none = never_in_turn opens i (or_parts o (list_any (λ order. order) opens) none).1

pub opens_nothing_class : (class : Class) (k : ℕ) → opens_path class ≡ false → OpensNothing (effects_of class k)
unfolding opens_path effects_of no_effects truth_in_turn
opens_nothing_class (Wild questions opens) k none =
    record { path_1 = refl; path_2 = refl; orders = never_in_turn opens (k % length opens) none }
opens_nothing_class (PathOpen path) k none = absurd (true≢false none)
opens_nothing_class _ k none = record { path_1 = refl; path_2 = refl; orders = refl }

-- ---- whether a class does something ----

-- at a tick at which a class has no effect nothing is out of order
pub others_do_nothing : (class : Class) (k : ℕ) → has_effect class k ≡ false → effects_of class k ≡ no_effects
unfolding has_effect effects_of no_effects
others_do_nothing (Flip word mask) k none = ap (λ b. record no_effects { flip = if b then Some (word, mask) else None }) none
others_do_nothing (Lapse after every) k none = ap (λ b. record no_effects { ran = λ i. not b }) none
others_do_nothing _ k none = absurd (true≢false none)

-- a number that moves a reading moves one of 0 or one of 1
moves : (add : ℤ) → IsOffset add → ((x : ℕ) → offset_by add x ≡ x) → ⊥
unfolding offset_by
moves (pos more) offset same = let at : min 65535 (0 + more) ≡ 0 = same 0 in let some = offset.0 in absurd (omega (arith, at, some))
moves (negsuc less) offset same = let at : 1 - (less + 1) ≡ 1 = same 1 in absurd (omega (arith, at))

-- and at one at which a valid class has one something is
pub effects_do_something : (class : Class) (k : ℕ) → IsValidClass class → has_effect class k ≡ true → effects_of class k ≢ no_effects
unfolding has_effect effects_of no_effects IsValidClass
effects_do_something (Script track values) k valid acts same =
    let at : (if track == track then in_turn values k else suc (in_turn values k)) ≡ suc (in_turn values k) =
    ap (λ (x : Effects). x.track track (suc (in_turn values k))) same in
    let is : in_turn values k ≡ suc (in_turn values k) =
    sym (ap (λ b. if b then in_turn values k else suc (in_turn values k)) (itself track)) ∙ at in
    absurd (omega (arith, is))
effects_do_something (Offset track add) k valid acts same = moves add valid.1 (λ x.
    sym (ap (λ b. if b then offset_by add x else x) (itself track)) ∙ ap (λ (e : Effects). e.track track x) same)
effects_do_something (Bus mask) k valid acts same =
    let is : mask ≡ 0 = sym (xor_zero_l mask) ∙ ap (λ (x : Effects). x.raise 0) same in
    let some = valid.0 in
    absurd (omega (arith, is, some))
effects_do_something (Plate at) k valid acts same = true≢false (ap (λ (x : Effects). is_some x.held_plate) same)
effects_do_something (Skip index) k valid acts same = true≢false (sym (ap (λ (x : Effects). x.ran index) same) ∙ ap not (itself index))
effects_do_something (Disturb index mask) k valid acts same =
    let is : mask ≡ 0 = sym (ap (λ b. if b then mask else 0) (itself index)) ∙ ap (λ (x : Effects). x.disturbance index) same in
    let some = valid.2.0 in
    absurd (omega (arith, is, some))
effects_do_something (Flip word mask) k valid acts same =
    true≢false (sym (ap (λ b. is_some {T = ℕ × ℕ} (if b then Some (word, mask) else None)) acts) ∙ ap (λ (x : Effects). is_some x.flip) same)
effects_do_something Halt k valid acts same = false≢true (ap (λ (x : Effects). x.level1) same)
effects_do_something (Timing offset) k valid acts same = true≢false (ap (λ (x : Effects). is_some x.send) same)
effects_do_something (Wild questions opens) k valid acts same = true≢false (ap (λ (x : Effects). is_some x.wild) same)
effects_do_something Path1Closed k valid acts same = true≢false (ap (λ (x : Effects). x.conducts 1 true) same)
effects_do_something Path2Closed k valid acts same = true≢false (ap (λ (x : Effects). x.conducts 2 true) same)
effects_do_something (PathOpen path) k valid acts same =
    false≢true (sym (ap (λ b. not b && true) (itself path)) ∙ ap (λ (x : Effects). x.conducts path false) same)
effects_do_something (Lapse after every) k valid acts same =
    false≢true (sym (ap not acts) ∙ ap (λ (x : Effects). x.ran 0) same)

-- ---- level 1 and level 2 ----

pub others_spare_levels : OthersSpareLevels
others_spare_levels fault tick is = same-spared fault tick is

-- ---- the numbers of a class ----

-- no number is more than a word
abbrev pub IsSmall : FaultKey × Held → Type 0
IsSmall (key, it.number n) = n ≤ 65535
IsSmall (key, it.shift add) = IsOffset add
IsSmall (key, it.numbers ns) = All (λ n. n ≤ 65535) ns
IsSmall (key, it.truths bs) = Unit {0}

pub held-small : (class : Class) → IsValidClass class → AllByRecursion IsSmall (held class)
unfolding held IsValidClass
held-small (Script track values) valid = ((let low = valid.0 in omega (arith, low)), (valid.2, tt))
held-small (Offset track add) valid = ((let low = valid.0 in omega (arith, low)), (valid.1, tt))
held-small (Bus mask) valid = (valid.1, tt)
held-small (Plate at) valid = (omega (arith, valid), tt)
held-small (Skip index) valid = (omega (arith, valid), tt)
held-small (Disturb index mask) valid = ((let low = valid.1 in omega (arith, low)), (valid.2.1, tt))
held-small (Flip word mask) valid = ((let low = valid.0 in omega (arith, low)), (valid.1.1, tt))
held-small Halt valid = tt
held-small (Timing offset) valid = (omega (arith, valid), tt)
held-small (Wild questions opens) valid = (valid.1, (tt, tt))
held-small Path1Closed valid = tt
held-small Path2Closed valid = tt
held-small (PathOpen path) valid = ((let low = valid.1 in omega (arith, low)), tt)
held-small (Lapse after every) valid =
    (All-weaker (λ k. k ≤ 19999) (λ k. k ≤ 65535) (λ k low. omega (arith, low)) after valid.1, ((let few = valid.3 in omega (arith, few)), tt))

-- those of a sweep are in their ranges
one : (P : ℕ → Type 0) (n : ℕ) → P n → All P (n ∷ [])
one P n here = All-cons P n [] here (All-nil P)

bit : IsMask 1
bit = (lit≤ tt, lit≤ tt)

few : AreFew 1
few = (lit≤ tt, lit≤ tt)

rises : (n : ℕ) → IsStrictlyIncreasing (n ∷ [])
rises n k low = absurd (omega arith)

pub valid_swept : (class : ClassName) → IsValidClass (swept class)
unfolding swept IsValidClass
valid_swept name.Script = (lit< tt, few, one (λ value. value ≤ 65535) 0 (lit≤ tt))
valid_swept name.Offset = (lit< tt, (lit≤ tt, lit≤ tt))
valid_swept name.Bus = bit
valid_swept name.Plate = lit≤ tt
valid_swept name.Skip = lit< tt
valid_swept name.Disturb = (lit≤ tt, lit≤ tt, (lit≤ tt, lit≤ tt))
valid_swept name.Flip = (lit< tt, bit)
valid_swept name.Timing = lit≤ tt
valid_swept name.Wild = (few, one (λ question. question ≤ 65535) 65535 (lit≤ tt), few)
valid_swept name.PathOpen = (lit≤ tt, lit≤ tt)
valid_swept name.Lapse = (few, one (λ k. k ≤ 19999) 0 (lit≤ tt), rises 0, lit≤ tt)
valid_swept _ = tt
