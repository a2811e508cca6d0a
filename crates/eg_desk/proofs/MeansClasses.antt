-- What the numbers of `coverage` mean: what holds of each class of fault.
use Rattle.std.proofs.Common.{◌≡◌, ◌≢◌, ◌∙◌, refl, sym, ap, subst, ℕ, ◌+◌, ◌-◌, ◌<◌, Bool, true, false, ◌||◌, Some, inl, inr, arith}
use Rattle.std.proofs.lemmas.Bool.{cases_lt, or_left, or_right, true≢false}
use Rattle.eg_answer.specs.Times.{TimeParts, feeds_to_confirm}
use Rattle.eg_values.specs.Calibration.{CalibrationParts}
use Rattle.eg_plant.specs.declared.engine_kind.EngineKind.TheVariants as kind
use Rattle.eg_fault.specs.Effects.{Effects, no_effects}
use Rattle.eg_fault.specs.Faults.{effects_of, effects, is_lapse}
use Rattle.eg_fault.proofs.ActingLemmas.{of_class}
use Rattle.eg_fault.specs.Running.{may_change_levels}
use Rattle.eg_fault.specs.Names.{name_of, class_index, swept}
use Rattle.eg_fault.specs.declared.class.Class.{Class}
use Rattle.eg_fault.specs.declared.class.Class.TheVariants as class
use Rattle.eg_fault.specs.declared.class.Fault.{Fault}
use Rattle.eg_fault.specs.declared.class_name.ClassName.{ClassName}
use Rattle.eg_fault.specs.declared.class_name.ClassName.TheVariants as name
use Rattle.eg_fault.specs.declared.paths.TheConstants.{PATH_1, PATH_2}
use Rattle.eg_fault.proofs.NameLemmas.{by_name}
use Rattle.eg_model.specs.Lapses.{IsLapse}
use Rattle.eg_model.specs.Reaction.{reacts_at_once, spoils_answers}
use Rattle.eg_laws.specs.Findings.{is_flip}
use Rattle.eg_laws.specs.Coverage.{sends_outside, holds_closed}
use Rattle.eg_laws.specs.Latent.{always_hides, hides_at_rest}
use Rattle.eg_laws.specs.SharpUnder.{leaves_readings}
use Rattle.eg_laws.proofs.KindLaws.{diesel_is_calm}
use Rattle.eg_laws.proofs.LatentAtRest.{rest_hides}
use Rattle.eg_model.proofs.PeriodLemmas.{quotient}
use Rattle.eg_laws.proofs.LatentLaws.{readings_apart_hide, far_misses_hide, one_miss_hides}
use Rattle.eg_laws.proofs.LatentOffsets.{small_offsets_hide, small_scripts_hide}
use Rattle.eg_laws.proofs.LatentMoves.{moves_in_window_hide}
use Rattle.eg_desk.specs.Means.{AllHide, AllHideAtRest, SmallOffsetsStay, SmallScriptsStay, MovesStay, OneMissStays, FarMissesStay, on_contact, is_of}
use Rattle.eg_desk.proofs.MeansRows.{Obeys, Runs, obeys_plain}

-- ---- what holds of a class ----

by_latches : (x : Effects) → x.conducts ≡ no_effects.conducts → x.opens ≡ false → Obeys x
unfolding no_effects
by_latches x same orders = record {
  open_1 = ap (λ c. c PATH_1 true) same;
  open_2 = ap (λ c. c PATH_2 true) same;
  shut_2 = ap (λ c. c PATH_2 false) same;
  orders = orders;
}

-- a class under which the reaction is always at once
pub record IsAtOnce (class : Class) : Type 0 where
  pub listed : is_lapse class ≡ false
  pub soon : (onset tick : ℕ) → reacts_at_once class onset tick ≡ true

pub record MayRead (class : Class) : Type 0 where
  pub spares : may_change_levels class ≡ false
  pub at_once : IsAtOnce class
  pub obeys : (k : ℕ) → Obeys (effects_of class k)
  pub runs : (k : ℕ) → Runs (effects_of class k)

may_read : (class : Class) → (is_of name.Script class || is_of name.Offset class) ≡ true → MayRead class
unfolding is_of name_of class_index may_change_levels is_lapse reacts_at_once effects_of no_effects
may_read (class.Script track values) e = record {
  spares = refl;
  at_once = record { listed = refl; soon = λ onset tick. refl };
  obeys = λ k. by_latches _ refl refl;
  runs = λ k. refl;
}
may_read (class.Offset track add) e = record {
  spares = refl;
  at_once = record { listed = refl; soon = λ onset tick. refl };
  obeys = λ k. by_latches _ refl refl;
  runs = λ k. refl;
}
may_read _ e = absurd (true≢false (sym e))

pub by_script : (class : Class) → is_of name.Script class ≡ true → MayRead class
by_script class e = may_read class (or_left _ _ e)

pub by_offset : (class : Class) → is_of name.Offset class ≡ true → MayRead class
by_offset class e = may_read class (or_right (is_of name.Script class) _ e)

pub spoils_obeys : (class : Class) → spoils_answers class ≡ true → (k : ℕ) → Obeys (effects_of class k)
unfolding spoils_answers effects_of no_effects
spoils_obeys (class.Skip index) e k = by_latches _ refl refl
spoils_obeys (class.Disturb index mask) e k = by_latches _ refl refl
spoils_obeys class.Halt e k = by_latches _ refl refl
spoils_obeys _ e k = absurd (true≢false (sym e))

pub moved_obeys : (times : TimeParts) (class : Class) → sends_outside times class ≡ true → (k : ℕ) → Obeys (effects_of class k)
unfolding sends_outside effects_of no_effects
moved_obeys times (class.Timing offset) e k = by_latches _ refl refl
moved_obeys times _ e k = absurd (true≢false (sym e))

pub record MayFlip (class : Class) : Type 0 where
  pub is : is_flip class ≡ true
  pub obeys : (k : ℕ) → Obeys (effects_of class k)
  pub runs : (k : ℕ) → Runs (effects_of class k)

pub may_flip : (class : Class) → is_of name.Flip class ≡ true → MayFlip class
unfolding is_of name_of class_index is_flip effects_of no_effects
may_flip (class.Flip word mask) e = record { is = refl; obeys = λ k. by_latches _ refl refl; runs = λ k. refl }
may_flip _ e = absurd (true≢false (sym e))

-- what depends on the name of a class alone
pub named_lapse : (class : Class) → is_lapse class ≡ is_lapse (swept (name_of class))
unfolding is_lapse swept name_of
named_lapse (class.Lapse after every) = refl
named_lapse _ = refl

named_soon : (onset tick : ℕ) (class : Class) →
    reacts_at_once class onset tick ≡ reacts_at_once (swept (name_of class)) onset tick
unfolding reacts_at_once swept name_of
named_soon onset tick class.Halt = refl
named_soon onset tick _ = refl

pub named_spoils : (class : Class) → spoils_answers class ≡ spoils_answers (swept (name_of class))
unfolding spoils_answers swept name_of
named_spoils class.Halt = refl
named_spoils _ = refl

pub named_closed : (class : Class) → holds_closed class ≡ holds_closed (swept (name_of class))
unfolding holds_closed swept name_of
named_closed class.Path1Closed = refl
named_closed _ = refl

pub named_hides : (class : Class) → always_hides class ≡ always_hides (swept (name_of class))
unfolding always_hides leaves_readings may_change_levels swept name_of
named_hides (class.Timing offset) = refl
named_hides _ = refl

-- so it holds of each class of a name as it does in a sweep
pub as_swept : (holds : Class → Bool) → ((class : Class) → holds class ≡ holds (swept (name_of class))) →
    (n : ClassName) (b : Bool) → holds (swept n) ≡ b → (class : Class) → is_of n class ≡ true → holds class ≡ b
unfolding is_of
as_swept holds named n b is class e = by_name holds named n class e ∙ is

pub at_once : (n : ClassName) → is_lapse (swept n) ≡ false → ((onset tick : ℕ) → reacts_at_once (swept n) onset tick ≡ true) →
    (class : Class) → is_of n class ≡ true → IsAtOnce class
at_once n listed soon class e = record {
  listed = as_swept is_lapse named_lapse n false listed class e;
  soon = λ onset tick. as_swept (λ c. reacts_at_once c onset tick) (named_soon onset tick) n true (soon onset tick) class e;
}

-- what they are of by a class of a sweep
unfoldable pub of_swept : ℕ
unfolding swept is_lapse reacts_at_once spoils_answers holds_closed always_hides leaves_readings may_change_levels
of_swept = 0

pub wild_obeys : (class : Class) → is_of name.Wild class ≡ true → (k : ℕ) → (effects_of class k).conducts PATH_2 true ≡ false
unfolding is_of name_of class_index effects_of no_effects
wild_obeys (class.Wild questions opens) e k = refl
wild_obeys _ e k = absurd (true≢false (sym e))

pub bus_hides : (class : Class) → is_of name.Bus class ≡ true → hides_at_rest class ≡ true
unfolding is_of name_of class_index hides_at_rest
bus_hides (class.Bus mask) e = refl
bus_hides _ e = absurd (true≢false (sym e))

pub contact_hides : (class : Class) → on_contact class ≡ true → hides_at_rest class ≡ true
unfolding on_contact hides_at_rest
contact_hides (class.Script track values) e = e
contact_hides (class.Offset track add) e = or_left _ _ e
contact_hides _ e = absurd (true≢false (sym e))

pub all_hide : (cal : CalibrationParts) (n : ClassName) → always_hides (swept n) ≡ true → AllHide cal (is_of n)
all_hide cal n hides accepted f valid one engine =
    readings_apart_hide engine cal accepted f valid
    (as_swept always_hides named_hides n true hides f.class one)

pub all_hide_at_rest : (cal : CalibrationParts) (meant : Class → Bool) → ((c : Class) → meant c ≡ true → hides_at_rest c ≡ true) →
    AllHideAtRest cal meant
all_hide_at_rest cal meant hides accepted f valid one =
    rest_hides kind.Diesel cal accepted (diesel_is_calm cal) f valid (hides f.class one)

pub small_offsets_stay : SmallOffsetsStay
small_offsets_stay = small_offsets_hide

pub small_scripts_stay : SmallScriptsStay
small_scripts_stay = small_scripts_hide

pub moves_stay : MovesStay
moves_stay = moves_in_window_hide

pub far_misses_stay : FarMissesStay
far_misses_stay = far_misses_hide

-- where one wrong verdict isn't enough to confirm, the weight of one lies below the limit
pub one_miss_stays : (cal : CalibrationParts) → feeds_to_confirm cal.times.weights ≢ 1 → OneMissStays cal
unfolding feeds_to_confirm
one_miss_stays cal several accepted onset after off valid engine = one_miss_hides engine cal accepted below onset after off valid
  where
    below : cal.times.weights.up < cal.times.weights.limit
    below = elim (cases_lt cal.times.weights.up cal.times.weights.limit) [
      | inl less ↦ less
      | inr enough ↦ absurd (several (quotient cal.times.weights.up 1 (cal.times.weights.limit - 1)
          (cal.times.weights.limit + (cal.times.weights.up - 1))
          (let l = accepted.answers.3 in omega (arith, enough, l))
          (let l = accepted.answers.3 in let u = accepted.answers.0 in omega (arith, enough, l, u))))
    ]

-- a lapse leaves the paths to their latches, and orders nothing
pub lapse_obeys : (f : Fault) → IsLapse (Some f) → (t : ℕ) → Obeys (effects (Some f) t)
unfolding effects_of no_effects
lapse_obeys f lapse t = subst (λ g. Obeys (effects g t)) (sym lapse.is)
    (of_class Obeys (record { onset = lapse.onset; class = class.Lapse lapse.after lapse.every }) obeys_plain
    (λ k. record { open_1 = refl; open_2 = refl; shut_2 = refl; orders = refl }) t)

pub lapse_of : (f : Fault) → is_of name.Lapse f.class ≡ true → IsLapse (Some f)
unfolding is_of name_of class_index
lapse_of f e = go f.class refl e
  where
    go : (c : Class) → f.class ≡ c → is_of name.Lapse c ≡ true → IsLapse (Some f)
    go (class.Lapse after every) same one =
        record {
          onset = f.onset;
          after = after;
          every = every;
          is = ap (λ c. Some
              (record { onset = f.onset; class = c })) same;
        }
    go _ same one = absurd (true≢false (sym one))
