-- Which modules of level 2 run under each class of faults.
use Rattle.std.proofs.Common.{◌≡◌, ℕ, ◌-◌, ◌<◌, ◌⊎◌, inl, inr, Bool, true, false, ◌&&◌, refl, sym, ap, subst, arith}
use Rattle.std.proofs.lemmas.Bool.{ne_eqb}
use Rattle.std.proofs.lemmas.Bool.Decides.{nat_tests}
use Rattle.std.specs.Prelude.{◌==◌, not, if◌then◌else◌, Option, Some, None}
use Rattle.eg_answer.specs.Modules.{AllRun, NoneRuns, OthersRun}
use Rattle.eg_fault.specs.Effects.{Effects, no_effects}
use Rattle.eg_fault.specs.Faults.{effects_of, effects, is_left_out, IsNoneOrValid}
use Rattle.eg_fault.specs.Running.{LeavesOut, RunsWhole, RunningLaw, RunAlike, ElseAlike, may_change_levels, changes_levels, of_levels, beyond_levels, all_run, runs_of, IsRunning}
use Rattle.eg_fault.specs.declared.class.Class.{Class}
use Rattle.eg_fault.specs.declared.class.Class.TheVariants.{Skip, Disturb, Flip, Halt, Lapse}
use Rattle.eg_fault.specs.declared.class.Fault.{Fault}
use Rattle.eg_fault.proofs.ActingLemmas.{before_onset, from_onset, at_tick, of_class, of_all}

all-no_effects : AllRun no_effects.ran
unfolding no_effects
all-no_effects i = refl

-- what a class does to level 2, at each tick after the onset
Kind : Class → Type 0
Kind class = ((k : ℕ) → AllRun (effects_of class k).ran ⊎ NoneRuns (effects_of class k).ran) ⊎ ((one : ℕ) × ((k : ℕ) → OthersRun one (effects_of class k).ran))

lapse : (left_out : Bool) → ((i : ℕ) → not left_out ≡ true) ⊎ ((i : ℕ) → not left_out ≡ false)
lapse true = inr (λ i. refl)
lapse false = inl (λ i. refl)

kind-of : (class : Class) → Kind class
unfolding Kind effects_of no_effects
kind-of (Skip one) = inr (one, λ k i. refl)
kind-of Halt = inl (λ k. inr (λ i. refl))
kind-of (Lapse after every) = inl (λ k. lapse (is_left_out after every k))
kind-of _ = inl (λ k. inl (λ i. refl))

-- without a fault all run
without : (tick : ℕ) → AllRun (effects None tick).ran
unfolding effects
without tick = all-no_effects

-- whole or not at all, at each tick
whole : (fault : Fault) → ((k : ℕ) → AllRun (effects_of fault.class k).ran ⊎ NoneRuns (effects_of fault.class k).ran) → RunsWhole (Some fault)
whole fault each tick = of_class (λ x. AllRun x.ran ⊎ NoneRuns x.ran) fault (inl all-no_effects) each tick

-- one is left out from the onset on
left_out : (fault : Fault) (one : ℕ) → ((k : ℕ) → OthersRun one (effects_of fault.class k).ran) → LeavesOut fault one
left_out fault one each = record {
  before = λ tick before. subst (λ (x : Effects). AllRun x.ran) (sym (before_onset fault tick before)) all-no_effects;
  after = λ tick after. subst (λ (x : Effects). OthersRun one x.ran) (sym (from_onset fault tick after)) (each (tick - fault.onset));
}

of-kind : (fault : Fault) → Kind fault.class → RunsWhole (Some fault) ⊎ ((one : ℕ) × LeavesOut fault one)
unfolding Kind
of-kind fault (inl each) = inl (whole fault each)
of-kind fault (inr found) = inr (found.0, left_out fault found.0 found.1)

-- level 2 runs whole or not at all, or one module is left out from the onset on
pub running_law : RunningLaw
running_law = (λ tick. inl (without tick), λ fault. of-kind fault (kind-of fault.class))

-- ---- how level 1 and level 2 run ----

pub same : (x : Effects) → RunAlike x x
same x = record { level1 = refl; ran = refl; disturbance = refl; flip = refl }

-- before the onset they run as without a fault
pub same-before : (fault : Fault) (tick : ℕ) → tick < fault.onset → RunAlike (effects None tick) (effects (Some fault) tick)
unfolding effects
same-before fault tick before = subst (RunAlike no_effects) (sym (before_onset fault tick before)) (same no_effects)

-- the other classes leave them alone
pub spared : (class : Class) (k : ℕ) → may_change_levels class ≡ false → RunAlike no_effects (effects_of class k)
unfolding effects_of no_effects may_change_levels
spared (Skip one) k is = absurd (let clash : true ≡ false = is in cc)
spared (Disturb one mask) k is = absurd (let clash : true ≡ false = is in cc)
spared (Flip word mask) k is = absurd (let clash : true ≡ false = is in cc)
spared Halt k is = absurd (let clash : true ≡ false = is in cc)
spared (Lapse after every) k is = absurd (let clash : true ≡ false = is in cc)
spared _ k is = record { level1 = refl; ran = refl; disturbance = refl; flip = refl }

-- so under these they run at any tick as without a fault
pub same-spared : (fault : Fault) (tick : ℕ) → may_change_levels fault.class ≡ false → RunAlike (effects None tick) (effects (Some fault) tick)
unfolding effects
same-spared fault tick is = of_class (RunAlike no_effects) fault (same no_effects) (λ k. spared fault.class k is) tick

-- ---- at one tick ----

no_flip : (now : Bool) (flipped : ℕ × ℕ) → now ≡ false → None ≡ (if now then Some flipped else None)
no_flip false flipped is = refl
no_flip true flipped is = absurd (let clash : true ≡ false = is in cc)

-- a class that changes nothing at a tick leaves them alone at it
pub spared-now : (class : Class) (k : ℕ) → changes_levels class k ≡ false → RunAlike no_effects (effects_of class k)
unfolding effects_of no_effects changes_levels
spared-now (Skip one) k is = absurd (let clash : true ≡ false = is in cc)
spared-now (Disturb one mask) k is = absurd (let clash : true ≡ false = is in cc)
spared-now (Flip word mask) k is = record { level1 = refl; ran = refl; disturbance = refl; flip = no_flip (k == 0) (word, mask) is }
spared-now Halt k is = absurd (let clash : true ≡ false = is in cc)
spared-now (Lapse after every) k is = record {
  level1 = refl;
  ran = λ j i. not (sym is j);
  disturbance = refl;
  flip = refl;
}
spared-now _ k is = record { level1 = refl; ran = refl; disturbance = refl; flip = refl }

-- what holds where nothing is out of order holds without a fault
of_none : (P : Effects → Type 0) (tick : ℕ) → P no_effects → P (effects None tick)
unfolding effects
of_none P tick plain = plain

-- either the fault is kept, or it is none
kept-or-none : (P : Option Fault → Type 0) (keeps : Bool) (fault : Fault) → P (Some fault) → (keeps ≡ false → P None) → P (if keeps then Some fault else None)
kept-or-none P true fault kept none = kept
kept-or-none P false fault kept none = none refl

-- so they run alike under the fault of them
pub alike-of_levels : (fault : Option Fault) (tick : ℕ) → RunAlike (effects (of_levels fault tick) tick) (effects fault tick)
unfolding of_levels
alike-of_levels None tick = same _
alike-of_levels (Some fault) tick = kept-or-none (λ found. RunAlike (effects found tick) (effects (Some fault) tick)) _ fault (same _)
    (λ is. of_none (λ x. RunAlike x (effects (Some fault) tick)) tick (at_tick (RunAlike no_effects) fault tick (λ early. same no_effects)
    (λ late. spared-now fault.class (tick - fault.onset) (grind (arith, nat_tests)))))

-- and it is none or valid, as the fault is
pub valid-of_levels : (fault : Option Fault) (tick : ℕ) → IsNoneOrValid fault → IsNoneOrValid (of_levels fault tick)
unfolding of_levels
valid-of_levels None tick valid = valid
valid-of_levels (Some fault) tick valid = kept-or-none IsNoneOrValid _ fault valid (λ is. unfold IsNoneOrValid in tt)

-- ---- all else ----

pub same-else : (x : Effects) → ElseAlike x x
same-else x = record { track = refl; raise = refl; held_plate = refl; send = refl; wild = refl; opens = refl; conducts = refl }

-- a class that may change how they run changes nothing else
pub spared-else : (class : Class) (k : ℕ) → may_change_levels class ≡ true → ElseAlike no_effects (effects_of class k)
unfolding effects_of no_effects may_change_levels
spared-else (Skip one) k is = record { track = refl; raise = refl; held_plate = refl; send = refl; wild = refl; opens = refl; conducts = refl }
spared-else (Disturb one mask) k is = record { track = refl; raise = refl; held_plate = refl; send = refl; wild = refl; opens = refl; conducts = refl }
spared-else (Flip word mask) k is = record { track = refl; raise = refl; held_plate = refl; send = refl; wild = refl; opens = refl; conducts = refl }
spared-else Halt k is = record { track = refl; raise = refl; held_plate = refl; send = refl; wild = refl; opens = refl; conducts = refl }
spared-else (Lapse after every) k is = record { track = refl; raise = refl; held_plate = refl; send = refl; wild = refl; opens = refl; conducts = refl }
spared-else _ k is = absurd (let clash : false ≡ true = is in cc)

-- so all else is alike under the fault of it
pub alike-beyond_levels : (fault : Option Fault) (tick : ℕ) → ElseAlike (effects (beyond_levels fault tick) tick) (effects fault tick)
unfolding beyond_levels
alike-beyond_levels None tick = same-else _
alike-beyond_levels (Some fault) tick = kept-or-none (λ found. ElseAlike (effects found tick) (effects (Some fault) tick)) _ fault (same-else _)
    (λ is. of_none (λ x. ElseAlike x (effects (Some fault) tick)) tick (at_tick (ElseAlike no_effects) fault tick (λ early. same-else no_effects)
    (λ late. spared-else fault.class (tick - fault.onset) (grind (arith, nat_tests)))))

-- ---- where level 1 doesn't run ----

-- no module of level 2 runs, and no word is flipped
pub record Stops (x : Effects) : Type 0 where
  pub none : NoneRuns x.ran
  pub flip : x.flip ≡ None

stops-class : (class : Class) (k : ℕ) → (effects_of class k).level1 ≡ false → Stops (effects_of class k)
unfolding effects_of no_effects
stops-class Halt k is = record { none = λ i. refl; flip = refl }
stops-class _ k is = absurd (let clash : true ≡ false = is in cc)

-- where level 1 doesn't run level 2 doesn't either
pub stops_both : (fault : Option Fault) (tick : ℕ) → (effects fault tick).level1 ≡ false → Stops (effects fault tick)
stops_both = of_all (λ x. x.level1 ≡ false → Stops x)
    (λ is. absurd (let clash : true ≡ false = (unfold no_effects in is) in cc)) stops-class

-- ---- as it is worked out for a tick ----

either : (test : Bool) (mask : ℕ) → (if test then mask else mask) ≡ mask
either true mask = refl
either false mask = refl

-- none of the eight has the number 255
present : (i : ℕ) → i < 8 → not (i == 255) ≡ true
present i few = ap not (ne_eqb i 255 (λ same. omega arith))

with-all : (left_out other : Bool) → other ≡ true → (not left_out && other) ≡ not left_out
with-all true other is = refl
with-all false other is = is

pub all_running : IsRunning no_effects all_run
unfolding no_effects all_run
all_running = record { ran = λ i few. present i few; disturbance = λ i. either (i == 0) 0 }

pub class_running : (class : Class) (k : ℕ) → IsRunning (effects_of class k) (runs_of class k)
unfolding effects_of no_effects runs_of all_run
class_running (Skip index) k = record { ran = λ i few. refl; disturbance = λ i. either (i == 0) 0 }
class_running (Disturb index mask) k = record { ran = λ i few. present i few; disturbance = λ i. refl }
class_running Halt k = record { ran = λ i few. refl; disturbance = λ i. either (i == 0) 0 }
class_running (Lapse after every) k = record {
  ran = λ i few. with-all (is_left_out after every k) (not (i == 255)) (present i few);
  disturbance = λ i. either (i == 0) 0;
}
class_running _ k = record { ran = λ i few. present i few; disturbance = λ i. either (i == 0) 0 }
