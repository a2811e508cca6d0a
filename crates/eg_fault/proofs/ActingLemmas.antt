-- When a fault acts: what holds of its class holds of it, at each tick from its onset on.
use Rattle.std.proofs.Common.{◌≡◌, ℕ, ◌-◌, ◌≤◌, ◌<◌, inl, inr, Option, Some, None, sym, subst, arith}
use Rattle.std.proofs.lemmas.Bool.{cases_lt}
use Rattle.std.proofs.lemmas.Bool.Decides.{nat_tests}
use Rattle.eg_fault.specs.Effects.{Effects, no_effects}
use Rattle.eg_fault.specs.Faults.{effects_of, effects, IsValidClass, IsNoneOrValid, IsListed}
use Rattle.eg_fault.specs.declared.class.Class.{Class}
use Rattle.eg_fault.specs.declared.class.Fault.{Fault}

pub before_onset : (fault : Fault) (tick : ℕ) → tick < fault.onset → effects (Some fault) tick ≡ no_effects
unfolding effects
before_onset fault tick before = grind (arith, nat_tests)

pub from_onset : (fault : Fault) (tick : ℕ) → fault.onset ≤ tick → effects (Some fault) tick ≡ effects_of fault.class (tick - fault.onset)
unfolding effects
from_onset fault tick from = grind (arith, nat_tests)

-- what holds of a tick before the onset where nothing is out of order, and of one from the onset on where the
-- class acts
pub at_tick : (P : Effects → Type 0) (fault : Fault) (tick : ℕ) → (tick < fault.onset → P no_effects) →
    (fault.onset ≤ tick → P (effects_of fault.class (tick - fault.onset))) → P (effects (Some fault) tick)
at_tick P fault tick before from = elim (cases_lt tick fault.onset) [
  | inl early ↦ subst P (sym (before_onset fault tick early)) (before early)
  | inr late ↦ subst P (sym (from_onset fault tick late)) (from late)
]

-- what holds where nothing is out of order, and of a class at each tick, holds under each fault of the class
pub of_class : (P : Effects → Type 0) (fault : Fault) → P no_effects → ((k : ℕ) → P (effects_of fault.class k)) →
    (tick : ℕ) → P (effects (Some fault) tick)
of_class P fault none each tick = at_tick P fault tick (λ early. none) (λ late. each (tick - fault.onset))

-- what holds of all classes holds at each tick, without a fault too
pub of_all : (P : Effects → Type 0) → P no_effects → ((class : Class) (k : ℕ) → P (effects_of class k)) →
    (fault : Option Fault) (tick : ℕ) → P (effects fault tick)
of_all P none each None tick = unfold effects in none
of_all P none each (Some fault) tick = of_class P fault none (each fault.class) tick

-- what holds of all valid classes holds without a fault and under each valid one
pub of_valid : (P : Effects → Type 0) → P no_effects → ((class : Class) (k : ℕ) → IsValidClass class → P (effects_of class k)) →
    (fault : Option Fault) → IsNoneOrValid fault → (tick : ℕ) → P (effects fault tick)
of_valid P none each None valid tick = unfold effects in none
of_valid P none each (Some fault) valid tick =
    of_class P fault none (λ k. each fault.class k (unfold IsNoneOrValid in valid.1)) tick

-- a listed fault is a valid one
pub listed_valid : (fault : Option Fault) → IsListed fault → IsNoneOrValid fault
unfolding IsListed IsNoneOrValid
listed_valid None listed = tt
listed_valid (Some fault) listed = listed.0
