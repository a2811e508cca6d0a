-- What "has acted" means: what a fault does at some tick of the run isn't nothing. And a fault is told in one
-- column.
use Rattle.std.specs.Prelude.{◌≡◌, ◌≢◌, ◌↔◌, ℕ, ◌<◌, ◌==◌, Bool, true, false, not, List, Some}
use Rattle.std.specs.List.{list_all}
use Rattle.eg_fault.specs.Effects.{no_effects}
use Rattle.eg_fault.specs.declared.class.Class.{Class}
use Rattle.eg_fault.specs.declared.class.Fault.{Fault}
use Rattle.eg_fault.specs.Faults.{effects_of, effects, has_effect, IsValid, IsValidClass}
use Rattle.eg_fault.specs.Names.{keys_text}
use Rattle.eg_table.specs.Acting.{has_acted}

-- where a class has no effect, nothing is out of order
abbrev pub OthersDoNothing : Type 0
OthersDoNothing = (class : Class) (k : ℕ) → has_effect class k ≡ false → effects_of class k ≡ no_effects

-- and where a valid class has one, something is
abbrev pub EffectsDoSomething : Type 0
EffectsDoSomething =
    (class : Class) (k : ℕ) → IsValidClass class → has_effect class k ≡ true → effects_of class k ≢ no_effects

-- at some tick below `ticks` something is out of order by this fault
abbrev pub DoesSomething : Fault → (ticks : ℕ) → Type 0
DoesSomething fault ticks = (tick : ℕ) × (tick < ticks) × (effects (Some fault) tick ≢ no_effects)

-- at each tick below `ticks` nothing is out of order by this fault
abbrev pub DoesNothing : Fault → (ticks : ℕ) → Type 0
DoesNothing fault ticks = (tick : ℕ) → tick < ticks → effects (Some fault) tick ≡ no_effects

-- so a valid fault has acted exactly if it does something at some tick of the run
abbrev pub ActedLaw : Type 0
ActedLaw =
    (fault : Fault) → IsValid fault → (ticks : ℕ) →
    (has_acted (Some fault) ticks ≡ Some true) ↔ DoesSomething fault ticks

-- and it hasn't acted exactly if it does nothing at any tick of the run
abbrev pub UnactedLaw : Type 0
UnactedLaw =
    (fault : Fault) → IsValid fault → (ticks : ℕ) →
    (has_acted (Some fault) ticks ≡ Some false) ↔ DoesNothing fault ticks

-- no byte of a text is a comma
unfoldable pub has_no_comma : List ℕ → Bool
has_no_comma text = list_all (λ byte. not (byte == 44)) text

-- the own keys of a valid class have none, so that they stand in one column
abbrev pub KeysHaveNoComma : Type 0
KeysHaveNoComma = (class : Class) → IsValidClass class → has_no_comma (keys_text class) ≡ true
