-- From its onset on a fault puts out of order what its class does, and nothing before; a listed fault is
-- none, or a valid one of any class but lapses. What a class does is said by k, the ticks since the onset.
use Rattle.std.specs.Prelude.{ℕ, ◌+◌, ◌-◌, ◌%◌, ◌≤◌, ◌<◌, ◌==◌, ◌≡◌, ℤ, pos, negsuc, Bool, true, false, not, ◌&&◌, ◌||◌, min, nat_le, bit_xor, List, length, All, slice_index, slice_index_or, Option, Some, None, if◌then◌else◌}
use Rattle.std.specs.List.{list_any}
use Rattle.std.specs.List.Sorted.{IsStrictlyIncreasing}
use Rattle.eg_sensor.specs.declared.tracks.TheConstants.{TRACKS}
use Rattle.eg_answer.specs.declared.modules.TheConstants.{PEDAL, PAIRS, MODULES}
use Rattle.eg_answer.specs.declared.words.TheConstants.{STORED_WORDS}
use Rattle.eg_fault.specs.Effects.{Effects, no_effects}
use Rattle.eg_fault.specs.declared.class.Class.{Class}
use Rattle.eg_fault.specs.declared.class.Class.TheVariants.{Script, Offset, Bus, Plate, Skip, Disturb, Flip, Halt, Timing, Wild, Path1Closed, Path2Closed, PathOpen, Lapse}
use Rattle.eg_fault.specs.declared.class.Fault.{Fault}
use Rattle.eg_fault.specs.declared.paths.TheConstants.{PATH_1, PATH_2}

-- ---- what a class does ----

-- a reading with something added or taken away, cut at 0 and at 65535
unfoldable pub offset_by : ℤ → ℕ → ℕ
offset_by (pos more) x = min 65535 (x + more)
offset_by (negsuc less) x = x - (less + 1)

-- the numbers of a script in turn, from the first on, and again from the first after the last
unfoldable pub in_turn : List ℕ → ℕ → ℕ
in_turn values k = slice_index values (k % length values)

-- the same of truth values
unfoldable pub truth_in_turn : List Bool → ℕ → Bool
truth_in_turn values k = slice_index_or values (k % length values) false

-- Level 2 is left out k ticks after the onset: where `every` is 0, at the numbers of the list; else k counts
-- modulo `every`, so each number below `every` comes again every `every` ticks, and the others never.
unfoldable pub is_left_out : List ℕ → ℕ → ℕ → Bool
is_left_out after every k = list_any (λ a. a == (if every == 0 then k else k % every)) after

-- what a class does, k ticks after the onset
unfoldable pub effects_of : Class → ℕ → Effects
effects_of (Script track values) k =
    record no_effects { track = λ i x. if i == track then in_turn values k else x }
effects_of (Offset track add) k =
    record no_effects { track = λ i x. if i == track then offset_by add x else x }
effects_of (Bus mask) k = record no_effects { raise = λ x. bit_xor x mask }
effects_of (Plate at) k = record no_effects { held_plate = Some at }
effects_of (Skip index) k = record no_effects { ran = λ i. not (i == index) }
effects_of (Disturb index mask) k = record no_effects { disturbance = λ i. if i == index then mask else 0 }
effects_of (Flip word mask) k = record no_effects { flip = if k == 0 then Some (word, mask) else None }
effects_of Halt k = record no_effects { level1 = false; ran = λ i. false }
effects_of (Timing offset) k = record no_effects { send = Some offset }
effects_of (Wild questions opens) k =
    record no_effects { wild = Some (in_turn questions k); opens = truth_in_turn opens k }
effects_of Path1Closed k = record no_effects { conducts = λ path is_open. path == PATH_1 || not is_open }
effects_of Path2Closed k = record no_effects { conducts = λ path is_open. path == PATH_2 || not is_open }
effects_of (PathOpen path) k =
    record no_effects { conducts = λ other is_open. not (other == path) && not is_open }
effects_of (Lapse after every) k = record no_effects { ran = λ i. not (is_left_out after every k) }

-- Whether a class has an effect k ticks after the onset: a flip has one at the onset alone, a lapse at the
-- ticks at which level 2 is left out, and any other class at each tick.
unfoldable pub has_effect : Class → ℕ → Bool
has_effect (Flip word mask) k = k == 0
has_effect (Lapse after every) k = is_left_out after every k
has_effect _ k = true

-- the classes that open a shut-off path by themselves: that of a path that doesn't conduct, and that of a
-- wild monitoring module whose list has an order to open path 2, whether or not its turn comes
unfoldable pub opens_path : Class → Bool
opens_path (PathOpen path) = true
opens_path (Wild questions opens) = list_any (λ order. order) opens
opens_path _ = false

-- what is out of order at a tick: nothing before the onset, and without a fault
unfoldable pub effects : Option Fault → ℕ → Effects
effects None tick = no_effects
effects (Some fault) tick =
    if nat_le fault.onset tick then effects_of fault.class (tick - fault.onset) else no_effects

-- ---- which faults there are ----

-- 1 to 64 of them
abbrev pub AreFew : ℕ → Type 0
AreFew count = (1 ≤ count) × (count ≤ 64)

-- some of the 16 bits of a word
abbrev pub IsMask : ℕ → Type 0
IsMask mask = (1 ≤ mask) × (mask ≤ 65535)

-- a number that moves a reading, up or down
abbrev pub IsOffset : ℤ → Type 0
IsOffset (pos more) = IsMask more
IsOffset (negsuc less) = IsMask (less + 1)

-- the ranges of the numbers of a class
unfoldable pub IsValidClass : Class → Type 0
IsValidClass (Script track values) =
    (track < TRACKS) × AreFew (length values) × All (λ value. value ≤ 65535) values
IsValidClass (Offset track add) = (track < TRACKS) × IsOffset add
IsValidClass (Bus mask) = IsMask mask
IsValidClass (Plate at) = at ≤ 1000
IsValidClass (Skip index) = index < MODULES
IsValidClass (Disturb index mask) = (PEDAL ≤ index) × (index ≤ PAIRS) × IsMask mask
IsValidClass (Flip word mask) = (word < STORED_WORDS) × IsMask mask
IsValidClass Halt = Unit {0}
IsValidClass (Timing offset) = offset ≤ 99
IsValidClass (Wild questions opens) =
    AreFew (length questions) × All (λ question. question ≤ 65535) questions × AreFew (length opens)
IsValidClass Path1Closed = Unit {0}
IsValidClass Path2Closed = Unit {0}
IsValidClass (PathOpen path) = (PATH_1 ≤ path) × (path ≤ PATH_2)
IsValidClass (Lapse after every) =
    AreFew (length after) × All (λ k. k ≤ 19999) after × IsStrictlyIncreasing after × (every ≤ 20000)

-- a valid fault: its onset and the numbers of its class lie in their ranges
abbrev pub IsValid : Fault → Type 0
IsValid fault = (fault.onset ≤ 19999) × IsValidClass fault.class

-- no fault, or a valid one of any class, lapses too
unfoldable pub IsNoneOrValid : Option Fault → Type 0
IsNoneOrValid None = Unit {0}
IsNoneOrValid (Some fault) = IsValid fault

-- a lapse of level 2, which is no listed fault
unfoldable pub is_lapse : Class → Bool
is_lapse (Lapse after every) = true
is_lapse _ = false

-- a listed fault: none, or a valid one of any class but lapses
unfoldable pub IsListed : Option Fault → Type 0
IsListed None = Unit {0}
IsListed (Some fault) = IsValid fault × (is_lapse fault.class ≡ false)
