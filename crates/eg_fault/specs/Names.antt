-- How the classes of faults are spelt, where they are read and where they are written: each has a name, and
-- own keys under which its numbers stand. And with which numbers a sweep plays each.
use Rattle.std.specs.Prelude.{◌≡◌, ℕ, ℤ, pos, Bool, false, List, [], ◌∷◌, ◌++◌, map, codes, decimal, bytes_eq, Option, Some, if◌then◌else◌}
use Rattle.std.specs.Fmt.{signed_decimal}
use Rattle.std.specs.List.{concat, find}
use Rattle.eg_fault.specs.declared.class.Class.{Class}
use Rattle.eg_fault.specs.declared.class.Class.TheVariants as class
use Rattle.eg_fault.specs.declared.class_name.ClassName.{ClassName}
use Rattle.eg_fault.specs.declared.class_name.ClassName.TheVariants.{Script, Offset, Bus, Plate, Skip, Disturb, Flip, Halt, Timing, Wild, Path1Closed, Path2Closed, PathOpen, Lapse}
use Rattle.eg_fault.specs.declared.key.FaultKey.{FaultKey}
use Rattle.eg_fault.specs.declared.key.FaultKey.TheVariants as key

-- ---- names ----

-- a class without its numbers
unfoldable pub name_of : Class → ClassName
name_of (class.Script track values) = Script
name_of (class.Offset track add) = Offset
name_of (class.Bus mask) = Bus
name_of (class.Plate at) = Plate
name_of (class.Skip index) = Skip
name_of (class.Disturb index mask) = Disturb
name_of (class.Flip word mask) = Flip
name_of class.Halt = Halt
name_of (class.Timing offset) = Timing
name_of (class.Wild questions opens) = Wild
name_of class.Path1Closed = Path1Closed
name_of class.Path2Closed = Path2Closed
name_of (class.PathOpen path) = PathOpen
name_of (class.Lapse after every) = Lapse

-- its name
unfoldable pub class_text : ClassName → List ℕ
class_text Script = codes "script"
class_text Offset = codes "offset"
class_text Bus = codes "bus"
class_text Plate = codes "plate"
class_text Skip = codes "skip"
class_text Disturb = codes "disturb"
class_text Flip = codes "flip"
class_text Halt = codes "halt"
class_text Timing = codes "timing"
class_text Wild = codes "wild"
class_text Path1Closed = codes "path1-closed"
class_text Path2Closed = codes "path2-closed"
class_text PathOpen = codes "path-open"
class_text Lapse = codes "lapse"

-- the classes in their order
abbrev pub classes : List ClassName
classes =
    Script ∷ Offset ∷ Bus ∷ Plate ∷ Skip ∷ Disturb ∷ Flip ∷ Halt ∷ Timing ∷ Wild ∷ Path1Closed ∷ Path2Closed
    ∷ PathOpen ∷ Lapse ∷ []

-- the place of a class in this order
unfoldable pub class_index : ClassName → ℕ
class_index Script = 0
class_index Offset = 1
class_index Bus = 2
class_index Plate = 3
class_index Skip = 4
class_index Disturb = 5
class_index Flip = 6
class_index Halt = 7
class_index Timing = 8
class_index Wild = 9
class_index Path1Closed = 10
class_index Path2Closed = 11
class_index PathOpen = 12
class_index Lapse = 13

-- the class that has this name
unfoldable pub class_named : List ℕ → Option ClassName
class_named text = find (λ name. bytes_eq (class_text name) text) classes

-- the class of a name with the numbers that it has in a sweep
unfoldable pub swept : ClassName → Class
swept Script = class.Script 4 (0 ∷ [])
swept Offset = class.Offset 0 (pos 200)
swept Bus = class.Bus 1
swept Plate = class.Plate 1000
swept Skip = class.Skip 3
swept Disturb = class.Disturb 3 4096
swept Flip = class.Flip 3 1
swept Halt = class.Halt
swept Timing = class.Timing 99
swept Wild = class.Wild (65535 ∷ []) (false ∷ [])
swept Path1Closed = class.Path1Closed
swept Path2Closed = class.Path2Closed
swept PathOpen = class.PathOpen 1
swept Lapse = class.Lapse (0 ∷ []) 0

-- the law: the name of a class is read as that class
abbrev pub NamesAreRead : Type 0
NamesAreRead = (name : ClassName) → class_named (class_text name) ≡ Some name

-- ---- own keys ----

abbrev pub key_text : FaultKey → List ℕ
key_text key.Track = codes "track"
key_text key.Values = codes "values"
key_text key.Add = codes "add"
key_text key.Mask = codes "mask"
key_text key.At = codes "at"
key_text key.Module = codes "module"
key_text key.Word = codes "word"
key_text key.Offset = codes "offset"
key_text key.Questions = codes "questions"
key_text key.Opens = codes "opens"
key_text key.Path = codes "path"
key_text key.After = codes "after"
key_text key.Every = codes "every"

-- the own keys of a class, in the order in which they are checked and written
abbrev pub own_keys : ClassName → List FaultKey
own_keys Script = key.Track ∷ key.Values ∷ []
own_keys Offset = key.Track ∷ key.Add ∷ []
own_keys Bus = key.Mask ∷ []
own_keys Plate = key.At ∷ []
own_keys Skip = key.Module ∷ []
own_keys Disturb = key.Module ∷ key.Mask ∷ []
own_keys Flip = key.Word ∷ key.Mask ∷ []
own_keys Halt = []
own_keys Timing = key.Offset ∷ []
own_keys Wild = key.Questions ∷ key.Opens ∷ []
own_keys Path1Closed = []
own_keys Path2Closed = []
own_keys PathOpen = key.Path ∷ []
own_keys Lapse = key.After ∷ key.Every ∷ []

-- what stands under a key
pub data Held : Type 0 where
  number : ℕ → Held
  shift : ℤ → Held
  numbers : List ℕ → Held
  truths : List Bool → Held

-- the own keys of a class, each with what it holds
unfoldable pub held : Class → List (FaultKey × Held)
held (class.Script track values) = (key.Track, number track) ∷ (key.Values, numbers values) ∷ []
held (class.Offset track add) = (key.Track, number track) ∷ (key.Add, shift add) ∷ []
held (class.Bus mask) = (key.Mask, number mask) ∷ []
held (class.Plate at) = (key.At, number at) ∷ []
held (class.Skip index) = (key.Module, number index) ∷ []
held (class.Disturb index mask) = (key.Module, number index) ∷ (key.Mask, number mask) ∷ []
held (class.Flip word mask) = (key.Word, number word) ∷ (key.Mask, number mask) ∷ []
held class.Halt = []
held (class.Timing offset) = (key.Offset, number offset) ∷ []
held (class.Wild questions opens) = (key.Questions, numbers questions) ∷ (key.Opens, truths opens) ∷ []
held class.Path1Closed = []
held class.Path2Closed = []
held (class.PathOpen path) = (key.Path, number path) ∷ []
held (class.Lapse after every) = (key.After, numbers after) ∷ (key.Every, number every) ∷ []

-- the law: the keys that are written of a class are its own
abbrev pub KeysAreOwn : Type 0
KeysAreOwn = (class : Class) → map (λ item. item.0) (held class) ≡ own_keys (name_of class)

-- ---- as they are written ----

-- a number, and a truth value, behind a blank
unfoldable pub number_item : ℕ → List ℕ
number_item n = codes " " ++ decimal n

unfoldable pub truth_item : Bool → List ℕ
truth_item b = if b then codes " true" else codes " false"

-- several of them
unfoldable pub number_items : List ℕ → List ℕ
number_items ns = concat (map number_item ns)

unfoldable pub truth_items : List Bool → List ℕ
truth_items bs = concat (map truth_item bs)

-- a key with what it holds
abbrev pub item_text : FaultKey × Held → List ℕ
item_text (key, number n) = key_text key ++ codes " " ++ decimal n
item_text (key, shift n) = key_text key ++ codes " " ++ signed_decimal n
item_text (key, numbers ns) = key_text key ++ number_items ns
item_text (key, truths bs) = key_text key ++ truth_items bs

-- keys with what they hold; blanks stand between
unfoldable pub items_text : List (FaultKey × Held) → List ℕ
items_text [] = []
items_text (item ∷ []) = item_text item
items_text (item ∷ items) = item_text item ++ codes " " ++ items_text items

-- the own keys of a class with what they hold
abbrev pub keys_text : Class → List ℕ
keys_text class = items_text (held class)
