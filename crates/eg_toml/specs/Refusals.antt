-- Of several faults of a file the first counts (F5). A check or a reader answers this fault, or the value if
-- there is none. The faults may be those of any kind of file.
use Rattle.std.specs.Prelude.{◌≡◌, ◌⊎◌, Bool, true, false, List, [], ◌∷◌, Option, Some, None, Result, Ok, Err}

-- ---- faults, if there are any ----

-- the first of two
abbrev pub or_else : {F : Type 0} → Option F → Option F → Option F
or_else (Some f) other = Some f
or_else None other = other

-- the first of several
abbrev pub first_of : {F : Type 0} → List (Option F) → Option F
first_of [] = None
first_of (o ∷ os) = or_else o (first_of os)

-- a fault if there is nothing
abbrev pub unless_some : {F X : Type 0} → F → Option X → Option F
unless_some f (Some x) = None
unless_some f None = Some f

-- a fault if a test fails
abbrev pub unless_true : {F : Type 0} → F → Bool → Option F
unless_true f true = None
unless_true f false = Some f

-- ---- results ----

abbrev pub unless : {F X : Type 0} → Option F → X → Result X F
unless (Some f) value = Err f
unless None value = Ok value

-- a result, with what is seen of its value
abbrev pub seen : {F A B : Type 0} → (B → A) → Result B F → Result A F
seen view (Ok x) = Ok (view x)
seen view (Err e) = Err e

-- what a check answers: the value if there is no fault, else the fault
abbrev pub Checks : {F X : Type 0} → Option F → X → Result X F → Type 0
Checks f value (Ok x) = (f ≡ None) × (x ≡ value)
Checks f value (Err e) = f ≡ Some e

-- what a reader answers; `memory` is its fault if memory runs out
abbrev pub Reads : {F X : Type 0} → F → Option F → X → Result X F → Type 0
Reads memory f value (Ok x) = (f ≡ None) × (x ≡ value)
Reads memory f value (Err e) = (e ≡ memory) ⊎ (f ≡ Some e)

-- what is read is what is expected, unless memory ran out
abbrev pub IsRead : {F X : Type 0} → F → Result X F → Result X F → Type 0
IsRead memory expected (Ok x) = expected ≡ Ok x
IsRead memory expected (Err e) = (e ≡ memory) ⊎ (expected ≡ Err e)
