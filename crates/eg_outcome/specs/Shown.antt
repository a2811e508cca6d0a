-- How a note shows the name of a file (F6). In UTF-8, U+0080 to U+009F are the byte 194 and one of 128 to 159
-- behind it.
use Rattle.std.specs.Prelude.{◌≡◌, ℕ, ◌≤◌, ◌==◌, Bool, ◌&&◌, ◌||◌, nat_lt, nat_le, IsTrue, List, [], ◌∷◌, ◌++◌, codes, get_or, if◌then◌else◌, Result, OnOk, OnErr}
use Rattle.hex.specs.Hex.{encode_lower}
use Rattle.eg_base.specs.Outside.{ShownSink, Rose, Appends, AppendsPrefix}

unfoldable pub is_high : ℕ → Bool
is_high byte = nat_le 128 byte && nat_le byte 159

-- a byte of a control character, with its neighbours
unfoldable pub is_control : (before byte behind : ℕ) → Bool
is_control before byte behind =
    nat_lt byte 32 || byte == 127 || (byte == 194 && is_high behind) || (before == 194 && is_high byte)

-- F6; 92 is the backslash
unfoldable pub shown_byte : (before byte behind : ℕ) → List ℕ
shown_byte before byte behind =
    if is_control before byte behind then codes "\\x" ++ encode_lower (byte ∷ [])
    else if byte == 92 then codes "\\\\" else byte ∷ []

-- F6; 0 stands for the missing neighbour of the first and of the last byte
unfoldable pub shown_behind : (before : ℕ) → List ℕ → List ℕ
shown_behind before [] = []
shown_behind before (byte ∷ rest) = shown_byte before byte (get_or rest 0 0) ++ shown_behind byte rest

-- F6
unfoldable pub shown_name : List ℕ → List ℕ
shown_name name = shown_behind 0 name

-- These bytes were put: all of them on Ok; else a front of them, and a sure output counted a fault. The count
-- of faults never falls.
pub record Puts {T E : Type 0} (before after : ShownSink) (bytes : List ℕ)
    (result : Result T E) : Type 0 where
  pub whole : OnOk result (Appends before after bytes)
  pub front : OnErr result (AppendsPrefix before after bytes)
  pub count : before.faults ≤ after.faults
  pub stays_sure : after.sure ≡ before.sure
  pub fault : OnErr result (IsTrue before.sure → Rose before.faults after.faults)
