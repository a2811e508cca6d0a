-- What a line tells.
use Rattle.std.proofs.Common.{◌≡◌, refl, ℕ, ◌+◌, ◌≤◌, List, true, false, Option, Some, None, option_map, arith, inl, inr}
use Rattle.std.specs.Prelude.{◌==◌, nat_le, option_and_then}
use Rattle.std.specs.List.{before_first}
use Rattle.std.specs.Str.{byte}
use Rattle.std.proofs.lemmas.Bool.Decides.{nat_tests}
use Rattle.std.proofs.lemmas.Bool.{cases_Bool}
use Rattle.eg_asm.specs.Forms.{Form, form_named}
use Rattle.eg_asm.specs.Grammar as item
use Rattle.eg_asm.specs.Grammar.{Value, Item}
use Rattle.eg_asm.specs.Words.{size}
use Rattle.eg_asm.specs.Inner.Encodings.{encoded, Instruction, told, told_with_room}
use Rattle.eg_asm.specs.Reading.{is_byte, behind_first, texts_in, values_of, instruction_in, item_in, with_room, item_behind}
use Rattle.eg_asm.proofs.FormLemmas.{form_named-same}
use Rattle.eg_asm.proofs.LineLaws.{said-form}

-- an instruction of a form
pub told-instruction : (text : List ℕ) (f : Form) → form_named (before_first (is_byte (byte " ")) text) ≡ Some f
    → option_map Instruction (option_map (encoded f) (values_of f.operands (texts_in (behind_first (byte " ") text)))) ≡ option_map told (instruction_in text)
unfolding instruction_in told
told-instruction text f is = rw is (at (values_of f.operands (texts_in (behind_first 32 text))))
  where
    at : (o : Option (List Value)) → option_map Instruction (option_map (encoded f) o) ≡ option_map told (option_map (item.Instruction f.mnemonic) o)
    at None = refl
    at (Some values) = rw (form_named-same (before_first (is_byte 32) text) f is) refl

-- a text that names no form
pub told-no_form : (text : List ℕ) → form_named (before_first (is_byte (byte " ")) text) ≡ None → option_map told (instruction_in text) ≡ None
unfolding instruction_in
told-no_form text is = rw is refl

-- ---- room ----

-- an instruction of a form tells one
pub told-form : (mnemonic : List ℕ) (values : List Value) (f : Form) → form_named mnemonic ≡ Some f → told (item.Instruction mnemonic values) ≡ Instruction (encoded f values)
unfolding told
told-form mnemonic values f named = rw named refl

-- a line tells what it tells where there is room for it
pub told-behind : (words : ℕ) (line : List ℕ) → words ≤ 1024 → option_map told (item_behind words line) ≡ option_and_then (told_with_room words) (option_map told (item_in line))
unfolding item_behind told told_with_room size
told-behind words line few = at (item_in line) refl
  where
    silent : nat_le (words + 0) 1024 ≡ true
    silent = grind (arith, nat_tests)

    instruction : (mnemonic : List ℕ) (values : List Value) → (f : Form) × (form_named mnemonic ≡ Some f)
        → option_map told (with_room words (item.Instruction mnemonic values)) ≡ told_with_room words (told (item.Instruction mnemonic values))
    instruction mnemonic values (f, named) = elim (cases_Bool (words == 1024)) [
      | inl full ↦ (let none : nat_le (words + 1) 1024 ≡ false = grind (arith, nat_tests) in rw (none, named, full) refl)
      | inr room ↦ (let some : nat_le (words + 1) 1024 ≡ true = grind (arith, nat_tests) in rw (some, named, room) refl)
    ]

    at : (o : Option Item) → item_in line ≡ o → option_map told (option_and_then (with_room words) o) ≡ option_and_then (told_with_room words) (option_map told o)
    at None is = refl
    at (Some item.Nothing) is = rw silent refl
    at (Some (item.Comment bytes)) is = rw silent refl
    at (Some (item.Label name)) is = rw silent refl
    at (Some (item.Instruction mnemonic values)) is = instruction mnemonic values (said-form line mnemonic values is)
