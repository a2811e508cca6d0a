-- The operands of a form have room in its word.
use Rattle.std.proofs.Common.{◌≡◌, ap, refl, ℕ, ◌+◌, ◌*◌, ◌-◌, ◌<◌, ◌≤◌, List, [], ◌∷◌, true, Option, Some, None, option_map, arith, sym}
use Rattle.std.specs.Prelude.{nat_lt}
use Rattle.std.specs.List.{AllZip, list_all}
use Rattle.std.proofs.Math.Nat.{mul-le-mul_right}
use Rattle.std.proofs.lemmas.Bool.Decides.{nat_tests}
use Rattle.eg_asm.specs.declared.operand.Operand.{Operand}
use Rattle.eg_asm.specs.declared.operand.Operand.TheVariants as operand
use Rattle.eg_asm.specs.declared.encoding.Jump.{Jump}
use Rattle.eg_asm.specs.Forms.{Form, forms, form_named}
use Rattle.eg_asm.specs.Grammar.{Value, Register, Number, Name, Distance, Fits}
use Rattle.eg_asm.specs.Inner.Encodings.{Encoded, with_operand, with_operands, encoded, jump_shown}
use Rattle.eg_asm.specs.Inner.Room.{room_of}
use Rattle.eg_asm.specs.Reading.{values_of}
use Rattle.eg_asm.proofs.FormLemmas.{each_form, option_map_some}
use Rattle.eg_asm.proofs.LineLaws.{values_of-back}

-- the most that an operand adds to the word
abbrev most_of : Operand → ℕ
most_of (operand.Register weight) = 7 * weight
most_of (operand.Number most) = most
most_of (operand.Target reach) = 2 * reach - 1

abbrev mosts : List Operand → ℕ
mosts [] = 0
mosts (operand ∷ operands) = most_of operand + mosts operands

-- all forms have room for the most that their operands add
have_room : list_all (λ f. nat_lt (f.base + mosts f.operands) 65536) forms ≡ true
unfolding forms
have_room = refl

-- the most that is made of what is kept
abbrev room : Option (ℕ × Value) → ℕ
room None = 0
room (Some (reach, value)) = 2 * reach - 1

abbrev total : Encoded → ℕ
total e = e.word + room e.jump

with_operand-total : (e : Encoded) (o : Operand) (value : Value) → Fits o value → total (with_operand e o value) ≤ total e + most_of o
unfolding with_operand Fits
with_operand-total e (operand.Register weight) (Register n) fits = let most : n * weight ≤ 7 * weight = mul-le-mul_right weight (omega arith) in omega arith
with_operand-total e (operand.Number most) (Number n) fits = omega arith
with_operand-total e (operand.Target reach) (Name name) fits = omega arith
with_operand-total e (operand.Target reach) (Distance d) fits = omega arith
with_operand-total e _ _ fits = absurd fits

with_operands-total : (e : Encoded) (operands : List Operand) (values : List Value) → AllZip Fits operands values → total (with_operands e operands values) ≤ total e + mosts operands
unfolding with_operands
with_operands-total e [] [] fit = omega arith
with_operands-total e [] (value ∷ values) fit = absurd fit
with_operands-total e (operand ∷ operands) [] fit = absurd fit
with_operands-total e (operand ∷ operands) (value ∷ values) fit =
    omega (arith, with_operand-total e operand value fit.0, with_operands-total (with_operand e operand value) operands values fit.1)

-- an instruction of a form, with values that fit
pub encoded-fits : (mnemonic : List ℕ) (f : Form) (values : List Value) → form_named mnemonic ≡ Some f → AllZip Fits f.operands values → total (encoded f values) < 65536
encoded-fits mnemonic f values named fit =
    let small = each_form (λ f. nat_lt (f.base + mosts f.operands) 65536) have_room mnemonic f named in
    let least : f.base + mosts f.operands < 65536 = grind (arith, nat_tests) in
    let made = with_operands-total (record { word = f.base; jump = None }) f.operands values fit in
    omega arith

-- one that was read
pub read-fits : (mnemonic : List ℕ) (f : Form) (texts : List (List ℕ)) (e : Encoded) → form_named mnemonic ≡ Some f → Some e ≡ option_map (encoded f) (values_of f.operands texts) → total e < 65536
read-fits mnemonic f texts e named is =
    let h = option_map_some (encoded f) (values_of f.operands texts) e (sym is) in
    let fits = encoded-fits mnemonic f h.0 named (values_of-back f.operands texts h.0 h.1).0 in
    omega (arith, ap total h.2)

-- the room of a target of the code
pub room_is : (jump : Option Jump) → room (option_map jump_shown jump) ≡ room_of jump
room_is None = refl
room_is (Some jump) = refl
