-- What the code keeps of an instruction until all labels are known: its word but for its target, and the
-- target.
use Rattle.std.specs.Prelude.{ℕ, ◌+◌, ◌*◌, ◌==◌, if◌then◌else◌, ℤ, pos, negsuc, min, List, ◌∷◌, Option, Some, None, option_map}
use Rattle.std.specs.Option.{option_map_or}
use Rattle.eg_input.specs.declared.image.TheConstants.{MOST_WORDS}
use Rattle.eg_asm.specs.declared.operand.Operand.{Operand}
use Rattle.eg_asm.specs.declared.operand.Operand.TheVariants as operand
use Rattle.eg_asm.specs.declared.encoding.Target.{Target}
use Rattle.eg_asm.specs.declared.encoding.Target.TheVariants as target
use Rattle.eg_asm.specs.declared.encoding.Jump.{Jump}
use Rattle.eg_asm.specs.declared.encoding.Encoding.{Encoding}
use Rattle.eg_asm.specs.declared.instruction.Instruction.{Instruction as InstructionOfCode}
use Rattle.eg_asm.specs.declared.line.Line.{Line}
use Rattle.eg_asm.specs.declared.line.Line.TheVariants as line
use Rattle.eg_asm.specs.Forms.{Form, form_named}
use Rattle.eg_asm.specs.Grammar.{Value, Register, Number, Name, Distance, Item}
use Rattle.eg_asm.specs.Grammar as item

-- an instruction without its target: its word, and the reach of the target with the target
pub record Encoded : Type 0 where
  pub word : ℕ
  pub jump : Option (ℕ × Value)

-- a distance, cut at 65,536 either way
unfoldable pub capped : ℤ → ℤ
capped (pos n) = pos (min 65536 n)
capped (negsuc n) = negsuc (min 65535 n)

unfoldable pub capped_target : Value → Value
capped_target (Distance d) = Distance (capped d)
capped_target value = value

unfoldable pub with_operand : Encoded → Operand → Value → Encoded
with_operand kept (operand.Register weight) (Register n) = record kept { word = kept.word + n * weight }
with_operand kept (operand.Number most) (Number n) = record kept { word = kept.word + n }
with_operand kept (operand.Target reach) value = record kept { jump = Some (reach, capped_target value) }
with_operand kept _ _ = kept

unfoldable pub with_operands : Encoded → List Operand → List Value → Encoded
with_operands kept (operand ∷ operands) (value ∷ values) =
    with_operands (with_operand kept operand value) operands values
with_operands kept _ _ = kept

abbrev pub encoded : Form → List Value → Encoded
encoded form values = with_operands (record { word = form.base; jump = None }) form.operands values

-- ---- what the code's values show ----

abbrev pub target_shown : Target → Value
target_shown (target.Label name) = Name name.now
target_shown (target.Distance d) = Distance d

abbrev pub jump_shown : Jump → ℕ × Value
jump_shown jump = (jump.reach, target_shown jump.target)

abbrev pub encoding_shown : Encoding → Encoded
encoding_shown e = record { word = e.word; jump = option_map jump_shown e.jump }

abbrev pub instruction_shown : InstructionOfCode → Encoded
instruction_shown i = record { word = i.word; jump = option_map jump_shown i.jump }

-- ---- what lines tell ----

pub data Told : Type 0 where
  Nothing : Told
  Label : List ℕ → Told
  Instruction : Encoded → Told

unfoldable pub told : Item → Told
told item.Nothing = Nothing
told (item.Comment bytes) = Nothing
told (item.Label name) = Label name
told (item.Instruction mnemonic values) =
    option_map_or (λ form. Instruction (encoded form values)) (form_named mnemonic) Nothing

-- what a line tells, if there is room for it behind this many words
unfoldable pub told_with_room : ℕ → Told → Option Told
told_with_room words (Instruction e) = if words == MOST_WORDS then None else Some (Instruction e)
told_with_room words tells = Some tells

abbrev pub line_shown : Line → Told
line_shown line.Nothing = Nothing
line_shown (line.Label name) = Label name.now
line_shown (line.Instruction i) = Instruction (instruction_shown i)
