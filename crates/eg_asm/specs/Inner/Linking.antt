-- The words of what is kept of a source, once all of its labels are known.
use Rattle.std.specs.Prelude.{◌≡◌, ℕ, ◌+◌, min, List, [], ◌∷◌, Option, Some, None, is_some, if◌then◌else◌, option_map, option_and_then, Result, Ok, Err}
use Rattle.std.specs.HashMap.{get, HashMap}
use Rattle.std.specs.List.{cons_option}
use Rattle.std.specs.Str.{bytes_eq}
use denote.Ref.{Bor}
use Rattle.eg_asm.specs.declared.fault.AsmFault.{AsmFault}
use Rattle.eg_asm.specs.declared.fault.AsmFault.TheVariants as fault
use Rattle.eg_asm.specs.Grammar.{Value}
use Rattle.eg_asm.specs.Words.{Labels, address_of, complement_of, distance_to}
use Rattle.eg_asm.specs.Inner.Encodings.{Encoded}

-- what a target adds to its word at this address, if it is there and in range
unfoldable pub jump_field : Labels → ℕ → Option (ℕ × Value) → Option ℕ
jump_field labels address None = Some 0
jump_field labels address (Some (reach, target)) =
    option_and_then (complement_of reach) (distance_to labels address target)

unfoldable pub completed : Labels → ℕ → Encoded → Option ℕ
completed labels address e = option_map (λ field. e.word + field) (jump_field labels address e.jump)

-- the line of the first instruction from this address on whose target is missing or out of range
unfoldable pub unresolved : Labels → ℕ → List (ℕ × Encoded) → Option ℕ
unresolved labels address [] = None
unresolved labels address (i ∷ is) =
    if is_some (completed labels address i.1) then unresolved labels (address + 1) is else Some i.0

unfoldable pub completed_words : Labels → ℕ → List (ℕ × Encoded) → List ℕ
completed_words labels address [] = []
completed_words labels address (i ∷ is) =
    cons_option (completed labels address i.1) (completed_words labels (address + 1) is)

-- the lower of two numbers of lines, or the only one
unfoldable pub earlier : Option ℕ → Option ℕ → Option ℕ
earlier None other = other
earlier (Some number) None = Some number
earlier (Some number) (Some other) = Some (min number other)

-- F27, Label: the words of what is kept, or the first line at fault
unfoldable pub words_unless : List ℕ → Option ℕ → Result (List ℕ) AsmFault
words_unless words None = Ok words
words_unless words (Some number) = Err (fault.Label number)

unfoldable pub linked_kept : Labels → List (ℕ × Encoded) → Option ℕ → Result (List ℕ) AsmFault
linked_kept labels instructions repeated =
    words_unless (completed_words labels 0 instructions) (earlier (unresolved labels 0 instructions) repeated)

-- the code's map tells where these labels are
abbrev pub HasLabels : {S : Type 0} → HashMap (Bor (List ℕ)) ℕ S → Labels → Type 0
HasLabels map labels =
    (name : Bor (List ℕ)) → get (λ x y. bytes_eq x.now y.now) map name ≡ address_of labels name.now
