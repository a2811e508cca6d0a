-- What the bytes of the image of a run say: the words of level 1 (F23), or the first refusal (F24).
use Rattle.std.specs.Prelude.{ℕ, List, Result}
use Rattle.eg_input.specs.Images.{image_words}
use Rattle.eg_input.specs.declared.fault.ImageFault.{ImageFault}
use Rattle.eg_input.specs.declared.fault.ImageFault.TheVariants as image_fault
use Rattle.eg_outcome.specs.Reads.{refused, sized}
use Rattle.eg_outcome.specs.declared.outcome.Outcome.{Outcome}
use Rattle.eg_outcome.specs.declared.outcome.Outcome.TheVariants as outcome
use Rattle.eg_outcome.specs.declared.outcome.Refusal.{Refusal}
use Rattle.eg_outcome.specs.declared.outcome.Refusal.TheVariants as refusal
use Rattle.eg_outcome.specs.declared.outcome.Role.TheVariants as role

abbrev pub image_or_refusal : ℕ → List ℕ → Result (List ℕ) Refusal
image_or_refusal n bytes = refused (refusal.Image n) (image_words bytes)

-- F3: memory that ran out is no refusal
abbrev pub image_end : ℕ → ImageFault → Outcome
image_end n image_fault.Memory = outcome.Memory
image_end n fault = outcome.Refused (refusal.Image n fault)

-- F24, of the image of run n
abbrev pub image_file : ℕ → List ℕ → Result (List ℕ) Refusal
image_file n = sized (role.Image n) (image_or_refusal n)
