use Rattle.std.specs.Prelude.{Ok, Err}
use Rattle.eg_input.specs.declared.fault.ImageFault.TheVariants as fault
use Rattle.eg_input.proofs.ImageLaws.{image-law}
use Rattle.eg_input.proofs.image.images_are_their_lines.Goals as goal

pub returns-clause-words : goal.returns-clause-words
returns-clause-words c = λ file words. image-law file (Ok words)

pub returns-clause-line : goal.returns-clause-line
returns-clause-line c = λ file number. image-law file (Err (fault.Line number))

pub returns-clause-long : goal.returns-clause-long
returns-clause-long c = λ file. image-law file (Err fault.Long)

pub returns-clause-memory : goal.returns-clause-memory
returns-clause-memory c = λ file. (image-law file (Err fault.Memory)).0
