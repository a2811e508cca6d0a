-- How a recording begins, by the first line and what its columns come to.
use Rattle.std.proofs.Common.{◌≡◌, ◌∙◌, sym, refl, ap, subst, take, inl, inr, Bool, true, false, arith, ◌+◌, ◌<◌, List, [], ◌∷◌, ℕ}
use Rattle.std.specs.Prelude.{Option, Some, None, Result, Ok, Err}
use Rattle.eg_lines.specs.Lines.{ShownLines}
use Rattle.eg_outcome.specs.Changes.{Change}
use Rattle.eg_outcome.specs.Lines.{Line, Come, LineComes, NoLineComes, ReadsWell}
use Rattle.eg_outcome.specs.declared.outcome.Outcome.{Outcome}
use Rattle.eg_outcome.specs.declared.outcome.Outcome.TheVariants.{Refused}
use Rattle.eg_outcome.specs.declared.outcome.Refusal.TheVariants.{Check}
use Rattle.eg_input.specs.declared.fault.TraceFault.TheVariants.{Header}
use Rattle.eg_input.specs.declared.recorded.TheConstants.{MOST_BYTES}
use Rattle.eg_input.specs.declared.columns.Columns.{Columns}
use Rattle.eg_input.specs.Recording.{columns_of}
use Rattle.eg_input.proofs.LengthLaws.{columns_of-seen}
use Rattle.eg_stream.specs.Inner.Reading.{RecordingBegins, columns_or_header, columns_or_end}

-- what is read of the first line gives what the line gives
first_seen : (line buffer : List ℕ) → buffer ≡ take (MOST_BYTES + 1) line → columns_of buffer ≡ columns_of line
first_seen line buffer is = ap columns_of is ∙ columns_of-seen line (MOST_BYTES + 1) (let few : 80 < 80 + 1 = omega arith in few)

columns_are : (named : Option Columns) (columns : Columns) → columns_or_header named ≡ Ok columns → named ≡ Some columns
columns_are None columns is = absurd cc
columns_are (Some other) columns is = let same : other ≡ columns = cc in ap Some same

ends_by : (named : Option Columns) (end : Outcome) → columns_or_header named ≡ Err end → (end ≡ Refused (Check Header)) × (named ≡ None)
ends_by None end is = (cc, refl)
ends_by (Some columns) end is = absurd cc

pub begins : (lines : Change ShownLines) (buffer : List ℕ) (came : Result Bool Outcome) (columns : Columns) → LineComes (MOST_BYTES + 1) lines buffer came →
    columns_or_end came buffer ≡ Ok columns → (first : Line) × Come lines (first ∷ []) × (columns_of first ≡ Some columns) × ReadsWell lines
begins lines buffer (Ok true) columns (line, come, is, well) named =
    (line, come, sym (first_seen line buffer is) ∙ columns_are (columns_of buffer) columns named, well)
begins lines buffer (Ok false) columns comes named = absurd cc
begins lines buffer (Err end) columns comes named = absurd cc

pub begins_not : (lines : Change ShownLines) (buffer : List ℕ) (came : Result Bool Outcome) (end : Outcome) → LineComes (MOST_BYTES + 1) lines buffer came →
    columns_or_end came buffer ≡ Err end → RecordingBegins lines (Err end)
begins_not lines buffer (Ok true) end (line, come, is, well) ends =
    let parts = ends_by (columns_of buffer) end ends in
    inl (parts.0, inr (line, come, sym (first_seen line buffer is) ∙ parts.1), well)
begins_not lines buffer (Ok false) end (come, at_end, well) ends = inl ((ends_by None end ends).0, inl (come, at_end), well)
begins_not lines buffer (Err other) end comes ends = inr (let same : other ≡ end = cc in subst (NoLineComes lines) same comes)
