-- What comes of a line that is read, and of a line that is put.
use Rattle.std.specs.Prelude.{◌≡◌, ◌⊎◌, ℕ, List, [], ◌∷◌, ◌++◌, take, true, false, Bool, IsTrue, Result, Ok, Err, option_map, IfSome}
use Rattle.eg_base.specs.Outside.{ShownSink, Rose, Appends, AppendsPrefix}
use Rattle.eg_lines.specs.Lines.{ShownLines}
use Rattle.eg_outcome.specs.Changes.{Change}
use Rattle.eg_outcome.specs.declared.outcome.Outcome.{Outcome}
use Rattle.eg_outcome.specs.declared.outcome.Outcome.TheVariants as outcome
use Rattle.eg_outcome.specs.declared.outcome.Role.TheVariants as role

-- ---- lines that come ----

abbrev pub Line : Type 0
Line = List ℕ

-- these lines came from a source, in this order
abbrev pub Come : Change ShownLines → List Line → Type 0
Come lines came = lines.before.lines ≡ option_map (λ rest. came ++ rest) lines.after.lines

-- no line is left, if the source tells its lines
abbrev pub IsAtEnd : Change ShownLines → Type 0
IsAtEnd lines = IfSome lines.after.lines (λ rest. rest ≡ [])

-- no fault of reading was met, and a sure source stays sure
pub record ReadsWell (lines : Change ShownLines) : Type 0 where
  pub faults : lines.after.faults ≡ lines.before.faults
  pub sure : lines.after.sure ≡ lines.before.sure

-- No line came: reading failed, which a sure source never does, or memory ran out.
abbrev pub NoLineComes : Change ShownLines → Outcome → Type 0
NoLineComes lines end =
    ((end ≡ outcome.ReadFault role.Check) × Come lines [] × Rose lines.before.faults lines.after.faults
    × ¬ IsTrue lines.before.sure)
    ⊎ ((end ≡ outcome.Memory) × Come lines [] × ReadsWell lines)

-- A line came, and the buffer holds its first `most` bytes (all, if the line is shorter); or no line was
-- left; or none came.
abbrev pub LineComes : (most : ℕ) → Change ShownLines → List ℕ → Result Bool Outcome → Type 0
LineComes most lines buffer (Ok true) =
    (line : Line) × Come lines (line ∷ []) × (buffer ≡ take most line) × ReadsWell lines
LineComes most lines buffer (Ok false) = Come lines [] × IsAtEnd lines × ReadsWell lines
LineComes most lines buffer (Err end) = NoLineComes lines end

-- ---- a line that is put ----

-- the line was put; or a prefix of it was, and then a fault of writing was met or memory ran out
abbrev pub LinePut : List ℕ → Change ShownSink → Result (Unit {0}) Outcome → Type 0
LinePut line out (Ok _) = Appends out.before out.after line × (out.after.faults ≡ out.before.faults)
LinePut line out (Err end) = AppendsPrefix out.before out.after line
    × (((end ≡ outcome.WriteFault) × Rose out.before.faults out.after.faults)
    ⊎ ((end ≡ outcome.Memory) × (out.after.faults ≡ out.before.faults)))

abbrev pub end_of : Result (Unit {0}) Outcome → Outcome
end_of (Ok _) = outcome.Done
end_of (Err end) = end
