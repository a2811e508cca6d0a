-- What comes of lines that are read one after another.
use Rattle.std.proofs.Common.{◌≡◌, ◌∙◌, refl, sym, ap, subst, ℕ, List, [], ◌∷◌, ◌++◌, take, Bool, true, false, Option, None, Some, Ok, append_assoc, append-nil}
use Rattle.std.specs.Prelude.{option_map, IfSome}
use Rattle.eg_lines.specs.Lines.{ShownLines, NextLine, EndsLines}
use Rattle.eg_outcome.specs.Changes.{Change, change}
use Rattle.eg_outcome.specs.Lines.{Line, Come, ReadsWell, LineComes}

-- ---- lines that come ----

joined : (rest : Option (List Line)) (x y : List Line) →
    option_map (λ l. x ++ l) (option_map (λ l. y ++ l) rest) ≡ option_map (λ l. (x ++ y) ++ l) rest
joined None x y = refl
joined (Some rest) x y = ap (λ l. Some l) (sym (append_assoc x y rest))

-- some lines came, and then some more
pub Come-then : (a b c : ShownLines) (x y : List Line) → Come (change a b) x → Come (change b c) y → Come (change a c) (x ++ y)
Come-then a b c x y first second = first ∙ ap (option_map (λ l. x ++ l)) second ∙ joined c.lines x y

none : (lines : Option (List Line)) → lines ≡ option_map (λ l. [] ++ l) lines
none None = refl
none (Some rest) = refl

-- where the lines are as they were none came
pub Come-none : (a b : ShownLines) → b.lines ≡ a.lines → Come (change a b) []
Come-none a b same = sym same ∙ none b.lines

-- some lines came, and then none
pub Come-still : (a b c : ShownLines) (x : List Line) → Come (change a b) x → Come (change b c) [] → Come (change a c) x
Come-still a b c x first second = subst (Come (change a c)) (append-nil x) (Come-then a b c x [] first second)

-- no fault was met, and then none again
pub ReadsWell-then : (a b c : ShownLines) → ReadsWell (change a b) → ReadsWell (change b c) → ReadsWell (change a c)
ReadsWell-then a b c first second = record { faults = second.faults ∙ first.faults; sure = second.sure ∙ first.sure }

-- ---- one line ----

-- whether a line came or none was left
pub line-comes : (most : ℕ) (a b : ShownLines) (came : Bool) (old new : List ℕ) → old ≡ [] →
    (came ≡ true → NextLine most a b old new) →
    (came ≡ false → EndsLines a b old new) → ReadsWell (change a b) → LineComes most (change a b) new (Ok came)
line-comes most a b true old new empty line end well =
    let next : NextLine most a b old new = line refl in
    (next.0, next.1, next.2 ∙ ap (λ l. l ++ take most next.0) empty, well)
line-comes most a b false old new empty line end well =
    let ends : EndsLines a b old new = end refl in
    (Come-none a b ends.1, subst (λ lines. IfSome lines (λ l. l ≡ [])) (sym ends.1) ends.0, well)

came_line : (most : ℕ) (lines : Change ShownLines) (buffer : List ℕ) (came : Bool) → LineComes most lines buffer (Ok came) → came ≡ true →
    (line : Line) × Come lines (line ∷ []) × (buffer ≡ take most line) × ReadsWell lines
came_line most lines buffer true comes is = comes
came_line most lines buffer false comes is = absurd cc

-- what the buffer gives is what the line gives, which may be longer
pub seen_line : {X : Type 0} (read : List ℕ → X) (most : ℕ) (lines : Change ShownLines) (buffer seen : List ℕ) (came : Bool) (x : X) →
    ((line : List ℕ) → read (take most line) ≡ read line) → LineComes most lines buffer (Ok came) → came ≡ true →
    seen ≡ buffer → read seen ≡ x → (line : Line) × Come lines (line ∷ []) × (read line ≡ x) × ReadsWell lines
seen_line read most lines buffer seen came x law comes is same gives =
    let some = came_line most lines buffer came comes is in
    (some.0, some.1, sym (law some.0) ∙ ap read (sym some.2 ∙ sym same) ∙ gives, some.3)
