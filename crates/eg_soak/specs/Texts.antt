-- The text of `soak` (F39).
use Rattle.std.specs.Prelude.{ℕ, List, [], ◌∷◌, ◌++◌, map, codes, decimal, slice_index}
use Rattle.std.specs.List.{concat}
use Rattle.eg_soak.specs.declared.summary.SoakSummary.{SoakSummary}

unfoldable pub soak_line : List ℕ × ℕ → List ℕ
soak_line named = named.0 ++ codes " " ++ decimal named.1 ++ codes "\n"

-- F39
unfoldable pub numbers : SoakSummary → List (List ℕ × ℕ)
numbers s =
    (codes "runs", s.runs) ∷ (codes "none", s.none)
    ∷ (codes "mirror", slice_index s.by_watch 0) ∷ (codes "pedal", slice_index s.by_watch 1)
    ∷ (codes "plate", slice_index s.by_watch 2) ∷ (codes "load", slice_index s.by_watch 3)
    ∷ (codes "speed", slice_index s.by_watch 4) ∷ (codes "torque", slice_index s.by_watch 5)
    ∷ (codes "answers", slice_index s.by_watch 6) ∷ (codes "trapped", s.trapped) ∷ (codes "off", s.off)
    ∷ (codes "longest", s.longest) ∷ []

unfoldable pub lines_of : List (List ℕ × ℕ) → List (List ℕ)
lines_of named = map soak_line named

-- F39
unfoldable pub soak_text : SoakSummary → List ℕ
soak_text s = concat (lines_of (numbers s))
