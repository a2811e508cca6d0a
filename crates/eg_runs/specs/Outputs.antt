-- An image that is worked out because of its outputs.
use Rattle.std.specs.Prelude.{ℕ, List, [], ◌∷◌}

-- sets both outputs to 1000, and does so again in each slice
abbrev pub full_anew : List ℕ
full_anew = 0x1210 ∷ 0x2210 ∷ 0x1407 ∷ 0x2468 ∷ 0xc440 ∷ 0xc441 ∷ 0xf000 ∷ 0xd1fc ∷ []
