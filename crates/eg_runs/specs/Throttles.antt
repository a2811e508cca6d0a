-- Images whose throttle stays where it is.
use Rattle.std.specs.Prelude.{ℕ, ◌+◌, List, [], ◌∷◌}

-- the image that sets both outputs to this number, below 128, and waits for ever
abbrev pub throttle_of : ℕ → List ℕ
throttle_of number =
    0x1210 ∷ 0x2210 ∷ 0x1400 ∷ (0x2400 + number) ∷ 0xc440 ∷ 0xc441 ∷ 0xf000 ∷ 0xd1fe ∷ []
