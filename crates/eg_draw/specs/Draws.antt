-- How numbers are drawn, one after another (C94).
use Rattle.std.specs.Prelude.{ℕ, zero, suc, ◌+◌, ◌*◌, ◌/◌, ◌%◌, ◌^◌, List, [], ◌∷◌}

-- C94
unfoldable pub next : ℕ → ℕ
next x = (1664525 * x + 1013904223) % 2 ^ 32

-- C94
unfoldable pub draw : ℕ → ℕ
draw x = next x / 65536

-- the state after this many draws
unfoldable pub after : ℕ → ℕ → ℕ
after zero x = x
after (suc n) x = after n (next x)

unfoldable pub draws : ℕ → ℕ → List ℕ
draws zero x = []
draws (suc n) x = draw x ∷ draws n (next x)
