-- Quotients that are rounded up.
use Rattle.std.proofs.Common.{◌≡◌, ℕ, zero, suc, ◌+◌, ◌-◌, ◌*◌, ◌/◌, ◌<◌, ◌≤◌, sym, ap, ◌∙◌, arith}
use Rattle.std.specs.Int.{div_ceil}
use Rattle.std.proofs.lemmas.Grind.{div_ceil_times}
use Rattle.std.proofs.lemmas.Nat.{div-mul-add}
use Rattle.eg_num.specs.Arithmetic.{quotient_up}

-- the code's rounded quotient is the definition's
pub div_ceil-quotient_up : (a b : ℕ) → 0 < b → div_ceil a b ≡ quotient_up a b
div_ceil-quotient_up a b positive =
    let bounds = div_ceil_times a b positive in
    let whole : a + (b - 1) ≡ div_ceil a b * b + (a + (b - 1) - div_ceil a b * b) = within a b (div_ceil a b * b) positive bounds.0 bounds.1 in
    let rest = below a b (div_ceil a b * b) positive bounds.0 bounds.1 in
    sym (ap (λ n. n / b) whole ∙ div-mul-add (div_ceil a b) b (a + (b - 1) - div_ceil a b * b) rest)
  where
    within : (a b c : ℕ) → 0 < b → a ≤ c → c < a + b → a + (b - 1) ≡ c + (a + (b - 1) - c)
    within a b c h l m = omega arith

    below : (a b c : ℕ) → 0 < b → a ≤ c → c < a + b → a + (b - 1) - c < b
    below a b c h l m = omega arith

-- a rounded quotient is no more than the number that is divided
pub div_ceil_within : (a b : ℕ) → 0 < b → div_ceil a b ≤ a
div_ceil_within a b positive = go (div_ceil a b) b positive (div_ceil_times a b positive).1
  where
    go : (q b : ℕ) → 0 < b → q * b < a + b → q ≤ a
    go zero b h l = omega arith
    go (suc q) zero h l = absurd (omega arith)
    go (suc q) (suc b) h l = less a q b (q * b) (omega arith)
      where
        less : (a q b n : ℕ) → n + q + b + 1 < a + suc b → suc q ≤ a
        less a q b n l = omega arith
