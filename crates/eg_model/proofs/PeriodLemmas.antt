-- Arithmetic of periods.
use Rattle.std.proofs.Common.{◌≡◌, ℕ, ◌+◌, ◌-◌, ◌*◌, ◌/◌, ◌%◌, ◌≤◌, ◌<◌, ◌⊎◌, inl, inr, sym, ap, ◌∙◌, arith, zero, suc}
use Rattle.std.specs.Prelude.{◌==◌}
use Rattle.std.proofs.lemmas.Bool.{eq-eqb, ne_eqb}
use Rattle.std.proofs.Math.Nat.{le-div_iff_mul-le, mul-div-le, mod-lt, zero-mul, div-lt_iff_lt-mul, div-mul-le_self}
use Rattle.std.proofs.lemmas.Nat.{div-mul-add, mod-mul-add}

-- a tick of this place in a period comes no earlier than the period's own
pub at_place : (period p tick send : ℕ) → 0 < period → p * period ≤ tick → tick % period ≡ send →
    p * period + send ≤ tick
at_place period p tick send h le e =
    let q : p ≤ tick / period = (le-div_iff_mul-le h).1 le in
    more (tick / period) q (omega arith)
  where
    more : (q : ℕ) → p ≤ q → q * period + send ≡ tick → p * period + send ≤ tick
    more q le e = grind arith

-- a number between two whole multiples
pub quotient : (period q b t : ℕ) → b < period → t ≡ q * period + b → t / period ≡ q
quotient period q b t h e = rw e (div-mul-add q period b h)

-- at a period's last tick the count of whole periods grows by one
pub period_closes : (period t : ℕ) → 0 < period → (t + 1) % period ≡ 0 → (t + 1) / period ≡ t / period + 1
period_closes period t h e = go ((t + 1) / period) (omega arith)
  where
    back : (q' : ℕ) → t + 1 ≡ suc q' * period → t ≡ q' * period + (period - 1)
    back q' e' = omega arith

    go : (q : ℕ) → t + 1 ≡ q * period → q ≡ t / period + 1
    go zero e' = absurd (let e'' : t + 1 ≡ 0 = e' ∙ zero-mul period in omega arith)
    go (suc q') e' = let f = quotient period q' (period - 1) t (omega arith) (back q' e') in omega arith

pub period_open : (period t : ℕ) → 0 < period → 0 < (t + 1) % period → (t + 1) / period ≡ t / period
period_open period t h e =
    let f : t / period ≡ (t + 1) / period =
    quotient period ((t + 1) / period) ((t + 1) % period - 1) t
    (let b = mod-lt (t + 1) h in omega arith) (omega arith) in
    sym f

-- by R ticks after s there are n whole periods more than the first that counts
pub enough_periods : (period send s n t : ℕ) → 0 < period → send < period →
    s + ((n + 1) * period - send - 1) ≤ t → (s + period - 1 - send) / period + n ≤ t / period
enough_periods period send s n t h l e = (le-div_iff_mul-le h).1
    (go ((s + period - 1 - send) / period) (mul-div-le (s + period - 1 - send) period))
  where
    go : (p : ℕ) → period * p ≤ s + period - 1 - send → (p + n) * period ≤ t
    go p e' = omega arith

-- the ticks of the period that closes
pub period_room : (period t : ℕ) → 0 < period → (t + 1) % period ≡ 0 →
    (t / period) * period + suc (period - 1) ≤ suc t
period_room period t h e = go ((t + 1) / period) (t / period) (period_closes period t h e) (omega arith)
  where
    go : (q p : ℕ) → q ≡ p + 1 → q * period ≡ t + 1 → p * period + suc (period - 1) ≤ suc t
    go q p f e' = let e'' : (p + 1) * period ≡ t + 1 = ap (λ x. x * period) (sym f) ∙ e' in omega arith

-- a period from the first that counts on has its send tick at s or later
pub counts_from : (period send s p : ℕ) → 0 < period → send < period →
    (s + period - 1 - send) / period ≤ p → s ≤ p * period + send
counts_from period send s p h l e =
    let low : s + period - 1 - send < (p + 1) * period = (div-lt_iff_lt-mul h).0 (omega arith) in
    omega arith

-- none counts when s comes
pub none_counts : (period send s : ℕ) → 0 < period → send < period →
    s / period ≤ (s + period - 1 - send) / period
none_counts period send s h l = (le-div_iff_mul-le h).1 (let f = div-mul-le_self s period in omega arith)

-- the last tick of a period, told from the tick after it
pub last_tick : (period t : ℕ) → 0 < period → (t % period + 1 == period) ≡ ((t + 1) % period == 0)
last_tick period t h = go (parted (t % period) (mod-lt t h))
  where
    parted : (r : ℕ) → r < period → (r + 1 ≡ period) ⊎ (r + 1 < period)
    parted r l = grind arith

    split : t ≡ (t / period) * period + t % period
    split = omega arith

    go : (t % period + 1 ≡ period) ⊎ (t % period + 1 < period) →
        (t % period + 1 == period) ≡ ((t + 1) % period == 0)
    go (inl same) =
        let whole : t + 1 ≡ (t / period + 1) * period + 0 = omega arith in
        let none : (t + 1) % period ≡ 0 = ap (λ n. n % period) whole
        ∙ mod-mul-add (t / period + 1) period 0 h in
        eq-eqb _ _ same ∙ sym (eq-eqb _ _ none)
    go (inr less) =
        let more : t + 1 ≡ (t / period) * period + (t % period + 1) = omega arith in
        let some : (t + 1) % period ≡ t % period + 1 = ap (λ n. n % period) more
        ∙ mod-mul-add (t / period) period (t % period + 1) less in
        ne_eqb _ _ (λ e. omega arith) ∙ sym (ne_eqb _ _ (λ e. omega arith))
