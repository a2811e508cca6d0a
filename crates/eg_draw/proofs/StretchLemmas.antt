-- The stretches of a drive, one by one.
use Rattle.std.proofs.Common.{◌≡◌, ◌∙◌, refl, sym, ap, ℕ, zero, suc, ◌+◌, ◌*◌, [], ◌++◌, replicate, append_assoc, append-nil, add-one, arith}
use Rattle.eg_draw.specs.Draws.{next, after}
use Rattle.eg_draw.specs.Runs.{stretch_row, stretches}
use Rattle.eg_draw.proofs.DrawLemmas.{after_none, after_more}

-- three draws more, behind the others and before them
three-behind : (n x : ℕ) → after (n + 1 + 1 + 1) x ≡ next (next (next (after n x)))
three-behind n x = after_more (n + 1 + 1) x ∙ ap next (after_more (n + 1) x ∙ ap next (after_more n x))

pub after_stretch : (n x : ℕ) → after (3 * (n + 1)) x ≡ after 3 (after (3 * n) x)
unfolding after
after_stretch n x =
    let e : 3 * (n + 1) ≡ 3 * n + 1 + 1 + 1 = omega arith in
    ap (λ k. after k x) e ∙ three-behind (3 * n) x

three-before : (n x : ℕ) → after (3 * suc n) x ≡ after (3 * n) (after 3 x)
unfolding after
three-before n x =
    let e : 3 * suc n ≡ suc (suc (suc (3 * n))) = omega arith in
    ap (λ k. after k x) e

stretches-suc : (n x : ℕ) → stretches (suc n) x ≡ stretches n x ++ replicate 100 (stretch_row (after (3 * n) x))
unfolding stretches after
stretches-suc zero x = append-nil (replicate 100 (stretch_row x))
stretches-suc (suc n) x =
    ap (λ all. replicate 100 (stretch_row x) ++ all) (stretches-suc n (after 3 x))
    ∙ sym (append_assoc (replicate 100 (stretch_row x)) (stretches n (after 3 x)) (replicate 100 (stretch_row (after (3 * n) (after 3 x)))))
    ∙ ap (λ y. (replicate 100 (stretch_row x) ++ stretches n (after 3 x)) ++ replicate 100 (stretch_row y)) (sym (three-before n x))

pub stretches_more : (n x : ℕ) → stretches (n + 1) x ≡ stretches n x ++ replicate 100 (stretch_row (after (3 * n) x))
stretches_more n x = rw add-one (stretches-suc n x)

pub stretches_none : (x : ℕ) → stretches 0 x ≡ []
unfolding stretches
stretches_none x = refl

pub ruleset steps = (after_none, stretches_none, after_stretch, stretches_more)
