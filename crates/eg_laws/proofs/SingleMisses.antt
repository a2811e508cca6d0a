-- A lapse that leaves out one tick, or one tick every `every` ticks: how far apart its misses lie.
use Rattle.std.proofs.Common.{◌≡◌, ℕ, zero, suc, ◌+◌, ◌-◌, ◌*◌, ◌/◌, ◌%◌, ◌≤◌, ◌<◌, Bool, true, false, not, [], ◌∷◌, inl, inr, Some, refl, sym, ap, ◌∙◌, arith}
use Rattle.std.specs.Prelude.{if◌then◌else◌, ◌==◌}
use Rattle.std.proofs.lemmas.Bool.{true_from_ne_false, or_cases, ne_eqb, eqb-true, true≢false}
use Rattle.eg_answer.specs.Modules.{modules_before_react, modules}
use Rattle.eg_fault.specs.Effects.{no_effects}
use Rattle.eg_fault.specs.Faults.{is_left_out, effects_of}
use Rattle.eg_fault.specs.declared.class.Class.TheVariants.{Lapse}
use Rattle.eg_fault.specs.declared.class.Fault.{Fault}
use Rattle.eg_fault.proofs.ActingLemmas.{at_tick}
use Rattle.eg_model.specs.Answers.{is_whole}
use Rattle.eg_laws.specs.Availability.{misses_tick, SingleMissesAreSpaced}
use Rattle.eg_laws.specs.Latent.{single_miss}
use Rattle.eg_model.proofs.SharpCutLaw.{whole_plain}

pub whole_lapse : (out : Bool) → is_whole (record no_effects { ran = λ i. not out }) ≡ not out
unfolding is_whole modules modules_before_react no_effects
whole_lapse true = refl
whole_lapse false = refl

-- the number of a tick, from the onset on, by which it is left out
unfoldable turn : (every k : ℕ) → ℕ
turn every k = if every == 0 then k else k % every

-- a tick that is missed comes at the onset or later, at the one number of the list
record Comes (onset after every tick : ℕ) : Type 0 where
  pub from : onset ≤ tick
  pub place : after ≡ turn every (tick - onset)

left_out : (after every k : ℕ) → not (is_whole (effects_of (Lapse (after ∷ []) every) k)) ≡ true → after ≡ turn every k
unfolding effects_of is_left_out turn
left_out after every k missed = elim (or_cases (after == (if every == 0 then k else k % every)) false (true_from_ne_false _ out)) [
  | inl same ↦ eqb-true _ _ same
  | inr none ↦ absurd (true≢false (sym none))
]
  where
    out : is_left_out (after ∷ []) every k ≡ false → ⊥
    out e = true≢false (sym missed ∙ ap (λ o. not (is_whole (record no_effects { ran = λ i. not o }))) e ∙ ap not (whole_lapse false))

comes : (onset after every tick : ℕ) → misses_tick (Some (record { onset = onset; class = Lapse (after ∷ []) every })) tick ≡ true →
    Comes onset after every tick
unfolding misses_tick
comes onset after every tick missed = at_tick (λ x. not (is_whole x) ≡ true → Comes onset after every tick) fault tick
    (λ early none. absurd (true≢false (sym none ∙ ap not whole_plain)))
    (λ from out. record { from = from; place = left_out after every (tick - onset) out }) missed
  where
    fault : Fault
    fault = record { onset = onset; class = Lapse (after ∷ []) every }

once : (onset after first second : ℕ) → Comes onset after 0 first → Comes onset after 0 second → first < second → ⊥
unfolding turn
once onset after first second a b less = let p = a.place in let q = b.place in let l = a.from in let m = b.from in
    omega (arith, p, q, l, m, less)

-- the lapse of one tick alone misses no other
pub misses_once : (onset after t : ℕ) → misses_tick (Some (single_miss onset after)) t ≡ true → t ≡ onset + after
unfolding turn
misses_once onset after t out = let c = comes onset after 0 t out in let l = c.from in let p = c.place in omega (arith, l, p)

-- the lapse of one tick in so many misses no other
pub misses_in_turn : (onset after every t : ℕ) → 0 < every →
    misses_tick (Some (record { onset = onset; class = Lapse (after ∷ []) every })) t ≡ true →
    (onset ≤ t) × (after ≡ (t - onset) % every)
unfolding turn
misses_in_turn onset after every t some out = let c = comes onset after every t out in (
  c.from,
  c.place ∙ ap (λ b. if b then t - onset else (t - onset) % every) (ne_eqb every 0 (λ e. omega (arith, e, some))),
)

-- two numbers of one place lie a whole turn apart
pub turn_apart : (u v n : ℕ) → u % suc n ≡ v % suc n → u < v → u + suc n ≤ v
turn_apart u v n same less = more (u / suc n) (v / suc n) (v % suc n) (omega (arith, same)) (omega arith)
  where
    further : (q k p r : ℕ) → q * p + r < k * p + r → q < k
    further q k p r l = grind arith

    more : (q k r : ℕ) → u ≡ q * suc n + r → v ≡ k * suc n + r → u + suc n ≤ v
    more q k r e f = whole q k (suc n) r (further q k (suc n) r (omega (arith, e, f, less))) e f
      where
        whole : (q k p r : ℕ) → q < k → u ≡ q * p + r → v ≡ k * p + r → u + p ≤ v
        whole q k p r l e f = grind arith

every_turn : (onset after n first second : ℕ) → Comes onset after (suc n) first → Comes onset after (suc n) second → first < second →
    first + suc n ≤ second
unfolding turn
every_turn onset after n first second a b less =
    let apart = turn_apart (first - onset) (second - onset) n (sym (place first a) ∙ place second b) (omega (arith, a.from, less)) in
    omega (arith, apart, a.from)
  where
    place : (tick : ℕ) → Comes onset after (suc n) tick → after ≡ (tick - onset) % suc n
    place tick c = c.place ∙ ap (λ b. if b then tick - onset else (tick - onset) % suc n) (ne_eqb (suc n) 0 (λ e. omega (arith, e)))

pub single_misses_are_spaced : SingleMissesAreSpaced
single_misses_are_spaced onset after zero distance start end far first second from before one two less =
    absurd (once onset after first second (comes onset after 0 first one) (comes onset after 0 second two) less)
single_misses_are_spaced onset after (suc n) distance start end (inl none) first second from before one two less = absurd (omega (arith, none))
single_misses_are_spaced onset after (suc n) distance start end (inr fits) first second from before one two less =
    let apart = every_turn onset after n first second (comes onset after (suc n) first one) (comes onset after (suc n) second two) less in
    omega (arith, apart, fits)
