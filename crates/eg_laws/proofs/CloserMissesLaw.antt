-- Misses that lie a tick closer than the least spacing, and one more than may always come: quiet ticks in which wrong
-- answers are confirmed.
use Rattle.std.proofs.Common.{inl, inr, ◌≡◌, ℕ, zero, suc, ◌+◌, ◌-◌, ◌*◌, ◌/◌, ◌%◌, ◌≤◌, ◌<◌, true, false, List, All, length, lit≤, refl, sym, ap, ◌∙◌, subst, arith}
use Rattle.std.proofs.lemmas.Bool.{cases_lt, cases_Bool, true≢false}
use Rattle.std.proofs.lemmas.List.Elements.{All-cons, All-nil}
use Rattle.std.proofs.Math.Nat.{div-mul-le_self}
use Rattle.eg_answer.specs.Times.{HasMissSpacing, periods_between_misses, miss_spacing_of, silent_misses_of}
use Rattle.eg_values.specs.Calibration.{CalibrationParts, IsAccepted}
use Rattle.eg_fault.specs.Effects.{no_effects}
use Rattle.eg_fault.specs.Faults.{effects}
use Rattle.eg_model.specs.History.{Setting, Tick, Drive, Entry}
use Rattle.eg_model.specs.Paths.{latch2}
use Rattle.eg_model.specs.Moments.{moments_of}
use Rattle.eg_model.specs.Premises.{AreProper, Follows}
use Rattle.eg_model.specs.Lapses.{IsLapse}
use Rattle.eg_model.proofs.TickLemmas.{Each}
use Rattle.eg_model.proofs.Silence.{opens_when_confirmed}
use Rattle.eg_model.proofs.LapseWeights.{rounded_up}
use Rattle.eg_laws.specs.LeastReaction.{GoesOn, ShowsWord, quiet, giving}
use Rattle.eg_laws.specs.Availability.{misses_tick, MissesAreSpaced, missed_ticks}
use Rattle.eg_laws.specs.CloserMisses.{sends_missed, raised, quiet_ticks, CutsUntripped, CloserMissesCut, SpacedKeepPath2, SpacingIsLeast, NoSpacingServes, FewKeepPath2, SilentMissesAreMost}
use Rattle.eg_laws.proofs.SharpUnderLaws.{act_plain}
use Rattle.eg_laws.proofs.SingleMisses.{single_misses_are_spaced, misses_in_turn}
use Rattle.eg_laws.proofs.MissTicks.{missed, lapse_tick}
use Rattle.eg_laws.proofs.LatentTicks.{GivesNothing, GiveNothing, still_after}
use Rattle.eg_laws.proofs.LatentRuns.{Comes}
use Rattle.eg_laws.proofs.LatentLaws.{loud_within, gives, gives_alike}
use Rattle.eg_laws.proofs.SendMisses as sends

-- ---- quiet ticks ----

length-quiet : (s : Setting) (n : ℕ) → length (quiet_ticks s n) ≡ n
unfolding quiet_ticks
length-quiet s zero = refl
length-quiet s (suc n) = ap suc (length-quiet s n)

follows_quiet : (s : Setting) (n : ℕ) → Follows s.fault 0 (quiet_ticks s n)
unfolding quiet_ticks Follows
follows_quiet s zero = tt
follows_quiet s (suc n) = (
  ap (effects s.fault) (let e : n ≡ 0 + length (quiet_ticks s n) = (let l = length-quiet s n in omega (arith, l)) in e),
  follows_quiet s n,
)

proper_quiet : (s : Setting) (n : ℕ) → AreProper s (quiet_ticks s n)
unfolding quiet_ticks AreProper
proper_quiet s zero = tt
proper_quiet s (suc n) = (
  record {
    drive = loud_within;
    engine = record { position = omega arith; load_1 = omega arith; load_2 = omega arith };
    no_torque = λ off. refl;
  },
  proper_quiet s n,
)

go_on_quiet : (s : Setting) (n : ℕ) → All GoesOn (quiet_ticks s n)
unfolding quiet_ticks
go_on_quiet s zero = All-nil GoesOn
go_on_quiet s (suc n) = All-cons GoesOn (quiet (effects s.fault n) raised) (quiet_ticks s n) refl (go_on_quiet s n)

words_quiet : (s : Setting) (n : ℕ) → All ShowsWord (quiet_ticks s n)
unfolding quiet_ticks
words_quiet s zero = All-nil ShowsWord
words_quiet s (suc n) = All-cons ShowsWord (quiet (effects s.fault n) raised) (quiet_ticks s n) (lit≤ tt, lit≤ tt) (words_quiet s n)

-- level 2 finds nothing at them
module _ (s : Setting) (accepted : IsAccepted s.cal) (lapse : IsLapse s.fault) where
  abbrev e : Entry
  e = giving raised 0 0

  comes : Comes raised e
  comes = record { drive = refl; position = omega arith; load = omega arith; one = refl }

  nothing : (t : ℕ) → GivesNothing s.cal (quiet (effects s.fault t) raised)
  nothing t = elim (lapse_tick s.fault lapse t) [
    | inl plain ↦ subst (λ x. GivesNothing s.cal (quiet x raised)) (sym plain) (gives_alike s.cal accepted e comes no_effects act_plain)
    | inr out ↦ subst (λ x. GivesNothing s.cal (quiet x raised)) (sym out)
        (unfold missed no_effects in gives s.cal accepted e comes missed refl refl false (λ i. refl) refl (λ i. refl))
  ]

  all_nothing : (n : ℕ) → GiveNothing s.cal (quiet_ticks s n)
  unfolding quiet_ticks Each
  all_nothing zero = tt
  all_nothing (suc n) = (nothing n, all_nothing n)

-- ---- the history ----

module _ (cal : CalibrationParts) (accepted : IsAccepted cal) (k gain n : ℕ)
    (paid : gain + k * cal.times.weights.down ≤ 2 * cal.times.weights.up) (enough : cal.times.weights.limit ≤ n * gain) where
  abbrev m : ℕ
  m = suc (suc k)

  abbrev s : Setting
  s = sends_missed cal m

  abbrev turn : ℕ
  turn = m * cal.times.period

  abbrev h : List Tick
  h = quiet_ticks s (n * turn)

  cuts : CutsUntripped s h
  unfolding moments_of
  cuts = record {
    lapse = sends.lapse cal accepted k;
    follows = follows_quiet s (n * turn);
    proper = proper_quiet s (n * turn);
    goes_on = go_on_quiet s (n * turn);
    words = words_quiet s (n * turn);
    untripped = (still_after s accepted h (all_nothing s accepted (sends.lapse cal accepted k) (n * turn))).untripped;
    opened = opens_when_confirmed Drive s h
        (sends.confirmed cal accepted k gain paid n enough h (follows_quiet s (n * turn)) (length-quiet s (n * turn)));
  }

  spaced : (distance end : ℕ) → distance ≤ turn → MissesAreSpaced s.fault distance 0 end
  spaced distance end l = single_misses_are_spaced cal.times.send 0 turn distance 0 end (inr l)

  few_missed : (t u : ℕ) → t ≤ u * turn + cal.times.send → missed_ticks s.fault 0 t ≤ u
  unfolding missed_ticks
  few_missed zero u l = omega arith
  few_missed (suc t) u l = elim (cases_Bool (misses_tick s.fault (0 + t))) [
    | inl out ↦ rw out (one_more (λ a below. few_missed t a below) (misses_in_turn cal.times.send 0 turn (0 + t) (sends.turn_some cal accepted k) out))
    | inr ran ↦ rw ran (let rest = few_missed t u (omega (arith, l)) in omega (arith, rest))
  ]
    where
      one_more : ((a : ℕ) → t ≤ a * turn + cal.times.send → missed_ticks s.fault 0 t ≤ a) → (cal.times.send ≤ 0 + t) × (0 ≡ (0 + t - cal.times.send) % turn) → 1 + missed_ticks s.fault 0 t ≤ u
      one_more before (from, place) = go ((0 + t - cal.times.send) / turn) (whole turn (sends.turn_some cal accepted k) place)
        where
          whole : (p : ℕ) → 0 < p → 0 ≡ (0 + t - cal.times.send) % p → 0 + t - cal.times.send ≡ ((0 + t - cal.times.send) / p) * p
          whole p some e = omega (arith, some, e)

          go : (a : ℕ) → 0 + t - cal.times.send ≡ a * turn → 1 + missed_ticks s.fault 0 t ≤ u
          go a e =
              let rest = before a (omega (arith, e, from)) in
              let less = fewer a u turn (omega (arith, e, from, l)) in omega (arith, rest, less)
            where
              fewer : (a u p : ℕ) → a * p < u * p → a < u
              fewer a u p l = elim (cases_lt a u) [
                | inl less ↦ less
                | inr more ↦ absurd (let q = sends.scaled u a p more in omega (arith, q, l))
              ]

  -- so no law says that path 2 stays closed in it
  open_there : latch2 (moments_of s h) ≡ false → ⊥
  open_there closed = true≢false (sym cuts.opened ∙ closed)

  unspaced : (distance : ℕ) → SpacedKeepPath2 cal distance → MissesAreSpaced s.fault distance 0 (n * turn) → ⊥
  unspaced distance keeps apart = open_there (keeps s refl cuts.lapse h cuts.follows cuts.proper
      (subst (λ end. MissesAreSpaced s.fault distance 0 end) (sym (length-quiet s (n * turn))) apart) cuts.untripped)

  too_many : (most : ℕ) → FewKeepPath2 cal most → n ≤ most → ⊥
  too_many most keeps l = open_there (keeps s refl cuts.lapse h cuts.follows cuts.proper
      (subst (λ t. missed_ticks s.fault 0 t ≤ most) (sym (length-quiet s (n * turn)))
      (let few = few_missed (n * turn) n (omega arith) in omega (arith, few, l))) cuts.untripped)

-- ---- the laws ----

module _ (cal : CalibrationParts) (accepted : IsAccepted cal) (has : HasMissSpacing cal.times) where
  abbrev up : ℕ
  up = cal.times.weights.up

  abbrev down : ℕ
  down = cal.times.weights.down

  -- one right verdict less than the number of periods that take back
  rights : ℕ
  rights = periods_between_misses cal.times - 2

  -- so many less than those that take back what two wrong ones add
  periods_are : (suc (suc rights) ≡ periods_between_misses cal.times) × (1 + rights * down ≤ 2 * up)
  unfolding rights periods_between_misses
  periods_are = law ((2 * up + (down - 1)) / down) (div-mul-le_self (2 * up + (down - 1)) down)
      (some ((2 * up + (down - 1)) / down) (rounded_up (2 * up) down (let d = has.some_taken in omega (arith, d))))
    where
      some : (q : ℕ) → 2 * up ≤ q * down → 1 ≤ q
      some zero l = absurd (let u = accepted.answers.0 in omega (arith, l, u))
      some (suc q) l = omega arith

      law : (q : ℕ) → q * down ≤ 2 * up + (down - 1) → 1 ≤ q → (suc (suc (q + 1 - 2)) ≡ q + 1) × (1 + (q + 1 - 2) * down ≤ 2 * up)
      law zero l one = absurd (omega (arith, one))
      law (suc q) l one = (
        omega arith,
        subst (λ n. 1 + n * down ≤ 2 * up) (let e : q ≡ suc q + 1 - 2 = omega arith in e)
            (let d = has.some_taken in omega (arith, l, d)),
      )

  enough : cal.times.weights.limit ≤ cal.times.weights.limit * 1
  enough = omega arith

  closer : CutsUntripped (sends_missed cal (periods_between_misses cal.times))
      (quiet_ticks (sends_missed cal (periods_between_misses cal.times))
      (cal.times.weights.limit * (periods_between_misses cal.times * cal.times.period)))
  closer = subst (λ p. CutsUntripped (sends_missed cal p) (quiet_ticks (sends_missed cal p)
      (cal.times.weights.limit * (p * cal.times.period)))) periods_are.0
      (cuts cal accepted rights 1 cal.times.weights.limit periods_are.1 enough)

  -- the distance
  within : (distance : ℕ) → distance < miss_spacing_of cal.times → distance ≤ periods_between_misses cal.times * cal.times.period
  unfolding miss_spacing_of
  within distance l = omega (arith, l)

  closer_spaced : (distance end : ℕ) → distance < miss_spacing_of cal.times →
      MissesAreSpaced (sends_missed cal (periods_between_misses cal.times)).fault distance 0 end
  closer_spaced distance end l = single_misses_are_spaced cal.times.send 0 (periods_between_misses cal.times * cal.times.period)
      distance 0 end (inr (within distance l))

  least_spacing : (distance : ℕ) → SpacedKeepPath2 cal distance → miss_spacing_of cal.times ≤ distance
  least_spacing distance keeps = elim (cases_lt distance (miss_spacing_of cal.times)) [
    | inl less ↦ absurd (unspaced cal accepted rights 1 cal.times.weights.limit periods_are.1 enough distance keeps
        (spaced cal accepted rights 1 cal.times.weights.limit periods_are.1 enough distance _
        (subst (λ p. distance ≤ p * cal.times.period) (sym periods_are.0) (within distance less))))
    | inr from ↦ from
  ]

pub closer_misses_cut : CloserMissesCut
unfolding miss_spacing_of
closer_misses_cut cal accepted has = (
  closer cal accepted has,
  closer_spaced cal accepted has _ _ (omega arith),
)

pub spacing_is_least : SpacingIsLeast
spacing_is_least cal accepted has distance keeps = least_spacing cal accepted has distance keeps

pub no_spacing_serves : NoSpacingServes
no_spacing_serves cal accepted (inl none) distance keeps =
    unspaced cal accepted distance 1 cal.times.weights.limit (paid cal.times.weights.down none) (omega arith) distance keeps
    (spaced cal accepted distance 1 cal.times.weights.limit (paid cal.times.weights.down none) (omega arith) distance _
    (far cal.times.period (let p = accepted.times.shortest in omega (arith, p))))
  where
    paid : (down : ℕ) → down ≡ 0 → 1 + distance * down ≤ 2 * cal.times.weights.up
    paid down e = let u = accepted.answers.0 in rw e (omega (arith, u))

    far : (p : ℕ) → 1 ≤ p → distance ≤ suc (suc distance) * p
    far zero l = absurd (omega (arith, l))
    far (suc p) l = omega arith
no_spacing_serves cal accepted (inr two) distance keeps =
    unspaced cal accepted 0 (2 * cal.times.weights.up) 1 (omega arith) (omega (arith, two)) distance keeps
    (λ first second from before one other less. absurd
    (let far = spaced cal accepted 0 (2 * cal.times.weights.up) 1 (omega arith) (omega (arith, two)) (2 * cal.times.period) (1 * (2 * cal.times.period))
    (omega arith) first second from before one other less in omega (arith, far, before)))

pub silent_misses_are_most : SilentMissesAreMost
unfolding silent_misses_of
silent_misses_are_most cal accepted most keeps = elim (cases_lt silent most) [
  | inl more ↦ absurd (too_many cal accepted 0 (2 * cal.times.weights.up) (silent + 1) (omega arith) enough most keeps (omega (arith, more)))
  | inr few ↦ few
]
  where
    silent : ℕ
    silent = (cal.times.weights.limit - 1) / (2 * cal.times.weights.up)

    enough : cal.times.weights.limit ≤ (silent + 1) * (2 * cal.times.weights.up)
    enough = law (cal.times.weights.limit) (2 * cal.times.weights.up) (let u = accepted.answers.0 in omega (arith, u))
      where
        law : (l d : ℕ) → 0 < d → l ≤ ((l - 1) / d + 1) * d
        law l d some = omega (arith, some)
