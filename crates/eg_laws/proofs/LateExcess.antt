-- An excess that is confirmed first right after a send tick, from whose next tick on path 1 is held closed: the stages stay
-- on for R - 1 ticks.
use Rattle.std.proofs.Common.{◌≡◌, ℕ, zero, suc, ◌+◌, ◌*◌, ◌^◌, ◌≤◌, ◌<◌, Bool, true, false, not, List, [], ◌∷◌, ◌++◌, All, length, refl, ap, ap₂, ◌∙◌, arith, length-append, append_assoc, replicate}
use Rattle.std.proofs.lemmas.List.{length-replicate}
use Rattle.std.proofs.lemmas.List.Elements.{All-append, All-replicate}
use Rattle.eg_num.specs.Arithmetic.{estimate}
use Rattle.eg_num.specs.Windows.{WeightParts, is_confirmed}
use Rattle.eg_answer.specs.Times.{feeds_to_confirm, reaction_of}
use Rattle.eg_values.specs.Calibration.{CalibrationParts, IsAccepted}
use Rattle.eg_fault.specs.Effects.{Effects, no_effects}
use Rattle.eg_fault.specs.Faults.{effects_of}
use Rattle.eg_fault.specs.Classes.{IsRegular}
use Rattle.eg_fault.specs.declared.class.Class.TheVariants.{Path1Closed}
use Rattle.eg_fault.specs.declared.class.Fault.{Fault}
use Rattle.eg_model.specs.History.{Setting, Entry, Tick, Moment}
use Rattle.eg_model.specs.Paths.{latch2, path1_at, path2_at, both_conduct}
use Rattle.eg_model.specs.Moments.{moments_of}
use Rattle.eg_model.specs.Premises.{IsProper, AreProper, Follows}
use Rattle.eg_laws.specs.LeastReaction.{CanExceed, GoesOn, ShowsWord, giving, exceeding, by_bits, closed_from}
use Rattle.eg_model.proofs.TickLemmas.{Each}
use Rattle.eg_model.proofs.Silence.{AreRegular, send_within}
use Rattle.eg_model.proofs.SharpCutLaw.{calm_until}
use Rattle.eg_laws.proofs.FewVerdicts.{NoneOpens, HasFew, few_of_calm, few_on, still_shut}
use Rattle.eg_laws.proofs.ExcessTicks.{follows_plain, follows_alike, ticks_shut, all_bits, all_plain, all_go_on, all_words, all_proper, proper_to, loaded_proper, size, period_positive, confirm_positive, reaction_is}

-- This may come in at the ticks that follow: it doesn't reset the unit, its loads are words, and it is proper while
-- the stages are on.
pub record MayFollow (s : Setting) (e : Entry) : Type 0 where
  pub goes_on : e.drive.reset ≡ false
  pub words : (e.shown.load_1 < 2 ^ 16) × (e.shown.load_2 < 2 ^ 16)
  pub proper : (x : Effects) (past : List Moment) → both_conduct x past ≡ true → IsProper s (both_conduct x past) e

-- The excess is confirmed first by a tick of excess that comes after the ticks of these bits, right after the send tick
-- of period p; and `onset` is the tick after it.
pub record IsLate (cal : CalibrationParts) (bits : List Bool) (p onset : ℕ) : Type 0 where
  pub quiet : is_confirmed cal.rules.torque bits ≡ false
  pub now : is_confirmed cal.rules.torque (true ∷ bits) ≡ true
  pub size : length bits ≡ p * cal.times.period + cal.times.send + 1
  pub next : onset ≡ length bits + 1

-- the excess may go on
pub loaded_may : (s : Setting) → IsAccepted s.cal → (can : CanExceed s.cal) →
    MayFollow s (giving can.drive can.load (estimate s.cal.rules.kt can.load))
loaded_may s accepted can = record {
  goes_on = can.goes_on;
  words = (can.is_word, can.is_word);
  proper = λ x past on. loaded_proper s accepted can x past on;
}

module _ (cal : CalibrationParts) (accepted : IsAccepted cal) (can : CanExceed cal) (bits : List Bool) (p onset : ℕ)
    (late : IsLate cal bits p onset) where
  abbrev s : Setting
  s = closed_from onset cal

  abbrev torque : WeightParts
  torque = cal.rules.torque

  abbrev last : Tick
  last = exceeding cal can.drive can.load

  -- the ticks up to the one by which it is confirmed
  abbrev until : List Tick
  until = by_bits cal can.drive can.load (true ∷ bits)

  abbrev before : List Tick
  before = by_bits cal can.drive can.load bits

  abbrev confirm : ℕ
  confirm = feeds_to_confirm cal.times.weights

  pub reaction_long : 2 ≤ reaction_of cal.times
  reaction_long = law (reaction_of cal.times) confirm cal.times.period cal.times.send (reaction_is s accepted can) (confirm_positive s accepted can)
      (send_within cal.times accepted.times) accepted.times.shortest
    where
      law : (r n period send : ℕ) → r + send + 1 ≡ (n + 1) * period → 0 < n → send < period → 2 ≤ period → 2 ≤ r
      law r zero period send is some within least = absurd (omega arith)
      law r (suc n) period send is some within least = grind arith

  size_until : length until ≡ onset
  size_until = size s accepted can (true ∷ bits) ∙ (let a = late.next in omega arith)

  -- up to the tick before that one each verdict was right
  few_before : HasFew s (p + 1) before
  few_before = few_of_calm s (p + 1) before
      (calm_until s accepted before (all_plain s accepted can bits) (all_proper s accepted can bits late.quiet)
      (ap (is_confirmed torque) (all_bits s accepted can bits).1 ∙ late.quiet))

  abbrev the_fault : Fault
  the_fault = record { onset = onset; class = Path1Closed }

  same_always : (k : ℕ) → effects_of Path1Closed k ≡ effects_of Path1Closed 0
  unfolding effects_of
  same_always k = refl

  -- ---- after it this comes in at each tick ----

  module _ (e : Entry) (may : MayFollow s e) where
    abbrev closed : Tick
    closed = record { effects = effects_of Path1Closed 0; entry = e }

    abbrev after : ℕ → List Tick
    after n = replicate n closed

    abbrev whole : ℕ → List Tick
    whole n = after n ++ until

    pub size_whole : (n : ℕ) → length (whole n) ≡ n + onset
    size_whole n = length-append (after n) until ∙ ap₂ (λ a b. a + b) (length-replicate n closed) size_until

    pub goes_on_after : (n : ℕ) → All GoesOn (whole n)
    goes_on_after n = All-append GoesOn (after n) until
        (All-replicate GoesOn n closed may.goes_on) (all_go_on s accepted can (true ∷ bits))

    pub words_after : (n : ℕ) → All ShowsWord (whole n)
    words_after n = All-append ShowsWord (after n) until
        (All-replicate ShowsWord n closed may.words) (all_words s accepted can (true ∷ bits))

    pub follows_on : (n : ℕ) → Follows s.fault 0 (whole n)
    follows_on n = follows_alike the_fault closed same_always n until (let a = size_until in omega arith)
        (follows_plain the_fault until (all_plain s accepted can (true ∷ bits)) (let a = size_until in omega arith))

    -- ---- the stages are still on ----

    regular_after : (n : ℕ) (y : Tick) → IsRegular y.effects → AreRegular (after n ++ y ∷ [])
    unfolding Each
    regular_after zero y usual = (usual, tt)
    regular_after (suc n) y usual = (unfold effects_of no_effects in record { sends = refl; judged = refl }, regular_after n y usual)

    none_opens : (n : ℕ) → NoneOpens (whole n)
    unfolding Each
    none_opens zero = ticks_shut s accepted can (true ∷ bits)
    none_opens (suc n) = (unfold effects_of no_effects in refl, none_opens n)

    -- few verdicts came by any tick after it
    few_after : (n : ℕ) → HasFew s (p + 1) (whole n)
    few_after n =
        let all = few_on s accepted.times (p + 1) (after n ++ last ∷ []) before
        (regular_after n last (unfold no_effects in record { sends = refl; judged = refl }))
        (let a = size s accepted can bits in let b = late.size in omega arith) few_before in
        rw append_assoc at all

    shut_after : (n : ℕ) → n + 2 ≤ reaction_of cal.times → latch2 (moments_of s (whole n)) ≡ false
    shut_after n early = still_shut s (period_positive s accepted can) (let a = accepted.answers.0 in omega arith)
        (let a = accepted.answers.3 in omega arith) (p + 1) (whole n) (few_after n) (none_opens n)
        (law (length (whole n)) n (reaction_of cal.times) p confirm cal.times.period cal.times.send (reaction_is s accepted can)
        (size_whole n ∙ ap (λ k. n + k) (late.next ∙ ap (λ k. k + 1) late.size)) early)
      where
        law : (l n r q c period send : ℕ) → r + send + 1 ≡ (c + 1) * period → l ≡ n + (q * period + send + 1 + 1) →
            n + 2 ≤ r → l < (q + 1 + c) * period
        law l n r q c period send is long early = grind arith

    pub on_after : (n : ℕ) → n + 2 ≤ reaction_of cal.times → both_conduct (effects_of Path1Closed 0) (moments_of s (whole n)) ≡ true
    unfolding both_conduct path1_at path2_at effects_of no_effects
    on_after n early = ap not (shut_after n early)

    pub after_proper : (n : ℕ) → n + 1 ≤ reaction_of cal.times → AreProper s (whole n)
    unfolding AreProper
    after_proper zero within = proper_to s accepted can true bits late.quiet
    after_proper (suc n) within = (may.proper (effects_of Path1Closed 0) _ (on_after n (omega arith)), after_proper n (omega arith))
