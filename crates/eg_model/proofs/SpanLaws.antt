-- The laws by the rows of a history in which the engine is driven, and that begins at any tick of a run.
use Rattle.std.proofs.Common.{◌≡◌, ◌∙◌, refl, sym, ap, subst, ℕ, zero, suc, ◌+◌, ◌-◌, ◌*◌, ◌≤◌, ◌<◌, Bool, true, false, not, List, [], ◌∷◌, ◌++◌, All, map, length, length-append, append_assoc, arith, inl, inr, Option, Some, None, nat_le, max}
use Rattle.std.proofs.lemmas.Bool.{cases_lt, lt-leb, le-leb}
use Rattle.eg_num.specs.Windows.{WeightParts, AreWeights, is_confirmed, first_index}
use Rattle.eg_answer.specs.Times.{TimeParts, AreTimes, feeds_to_confirm, reaction_of, lapse_periods}
use Rattle.eg_values.specs.Calibration.{IsAccepted}
use Rattle.eg_values.specs.Excess.{BoundsLapses}
use Rattle.eg_fault.specs.Effects.{no_effects}
use Rattle.eg_fault.specs.Faults.{IsNoneOrValid, IsListed}
use Rattle.eg_fault.specs.declared.class.Fault.{Fault}
use Rattle.eg_record.specs.declared.row.Row.{Row}
use Rattle.eg_record.specs.Excess.{true_excess, full_excess}
use Rattle.eg_model.specs.History.{Setting, Tick}
use Rattle.eg_model.specs.Moments.{moments_of}
use Rattle.eg_model.specs.Premises.{AreProper, Follows, is_on_after, true_excesses, full_excesses}
use Rattle.eg_model.specs.Reaction.{OffFrom, is_at_once, spoils_answers}
use Rattle.eg_model.specs.SharpCut.{ArePlain}
use Rattle.eg_model.specs.Lapses.{IsLapse, StretchesStayBelow}
use Rattle.eg_model.specs.Records.{ExceedLast, ReactWithin, RowsReactAtOnce, CutOneTickAfter, CutStandingExcess, ExcessIsBelow, CutFromOnset}
use Rattle.eg_model.proofs.Silence.{enough_weight}
use Rattle.eg_model.proofs.ReactionLaw.{reacts_in_time, reacts_at_once_law, cuts_from_onset}
use Rattle.eg_model.proofs.SharpCutLaw.{cuts_sharply}
use Rattle.eg_model.proofs.LapseLaw.{cuts_lapses}
use Rattle.eg_model.proofs.TickLemmas.{length-moments}
use Rattle.eg_model.proofs.SpanRows.{Between, between, EndOf, end_of, follows-end, proper-end, SpanRows, RowAfter, length-rows_after, row_on, row_tick, all_rows, Split, split, BitsOf, bits_after, true_unnumbered, full_unnumbered, confirmed_later, quiet_earlier, IsFirstAt, first_confirms, never_confirms, exceed}

-- the worst-case reaction is at least one tick
pub reaction_least : (times : TimeParts) → AreTimes times → AreWeights times.weights → 1 ≤ reaction_of times
unfolding reaction_of
reaction_least times are weights =
    least (feeds_to_confirm times.weights) times.period times.send times.weights.limit times.weights.up
    (enough_weight times.weights (let a = weights.0 in omega arith)) weights.3
    (let a = are.to_last in let b = are.inside in omega arith) are.shortest
  where
    least : (n p s l u : ℕ) → l ≤ n * u → 1 ≤ l → s < p → 2 ≤ p → 1 ≤ (n + 1) * p - s - 1
    least zero p s l u enough some inside h = absurd (omega arith)
    least (suc n) p s l u enough some inside h = let z = bigger n p in omega arith
      where
        bigger : (n p : ℕ) → 2 * p ≤ (suc n + 1) * p
        bigger n p = grind arith

plain-end : (newer h : List Tick) → ArePlain (newer ++ h) → ArePlain h
unfolding ArePlain
plain-end [] h plain = plain
plain-end (x ∷ newer) h plain = plain-end newer h plain.1

-- ---- a tick of a history, and an end of it ----

-- where h ends with the tick x after these, and with `rest`, which is no longer than these: so do these
ends_before : (newer : List Tick) (x : Tick) (before more rest h : List Tick) → h ≡ newer ++ x ∷ before → h ≡ more ++ rest →
    length rest ≤ length before → Between (newer ++ x ∷ []) before more rest
ends_before newer x before more rest h whole other l =
    between (newer ++ x ∷ []) before more rest (append_assoc newer (x ∷ []) before ∙ sym whole ∙ other) l

-- the sharp cut at the tick x after these
pub sharp_after : (s : Setting) (start : ℕ) → IsAccepted s.cal → (x : Tick) (before : List Tick) → x.effects ≡ no_effects →
    ArePlain before → AreProper s before → (RowAfter s start x before).on
    ≡ not (is_confirmed s.cal.rules.torque (BitsOf (full_excess s.cal.rules.kt s.cal.rules.threshold) s before))
sharp_after s start accepted x before none plain proper = row_on s start x before
    ∙ (unfold full_excesses in cuts_sharply s accepted before plain proper x none)

module _ (s : Setting) (start : ℕ) (h : List Tick) where
  -- the tick x after these is one of h
  follows_now : Follows s.fault start h → (newer : List Tick) (x : Tick) (before : List Tick) → h ≡ newer ++ x ∷ before →
      Follows s.fault start (x ∷ before)
  follows_now follows newer x before whole = follows-end s.fault start newer (x ∷ before) (subst (Follows s.fault start) whole follows)

  proper_before : AreProper s h → (newer : List Tick) (x : Tick) (before : List Tick) → h ≡ newer ++ x ∷ before → AreProper s before
  proper_before proper newer x before whole = proper-end s (x ∷ []) before
      (proper-end s newer (x ∷ before) (subst (AreProper s) whole proper))

  -- where the stages are off from `after` ticks after `rest` on, they are off at each such tick of h
  off_now : Follows s.fault start h → AreProper s h → (more rest : List Tick) → h ≡ more ++ rest → (after : ℕ) → 1 ≤ after →
      OffFrom s start rest after → (newer : List Tick) (x : Tick) (before : List Tick) → h ≡ newer ++ x ∷ before →
      length rest + after ≤ length before + 1 → (RowAfter s start x before).on ≡ false
  off_now follows proper more rest other after some off newer x before whole late = row_on s start x before
      ∙ subst (λ g. is_on_after s g x ≡ false) (sym cut.ends)
      (off cut.more x (subst (λ g. Follows s.fault start (x ∷ g)) cut.ends (follows_now follows newer x before whole))
      (subst (AreProper s) cut.ends (proper_before proper newer x before whole))
      (let sum = ap length cut.ends ∙ length-append cut.more rest in omega (arith, sum, late)))
    where
      cut : Between (newer ++ x ∷ []) before more rest
      cut = ends_before newer x before more rest h whole other (omega (arith, some, late))

  -- ---- the reaction ----

  abbrev TrueBit : Row → Bool
  TrueBit = true_excess s.cal.rules.threshold

  pub react_within : IsAccepted s.cal → IsListed s.fault → Follows s.fault start h → AreProper s h →
      ReactWithin (reaction_of s.cal.times) s.cal.rules.torque s.cal.rules.threshold start (SpanRows s start h)
  react_within accepted listed follows proper c first = all_rows Off s start h off
    where
      bound : ℕ
      bound = reaction_of s.cal.times

      Off : Row → Type 0
      Off row = start + c + bound ≤ row.tick → row.on ≡ false

      at : IsFirstAt s.cal.rules.torque TrueBit s h c
      at = first_confirms s.cal.rules.torque TrueBit s h c
          (subst (λ bits. first_index s.cal.rules.torque bits ≡ Some c)
          (bits_after TrueBit (true_unnumbered s.cal.rules.threshold) s start h) first)

      law : OffFrom s start (at.at ∷ at.before) bound
      law = reacts_in_time s accepted listed start (at.at ∷ at.before) (unfold true_excesses in at.confirmed)

      off : (newer : List Tick) (x : Tick) (before : List Tick) → h ≡ newer ++ x ∷ before → Off (RowAfter s start x before)
      off newer x before whole late = off_now follows proper at.more (at.at ∷ at.before) at.whole bound
          (reaction_least s.cal.times accepted.times accepted.answers) law newer x before whole
          (late_enough (length at.before) (length before) at.size (subst (λ n. start + c + bound ≤ n) (row_tick s start x before) late))
        where
          late_enough : (k n : ℕ) → k ≡ c → start + c + bound ≤ start + n → suc k + bound ≤ n + 1
          late_enough k n e l = omega (arith, e, l)

  -- a part of the rows after which the stages are off
  cut_part : Follows s.fault start h → AreProper s h → (later before : List Row) → SpanRows s start h ≡ later ++ before →
      ((more rest : List Tick) → h ≡ more ++ rest → before ≡ SpanRows s start rest → OffFrom s start rest 1) →
      All (λ row. row.on ≡ false) later
  cut_part follows proper later before e law = parts.off
      (λ newer x mid whole. sym (row_on s start x (mid ++ parts.rest))
      ∙ off_now follows proper parts.more parts.rest parts.whole 1 (omega arith)
      (law parts.more parts.rest parts.whole parts.rows_are) newer x (mid ++ parts.rest) whole
      (let sum = length-append mid parts.rest in omega (arith, sum)))
    where
      parts : Split s start h later before
      parts = split s start h later before e

  length-part : (before : List Row) (rest : List Tick) → before ≡ SpanRows s start rest → length before ≡ length rest
  length-part before rest are = ap length are ∙ length-rows_after start (moments_of s rest) ∙ length-moments s rest

  pub react_at_once : IsAccepted s.cal → IsListed s.fault → Follows s.fault start h → AreProper s h →
      RowsReactAtOnce s.fault s.cal.rules.torque s.cal.rules.threshold start (SpanRows s start h)
  react_at_once accepted listed follows proper later before e confirmed soon = cut_part follows proper later before e law
    where
      law : (more rest : List Tick) → h ≡ more ++ rest → before ≡ SpanRows s start rest → OffFrom s start rest 1
      law more rest whole are = reacts_at_once_law s accepted listed start rest
          (subst (λ n. is_at_once s.fault (start + n) ≡ true) (length-part before rest are) soon)
          (unfold true_excesses in subst (λ bits. is_confirmed s.cal.rules.torque bits ≡ true)
          (ap (map TrueBit) are ∙ bits_after TrueBit (true_unnumbered s.cal.rules.threshold) s start rest) confirmed)

  -- ---- lapses ----

  pub cut_lapses : IsAccepted s.cal → BoundsLapses s.cal → IsLapse s.fault → Follows s.fault start h →
      AreProper s h → CutStandingExcess s.cal start (SpanRows s start h)
  cut_lapses accepted bound lapse follows proper later before periods e size last = cut_part follows proper later before e law
    where
      law : (more rest : List Tick) → h ≡ more ++ rest → before ≡ SpanRows s start rest → OffFrom s start rest 1
      law more rest whole are = cuts_lapses s accepted bound lapse start periods rest (sym (length-part before rest are) ∙ size)
          (exceed s start (lapse_periods s.cal.rules.torque s.cal.times * s.cal.times.period) rest
          (subst (ExceedLast s.cal.rules.threshold (lapse_periods s.cal.rules.torque s.cal.times * s.cal.times.period)) are last))

  pub stays_below : (bound : ℕ) → StretchesStayBelow s.cal bound → IsLapse s.fault → Follows s.fault start h →
      AreProper s h → ExcessIsBelow s.cal.rules.threshold bound start (SpanRows s start h)
  stays_below bound stay lapse follows proper later before n e last =
      stay s refl lapse start parts.rest
      (follows-end s.fault start parts.more parts.rest (subst (Follows s.fault start) parts.whole follows))
      (proper-end s parts.more parts.rest (subst (AreProper s) parts.whole proper)) n
      (exceed s start n parts.rest (subst (ExceedLast s.cal.rules.threshold n) parts.rows_are last))
    where
      parts : Split s start h later before
      parts = split s start h later before e

  -- ---- whatever the torque ----

  pub onset_off : (fault : Fault) → s.fault ≡ Some fault → IsAccepted s.cal → IsNoneOrValid s.fault → spoils_answers fault.class ≡ true →
      Follows s.fault start h → (newer : List Tick) (x : Tick) (before : List Tick) → h ≡ newer ++ x ∷ before →
      max fault.onset start + reaction_of s.cal.times ≤ start + length before → is_on_after s before x ≡ false
  onset_off fault is accepted valid spoils follows newer x before whole late =
      subst (λ g. is_on_after s g x ≡ false) (sym cut.whole)
      (cuts_from_onset s fault accepted is (unfold IsNoneOrValid in subst IsNoneOrValid is valid) spoils start cut.rest cut.more x
      (let size = cut.size in omega (arith, size))
      (subst (λ g. Follows s.fault start (x ∷ g)) cut.whole (follows_now follows newer x before whole))
      (let size = cut.size in let sum = ap length cut.whole ∙ length-append cut.more cut.rest in omega (arith, size, sum, late)))
    where
      cut : EndOf before (max fault.onset start - start)
      cut = end_of before (max fault.onset start - start) (omega (arith, late))

  pub cut_from_onset : IsAccepted s.cal → IsNoneOrValid s.fault → Follows s.fault start h →
      CutFromOnset s.fault (reaction_of s.cal.times) start (SpanRows s start h)
  cut_from_onset accepted valid follows = go s.fault refl
    where
      bound : ℕ
      bound = reaction_of s.cal.times

      go : (f : Option Fault) → s.fault ≡ f → CutFromOnset f bound start (SpanRows s start h)
      go None is = tt
      go (Some fault) is = λ spoils. all_rows (λ row. max fault.onset start + bound ≤ row.tick → row.on ≡ false) s start h
          (λ newer x before whole late. row_on s start x before
          ∙ onset_off fault is accepted valid spoils follows newer x before whole
          (subst (λ n. max fault.onset start + bound ≤ n) (row_tick s start x before) late))

  -- ---- the sharp cut ----

  abbrev FullBit : Row → Bool
  FullBit = full_excess s.cal.rules.kt s.cal.rules.threshold

  pub cut_one_tick_after : IsAccepted s.cal → ArePlain h → AreProper s h →
      CutOneTickAfter s.cal.rules.torque s.cal.rules.kt s.cal.rules.threshold start (SpanRows s start h)
  cut_one_tick_after accepted plain proper = go (first_index w (map FullBit (SpanRows s start h))) refl
    where
      w : WeightParts
      w = s.cal.rules.torque

      bits_are : map FullBit (SpanRows s start h) ≡ BitsOf FullBit s h
      bits_are = bits_after FullBit (full_unnumbered s.cal.rules.kt s.cal.rules.threshold) s start h

      on_is : (newer : List Tick) (x : Tick) (before : List Tick) → h ≡ newer ++ x ∷ before →
          (RowAfter s start x before).on ≡ not (is_confirmed w (BitsOf FullBit s before))
      on_is newer x before whole = plain_now (plain-end newer (x ∷ before) (subst ArePlain whole plain))
        where
          plain_now : ArePlain (x ∷ before) → (RowAfter s start x before).on ≡ not (is_confirmed w (BitsOf FullBit s before))
          plain_now p = sharp_after s start accepted x before (unfold ArePlain in p.0.effects) (unfold ArePlain in p.1)
              (proper_before proper newer x before whole)

      never : first_index w (map FullBit (SpanRows s start h)) ≡ None →
          (newer : List Tick) (x : Tick) (before : List Tick) → h ≡ newer ++ x ∷ before → (RowAfter s start x before).on ≡ true
      never none newer x before whole = on_is newer x before whole
          ∙ ap not (never_confirms w FullBit s (newer ++ x ∷ []) before
          (subst (λ g. first_index w (BitsOf FullBit s g) ≡ None) (whole ∙ sym (append_assoc newer (x ∷ []) before))
          (subst (λ bits. first_index w bits ≡ None) bits_are none)))

      at_of : (c : ℕ) → first_index w (map FullBit (SpanRows s start h)) ≡ Some c → IsFirstAt w FullBit s h c
      at_of c first = first_confirms w FullBit s h c (subst (λ bits. first_index w bits ≡ Some c) bits_are first)

      sharp : (c : ℕ) → IsFirstAt w FullBit s h c → (newer : List Tick) (x : Tick) (before : List Tick) → h ≡ newer ++ x ∷ before →
          (RowAfter s start x before).on ≡ nat_le (RowAfter s start x before).tick (start + c)
      sharp c at newer x before whole = on_is newer x before whole ∙ elim (cases_lt c (length before)) [
        | inr up ↦ ap not (early up) ∙ sym (ap (λ n. nat_le n (start + c)) (row_tick s start x before)
            ∙ le-leb (start + length before) (start + c) (omega (arith, up)))
        | inl past ↦ ap not (late (omega arith)) ∙ sym (ap (λ n. nat_le n (start + c)) (row_tick s start x before)
            ∙ lt-leb (start + length before) (start + c) (omega (arith, past)))
      ]
        where
          early : length before ≤ c → is_confirmed w (BitsOf FullBit s before) ≡ false
          early up = quiet_earlier w FullBit s cut.more before (subst (λ g. is_confirmed w (BitsOf FullBit s g) ≡ false) cut.ends at.quiet)
            where
              cut : Between (at.more ++ at.at ∷ []) at.before (newer ++ x ∷ []) before
              cut = between (at.more ++ at.at ∷ []) at.before (newer ++ x ∷ []) before
                  (append_assoc at.more (at.at ∷ []) at.before ∙ sym at.whole ∙ whole ∙ sym (append_assoc newer (x ∷ []) before))
                  (let size = at.size in omega (arith, size, up))

          late : c + 1 ≤ length before → is_confirmed w (BitsOf FullBit s before) ≡ true
          late past = subst (λ g. is_confirmed w (BitsOf FullBit s g) ≡ true) (sym cut.ends)
              (confirmed_later w FullBit s cut.more (at.at ∷ at.before) at.confirmed)
            where
              cut : Between (newer ++ x ∷ []) before at.more (at.at ∷ at.before)
              cut = ends_before newer x before at.more (at.at ∷ at.before) h whole at.whole
                  (let size = at.size in omega (arith, size, past))

      go : (first : Option ℕ) → first_index w (map FullBit (SpanRows s start h)) ≡ first →
          CutOneTickAfter w s.cal.rules.kt s.cal.rules.threshold start (SpanRows s start h)
      go None e = rw e (all_rows (λ row. row.on ≡ true) s start h (never e))
      go (Some c) e = rw e (all_rows (λ row. row.on ≡ nat_le row.tick (start + c)) s start h (sharp c (at_of c e)))
