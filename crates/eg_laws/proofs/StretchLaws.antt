-- With no fault or a listed one no stretch of excess is longer than the excess takes to confirm, and the reaction: from some
-- ticks after the first by which it is confirmed there is none.
use Rattle.std.proofs.Common.{◌≡◌, ℕ, ◌+◌, ◌*◌, ◌-◌, ◌≤◌, ◌<◌, Bool, true, false, List, [], ◌∷◌, ◌++◌, length, take, drop, refl, sym, ap, ◌∙◌, subst, arith, inl, inr, length-append, append_assoc, Option, Some, None, is_some}
use Rattle.std.specs.List.{list_all}
use Rattle.std.specs.Option.{IfSome}
use Rattle.std.proofs.lemmas.Bool.{cases_lt, and_parts, true≢false, false≢true, false_from_ne_true}
use Rattle.std.proofs.lemmas.List.{take-append-drop, length-take}
use Rattle.std.proofs.lemmas.List.Folds.{list_all-append}
use Rattle.eg_num.specs.Windows.{WeightParts, AreWeights, is_confirmed, first_index}
use Rattle.eg_num.proofs.FirstIndexLemmas.{first_index_stays, first_index-append, first_index_within, is_some-first_index}
use Rattle.eg_answer.specs.Times.{feeds_to_confirm, reaction_of}
use Rattle.eg_values.specs.Calibration.{IsAccepted}
use Rattle.eg_fault.specs.Faults.{IsListed}
use Rattle.eg_fault.specs.declared.class.Fault.{Fault}
use Rattle.eg_record.specs.declared.row.Row.{Row}
use Rattle.eg_record.specs.Excess.{true_excess}
use Rattle.eg_model.specs.History.{Setting, Tick}
use Rattle.eg_model.specs.Moments.{moment, moments_of}
use Rattle.eg_model.specs.Rows.{row_of, rows_of}
use Rattle.eg_model.specs.Premises.{AreProper, Follows, is_on_after, true_excesses, IsExcessConfirmed}
use Rattle.eg_model.specs.Reaction.{OffFrom, is_at_once}
use Rattle.eg_values.specs.Excess.{ticks_to_confirm, longest_stretch}
use Rattle.eg_laws.specs.Stretches.{IsStretch, IsAtOnceWhenConfirmed, StretchesEnd, StretchesEndAtOnce}
use Rattle.eg_model.proofs.Silence.{TrueRun, run_confirms}
use Rattle.eg_model.proofs.LapseWeights.{rounded_up}
use Rattle.eg_model.proofs.LapseLaw.{off_no_excess}
use Rattle.eg_model.proofs.SpanRows.{EndOf, end_of, IsFirstAt, first_confirms, never_confirms}
use Rattle.eg_model.proofs.ReactionLaw.{reacts_in_time, reacts_at_once_law}
use Rattle.eg_model.proofs.SpanLaws.{reaction_least}
use Rattle.eg_laws.proofs.ExcessTicks.{length-true_excesses}
use Rattle.eg_laws.proofs.FewVerdicts.{quotient_positive}

-- ---- bits ----

-- none of these is bad from `after` feeds after the first on at which the limit is reached
unfoldable pub Ends : WeightParts → (after : ℕ) → List Bool → Type 0
Ends w after [] = Unit {0}
Ends w after (b ∷ before) = ((c : ℕ) → first_index w before ≡ Some c → c + after ≤ length before → b ≡ false) × Ends w after before

true_run : (bits before : List Bool) → list_all (λ b. b) bits ≡ true → TrueRun (length bits) (bits ++ before)
unfolding TrueRun
true_run [] before all = tt
true_run (b ∷ bits) before all = ((and_parts _ _ all).0, true_run bits before (and_parts _ _ all).1)

module _ (w : WeightParts) (are : AreWeights w) where
  abbrev many : ℕ
  many = feeds_to_confirm w

  pub some : 0 < many
  some = unfold feeds_to_confirm in quotient_positive w.limit w.up (omega (arith, are.3)) (omega (arith, are.0))

  -- so many bad ones in a row reach the limit
  confirmed_by : (last before : List Bool) → length last ≡ many → list_all (λ b. b) last ≡ true → is_confirmed w (last ++ before) ≡ true
  confirmed_by last before size all = run_confirms w (length last) (last ++ before) (omega (arith, are.3))
      (subst (λ n. w.limit ≤ n * w.up) (sym size) (unfold feeds_to_confirm in rounded_up w.limit w.up (omega (arith, are.0))))
      (true_run last before all)

  -- so bad ones in a row are no more than these and `after`, less one
  pub ends : (after : ℕ) (stretch before : List Bool) → 1 ≤ after → Ends w after (stretch ++ before) →
      list_all (λ b. b) stretch ≡ true → length stretch ≤ many - 1 + after
  unfolding Ends
  ends after [] before least law all = omega arith
  ends after (b ∷ rest) before least law all = elim (cases_lt (length rest) (many - 1 + after)) [
    | inl short ↦ omega (arith, short)
    | inr long ↦ absurd (too_long long)
  ]
    where
      too_long : many - 1 + after ≤ length rest → ⊥
      too_long long = go (first_index w (cut.rest ++ before)) refl
        where
          cut : EndOf rest many
          cut = end_of rest many (let a = some in omega (arith, long, least, a))

          reached : is_confirmed w (cut.rest ++ before) ≡ true
          reached = confirmed_by cut.rest before cut.size
              (and_parts (list_all (λ b. b) cut.more) (list_all (λ b. b) cut.rest) (sym (list_all-append (λ b. b) cut.more cut.rest)
              ∙ ap (list_all (λ b. b)) (sym cut.whole) ∙ (and_parts b (list_all (λ b. b) rest) all).1)).1

          go : (first : Option ℕ) → first_index w (cut.rest ++ before) ≡ first → ⊥
          go None none = false≢true (sym (ap is_some none) ∙ is_some-first_index w (cut.rest ++ before) ∙ reached)
          go (Some c) first = true≢false (sym (and_parts _ _ all).0 ∙ law.0 c
              (ap (λ l. first_index w (l ++ before)) cut.whole ∙ ap (first_index w) (append_assoc cut.more cut.rest before)
              ∙ first_index-append w cut.more (cut.rest ++ before) c first)
              (omega (
                arith,
                first_index_within w (cut.rest ++ before) c first,
                length-append cut.rest before,
                length-append rest before,
                cut.size,
                some,
                long,
              )))

-- ---- ticks ----

-- where the reaction is always at once, it is when the excess is confirmed
pub at_once_always : (fault : Option Fault) → ((tick : ℕ) → is_at_once fault tick ≡ true) → (weights : WeightParts) (start : ℕ)
    (excesses : List Bool) → IsAtOnceWhenConfirmed fault weights start excesses
at_once_always fault always weights start excesses = go (first_index weights excesses)
  where
    go : (first : Option ℕ) → IfSome first (λ c. is_at_once fault (start + c + 1) ≡ true)
    go None = tt
    go (Some c) = always (start + c + 1)

module _ (s : Setting) (accepted : IsAccepted s.cal) where
  -- where the reaction is at once when the excess is first confirmed, it is at once after each tick by which it is
  first_stays : (front h : List Tick) (c : ℕ) → first_index s.cal.rules.torque (true_excesses s h) ≡ Some c →
      first_index s.cal.rules.torque (true_excesses s (front ++ h)) ≡ Some c
  unfolding true_excesses moments_of rows_of
  first_stays [] h c first = first
  first_stays (x ∷ front) h c first = first_index_stays s.cal.rules.torque _ _ c (first_stays front h c first)

  pub off_at_once : IsListed s.fault → (start : ℕ) (front h : List Tick) →
      IsAtOnceWhenConfirmed s.fault s.cal.rules.torque start (true_excesses s (front ++ h)) → IsExcessConfirmed s h →
      OffFrom s start h 1
  unfolding true_excesses
  off_at_once listed start front h soon confirmed more x follows proper late =
      go (first_index s.cal.rules.torque (true_excesses s h)) refl
    where
      go : (first : Option ℕ) → first_index s.cal.rules.torque (true_excesses s h) ≡ first → is_on_after s (more ++ h) x ≡ false
      go None none = absurd (true≢false (sym confirmed ∙ never_confirms s.cal.rules.torque (true_excess s.cal.rules.threshold) s [] h none))
      go (Some c) first = subst (λ k. is_on_after s k x ≡ false) (sym whole)
          (reacts_at_once_law s accepted listed start (at.at ∷ at.before)
          (subst (λ n. is_at_once s.fault n ≡ true) (let size = at.size in omega (arith, size))
          (subst (λ o. IfSome o (λ n. is_at_once s.fault (start + n + 1) ≡ true)) (first_stays front h c first) soon))
          at.confirmed (more ++ at.more) x (subst (λ k. Follows s.fault start (x ∷ k)) whole follows)
          (subst (AreProper s) whole proper) (omega arith))
        where
          at : IsFirstAt s.cal.rules.torque (true_excess s.cal.rules.threshold) s h c
          at = first_confirms s.cal.rules.torque (true_excess s.cal.rules.threshold) s h c first

          whole : more ++ h ≡ (more ++ at.more) ++ at.at ∷ at.before
          whole = ap (λ k. more ++ k) at.whole ∙ sym (append_assoc more at.more (at.at ∷ at.before))

module _ (s : Setting) (start : ℕ) where
  abbrev w : WeightParts
  w = s.cal.rules.torque

  abbrev bit : Row → Bool
  bit = true_excess s.cal.rules.threshold

  -- the stages are off from `after` ticks after each tick of a history by which the excess is confirmed
  abbrev pub OffAfter : (after : ℕ) → List Tick → Type 0
  OffAfter after h = (front g : List Tick) → h ≡ front ++ g → IsExcessConfirmed s g → OffFrom s start g after

  -- so at the tick x after it there is no excess
  none_late : (after c : ℕ) (x : Tick) (h : List Tick) → Follows s.fault start (x ∷ h) → AreProper s (x ∷ h) → OffAfter after h →
      first_index w (true_excesses s h) ≡ Some c → c + after ≤ length h →
      (true_excess s.cal.rules.threshold (row_of (length (moments_of s h)) (moment s x.effects x.entry (moments_of s h)))) ≡ true → ⊥
  unfolding AreProper true_excesses row_of true_excess is_on_after
  none_late after c x h follows proper law first late excess = off_no_excess s x (moments_of s h) proper.0 off excess
    where
      at : IsFirstAt w bit s h c
      at = first_confirms w bit s h c first

      off : (moment s x.effects x.entry (moments_of s h)).on ≡ false
      off = subst (λ k. is_on_after s k x ≡ false) (sym at.whole)
          (law at.more (at.at ∷ at.before) at.whole at.confirmed at.more x
          (subst (λ k. Follows s.fault start (x ∷ k)) at.whole follows) (subst (AreProper s) at.whole proper.1)
          (let size = at.size in let sum = ap length at.whole in let long = length-append at.more (at.at ∷ at.before) in
          omega (arith, late, size, sum, long)))

  pub ends_ticks : (after : ℕ) (h : List Tick) → Follows s.fault start h → AreProper s h → OffAfter after h →
      Ends w after (true_excesses s h)
  unfolding Ends Follows AreProper true_excesses moments_of rows_of
  ends_ticks after [] follows proper law = tt
  ends_ticks after (x ∷ h) follows proper law = (
    λ c first late. false_from_ne_true _ (none_late after c x h follows proper (λ front g e. law (x ∷ front) g (ap (λ k. x ∷ k) e)) first
        (let size = length-true_excesses s h in omega (arith, late, size))),
    ends_ticks after h follows.1 proper.1 (λ front g e. law (x ∷ front) g (ap (λ k. x ∷ k) e)),
  )

-- a stretch of ticks is one of their bits
stretch_ends : (s : Setting) → IsAccepted s.cal → (start after : ℕ) (stretch before : List Tick) → 1 ≤ after →
    IsStretch s start stretch before → OffAfter s start after (stretch ++ before) →
    length stretch ≤ feeds_to_confirm s.cal.rules.torque - 1 + after
stretch_ends s accepted start after stretch before least is law =
    let short = ends s.cal.rules.torque accepted.torque after (take n bits) (drop n bits) least
    (subst (Ends s.cal.rules.torque after) (sym (take-append-drop n bits)) (ends_ticks s start after (stretch ++ before) is.follows is.proper law))
    is.exceeds.each in
    let within = is.exceeds.within in
    let size = length-true_excesses s (stretch ++ before) in
    let whole = length-take n bits in
    omega (arith, short, within, size, whole)
  where
    n : ℕ
    n = length stretch

    bits : List Bool
    bits = true_excesses s (stretch ++ before)

pub stretches_end : StretchesEnd
unfolding longest_stretch ticks_to_confirm
stretches_end cal accepted s is listed start stretch before whole = subst (λ c. length stretch ≤ longest_stretch c) is
    (let mine = subst IsAccepted (sym is) accepted in
    stretch_ends s mine start (reaction_of s.cal.times) stretch before (reaction_least s.cal.times mine.times mine.answers) whole
    (λ front g e confirmed. reacts_in_time s mine listed start g confirmed))

pub stretches_end_at_once : StretchesEndAtOnce
unfolding ticks_to_confirm
stretches_end_at_once cal accepted s is listed start stretch before soon whole = subst (λ c. length stretch ≤ ticks_to_confirm c) is
    (let mine = subst IsAccepted (sym is) accepted in
    let short = stretch_ends s mine start 1 stretch before (omega arith) whole
    (λ front g e confirmed. off_at_once s mine listed start front g
    (subst (λ k. IsAtOnceWhenConfirmed s.fault s.cal.rules.torque start (true_excesses s k)) e
    (subst (λ c. IsAtOnceWhenConfirmed s.fault c.rules.torque start (true_excesses s (stretch ++ before))) (sym is) soon)) confirmed) in
    let a = some s.cal.rules.torque mine.torque in
    omega (arith, short, a))
