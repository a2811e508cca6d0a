-- A send tick that is moved within the window can stay hidden: in each period one answer comes, and it is right.
use Rattle.std.proofs.Common.{◌≡◌, ◌∙◌, refl, sym, ap, ap₂, subst, ℕ, zero, suc, ◌+◌, ◌-◌, ◌*◌, ◌/◌, ◌%◌, ◌≤◌, ◌<◌, Bool, true, false, List, [], ◌∷◌, map, take, length, arith, inl, inr, ◌⊎◌, Option, Some, None, min, max, nat_le}
use Rattle.std.specs.Prelude.{if◌then◌else◌, ◌==◌, All}
use Rattle.std.proofs.Math.Nat.{mod-lt, mul-le-mul}
use Rattle.std.proofs.lemmas.Bool.{or_from, and_left, eqb-true, eqb-false, cases_Bool, cases_lt, le-ltb, lt-ltb, le-leb, lt-leb, leb-true, leb-false, ne_eqb}
use Rattle.eg_num.specs.Windows.{WeightParts, is_confirmed, greatest}
use Rattle.eg_num.proofs.CounterLemmas.{greatest-nil, greatest-bad, greatest-good, is_reached-greatest}
use Rattle.eg_plant.specs.declared.engine_kind.EngineKind.{EngineKind}
use Rattle.eg_answer.specs.Times.{TimeParts, AreTimes}
use Rattle.eg_answer.specs.Modules.{modules_before_react, modules}
use Rattle.eg_answer.specs.Periods.{place_of, is_send_tick, is_in_window, verdict_of, is_wrong}
use Rattle.eg_answer.specs.declared.marks.AnswerMark.{AnswerMark}
use Rattle.eg_answer.specs.declared.marks.AnswerMark.TheVariants.{Absent, Good}
use Rattle.eg_answer.specs.declared.marks.Verdict.{Verdict}
use Rattle.eg_answer.specs.declared.marks.Verdict.TheVariants.{Right, Wrong}
use Rattle.eg_values.specs.Calibration.{IsAccepted}
use Rattle.eg_fault.specs.Effects.{no_effects, sends_in, sends_at}
use Rattle.eg_fault.specs.Faults.{effects_of, effects}
use Rattle.eg_fault.specs.Running.{may_change_levels}
use Rattle.eg_fault.specs.declared.class.Class.TheVariants.{Timing}
use Rattle.eg_fault.specs.declared.class.Fault.{Fault}
use Rattle.eg_fault.proofs.ActingLemmas.{of_class, before_onset, from_onset}
use Rattle.eg_model.specs.History.{Setting, Entry, Tick, Moment}
use Rattle.eg_model.specs.Signals.{tripped}
use Rattle.eg_model.specs.Answers.{is_whole, is_undisturbed, whole_since_answer, is_sent, is_good, mark_at, with_answer, answers_in, verdict_at, verdicts_in, confirms_at}
use Rattle.eg_model.specs.Moments.{moment, moments_of}
use Rattle.eg_model.specs.Spans.{ticks}
use Rattle.eg_model.specs.Engines.{bench_of}
use Rattle.eg_model.specs.Bench.{entries_to}
use Rattle.eg_model.specs.Premises.{Follows}
use Rattle.eg_laws.specs.Latent.{KeepsOneAnswer, MovesInWindowHide}
use Rattle.eg_laws.specs.SharpUnder.{leaves_readings}
use Rattle.eg_model.proofs.PeriodLemmas.{quotient, period_closes}
use Rattle.eg_model.proofs.TickLemmas.{Each, length-moments, fields}
use Rattle.eg_model.proofs.Silence.{wrongs, with_wrong, wrongs-cons, period_least, verdict_none, verdict_some}
use Rattle.eg_model.proofs.SharpCutLaw.{AllGood, usual_mark, right_answer, one_answer, sent_now, right_alone, mark_plain, whole_plain, whole-cons, IsNotWrong, right_bits, none_first}
use Rattle.eg_laws.proofs.SharpUnderLaws.{ActAlike, act_class, act_plain}
use Rattle.eg_laws.proofs.SilentVerdicts.{found_now}
use Rattle.eg_laws.proofs.LatentTicks.{GivesNothing, GiveNothing, still_after, unfound_after}
use Rattle.eg_laws.proofs.LatentRuns.{Comes, still_run, follow_ticks, each_tick, come_to, AnswersUnfound, hidden_run}
use Rattle.eg_laws.proofs.LatentLaws.{loud, loud_within, gives_alike}

-- ---- answers that come at a place of their period which depends on the period ----

-- in the periods of P each answer that was sent is good, and stands at the place of its period
unfoldable pub AreMoved : (ℕ → Type 0) → Setting → (ℕ → ℕ) → List Tick → Type 0
AreMoved P s c [] = Unit {0}
AreMoved P s c (x ∷ h) = (P (length h / s.cal.times.period) → (moment s x.effects x.entry (moments_of s h)).mark
    ≡ usual_mark (record s.cal.times { send = c (length h / s.cal.times.period) }) (length h)) × AreMoved P s c h

-- without a wrong verdict nothing is confirmed
no_wrong : (times : TimeParts) (v : Option Verdict) (past : List Moment) → 0 < times.weights.limit → IsNotWrong v →
    AllGood (wrongs past) → confirms_at times v past ≡ false
unfolding confirms_at AllGood wrongs is_wrong
no_wrong times v past l (inl e) none = rw e refl
no_wrong times v past l (inr e) none = rw e (none_first times.weights (false ∷ map is_wrong (verdicts_in past)) l (refl, none))

last_of_period : (period t : ℕ) → 0 < period → (t + 1) % period ≡ 0 → t ≡ (t / period) * period + (period - 1)
last_of_period period t h ends = go ((t + 1) / period) (t / period) (period_closes period t h ends) (omega arith)
  where
    go : (q p : ℕ) → q ≡ p + 1 → q * period ≡ t + 1 → t ≡ p * period + (period - 1)
    go q p f e = let g : (p + 1) * period ≡ t + 1 = ap (λ k. k * period) (sym f) ∙ e in omega arith

module _ (P : ℕ → Type 0) (s : Setting) (accepted : IsAccepted s.cal) (c : ℕ → ℕ)
    (window : (p : ℕ) → (s.cal.times.first ≤ c p) × (c p ≤ s.cal.times.last)) where
  abbrev times : TimeParts
  times = s.cal.times

  -- the times with the send tick of a period
  abbrev moved : ℕ → TimeParts
  moved p = record times { send = c p }

  are : (p : ℕ) → AreTimes (moved p)
  are p = record {
    shortest = accepted.times.shortest;
    longest = accepted.times.longest;
    from_first = (window p).0;
    to_last = (window p).1;
    inside = accepted.times.inside;
  }

  some : 0 < times.period
  some = period_least times accepted.times

  answers_are : (h : List Tick) → AreMoved P s c h → (p n : ℕ) → P p → length h ≡ p * times.period + n → n ≤ times.period →
      answers_in (take n (moments_of s h)) ≡ one_answer (moved p) p n
  unfolding moments_of answers_in AreMoved
  answers_are h sent p zero good at room = rw (le-ltb (c p) 0 (omega arith)) refl
  answers_are [] sent p (suc n) good at room = absurd (omega arith)
  answers_are (x ∷ h) sent p (suc n) good at room =
      ap₂ (λ t others. with_answer t (moment s x.effects x.entry (moments_of s h)).mark others)
      ((fields s x.effects x.entry (moments_of s h)).tick ∙ length-moments s h)
      (answers_are h sent.1 p n good (omega (arith, at)) (omega (arith, room)))
      ∙ ap (λ mark. with_answer (length h) mark (one_answer (moved p) p n))
      (sent.0 (subst P (sym place) good) ∙ ap (λ q. usual_mark (moved q) (length h)) place)
      ∙ sent_now (moved p) p n (length h) (omega (arith, room)) (omega (arith, at))
    where
      place : length h / times.period ≡ p
      place = quotient times.period p n (length h) (omega (arith, room)) (omega (arith, at))

  -- the answers of such a period that ends
  right_ones : (x : Tick) (h : List Tick) → AreMoved P s c (x ∷ h) → P (length h / times.period) →
      (length h + 1) % times.period ≡ 0 →
      with_answer (length (moments_of s h)) (moment s x.effects x.entry (moments_of s h)).mark
      (answers_in (take (times.period - 1) (moments_of s h)))
      ≡ right_answer (moved (length h / times.period)) (length h / times.period) ∷ []
  unfolding AreMoved
  right_ones x h sent good ends =
      let p = length h / times.period in
      let at : length h ≡ p * times.period + (times.period - 1) = last_of_period times.period (length h) some ends in
      let room : times.period - 1 < times.period = omega (arith, some) in
      let high : c p < suc (times.period - 1) =
      let l = (window p).1 in let i = accepted.times.inside in omega (arith, l, i, some) in
      ap₂ (λ t others. with_answer t (moment s x.effects x.entry (moments_of s h)).mark others) (length-moments s h)
      (answers_are h sent.1 p (times.period - 1) good at (omega (arith, some)))
      ∙ ap (λ mark. with_answer (length h) mark (one_answer (moved p) p (times.period - 1))) (sent.0 good)
      ∙ sent_now (moved p) p (times.period - 1) (length h) room at
      ∙ rw (lt-ltb (c p) (suc (times.period - 1)) high) refl

  is_right : (p : ℕ) → verdict_of times (right_answer (moved p) p ∷ []) ≡ Right
  unfolding verdict_of is_in_window place_of
  is_right p = right_alone (moved p) p (are p)

  not_wrong : (x : Tick) (h : List Tick) → x.effects.wild ≡ None → AreMoved P s c (x ∷ h) → P (length h / times.period) →
      IsNotWrong (moment s x.effects x.entry (moments_of s h)).verdict
  not_wrong x h judged sent good = subst IsNotWrong (sym (fields s x.effects x.entry past).verdict)
      (go ((length h + 1) % times.period) refl)
    where
      past : List Moment
      past = moments_of s h

      mark : AnswerMark
      mark = (moment s x.effects x.entry past).mark

      place : (n : ℕ) → (length h + 1) % times.period ≡ n → (length past + 1) % times.period ≡ n
      place n e = ap (λ k. (k + 1) % times.period) (length-moments s h) ∙ e

      go : (n : ℕ) → (length h + 1) % times.period ≡ n → IsNotWrong (verdict_at times x.effects mark past)
      go zero ends = inr (verdict_some times accepted.times x.effects mark past judged (place 0 ends)
          ∙ ap (λ these. Some (verdict_of times these)) (right_ones x h sent good ends)
          ∙ ap Some (is_right (length h / times.period)))
      go (suc n) inside = inl (verdict_none times accepted.times x.effects mark past
          (let e = place (suc n) inside in omega (arith, e)))

  -- so no wrong answers are found where this is so of each period
  all_right : (h : List Tick) → AreMoved P s c h → Each (λ x. x.effects.wild ≡ None) h → ((p : ℕ) → P p) →
      AllGood (wrongs (moments_of s h))
  unfolding moments_of
  all_right [] sent judged each = unfold wrongs verdicts_in AllGood in tt
  all_right (x ∷ h) sent judged each = subst AllGood
      (sym (wrongs-cons (moment s x.effects x.entry (moments_of s h)) (moments_of s h)))
      (right_bits _ _ (not_wrong x h (unfold Each in judged.0) sent (each (length h / times.period)))
      (all_right h (unfold AreMoved in sent.1) (unfold Each in judged.1) each))

  pub none_found : (h : List Tick) → AreMoved P s c h → Each (λ x. x.effects.wild ≡ None) h → ((p : ℕ) → P p) → AnswersUnfound s h
  unfolding AnswersUnfound Each AreMoved
  none_found [] sent judged each = tt
  none_found (x ∷ h) sent judged each = (
    (fields s x.effects x.entry (moments_of s h)).answers ∙ (fields s x.effects x.entry (moments_of s h)).confirms
        ∙ no_wrong times _ (moments_of s h) (let l = accepted.answers.3 in omega (arith, l))
        (not_wrong x h judged.0 sent (each (length h / times.period))) (all_right h sent.1 judged.1 each),
    none_found h sent.1 judged.1 each,
  )

-- ---- where one verdict at most is wrong ----

-- a verdict adds what a bad feed adds at the most, and nothing if it isn't wrong
adds_at_most : (w : WeightParts) (v : Option Verdict) (bits : List Bool) → greatest w (with_wrong v bits) ≤ greatest w bits + w.up
unfolding with_wrong is_wrong
adds_at_most w None bits = omega arith
adds_at_most w (Some Right) bits = let good = greatest-good w bits in omega (arith, good)
adds_at_most w (Some Wrong) bits = let bad = greatest-bad w bits in omega (arith, bad)

adds_nothing : (w : WeightParts) (v : Option Verdict) (bits : List Bool) → IsNotWrong v →
    greatest w (with_wrong v bits) ≤ greatest w bits
unfolding with_wrong is_wrong
adds_nothing w v bits (inl none) = rw none (omega arith)
adds_nothing w v bits (inr right) = rw right (let good = greatest-good w bits in omega (arith, good))

still_few : (w : WeightParts) (v : Option Verdict) (bits : List Bool) → w.up < w.limit → is_confirmed w bits ≡ false →
    greatest w (with_wrong v bits) ≤ w.up → is_confirmed w (with_wrong v bits) ≡ false
unfolding with_wrong is_confirmed
still_few w None bits few before low = before
still_few w (Some v) bits few before low = or_from _ _
    (is_reached-greatest w (is_wrong v ∷ bits) (omega (arith, few)) ∙ lt-leb w.limit _ (omega (arith, few, low))) before

module _ (s : Setting) (accepted : IsAccepted s.cal) (c : ℕ → ℕ)
    (window : (p : ℕ) → (s.cal.times.first ≤ c p) × (c p ≤ s.cal.times.last)) (bad : ℕ)
    (few : s.cal.times.weights.up < s.cal.times.weights.limit) where
  abbrev w : WeightParts
  w = s.cal.times.weights

  abbrev period : ℕ
  period = s.cal.times.period

  abbrev Other : ℕ → Type 0
  Other q = q ≡ bad → ⊥

  -- what the verdicts weigh at the most: nothing until the one period has ended
  record Few (h : List Tick) : Type 0 where
    pub confirmed : is_confirmed w (wrongs (moments_of s h)) ≡ false
    pub before : length h < (bad + 1) * period → greatest w (wrongs (moments_of s h)) ≤ 0
    pub most : greatest w (wrongs (moments_of s h)) ≤ w.up

  few_more : (x : Tick) (h : List Tick) → AreMoved Other s c (x ∷ h) → x.effects.wild ≡ None → Few h → Few (x ∷ h)
  few_more x h sent judged rest = elim (cases_Bool (q == bad)) [
    | inl is ↦ known (in_it (eqb-true q bad is)) (before_it (eqb-true q bad is))
    | inr other ↦ (let goes = adds_nothing w v bits (right (eqb-false q bad other)) in let low = rest.most in
        known (omega (arith, goes, low)) (λ l. let none = rest.before (omega (arith, l)) in omega (arith, goes, none)))
  ]
    where
      past : List Moment
      past = moments_of s h

      v : Option Verdict
      v = (moment s x.effects x.entry past).verdict

      bits : List Bool
      bits = wrongs past

      q : ℕ
      q = length h / period

      some : 0 < period
      some = period_least s.cal.times accepted.times

      known : greatest w (with_wrong v bits) ≤ w.up → (suc (length h) < (bad + 1) * period → greatest w (with_wrong v bits) ≤ 0) →
          Few (x ∷ h)
      known most before = record {
        confirmed = subst (λ these. is_confirmed w these ≡ false) (sym are) (still_few w v bits few rest.confirmed most);
        before = λ l. subst (λ these. greatest w these ≤ 0) (sym are) (before l);
        most = subst (λ these. greatest w these ≤ w.up) (sym are) most;
      }
        where
          are : wrongs (moments_of s (x ∷ h)) ≡ with_wrong v bits
          are = unfold moments_of in wrongs-cons (moment s x.effects x.entry past) past

      right : Other q → IsNotWrong v
      right other = not_wrong Other s accepted c window x h judged sent other

      -- in that period nothing has been wrong before
      early : q ≡ bad → greatest w bits ≤ 0
      early is = rest.before (let parts : length h ≡ q * period + length h % period = omega arith in
          let room = mod-lt (length h) some in let same = ap (λ n. (n + 1) * period) is in omega (arith, parts, room, same))

      in_it : q ≡ bad → greatest w (with_wrong v bits) ≤ w.up
      in_it is = let more = adds_at_most w v bits in let none = early is in omega (arith, more, none)

      -- and a verdict comes at its end alone
      before_it : q ≡ bad → suc (length h) < (bad + 1) * period → greatest w (with_wrong v bits) ≤ 0
      before_it is l = go ((length h + 1) % period) refl
        where
          go : (n : ℕ) → (length h + 1) % period ≡ n → greatest w (with_wrong v bits) ≤ 0
          go zero ends = absurd (let at = last_of_period period (length h) some ends in
              let same = ap (λ n. (n + 1) * period) is in omega (arith, at, same, l, some))
          go (suc n) inside = let goes = adds_nothing w v bits (inl ((fields s x.effects x.entry past).verdict
              ∙ verdict_none s.cal.times accepted.times x.effects _ past (let size = length-moments s h in
              let place = ap (λ k. (k + 1) % period) size in omega (arith, place, inside)))) in
              let none = early is in omega (arith, goes, none)

  few_after : (h : List Tick) → AreMoved Other s c h → Each (λ x. x.effects.wild ≡ None) h → Few h
  unfolding Each AreMoved
  few_after [] sent judged = record {
    confirmed = unfold moments_of wrongs verdicts_in is_confirmed in refl;
    before = λ l. unfold moments_of wrongs verdicts_in in nothing;
    most = unfold moments_of wrongs verdicts_in in omega (arith, nothing);
  }
    where
      nothing : greatest w [] ≤ 0
      nothing = let none = greatest-nil w in omega (arith, none)
  few_after (x ∷ h) sent judged = few_more x h sent judged.0 (few_after h sent.1 judged.1)

  pub few_found : (h : List Tick) → AreMoved Other s c h → Each (λ x. x.effects.wild ≡ None) h → AnswersUnfound s h
  unfolding AnswersUnfound Each AreMoved
  few_found [] sent judged = tt
  few_found (x ∷ h) sent judged = (
    found_now s x h ∙ and_left _ _ (few_after (x ∷ h) sent judged).confirmed,
    few_found h sent.1 judged.1,
  )

-- ---- where the send tick is moved ----

-- the place of a period: from period k on the moved one
abbrev place_in : (usual offset k : ℕ) → ℕ → ℕ
place_in usual offset k p = if nat_le k p then offset else usual

-- a tick comes at the place of its period exactly if it is the usual one before the move, and the moved one from it on
module _ (period usual offset onset : ℕ) (some : 0 < period) (t : ℕ) where
  abbrev Q : ℕ
  Q = onset / period

  abbrev q : ℕ
  q = t / period

  parts : (n : ℕ) → n ≡ (n / period) * period + n % period
  parts n = omega arith

  more : (m n : ℕ) → m ≤ n → m * period ≤ n * period
  more m n l = let one : period ≤ period = omega arith in mul-le-mul l one

  both_miss : (t % period ≡ usual → ⊥) → (t % period ≡ offset → ⊥) → (t % period == offset) ≡ (t % period == usual)
  both_miss u o = ne_eqb (t % period) offset o ∙ sym (ne_eqb (t % period) usual u)

  choice : (k : ℕ) → (k ≤ q → t < onset → (t % period == offset) ≡ (t % period == usual)) →
      (q < k → onset ≤ t → (t % period == usual) ≡ (t % period == offset)) →
      (t % period == place_in usual offset k q) ≡ (if nat_le onset t then t % period == offset else t % period == usual)
  choice k before after = go (nat_le k q) (nat_le onset t) refl refl
    where
      go : (a b : Bool) → nat_le k q ≡ a → nat_le onset t ≡ b →
          (t % period == (if a then offset else usual)) ≡ (if b then t % period == offset else t % period == usual)
      go true true e f = refl
      go false false e f = refl
      go true false e f = before (leb-true _ _ e) (leb-false _ _ f)
      go false true e f = after (leb-false _ _ e) (leb-true _ _ f)

  -- whenever the move comes, in all other periods than its own
  same_others : (q ≡ Q → ⊥) →
      (t % period == place_in usual offset Q q) ≡ (if nat_le onset t then t % period == offset else t % period == usual)
  same_others other = choice Q
      (λ l early. absurd (let m = more (Q + 1) q (omega (arith, l, other)) in let a = parts t in let b = parts onset in
      let c = mod-lt onset some in omega (arith, m, a, b, c, early)))
      (λ l late. absurd (let m = more (q + 1) Q (omega (arith, l)) in let a = parts t in let b = parts onset in
      let c = mod-lt t some in omega (arith, m, a, b, c, late)))

  -- the move comes no later than both, in its own period
  same_early : onset % period ≤ min usual offset →
      (t % period == place_in usual offset Q q) ≡ (if nat_le onset t then t % period == offset else t % period == usual)
  same_early first = choice Q
      (λ l early. both_miss (λ e. misses usual e (omega (arith, first)) l early)
      (λ e. misses offset e (omega (arith, first)) l early))
      (λ l late. absurd (let m = more (q + 1) Q (omega (arith, l)) in let a = parts t in let b = parts onset in
      let c = mod-lt t some in omega (arith, m, a, b, c, late)))
    where
      misses : (place : ℕ) → t % period ≡ place → onset % period ≤ place → Q ≤ q → t < onset → ⊥
      misses place e f l early = let m = more Q q l in let a = parts t in let b = parts onset in omega
          (arith, m, a, b, e, f, early)

  -- or later than both, so that the next period is the first with the moved one
  same_late : max usual offset < onset % period →
      (t % period == place_in usual offset (Q + 1) q) ≡ (if nat_le onset t then t % period == offset else t % period == usual)
  same_late last = choice (Q + 1)
      (λ l early. absurd (let m = more (Q + 1) q l in let a = parts t in let b = parts onset in
      let c = mod-lt onset some in omega (arith, m, a, b, c, early)))
      (λ l late. sym (both_miss (λ e. misses usual e (omega (arith, last)) l late)
      (λ e. misses offset e (omega (arith, last)) l late)))
    where
      misses : (place : ℕ) → t % period ≡ place → place < onset % period → q < Q + 1 → onset ≤ t → ⊥
      misses place e f l late = let m = more q Q (omega (arith, l)) in let a = parts t in let b = parts onset in
          omega (arith, m, a, b, e, f, late)

-- ---- the mark of each tick ----

-- a moved send tick is that of other times
timed_mark : (usually : TimeParts) (offset k : ℕ) (trip : Bool) (past : List Moment) →
    mark_at usually (effects_of (Timing offset) k) trip past ≡ mark_at (record usually { send = offset }) no_effects trip past
unfolding mark_at is_sent is_good sends_at sends_in is_send_tick place_of effects_of no_effects is_whole is_undisturbed
timed_mark usually offset k trip past = refl

module _ (P : ℕ → Type 0) (s : Setting) (accepted : IsAccepted s.cal) (f : Fault) (offset k : ℕ)
    (class_is : f.class ≡ Timing offset)
    (fault_is : s.fault ≡ Some f)
    (same : (t : ℕ) → P (t / s.cal.times.period) →
    (t % s.cal.times.period == place_in s.cal.times.send offset k (t / s.cal.times.period))
    ≡ (if nat_le f.onset t then t % s.cal.times.period == offset else t % s.cal.times.period == s.cal.times.send)) where
  abbrev c : ℕ → ℕ
  c = place_in s.cal.times.send offset k

  whole_at : (t : ℕ) → is_whole (effects (Some f) t) ≡ true
  whole_at = of_class (λ x. is_whole x ≡ true) f whole_plain (λ j. rw class_is (whole_moved j))
    where
      whole_moved : (j : ℕ) → is_whole (effects_of (Timing offset) j) ≡ true
      whole_moved j = unfold effects_of is_whole no_effects modules modules_before_react in refl

  mark_then : (x : Tick) (h : List Tick) → P (length h / s.cal.times.period) → x.effects ≡ effects (Some f) (length h) →
      whole_since_answer (moments_of s h) ≡ true →
      (moment s x.effects x.entry (moments_of s h)).trip ≡ false → tripped (moments_of s h) ≡ false →
      (moment s x.effects x.entry (moments_of s h)).mark ≡ usual_mark
      (record s.cal.times { send = c (length h / s.cal.times.period) }) (length h)
  mark_then x h good is whole trip untripped = (fields s x.effects x.entry past).mark
      ∙ ap (λ y. mark_at s.cal.times y now.trip past) is
      ∙ elim (cases_lt (length h) f.onset) [
        | inl early ↦ ap (λ y. mark_at s.cal.times y now.trip past) (before_onset f (length h) early)
            ∙ mark_plain s.cal.times now.trip past trip untripped whole
            ∙ ap (usual_mark s.cal.times) (length-moments s h)
            ∙ ap (λ b. if b then Good else Absent)
            (sym (same (length h) good ∙ ap (λ b. if b then (length h % s.cal.times.period == offset)
            else (length h % s.cal.times.period == s.cal.times.send)) (lt-leb f.onset (length h) early)))
        | inr late ↦ ap (λ y. mark_at s.cal.times y now.trip past) (from_onset f (length h) late
            ∙ ap (λ class. effects_of class (length h - f.onset)) class_is)
            ∙ timed_mark s.cal.times offset (length h - f.onset) now.trip past
            ∙ mark_plain (record s.cal.times { send = offset }) now.trip past trip untripped whole
            ∙ ap (usual_mark (record s.cal.times { send = offset })) (length-moments s h)
            ∙ ap (λ b. if b then Good else Absent)
            (sym (same (length h) good ∙ ap (λ b. if b then (length h % s.cal.times.period == offset)
            else (length h % s.cal.times.period == s.cal.times.send)) (le-leb f.onset (length h) late)))
      ]
    where
      past : List Moment
      past = moments_of s h

      now : Moment
      now = moment s x.effects x.entry past

  -- at each tick of a history that gives level 2 nothing to find
  are_moved : (h : List Tick) → GiveNothing s.cal h → Follows s.fault 0 h →
      AreMoved P s c h × (whole_since_answer (moments_of s h) ≡ true)
  unfolding AreMoved Each Follows moments_of
  are_moved [] each follows = (tt, unfold whole_since_answer in refl)
  are_moved (x ∷ h) each follows =
      let before = are_moved h each.1 follows.1 in
      let is : x.effects ≡ effects (Some f) (length h) = follows.0 ∙ ap₂ effects fault_is (omega arith) in (
        (
          (λ good. mark_then x h good is before.1 (unfound_after s accepted x h each).trip
              (still_after s accepted h each.1).untripped),
          before.0,
        ),
        whole-cons _ _ ((fields s x.effects x.entry (moments_of s h)).whole ∙ ap is_whole is ∙ whole_at (length h)) before.1,
      )

module _ (engine : EngineKind) where
  pub moves_in_window_hide : MovesInWindowHide (bench_of engine)
  moves_in_window_hide cal accepted onset offset valid from to keeps_one n =
      hidden_run engine cal accepted f valid loud loud_within refl n each answers
    where
      f : Fault
      f = record { onset = onset; class = Timing offset }

      s : Setting
      s = (still_run cal f loud n).setting

      entries : List Entry
      entries = entries_to (bench_of engine) (still_run cal f loud n) n

      h : List Tick
      h = ticks s entries

      come : All (Comes loud) entries
      come = come_to engine cal accepted f valid loud loud_within n n (omega arith)

      each : GiveNothing cal h
      each = each_tick (Comes loud) (GivesNothing cal) s (λ e t comes. gives_alike cal accepted e comes (effects (Some f) t)
          (of_class (λ x. ActAlike x no_effects) f act_plain
          (λ k. act_class (Timing offset) k (unfold leaves_readings may_change_levels in refl)) t)) entries come

      judged : Each (λ x. x.effects.wild ≡ None) h
      judged = each_tick (Comes loud) (λ x. x.effects.wild ≡ None) s (λ e t comes. of_class (λ x. x.wild ≡ None) f
          (unfold no_effects in refl) (λ k. unfold effects_of no_effects in refl) t) entries come

      window : (k p : ℕ) → (cal.times.first ≤ place_in cal.times.send offset k p) ×
          (place_in cal.times.send offset k p ≤ cal.times.last)
      window k p = go (nat_le k p)
        where
          go : (later : Bool) → (cal.times.first ≤ (if later then offset else cal.times.send))
              × ((if later then offset else cal.times.send) ≤ cal.times.last)
          go true = (from, to)
          go false = (accepted.times.from_first, accepted.times.to_last)

      by : (k : ℕ) → ((t : ℕ) → Unit {0} → (t % cal.times.period == place_in cal.times.send offset k (t / cal.times.period))
          ≡ (if nat_le onset t then t % cal.times.period == offset else t % cal.times.period == cal.times.send)) →
          AnswersUnfound s h
      by k same = none_found (λ q. Unit {0}) s accepted (place_in cal.times.send offset k) (window k) h
          (are_moved (λ q. Unit {0}) s accepted f offset k refl refl same h each (follow_ticks s entries)).0 judged (λ p. tt)

      some : 0 < cal.times.period
      some = period_least cal.times accepted.times

      answers : AnswersUnfound s h
      answers = elim keeps_one [
        | inl kept ↦ one kept
        | inr few ↦ few_found s accepted (place_in cal.times.send offset (onset / cal.times.period))
            (window (onset / cal.times.period))
            (onset / cal.times.period) few h
            (are_moved (λ q. q ≡ onset / cal.times.period → ⊥) s accepted f offset (onset / cal.times.period) refl refl
            (λ t other. same_others cal.times.period cal.times.send offset onset some t other) h each
            (follow_ticks s entries)).0 judged
      ]
        where
          one : KeepsOneAnswer cal.times onset offset → AnswersUnfound s h
          one kept = elim placed [
            | inl early ↦ by (onset / cal.times.period)
                (λ t good. same_early cal.times.period cal.times.send offset onset some t early)
            | inr late ↦ by (onset / cal.times.period + 1)
                (λ t good. same_late cal.times.period cal.times.send offset onset some t late)
          ]
            where
              placed : (onset % cal.times.period ≤ min cal.times.send offset) ⊎
                  (max cal.times.send offset < onset % cal.times.period)
              placed = unfold place_of in kept
