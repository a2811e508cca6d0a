-- Up to the tick at which a watch trips or the answers are spoiled each verdict is right, and from the first period
-- whose send tick hasn't passed by then each is wrong. So the verdicts tell exactly when wrong answers are confirmed.
use Rattle.std.proofs.Common.{◌≡◌, ◌≢◌, ◌∙◌, refl, sym, ap, ap₂, subst, ℕ, zero, suc, ◌+◌, ◌-◌, ◌*◌, ◌/◌, ◌%◌, ◌≤◌, ◌<◌, Bool, true, false, not, ◌&&◌, ◌||◌, List, [], ◌∷◌, ◌++◌, length, arith, inl, inr, ◌⊎◌, Option, Some, None, nat_le}
use Rattle.std.specs.Prelude.{if◌then◌else◌, ◌==◌}
use Rattle.std.specs.Option.{option_or}
use Rattle.std.proofs.Math.Nat.{mod-lt, le-div_iff_mul-le}
use Rattle.std.proofs.lemmas.Nat.{mod-mul-add}
use Rattle.std.proofs.lemmas.Bool.{cases_lt, cases_Bool, true≢false, or_cases, or_left, or_right, or_parts, or_from, and_parts, and_from, and_left, and_right, leb-true, le-leb, lt-leb, eq-eqb, ne_eqb, eqb-true, eqb-false}
use Rattle.eg_num.specs.Windows.{WeightParts, is_confirmed, is_reached, is_first}
use Rattle.eg_answer.specs.Times.{TimeParts, AreTimes, feeds_to_confirm}
use Rattle.eg_answer.specs.Periods.{place_of, period_of, is_wrong}
use Rattle.eg_answer.specs.declared.marks.AnswerMark.TheVariants.{Absent, Good, Bad}
use Rattle.eg_answer.specs.declared.marks.Verdict.{Verdict}
use Rattle.eg_answer.specs.declared.modules.TheConstants.{REACT}
use Rattle.eg_answer.specs.Modules.{modules_before_react, modules}
use Rattle.eg_values.specs.Calibration.{IsAccepted}
use Rattle.eg_fault.specs.Effects.{Effects, no_effects, sends_in, sends_at}
use Rattle.eg_fault.specs.Faults.{effects_of, effects, is_lapse, IsListed}
use Rattle.eg_fault.specs.Classes.{IsRegular, may_change_answers}
use Rattle.eg_fault.specs.declared.class.Class.{Class}
use Rattle.eg_fault.specs.declared.class.Class.TheVariants.{Skip, Disturb, Halt, Timing, Wild, Lapse}
use Rattle.eg_fault.specs.declared.class.Fault.{Fault}
use Rattle.eg_fault.proofs.ActingLemmas.{at_tick, from_onset}
use Rattle.eg_fault.proofs.ClassLemmas.{regular, others_spare_answers}
use Rattle.eg_model.specs.History.{Setting, Tick, Moment}
use Rattle.eg_model.specs.Signals.{tripped}
use Rattle.eg_model.specs.Answers.{is_whole, is_undisturbed, whole_since_answer, is_sent, is_good, mark_at, verdicts_in, confirms_at}
use Rattle.eg_model.specs.Moments.{moment, moments_of}
use Rattle.eg_model.specs.Premises.{Follows}
use Rattle.eg_model.specs.Reaction.{spoils_answers}
use Rattle.eg_laws.specs.Coverage.{spoils_at, silent_from, wrong_from, confirmed_at, SparesAnswers}
use Rattle.eg_model.proofs.PeriodLemmas.{quotient, period_closes, period_open}
use Rattle.eg_model.proofs.TickLemmas.{Each, along, length-moments, tripped-cons, fields}
use Rattle.eg_model.proofs.ClassLemmas.{of_history, mark_not_good, IsSpoiled}
use Rattle.eg_model.proofs.Silence.{AreRegular, NoGood, wrongs, with_wrong, wrongs-cons, TrueRun, closed, wrong_run, run_confirms, longer_run, enough_weight, period_least, send_within}
use Rattle.eg_model.proofs.ReactionLaw.{Unanswered, unanswered_on, spoiling}
use Rattle.eg_model.proofs.SharpCutLaw.{AllGood, AreUsual, usual_mark, mark_plain, whole_plain, undisturbed_plain, reacts_plain, whole-cons, verdict_usual, IsNotWrong, right_bits}
use Rattle.eg_model.proofs.SpanRows.{rows_after, length-rows_after, SpanRows, row_tick}
use Rattle.eg_laws.proofs.FewVerdicts.{never, too_few, quotient_short, quotient_positive, HasFew, few_on}
use Rattle.eg_laws.proofs.PathLaws.{trips_row}

-- ---- which ticks can have a good answer ----

-- level 2 runs whole and undisturbed, and answers at the usual ticks
record CanAnswer (x : Effects) : Type 0 where
  pub regular : IsRegular x
  pub whole : is_whole x ≡ true
  pub undisturbed : is_undisturbed x ≡ true
  pub reacts : x.ran REACT ≡ true

can_answer_plain : CanAnswer no_effects
can_answer_plain = record { regular = regular; whole = whole_plain; undisturbed = undisturbed_plain; reacts = reacts_plain }

can_answer_class : (class : Class) (k : ℕ) → may_change_answers class ≡ false → spoils_answers class ≡ false →
    is_lapse class ≡ false →
    CanAnswer (effects_of class k)
unfolding effects_of no_effects may_change_answers spoils_answers is_lapse is_whole is_undisturbed modules modules_before_react
can_answer_class (Timing offset) k a b c = absurd (true≢false a)
can_answer_class (Wild questions opens) k a b c = absurd (true≢false a)
can_answer_class (Skip index) k a b c = absurd (true≢false b)
can_answer_class (Disturb index mask) k a b c = absurd (true≢false b)
can_answer_class Halt k a b c = absurd (true≢false b)
can_answer_class (Lapse after every) k a b c = absurd (true≢false c)
can_answer_class _ k a b c = record {
  regular = record { sends = refl; judged = refl };
  whole = refl;
  undisturbed = refl;
  reacts = refl;
}

module _ (fault : Option Fault) (listed : IsListed fault) (spares : SparesAnswers fault) (t : ℕ) where
  regular_at : IsRegular (effects fault t)
  regular_at = go fault spares
    where
      go : (f : Option Fault) → SparesAnswers f → IsRegular (effects f t)
      go None none = unfold effects in regular
      go (Some f) some = others_spare_answers f t some

  answers_at : spoils_at fault t ≡ false → CanAnswer (effects fault t)
  unfolding spoils_at IsListed
  answers_at = go fault listed spares
    where
      spared : (f : Fault) → f.onset ≤ t → (nat_le f.onset t && spoils_answers f.class) ≡ false → spoils_answers f.class ≡ false
      spared f from none = rw (le-leb f.onset t from) at none

      go : (f : Option Fault) → IsListed f → SparesAnswers f → spoils_at f t ≡ false → CanAnswer (effects f t)
      go None listed spares none = unfold effects in can_answer_plain
      go (Some f) listed spares none = at_tick CanAnswer f t (λ early. can_answer_plain)
          (λ from. can_answer_class f.class (t - f.onset) spares (spared f from none) listed.1)

  spoiled_at : spoils_at fault t ≡ true → IsSpoiled (effects fault t)
  unfolding spoils_at IsListed
  spoiled_at = go fault listed
    where
      go : (f : Option Fault) → IsListed f → spoils_at f t ≡ true → IsSpoiled (effects f t)
      go None listed e = absurd (true≢false (sym e))
      go (Some f) listed e = let parts = and_parts _ _ e in
          subst IsSpoiled (sym (from_onset f t (leb-true _ _ parts.0))) ((spoiling f.class listed.0.1 parts.1).spoiled (t - f.onset))

-- what spoils the answers goes on doing so
spoils_on : (fault : Option Fault) (t u : ℕ) → t ≤ u → spoils_at fault t ≡ true → spoils_at fault u ≡ true
unfolding spoils_at
spoils_on None t u l e = e
spoils_on (Some f) t u l e =
    let parts = and_parts (nat_le f.onset t) (spoils_answers f.class) e in
    let begun : f.onset ≤ t = leb-true f.onset t parts.0 in
    and_from (nat_le f.onset u) (spoils_answers f.class) (le-leb f.onset u (omega (arith, begun, l))) parts.1

-- ---- from which tick on no answer is good ----

-- at the last of these ticks a trip has come, or the answers are spoiled
unfoldable pub silent : Setting → (start : ℕ) → List Tick → Bool
silent s start [] = false
silent s start (x ∷ h) = tripped (moments_of s (x ∷ h)) || spoils_at s.fault (start + length h)

-- so far each answer is as usual
pub record Answers (s : Setting) (start : ℕ) (h : List Tick) : Type 0 where
  pub usual : AreUsual s h
  pub whole : whole_since_answer (moments_of s h) ≡ true
  pub untripped : tripped (moments_of s h) ≡ false
  pub heard : silent s start h ≡ false
  pub none : silent_from s.fault (SpanRows s start h) ≡ None

-- or each was up to some tick, and from then on none was good
pub record Silent (s : Setting) (start : ℕ) (h : List Tick) : Type 0 where
  pub newest : Tick
  pub more : List Tick
  pub rest : List Tick
  pub are : newest ∷ (more ++ rest) ≡ h
  pub usual : AreUsual s rest
  pub heard : silent s start rest ≡ false
  pub none_good : NoGood s (newest ∷ more) rest
  pub now : silent s start h ≡ true
  pub from : silent_from s.fault (SpanRows s start h) ≡ Some (length rest)

module _ (s : Setting) (listed : IsListed s.fault) (spares : SparesAnswers s.fault) (start : ℕ) where
  abbrev Now : Tick → List Tick → Moment
  Now x h = moment s x.effects x.entry (moments_of s h)

  -- one row more
  from-cons : (x : Tick) (h : List Tick) → silent_from s.fault (SpanRows s start (x ∷ h))
      ≡ option_or (silent_from s.fault (SpanRows s start h))
      (if (Now x h).trip || spoils_at s.fault (start + length h) then Some (length h) else None)
  unfolding silent_from rows_after moments_of
  from-cons x h = ap₂ (λ bit n. option_or (silent_from s.fault (SpanRows s start h)) (if bit then Some n else None))
      (ap₂ (λ a b. a || b) (trips_row s start x h) (ap (spoils_at s.fault) (row_tick s start x h)))
      (length-rows_after start (moments_of s h) ∙ length-moments s h)

  -- no answer is good at such a tick
  not_good : (x : Tick) (h : List Tick) → x.effects ≡ effects s.fault (start + length h) → silent s start (x ∷ h) ≡ true →
      (Now x h).mark ≢ Good
  unfolding silent Unanswered
  not_good x h is now good = elim (or_cases _ _ now) [
    | inl trip ↦ (let both : Absent ≡ Good = sym (unanswered_on s x [] h trip).0 ∙ good in cc)
    | inr spoils ↦ mark_not_good s.cal.times x.effects (Now x h).trip (moments_of s h)
        (subst IsSpoiled (sym is) (spoiled_at s.fault listed spares (start + length h) spoils))
        (sym (fields s x.effects x.entry (moments_of s h)).mark ∙ good)
  ]

  -- and it goes on so
  silent_on : (x : Tick) (h : List Tick) → silent s start h ≡ true → silent s start (x ∷ h) ≡ true
  unfolding silent
  silent_on x [] now = absurd (true≢false (sym now))
  silent_on x (y ∷ h) now = elim (or_cases _ _ now) [
    | inl trip ↦ or_left _ _ (trip_on trip)
    | inr spoils ↦ or_right _ _ (spoils_on s.fault (start + length h) (start + length (y ∷ h)) (omega arith) spoils)
  ]
    where
      trip_on : tripped (moments_of s (y ∷ h)) ≡ true → tripped (moments_of s (x ∷ y ∷ h)) ≡ true
      trip_on trip = unfold moments_of in tripped-cons (Now x (y ∷ h)) (moments_of s (y ∷ h)) ∙ or_right _ _ trip

  -- the answer of a tick at which nothing of that is so
  usual_now : (x : Tick) (h : List Tick) → CanAnswer x.effects → (Now x h).trip ≡ false → Answers s start h →
      (Now x h).mark ≡ usual_mark s.cal.times (length h)
  unfolding mark_at is_sent is_good
  usual_now x h can calm a = (fields s x.effects x.entry past).mark
      ∙ ap₂ (λ sent good. if sent then (if good then Good else Bad) else Absent)
      (ap₂ (λ sends runs. sends && runs && not ((Now x h).trip || tripped past)) sends (can.reacts ∙ sym reacts_plain))
      (ap₂ (λ whole undisturbed. whole && whole_since_answer past && undisturbed) (can.whole ∙ sym whole_plain)
      (can.undisturbed ∙ sym undisturbed_plain))
      ∙ mark_plain s.cal.times (Now x h).trip past calm a.untripped a.whole
      ∙ ap (usual_mark s.cal.times) (length-moments s h)
    where
      past : List Moment
      past = moments_of s h

      none_sent : no_effects.send ≡ None
      none_sent = unfold no_effects in refl

      sends : sends_at x.effects s.cal.times (length past) ≡ sends_at no_effects s.cal.times (length past)
      sends = unfold sends_at in ap (λ moved. sends_in moved s.cal.times (length past)) (can.regular.sends ∙ sym none_sent)

  abbrev Parted : List Tick → Type 0
  Parted h = Answers s start h ⊎ Silent s start h

  silent_first : (x : Tick) (h : List Tick) → x.effects ≡ effects s.fault (start + length h) → Answers s start h →
      ((Now x h).trip || spoils_at s.fault (start + length h)) ≡ true → Silent s start (x ∷ h)
  silent_first x h is a bit = record {
    newest = x;
    more = [];
    rest = h;
    are = refl;
    usual = a.usual;
    heard = a.heard;
    none_good = unfold NoGood in (not_good x h is now, tt);
    now = now;
    from = from-cons x h ∙ ap₂ (λ o b. option_or o (if b then Some (length h) else None)) a.none bit;
  }
    where
      now : silent s start (x ∷ h) ≡ true
      now = unfold silent moments_of in ap (λ b. b || spoils_at s.fault (start + length h))
          (tripped-cons (Now x h) (moments_of s h) ∙ no_more (Now x h).trip a.untripped) ∙ bit
        where
          no_more : {u : Bool} (t : Bool) → u ≡ false → (t || u) ≡ t
          no_more t e = grind arith

  answers_more : (x : Tick) (h : List Tick) → x.effects ≡ effects s.fault (start + length h) → Answers s start h →
      ((Now x h).trip || spoils_at s.fault (start + length h)) ≡ false → Answers s start (x ∷ h)
  answers_more x h is a bit = record {
    usual = unfold AreUsual in (usual_now x h can parts.0 a, a.usual);
    whole = unfold moments_of in whole-cons (Now x h) (moments_of s h)
        ((fields s x.effects x.entry (moments_of s h)).whole ∙ can.whole) a.whole;
    untripped = untripped;
    heard = unfold silent in or_from _ _ untripped parts.1;
    none = from-cons x h ∙ ap₂ (λ o b. option_or o (if b then Some (length h) else None)) a.none bit;
  }
    where
      parts : ((Now x h).trip ≡ false) × (spoils_at s.fault (start + length h) ≡ false)
      parts = or_parts _ _ bit

      can : CanAnswer x.effects
      can = subst CanAnswer (sym is) (answers_at s.fault listed spares (start + length h) parts.1)

      untripped : tripped (moments_of s (x ∷ h)) ≡ false
      untripped = unfold moments_of in tripped-cons (Now x h) (moments_of s h) ∙ or_from _ _ parts.0 a.untripped

  silent_more : (x : Tick) (h : List Tick) → x.effects ≡ effects s.fault (start + length h) → Silent s start h →
      Silent s start (x ∷ h)
  silent_more x h is c = record {
    newest = x;
    more = c.newest ∷ c.more;
    rest = c.rest;
    are = ap (λ g. x ∷ g) c.are;
    usual = c.usual;
    heard = c.heard;
    none_good = unfold NoGood in (subst (λ g. (Now x g).mark ≢ Good) (sym c.are) (not_good x h is now), c.none_good);
    now = now;
    from = from-cons x h
        ∙ ap (λ o. option_or o (if (Now x h).trip || spoils_at s.fault (start + length h) then Some (length h) else None)) c.from;
  }
    where
      now : silent s start (x ∷ h) ≡ true
      now = silent_on x h c.now

  pub parted : (h : List Tick) → Follows s.fault start h → Parted h
  unfolding Follows
  parted [] follows = inl (unfold AreUsual moments_of whole_since_answer tripped silent silent_from rows_after in
      record { usual = tt; whole = refl; untripped = refl; heard = refl; none = refl })
  parted (x ∷ h) follows = elim (parted h follows.1) [
    | inr c ↦ inr (silent_more x h follows.0 c)
    | inl a ↦ elim (cases_Bool ((Now x h).trip || spoils_at s.fault (start + length h))) [
      | inl bit ↦ inr (silent_first x h follows.0 a bit)
      | inr bit ↦ inl (answers_more x h follows.0 a bit)
    ]
  ]

  pub regular_ticks : (h : List Tick) → Follows s.fault start h → AreRegular h
  regular_ticks h follows = of_history IsRegular s.fault start h follows (λ t low high. regular_at s.fault listed spares t)

-- ---- which verdicts are wrong, and when they confirm ----

-- the first wrong period, rounded up
first_wrong : (times : TimeParts) → AreTimes times → (u : ℕ) →
    (u + times.period - 1 - times.send) / times.period ≡ wrong_from times u
unfolding wrong_from place_of period_of
first_wrong times are u = elim (cases_lt times.send (u % times.period)) [
  | inr room ↦ within (u / times.period) (u % times.period) split (mod-lt u some) room
      ∙ sym (ap (λ b. if b then u / times.period else u / times.period + 1) (le-leb _ _ room))
  | inl passed ↦ behind (u / times.period) (u % times.period) split (mod-lt u some) passed
      ∙ sym (ap (λ b. if b then u / times.period else u / times.period + 1) (lt-leb _ _ passed))
]
  where
    some : 0 < times.period
    some = period_least times are

    split : u ≡ (u / times.period) * times.period + u % times.period
    split = omega arith

    within : (q r : ℕ) → u ≡ q * times.period + r → r < times.period → r ≤ times.send →
        (u + times.period - 1 - times.send) / times.period ≡ q
    within q r e l room = quotient times.period q (r + times.period - 1 - times.send) _
        (let z = send_within times are in omega (arith, l, room, some, z))
        (let z = send_within times are in omega (arith, e, l, room, some, z))

    behind : (q r : ℕ) → u ≡ q * times.period + r → r < times.period → times.send < r →
        (u + times.period - 1 - times.send) / times.period ≡ q + 1
    behind q r e l passed = quotient times.period (q + 1) (r - 1 - times.send) _
        (omega (arith, l, passed)) (omega (arith, e, l, passed, some))

-- its send tick hasn't passed at that tick, and the one before it has
sends_later : (times : TimeParts) → AreTimes times → (u : ℕ) →
    wrong_from times u * times.period + times.send < u + times.period
sends_later times are u = law (wrong_from times u) (sym (first_wrong times are u))
  where
    law : (k : ℕ) → k ≡ (u + times.period - 1 - times.send) / times.period → k * times.period + times.send < u + times.period
    law k e = let low : k * times.period ≤ u + times.period - 1 - times.send =
        (le-div_iff_mul-le (period_least times are)).0 (omega (arith, e)) in
        let z = send_within times are in let some = period_least times are in omega (arith, low, z, some)

pub each_parts : (P : Tick → Type 0) (more rest : List Tick) → Each P (more ++ rest) → Each P more × Each P rest
unfolding Each
each_parts P [] rest each = (tt, each)
each_parts P (x ∷ more) rest each = let parts = each_parts P more rest each.1 in ((each.0, parts.0), parts.1)

-- as long as each answer is as usual each verdict is right
usual_right : (s : Setting) → AreTimes s.cal.times → (h : List Tick) → AreRegular h → AreUsual s h →
    AllGood (wrongs (moments_of s h))
unfolding Each moments_of
usual_right s are [] r usual = unfold wrongs verdicts_in AllGood in tt
usual_right s are (x ∷ h) r usual = subst AllGood (sym (wrongs-cons (moment s x.effects x.entry (moments_of s h))
    (moments_of s h)))
    (right_bits _ _ (subst IsNotWrong (sym (fields s x.effects x.entry (moments_of s h)).verdict)
    (verdict_usual s are x h r.0.judged usual)) (usual_right s are h r.1 (unfold AreUsual in usual.1)))

-- what a tick finds is what is confirmed with it, and wasn't before
confirms-is : (times : TimeParts) (v : Option Verdict) (past : List Moment) → confirms_at times v past
    ≡ (is_confirmed times.weights (with_wrong v (wrongs past)) && not (is_confirmed times.weights (wrongs past)))
unfolding confirms_at with_wrong wrongs is_first is_confirmed
confirms-is times None past = none (is_confirmed times.weights (wrongs past))
  where
    none : (c : Bool) → false ≡ (c && not c)
    none c = grind arith
confirms-is times (Some v) past = some (is_reached times.weights (is_wrong v ∷ wrongs past))
    (is_confirmed times.weights (wrongs past))
  where
    some : (a c : Bool) → (a && not c) ≡ ((a || c) && not c)
    some a c = grind arith

pub found_now : (s : Setting) (x : Tick) (h : List Tick) → (moment s x.effects x.entry (moments_of s h)).found.answers
    ≡ (is_confirmed s.cal.times.weights (wrongs (moments_of s (x ∷ h)))
    && not (is_confirmed s.cal.times.weights (wrongs (moments_of s h))))
unfolding moments_of
found_now s x h = (fields s x.effects x.entry (moments_of s h)).answers ∙ (fields s x.effects x.entry (moments_of s h)).confirms
    ∙ confirms-is s.cal.times (moment s x.effects x.entry (moments_of s h)).verdict (moments_of s h)
    ∙ ap (λ bits. is_confirmed s.cal.times.weights bits && not (is_confirmed s.cal.times.weights (wrongs (moments_of s h))))
    (sym (wrongs-cons (moment s x.effects x.entry (moments_of s h)) (moments_of s h)))

-- that as many periods as confirm are closed at a tick, and weren't before, says which tick it is
closes_exactly : (period n k t : ℕ) → 0 < period → 0 < n →
    (nat_le n ((t + 1) / period - k) && not (nat_le n (t / period - k))) ≡ (t + 1 == (k + n) * period)
closes_exactly period n k t some many = go ((t + 1) % period) refl
  where
    go : (r : ℕ) → (t + 1) % period ≡ r →
        (nat_le n ((t + 1) / period - k) && not (nat_le n (t / period - k))) ≡ (t + 1 == (k + n) * period)
    go (suc r) inside = ap (λ q. nat_le n (q - k) && not (nat_le n (t / period - k)))
        (period_open period t some (omega (arith, inside)))
        ∙ both (nat_le n (t / period - k))
        ∙ sym (ne_eqb _ _ (λ e. let none = ap (λ m. m % period) (e ∙ add_none ((k + n) * period))
        ∙ mod-mul-add (k + n) period 0 some in
        omega (arith, none, inside)))
      where
        both : (b : Bool) → (b && not b) ≡ false
        both b = grind arith

        add_none : (m : ℕ) → m ≡ m + 0
        add_none m = omega arith
    go zero ends = law ((t + 1) / period) (t / period) (period_closes period t some ends) refl
      where
        law : (p q : ℕ) → p ≡ q + 1 → (t + 1) / period ≡ p →
            (nat_le n (p - k) && not (nat_le n (q - k))) ≡ (t + 1 == (k + n) * period)
        law p q next is = elim (cases_Bool (p == k + n)) [
          | inl e ↦ (let same : p ≡ k + n = eqb-true _ _ e in
              and_from _ _ (le-leb n (p - k) (omega (arith, same))) (ap not (lt-leb n (q - k) (omega (arith, same, next, many))))
              ∙ sym (eq-eqb _ _ (whole (k + n) (is ∙ same))))
          | inr e ↦ (let other : p ≡ k + n → ⊥ = eqb-false _ _ e in
              apart other
              ∙ sym (ne_eqb _ _ (λ f. other (sym is ∙ ap (λ m. m / period) f ∙ quotient period (k + n) 0 _ some (omega arith)))))
        ]
          where
            whole : (m : ℕ) → (t + 1) / period ≡ m → t + 1 ≡ m * period
            whole m f = (let all : t + 1 ≡ ((t + 1) / period) * period = omega (arith, ends) in all) ∙ ap (λ v. v * period) f

            apart : (p ≡ k + n → ⊥) → (nat_le n (p - k) && not (nat_le n (q - k))) ≡ false
            apart other = elim (cases_lt (p - k) n) [
              | inl few ↦ and_left _ _ (lt-leb n (p - k) few)
              | inr enough ↦ and_right _ _ (ap not (le-leb n (q - k) (omega (arith, enough, next, many, other))))
            ]

module _ (s : Setting) (accepted : IsAccepted s.cal) where
  abbrev w : WeightParts
  w = s.cal.times.weights

  abbrev period : ℕ
  period = s.cal.times.period

  up_some : 0 < w.up
  up_some = let a = accepted.answers.0 in omega (arith, a)

  limit_some : 0 < w.limit
  limit_some = let a = accepted.answers.3 in omega (arith, a)

  -- wrong answers are confirmed once as many periods have closed since the first wrong one as confirm
  confirmed_is : (more rest : List Tick) → AreRegular (more ++ rest) → AreUsual s rest → NoGood s more rest →
      is_confirmed w (wrongs (moments_of s (more ++ rest)))
      ≡ nat_le (feeds_to_confirm w) (length (more ++ rest) / period - wrong_from s.cal.times (length rest))
  unfolding feeds_to_confirm
  confirmed_is more rest regular usual none = elim (cases_lt count (feeds_to_confirm w)) [
    | inr enough ↦ run_confirms w (feeds_to_confirm w) bits limit_some (enough_weight w up_some)
        (longer_run (feeds_to_confirm w) count bits enough run) ∙ sym (le-leb _ _ enough)
    | inl early ↦ subst (λ b. is_confirmed w b ≡ false) (sym few.are) (too_few w few.bits few.good limit_some few.none_bad
        (quotient_short w.limit w.up (length few.bits) limit_some up_some (let f = few.few in omega (arith, f, early))))
        ∙ sym (lt-leb _ _ early)
  ]
    where
      k : ℕ
      k = wrong_from s.cal.times (length rest)

      count : ℕ
      count = length (more ++ rest) / period - k

      bits : List Bool
      bits = wrongs (moments_of s (more ++ rest))

      run : TrueRun count bits
      run = unfold closed in subst (λ q. TrueRun (length (more ++ rest) / period - q) bits)
          (first_wrong s.cal.times accepted.times (length rest))
          (wrong_run s accepted.times more rest regular none)

      parts : AreRegular more × AreRegular rest
      parts = each_parts (λ x. IsRegular x.effects) more rest regular

      few : HasFew s k (more ++ rest)
      few = few_on s accepted.times k more rest parts.0 (sends_later s.cal.times accepted.times (length rest)) (record {
        bits = [];
        good = wrongs (moments_of s rest);
        are = refl;
        none_bad = usual_right s accepted.times rest parts.1 usual;
        few = omega arith;
        usual = λ within. usual;
      })

  exactly_silent : (y : Tick) (more rest : List Tick) → AreRegular (y ∷ more ++ rest) → AreUsual s rest →
      NoGood s (y ∷ more) rest →
      (moment s y.effects y.entry (moments_of s (more ++ rest))).found.answers
      ≡ confirmed_at s.cal.times (Some (length rest)) (length (more ++ rest))
  unfolding confirmed_at Each NoGood
  exactly_silent y more rest regular usual none = found_now s y (more ++ rest)
      ∙ ap₂ (λ a b. a && not b)
      (confirmed_is (y ∷ more) rest regular usual none
      ∙ ap (λ t. nat_le (feeds_to_confirm w) (t / period - wrong_from s.cal.times (length rest))) one_more)
      (confirmed_is more rest regular.1 usual none.1)
      ∙ closes_exactly period (feeds_to_confirm w) (wrong_from s.cal.times (length rest)) (length (more ++ rest))
      (period_least s.cal.times accepted.times) (unfold feeds_to_confirm in quotient_positive w.limit w.up limit_some up_some)
    where
      one_more : suc (length (more ++ rest)) ≡ length (more ++ rest) + 1
      one_more = omega arith

  never_found : (x : Tick) (h : List Tick) → AreRegular (x ∷ h) → AreUsual s (x ∷ h) →
      (moment s x.effects x.entry (moments_of s h)).found.answers ≡ false
  never_found x h regular usual = found_now s x h
      ∙ and_left _ _ (never w (wrongs (moments_of s (x ∷ h))) limit_some (usual_right s accepted.times (x ∷ h) regular usual))

  -- what is found at the tick x after these
  pub found_exactly : IsListed s.fault → SparesAnswers s.fault → (start : ℕ) (x : Tick) (h : List Tick) →
      Follows s.fault start (x ∷ h) →
      (moment s x.effects x.entry (moments_of s h)).found.answers
      ≡ confirmed_at s.cal.times (silent_from s.fault (SpanRows s start (x ∷ h))) (length h)
  found_exactly listed spares start x h follows = elim (parted s listed spares start (x ∷ h) follows) [
    | inl a ↦ never_found x h regular a.usual ∙ sym (ap (λ o. confirmed_at s.cal.times o (length h)) a.none
        ∙ (unfold confirmed_at in refl))
    | inr c ↦ along (λ y g. (moment s y.effects y.entry (moments_of s g)).found.answers ≡ confirmed_at s.cal.times
        (Some (length c.rest)) (length g))
        c.are (exactly_silent c.newest c.more c.rest (subst AreRegular (sym c.are) regular) c.usual c.none_good)
        ∙ sym (ap (λ o. confirmed_at s.cal.times o (length h)) c.from)
  ]
    where
      regular : AreRegular (x ∷ h)
      regular = regular_ticks s listed spares start (x ∷ h) follows
