-- Where level 2 keeps missing ticks no answer is good from a missed one on, and so the stages are off.
use Rattle.std.proofs.Common.{◌≡◌, ◌≢◌, ◌∙◌, refl, sym, ap, subst, ℕ, zero, suc, ◌+◌, ◌-◌, ◌%◌, ◌≤◌, ◌<◌, true, false, not, List, [], ◌∷◌, ◌++◌, length, length-append, arith, inl, inr, ◌⊎◌, Option}
use Rattle.std.specs.Prelude.{◌==◌}
use Rattle.std.proofs.lemmas.Bool.{cases_lt, true≢false, and_right, ne_eqb}
use Rattle.eg_answer.specs.Times.{reaction_of}
use Rattle.eg_answer.specs.declared.marks.AnswerMark.TheVariants.{Absent, Good}
use Rattle.eg_values.specs.Calibration.{IsAccepted}
use Rattle.eg_fault.specs.Effects.{Effects}
use Rattle.eg_fault.specs.Faults.{effects, opens_path}
use Rattle.eg_fault.specs.Classes.{IsRegular, may_change_answers}
use Rattle.eg_fault.specs.declared.class.Class.TheVariants.{Lapse}
use Rattle.eg_fault.specs.declared.class.Fault.{Fault}
use Rattle.eg_fault.specs.declared.paths.TheConstants.{PATH_1, PATH_2}
use Rattle.eg_fault.proofs.ClassLemmas.{others_spare_answers}
use Rattle.eg_model.specs.History.{Setting, Tick, Moment}
use Rattle.eg_model.specs.Answers.{is_whole, whole_since_answer, mark_at}
use Rattle.eg_model.specs.Moments.{moment, moments_of}
use Rattle.eg_model.specs.Premises.{Follows, is_on_after, IsExcessConfirmed}
use Rattle.eg_model.specs.Lapses.{IsLapse}
use Rattle.eg_model.specs.Reaction.{OffFrom}
use Rattle.eg_model.specs.Seeing.{SeesExcess}
use Rattle.eg_laws.specs.Findings.{opens_by_itself}
use Rattle.eg_laws.specs.Availability.{misses_tick}
use Rattle.eg_laws.specs.MissedTicks.{MissesOneOf, KeepsMissing}
use Rattle.eg_model.proofs.TickLemmas.{Each, length-moments, fields}
use Rattle.eg_model.proofs.ClassLemmas.{of_history, sees_plain}
use Rattle.eg_model.proofs.Silence.{AreRegular, NoGood, period_least, sent_at_place, off_after_silence}
use Rattle.eg_model.proofs.ReactionLaw.{seen_cut}
use Rattle.eg_model.proofs.LapseAnswers.{is_good_mark, whole_where_good, absent_off_place, whole_before}
use Rattle.eg_model.proofs.SpanRows.{EndOf, end_of, follows-end, proper-end}
use Rattle.eg_laws.proofs.MissTicks.{lapse_tick, lapse_conducts, counts_as_missed}
use Rattle.eg_laws.proofs.SingleMisses.{turn_apart}

-- ---- what a lapse leaves alone ----

pub lapse_regular : (fault : Option Fault) → IsLapse fault → (tick : ℕ) → IsRegular (effects fault tick)
lapse_regular fault lapse tick = subst (λ f. IsRegular (effects f tick)) (sym lapse.is)
    (others_spare_answers (record { onset = lapse.onset; class = Lapse lapse.after lapse.every }) tick (unfold may_change_answers in refl))

pub lapse_opens_none : (fault : Option Fault) → IsLapse fault → (tick : ℕ) → opens_by_itself fault tick ≡ false
lapse_opens_none fault lapse tick = ap (λ f. opens_by_itself f tick) lapse.is
    ∙ (unfold opens_by_itself opens_path in and_right _ false refl)

-- ---- no answer is good ----

-- two numbers of one place lie a period apart
pub apart : (period u v : ℕ) → 0 < period → u % period ≡ v % period → u < v → u + period ≤ v
apart zero u v some same less = absurd (omega (arith, some))
apart (suc n) u v some same less = turn_apart u v n same less

module _ (s : Setting) (accepted : IsAccepted s.cal) (lapse : IsLapse s.fault) (start : ℕ) where
  abbrev period : ℕ
  period = s.cal.times.period

  pub regular : (t : ℕ) → IsRegular (effects s.fault t)
  regular = lapse_regular s.fault lapse

  -- at a tick that is missed not all modules run
  pub not_whole : (x : Tick) (t : ℕ) → x.effects ≡ effects s.fault t → misses_tick s.fault t ≡ true → is_whole x.effects ≡ true → ⊥
  unfolding misses_tick
  not_whole x t is misses whole = true≢false (sym misses ∙ ap not (sym (ap is_whole is) ∙ whole))

  -- nor have all run since the last answer where a tick was missed and no send tick came since
  pub stale : (h : List Tick) → Follows s.fault start h → (missed : ℕ) → start ≤ missed → missed < start + length h →
      misses_tick s.fault missed ≡ true → ((t : ℕ) → missed ≤ start + t → t < length h → t % period ≢ s.cal.times.send) →
      whole_since_answer (moments_of s h) ≡ true → ⊥
  unfolding Follows moments_of
  stale [] follows missed low high misses unsent whole = omega (arith, low, high)
  stale (x ∷ h) follows missed low high misses unsent whole = elim (cases_lt missed (start + length h)) [
    | inl earlier ↦ stale h follows.1 missed low earlier misses (λ t late early. unsent t late (omega (arith, early))) parts.1
    | inr last ↦ not_whole x (start + length h) follows.0 (subst (λ t. misses_tick s.fault t ≡ true) (omega (arith, last, high)) misses)
        (sym (fields s x.effects x.entry past).whole ∙ parts.0)
  ]
    where
      past : List Moment
      past = moments_of s h

      now : Moment
      now = moment s x.effects x.entry past

      place : (length past % period == s.cal.times.send) ≡ false
      place = ap (λ n. n % period == s.cal.times.send) (length-moments s h)
          ∙ ne_eqb _ _ (unsent (length h) (omega (arith, high)) (omega arith))

      parts : (now.whole ≡ true) × (whole_since_answer past ≡ true)
      parts = whole_before now past ((fields s x.effects x.entry past).mark
          ∙ absent_off_place s.cal.times x.effects now.trip past
          (subst IsRegular (sym follows.0) (regular (start + length h))) place) whole

module _ (s : Setting) (accepted : IsAccepted s.cal) (keeps : KeepsMissing s.fault s.cal.times.period) (start : ℕ) where
  some : 0 < s.cal.times.period
  some = period_least s.cal.times accepted.times

  module _ (first : ℕ) (from : start ≤ first) (out : misses_tick s.fault first ≡ true) where
    -- of the last `period` ticks of the span one was missed
    record IsNear (tick : ℕ) : Type 0 where
      pub missed : ℕ
      pub low : start ≤ missed
      pub by : missed ≤ tick
      pub soon : tick < missed + s.cal.times.period
      pub misses : misses_tick s.fault missed ≡ true

    near : (tick : ℕ) → first ≤ tick → IsNear tick
    near tick late = elim (cases_lt tick (first + s.cal.times.period)) [
      | inl soon ↦ record { missed = first; low = from; by = late; soon = soon; misses = out }
      | inr long ↦ last (keeps.again first (tick + 1 - s.cal.times.period) out (omega (arith, long))) long
    ]
      where
        last : MissesOneOf s.fault s.cal.times.period (tick + 1 - s.cal.times.period) → first + s.cal.times.period ≤ tick → IsNear tick
        last one long = record {
          missed = one.missed;
          low = omega (arith, from, one.from, long);
          by = omega (arith, one.before, long, some);
          soon = omega (arith, one.from, long, some);
          misses = one.misses;
        }

    not_good : (x : Tick) (h : List Tick) → Follows s.fault start (x ∷ h) → first ≤ start + length h →
        (moment s x.effects x.entry (moments_of s h)).mark ≢ Good
    unfolding Follows is_good_mark
    not_good x h follows late good = elim (cases_lt n.missed (start + length h)) [
      | inl earlier ↦ stale s accepted keeps.lapse start h follows.1 n.missed n.low earlier n.misses unsent parts.1
      | inr last ↦ not_whole s accepted keeps.lapse start x (start + length h) follows.0
          (subst (λ t. misses_tick s.fault t ≡ true) (omega (arith, last, n.by)) n.misses) parts.0
    ]
      where
        past : List Moment
        past = moments_of s h

        n : IsNear (start + length h)
        n = near (start + length h) late

        m : Moment
        m = moment s x.effects x.entry past

        mark_is : mark_at s.cal.times x.effects m.trip past ≡ Good
        mark_is = sym (fields s x.effects x.entry past).mark ∙ good

        parts : (is_whole x.effects ≡ true) × (whole_since_answer past ≡ true)
        parts = whole_where_good s.cal.times x.effects m.trip past (ap is_good_mark mark_is)

        place : length h % s.cal.times.period ≡ s.cal.times.send
        place = ap (λ k. k % s.cal.times.period) (sym (length-moments s h)) ∙ sent_at_place s.cal.times x.effects m.trip past
            (subst IsRegular (sym follows.0) (lapse_regular s.fault keeps.lapse (start + length h)))
            (λ absent. let both : Absent ≡ Good = sym absent ∙ mark_is in cc)

        unsent : (t : ℕ) → n.missed ≤ start + t → t < length h → t % s.cal.times.period ≢ s.cal.times.send
        unsent t low less same = let far = apart s.cal.times.period t (length h) some (same ∙ sym place) less in
            omega (arith, far, low, n.soon)

    none_good : (more before : List Tick) → Follows s.fault start (more ++ before) → first ≤ start + length before → NoGood s more before
    unfolding Follows NoGood
    none_good [] before follows late = tt
    none_good (x ∷ more) before follows late = (
      not_good x (more ++ before) (unfold Follows in follows)
          (let sum = length-append more before in omega (arith, sum, late)),
      none_good more before follows.1 late,
    )

    -- ---- the stages are off ----

    pub off_on : (x : Tick) (h : List Tick) → Follows s.fault start (x ∷ h) → first + reaction_of s.cal.times ≤ start + length h →
        is_on_after s h x ≡ false
    off_on x h follows late = subst (λ g. is_on_after s g x ≡ false) (sym cut.whole)
        (off_after_silence s accepted.times (omega (arith, accepted.answers.0)) (omega (arith, accepted.answers.3)) cut.more cut.rest
        (subst AreRegular cut.whole (of_history IsRegular s.fault start h past (λ t low high. lapse_regular s.fault keeps.lapse t)))
        (none_good cut.more cut.rest (subst (Follows s.fault start) cut.whole past) (omega (arith, cut.size, from)))
        (let sum = ap length cut.whole ∙ length-append cut.more cut.rest in omega (arith, sum, cut.size, late, from)) x
        (ap (λ (y : Effects). y.conducts PATH_2 true) now ∙ lapse_conducts s.fault keeps.lapse (start + length h) PATH_2 true))
      where
        past : Follows s.fault start h
        past = unfold Follows in follows.1

        now : x.effects ≡ effects s.fault (start + length h)
        now = unfold Follows in follows.0

        cut : EndOf h (first - start)
        cut = end_of h (first - start) (omega (arith, late))

  -- ---- the reaction ----

  -- one of these ticks is missed
  record IsMissed (h : List Tick) : Type 0 where
    pub tick : ℕ
    pub low : start ≤ tick
    pub high : tick < start + length h
    pub misses : misses_tick s.fault tick ≡ true

  -- or at each of them level 2 sees excess
  missed_or_seen : (h : List Tick) → Follows s.fault start h → IsMissed h ⊎ Each (λ x. SeesExcess x.effects) h
  unfolding Follows Each
  missed_or_seen [] follows = inr tt
  missed_or_seen (x ∷ h) follows = elim (lapse_tick s.fault keeps.lapse (start + length h)) [
    | inr out ↦ inl (record { tick = start + length h; low = omega arith; high = omega arith; misses = counts_as_missed s.fault (start + length h) out })
    | inl plain ↦ elim (missed_or_seen h follows.1) [
      | inl m ↦ inl (record { tick = m.tick; low = m.low; high = omega (arith, m.high); misses = m.misses })
      | inr seen ↦ inr (subst SeesExcess (sym (follows.0 ∙ plain)) sees_plain, seen)
    ]
  ]

  -- the stages are off from R ticks after a confirmed excess: a trip came by then, or a tick was missed
  pub misses_react : (h : List Tick) → IsExcessConfirmed s h → OffFrom s start h (reaction_of s.cal.times)
  misses_react h confirmed more x follows proper late = elim (missed_or_seen h (follows-end s.fault start more h past)) [
    | inl m ↦ off_on m.tick m.low m.misses x (more ++ h) follows
        (let sum = length-append more h in omega (arith, sum, late, m.high))
    | inr seen ↦ seen_cut s accepted h seen (proper-end s more h proper) confirmed more x
        (ap (λ (y : Effects). y.conducts PATH_1 true) now ∙ lapse_conducts s.fault keeps.lapse (start + length (more ++ h)) PATH_1 true)
  ]
    where
      past : Follows s.fault start (more ++ h)
      past = unfold Follows in follows.1

      now : x.effects ≡ effects s.fault (start + length (more ++ h))
      now = unfold Follows in follows.0
