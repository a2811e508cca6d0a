-- Path 2 stays closed as long as few verdicts have come since the last one that was surely right.
use Rattle.std.proofs.Common.{◌≡◌, ℕ, zero, suc, ◌+◌, ◌-◌, ◌*◌, ◌/◌, ◌%◌, ◌≤◌, ◌<◌, Bool, true, false, List, [], ◌∷◌, ◌++◌, length, refl, sym, ap, ◌∙◌, arith, inl, inr, Option, Some, None, subst, length-append}
use Rattle.std.proofs.Math.Nat.{le-div_iff_mul-le, div-lt_iff_lt-mul, div-mul-le_self}
use Rattle.std.proofs.lemmas.Nat.{mod-mul-add}
use Rattle.std.proofs.lemmas.Bool.{cases_lt, or_from, lt-leb, ne_eqb}
use Rattle.eg_num.specs.Arithmetic.{quotient_up}
use Rattle.eg_num.specs.Windows.{WeightParts, is_confirmed, greatest}
use Rattle.eg_num.proofs.CounterLemmas.{greatest-bad, greatest-good, is_reached-greatest}
use Rattle.eg_answer.specs.Times.{TimeParts, AreTimes, feeds_to_confirm}
use Rattle.eg_answer.specs.Periods.{is_wrong}
use Rattle.eg_answer.specs.declared.marks.AnswerMark.{AnswerMark}
use Rattle.eg_answer.specs.declared.marks.AnswerMark.TheVariants.{Absent, Good, Bad}
use Rattle.eg_answer.specs.declared.marks.Verdict.{Verdict}
use Rattle.eg_fault.specs.Effects.{Effects}
use Rattle.eg_fault.specs.Classes.{IsRegular}
use Rattle.eg_model.specs.History.{Setting, Tick, SpanKind, Drive, Moment}
use Rattle.eg_model.specs.Answers.{mark_at, confirms_at}
use Rattle.eg_model.specs.Paths.{latch2}
use Rattle.eg_model.specs.Moments.{moment, moment_in, moments_in, moments_of}
use Rattle.eg_model.proofs.PeriodLemmas.{period_closes}
use Rattle.eg_model.proofs.TickLemmas.{Each, length-moments, fields, fields_in}
use Rattle.eg_model.proofs.Silence.{AreRegular, wrongs, with_wrong, wrongs-cons, latch2-cons, period_least, verdict_none, sent_at_place}
use Rattle.eg_model.proofs.SharpCutLaw.{AllGood, Calm, greatest-AllGood, not_reached, AreUsual, usual_mark, IsNotWrong, verdict_usual, right_bits, not_yet}

-- ---- few bits after good ones don't confirm ----

pub never : (w : WeightParts) (bits : List Bool) → 0 < w.limit → AllGood bits → is_confirmed w bits ≡ false
unfolding is_confirmed AllGood
never w [] some good = refl
never w (b ∷ bits) some good = or_from _ _ (not_reached w (b ∷ bits) some good) (never w bits some good.1)

weighs_at_most : (w : WeightParts) (bits good : List Bool) → AllGood good →
    greatest w (bits ++ good) ≤ length bits * w.up
weighs_at_most w [] good none = let z = greatest-AllGood w good none in omega arith
weighs_at_most w (true ∷ bits) good none =
    rw (greatest-bad w (bits ++ good)) (let rest = weighs_at_most w bits good none in omega arith)
weighs_at_most w (false ∷ bits) good none =
    rw (greatest-good w (bits ++ good)) (let rest = weighs_at_most w bits good none in omega arith)

pub too_few : (w : WeightParts) (bits good : List Bool) → 0 < w.limit → AllGood good →
    length bits * w.up < w.limit → is_confirmed w (bits ++ good) ≡ false
unfolding is_confirmed
too_few w [] good some none few = never w good some none
too_few w (b ∷ bits) good some none few =
    or_from _ _
    (is_reached-greatest w (b ∷ bits ++ good) some
    ∙ lt-leb w.limit _ (let most = weighs_at_most w (b ∷ bits) good none in omega arith))
    (too_few w bits good some none (omega arith))

-- fewer than the quotient, rounded up, don't come to the number
pub quotient_short : (n d j : ℕ) → 0 < n → 0 < d → j < quotient_up n d → j * d < n
quotient_short n d j some h less = let within : suc j * d ≤ n + (d - 1) = (le-div_iff_mul-le h).0 less in omega arith

pub quotient_positive : (n d : ℕ) → 0 < n → 0 < d → 0 < quotient_up n d
quotient_positive n d some h = (le-div_iff_mul-le h).1 (let one : 1 * d ≤ n + (d - 1) = omega arith in one)

-- ---- where the verdicts aren't confirmed, path 2 isn't open ----

abbrev pub NoneOpens : List Tick → Type 0
NoneOpens h = Each (λ x. x.effects.opens ≡ false) h

unconfirmed_now : (times : TimeParts) (v : Option Verdict) (past : List Moment) →
    is_confirmed times.weights (with_wrong v (wrongs past)) ≡ false →
    (confirms_at times v past ≡ false) × (is_confirmed times.weights (wrongs past) ≡ false)
unfolding confirms_at with_wrong
unconfirmed_now times None past none = (refl, none)
unconfirmed_now times (Some v) past none = unfold wrongs in not_yet times.weights _ _ none

pub shut_unless_confirmed : (kind : SpanKind) (s : Setting) (h : List Tick) → NoneOpens h →
    is_confirmed s.cal.times.weights (wrongs (moments_in kind s h)) ≡ false → latch2 (moments_in kind s h) ≡ false
unfolding moments_in Each
shut_unless_confirmed kind s [] shut none = unfold latch2 in refl
shut_unless_confirmed kind s (x ∷ h) shut none =
    let past = moments_in kind s h in
    let m = moment_in kind s x.effects x.entry past in
    let both = unconfirmed_now s.cal.times m.verdict past
    (subst (λ bits. is_confirmed s.cal.times.weights bits ≡ false) (wrongs-cons m past) none) in
    latch2-cons m past
    ∙ or_from _ _ (or_from _ _ ((fields_in kind s x.effects x.entry past).confirms ∙ both.0)
    ((fields_in kind s x.effects x.entry past).opens ∙ shut.0)) (shut_unless_confirmed kind s h shut.1 both.1)

-- ---- how many verdicts have come since period k began ----

-- Before period k began each verdict was right. Since then no more came than periods have ended.
pub record HasFew (s : Setting) (k : ℕ) (h : List Tick) : Type 0 where
  pub bits : List Bool
  pub good : List Bool
  pub are : wrongs (moments_of s h) ≡ bits ++ good
  pub none_bad : AllGood good
  pub few : length bits ≤ length h / s.cal.times.period - k
  pub usual : length h ≤ k * s.cal.times.period → AreUsual s h

-- while all is as usual each was
pub few_of_calm : (s : Setting) (k : ℕ) (h : List Tick) → Calm s h → HasFew s k h
few_of_calm s k h calm = record {
  bits = [];
  good = wrongs (moments_of s h);
  are = refl;
  none_bad = calm.right;
  few = omega arith;
  usual = λ within. calm.answers;
}

-- where a period isn't over no period has ended
none_ended : (k period t : ℕ) → 0 < period → t ≤ k * period → t / period - k ≡ 0
none_ended k period t h le = let low : t / period < k + 1 = (div-lt_iff_lt-mul h).1 (omega arith) in omega arith

some_begun : (k period t : ℕ) → 0 < period → k * period ≤ t → k ≤ t / period
some_begun k period t h le = (le-div_iff_mul-le h).1 le

pub no_less : (period t : ℕ) → 0 < period → t / period ≤ suc t / period
no_less period t h = (le-div_iff_mul-le h).1 (let f = div-mul-le_self t period in omega arith)

pub closes : (period t : ℕ) → 0 < period → (t + 1) % period ≡ 0 → suc t / period ≡ t / period + 1
closes period t h ends = ap (λ n. n / period) (one_more t) ∙ period_closes period t h ends
  where
    one_more : (t : ℕ) → suc t ≡ t + 1
    one_more t = omega arith

still_few : (b q q' k : ℕ) → b ≤ q - k → q ≤ q' → b ≤ q' - k
still_few b q q' k few grows = omega arith

one_few : (b q q' k : ℕ) → b ≤ q - k → q' ≡ q + 1 → k ≤ q → suc b ≤ q' - k
one_few b q q' k few grows begun = omega arith

under : (b q k m : ℕ) → b ≤ q - k → q < k + m → 0 < m → b < m
under b q k m few early some = omega arith

nothing : (bits : List Bool) → length bits ≤ 0 → bits ≡ []
nothing [] l = refl
nothing (b ∷ bits) l = absurd (omega arith)

-- a tick between the send tick of the period before period k and its end isn't a send tick
not_placed : (times : TimeParts) (k t : ℕ) → k * times.period + times.send < t + times.period → t < k * times.period →
    t % times.period ≡ times.send → ⊥
not_placed times zero t low high = absurd (omega (arith, high))
not_placed times (suc p) t low high = go (t - p * times.period) (omega arith) (omega arith) (omega arith)
  where
    go : (r : ℕ) → t ≡ p * times.period + r → times.send < r → r < times.period → t % times.period ≡ times.send → ⊥
    go r at more room e =
        let place = ap (λ n. n % times.period) at ∙ mod-mul-add p times.period r room in omega (arith, place, more, e)

-- so it sends nothing
absent_between : (times : TimeParts) (x : Effects) (trip : Bool) (past : List Moment) → IsRegular x →
    (length past % times.period ≡ times.send → ⊥) → mark_at times x trip past ≡ Absent
absent_between times x trip past regular other = go (mark_at times x trip past) refl
  where
    go : (mark : AnswerMark) → mark_at times x trip past ≡ mark → mark_at times x trip past ≡ Absent
    go Absent e = e
    go Good e = absurd (other (sent_at_place times x trip past regular (λ none. let both : Absent ≡ Good = sym none ∙ e in cc)))
    go Bad e = absurd (other (sent_at_place times x trip past regular (λ none. let both : Absent ≡ Bad = sym none ∙ e in cc)))

-- one tick more, past the send tick of the period before period k
few_more : (s : Setting) → AreTimes s.cal.times → (k : ℕ) (x : Tick) (h : List Tick) → IsRegular x.effects →
    k * s.cal.times.period + s.cal.times.send < length h + s.cal.times.period → HasFew s k h → HasFew s k (x ∷ h)
unfolding moments_of
few_more s are k x h regular later was = elim (cases_lt (k * s.cal.times.period) (length h + 1)) [
  | inr before ↦ early before
  | inl past_it ↦ late ((length h + 1) % s.cal.times.period) refl m.verdict refl (omega arith)
]
  where
    past : List Moment
    past = moments_of s h

    m : Moment
    m = moment s x.effects x.entry past

    some : 0 < s.cal.times.period
    some = period_least s.cal.times are

    early : length h + 1 ≤ k * s.cal.times.period → HasFew s k (x ∷ h)
    early before = record {
      bits = [];
      good = with_wrong m.verdict (wrongs past);
      are = wrongs-cons m past;
      none_bad = right_bits m.verdict (wrongs past) (subst IsNotWrong (sym (fields s x.effects x.entry past).verdict)
          (verdict_usual s are x h regular.judged usual)) (subst AllGood (sym (was.are ∙ ap (λ bits. bits ++ was.good) empty)) was.none_bad);
      few = omega arith;
      usual = λ within. usual;
    }
      where
        empty : was.bits ≡ []
        empty = nothing was.bits (let none = none_ended k s.cal.times.period (length h) some (omega arith) in let few = was.few in omega arith)

        other : length h % s.cal.times.period ≡ s.cal.times.send → ⊥
        other = not_placed s.cal.times k (length h) later (omega arith)

        absent : m.mark ≡ Absent
        absent = (fields s x.effects x.entry past).mark ∙ absent_between s.cal.times x.effects m.trip past regular
            (λ e. other (ap (λ n. n % s.cal.times.period) (sym (length-moments s h)) ∙ e))

        none_usual : Absent ≡ usual_mark s.cal.times (length h)
        none_usual = rw (ne_eqb (length h % s.cal.times.period) s.cal.times.send other) refl

        usual : AreUsual s (x ∷ h)
        usual = unfold AreUsual in (absent ∙ none_usual, was.usual (omega arith))

    late : (r : ℕ) → (length h + 1) % s.cal.times.period ≡ r → (v : Option Verdict) → m.verdict ≡ v →
        k * s.cal.times.period ≤ length h → HasFew s k (x ∷ h)
    late r ends None is over = record {
      bits = was.bits;
      good = was.good;
      are = wrongs-cons m past ∙ ap (λ v. with_wrong v (wrongs past)) is ∙ (unfold with_wrong in was.are);
      none_bad = was.none_bad;
      few = still_few (length was.bits) _ _ k was.few (no_less s.cal.times.period (length h) some);
      usual = λ within. absurd (omega arith);
    }
    late (suc r) ends (Some v) is over = absurd (let none : m.verdict ≡ None = (fields s x.effects x.entry past).verdict
        ∙ verdict_none s.cal.times are x.effects m.mark past (subst (λ n. 0 < (n + 1) % s.cal.times.period) (sym (length-moments s h)) (omega arith)) in
        let both : Some v ≡ None = sym is ∙ none in cc)
    late zero ends (Some v) is over = record {
      bits = is_wrong v ∷ was.bits;
      good = was.good;
      are = wrongs-cons m past ∙ ap (λ v. with_wrong v (wrongs past)) is ∙ (unfold with_wrong in ap (λ bits. is_wrong v ∷ bits) was.are);
      none_bad = was.none_bad;
      few = one_few (length was.bits) _ _ k was.few (closes s.cal.times.period (length h) some ends)
          (some_begun k s.cal.times.period (length h) some over);
      usual = λ within. absurd (omega arith);
    }

-- and any number of ticks more
pub few_on : (s : Setting) → AreTimes s.cal.times → (k : ℕ) (more h : List Tick) → AreRegular more →
    k * s.cal.times.period + s.cal.times.send < length h + s.cal.times.period → HasFew s k h → HasFew s k (more ++ h)
unfolding Each
few_on s are k [] h regular later was = was
few_on s are k (x ∷ more) h regular later was =
    few_more s are k x (more ++ h) regular.0 (longer more) (few_on s are k more h regular.1 later was)
  where
    longer : (more : List Tick) → k * s.cal.times.period + s.cal.times.send < length (more ++ h) + s.cal.times.period
    longer more = let size = length-append more h in omega (arith, size, later)

-- until as many periods have ended as confirm, path 2 isn't open
pub still_shut : (s : Setting) → 0 < s.cal.times.period → 0 < s.cal.times.weights.up → 0 < s.cal.times.weights.limit →
    (k : ℕ) (h : List Tick) → HasFew s k h → NoneOpens h →
    length h < (k + feeds_to_confirm s.cal.times.weights) * s.cal.times.period → latch2 (moments_of s h) ≡ false
unfolding feeds_to_confirm moments_of
still_shut s some up limit k h few shut early =
    shut_unless_confirmed Drive s h shut
    (subst (λ bits. is_confirmed s.cal.times.weights bits ≡ false) (sym few.are)
    (too_few s.cal.times.weights few.bits few.good limit few.none_bad
    (quotient_short s.cal.times.weights.limit s.cal.times.weights.up (length few.bits) limit up
    (under (length few.bits) (length h / s.cal.times.period) k _ few.few ((div-lt_iff_lt-mul some).1 early)
    (quotient_positive s.cal.times.weights.limit s.cal.times.weights.up limit up)))))
