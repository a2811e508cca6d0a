-- Where no good answer comes from a tick on, path 2 is open from R ticks after it.
use Rattle.std.proofs.Common.{◌≡◌, ℕ, zero, suc, ◌+◌, ◌-◌, ◌*◌, ◌/◌, ◌%◌, ◌≤◌, ◌<◌, Bool, true, false, ◌||◌, ◌&&◌, List, [], ◌∷◌, ◌++◌, map, length, take, refl, ap, ◌∙◌, arith, inl, inr, ◌⊎◌, Option, Some, None, ◌≢◌, length-append, add-one}
use Rattle.std.specs.Prelude.{◌==◌, if◌then◌else◌}
use Rattle.std.proofs.lemmas.Bool.{true_from_ne_false, cases_lt, false≢true, cases_Bool, false_from_ne_true, or_left, or_right, eqb-true, ne_eqb, le-leb, and_right, and_parts}
use Rattle.std.proofs.Math.Nat.{lt-div-mul-add}
use Rattle.eg_num.specs.Windows.{WeightParts, is_confirmed, greatest}
use Rattle.eg_num.proofs.CounterLemmas.{greatest-nil, greatest-bad, is_reached-greatest}
use Rattle.eg_num.proofs.FirstIndexLemmas.{is_reached_confirmed, is_first_from}
use Rattle.eg_answer.specs.Times.{TimeParts, AreTimes, feeds_to_confirm, reaction_of}
use Rattle.eg_answer.specs.Periods.{place_of, is_last_tick, is_send_tick, is_in_window, MarkedAnswer, verdict_of, with_verdict, is_wrong}
use Rattle.eg_answer.specs.declared.marks.AnswerMark.{AnswerMark}
use Rattle.eg_answer.specs.declared.marks.AnswerMark.TheVariants.{Absent, Good, Bad}
use Rattle.eg_answer.specs.declared.marks.Verdict.{Verdict}
use Rattle.eg_answer.specs.declared.marks.Verdict.TheVariants.{Right, Wrong}
use Rattle.eg_fault.specs.Effects.{Effects, sends_in, sends_at}
use Rattle.eg_fault.specs.Classes.{IsRegular}
use Rattle.eg_fault.specs.declared.paths.TheConstants.{PATH_2}
use Rattle.eg_model.specs.History.{Setting, Entry, Tick, SpanKind, Drive, Moment}
use Rattle.eg_model.specs.Answers.{is_sent, mark_at, with_answer, answers_in, verdict_at, verdicts_in, confirms_at}
use Rattle.eg_model.specs.Paths.{latch2, path2_at, both_conduct}
use Rattle.eg_model.specs.Moments.{moment_in, moment, moments_in, moments_of}
use Rattle.eg_model.specs.Premises.{is_on_after}
use Rattle.eg_model.proofs.PeriodLemmas.{at_place, period_closes, period_open, period_room, counts_from, none_counts, enough_periods, last_tick}
use Rattle.eg_model.proofs.TickLemmas.{Each, length-moments, fields_in, fields}

abbrev pub AreRegular : List Tick → Type 0
AreRegular h = Each (λ x. IsRegular x.effects) h

-- what times give to the arithmetic of periods
pub period_least : (times : TimeParts) → AreTimes times → 0 < times.period
period_least times t = let a = t.shortest in omega arith

pub send_within : (times : TimeParts) → AreTimes times → times.send < times.period
send_within times t = let a = t.to_last in let b = t.inside in omega arith

-- P of each answer
unfoldable pub EachAnswer : (MarkedAnswer → Type 0) → List MarkedAnswer → Type 0
EachAnswer P [] = Unit {0}
EachAnswer P (a ∷ these) = P a × EachAnswer P these

-- an answer is sent at a send tick alone
pub sent_at_place : (times : TimeParts) (x : Effects) (trip : Bool) (past : List Moment) → IsRegular x →
    mark_at times x trip past ≢ Absent → length past % times.period ≡ times.send
unfolding mark_at is_sent sends_at sends_in is_send_tick place_of
sent_at_place times x trip past usual h =
    let sent : is_sent times x trip past ≡ true = true_from_ne_false _ (λ e. h (rw e refl)) in
    let first : sends_in x.send times (length past) ≡ true = (and_parts _ _ (and_parts _ _ sent).0).0 in
    let plain : sends_in None times (length past) ≡ true = rw usual.sends at first in
    eqb-true _ _ plain

-- what is so of the answers of one tick and of those before
EachAnswer-with_answer : (P : MarkedAnswer → Type 0) (t : ℕ) (m : AnswerMark) (these : List MarkedAnswer) →
    (m ≢ Absent → (g : Bool) → (g ≡ true → m ≡ Good) → P (record { tick = t; good = g })) →
    EachAnswer P these → EachAnswer P (with_answer t m these)
unfolding with_answer EachAnswer
EachAnswer-with_answer P t Absent these h r = r
EachAnswer-with_answer P t Good these h r = (h (λ e. cc) true (λ e. refl), r)
EachAnswer-with_answer P t Bad these h r = (h (λ e. cc) false (λ e. cc), r)

-- the answers among the newest n moments come at send ticks, and no earlier than n ticks ago
pub PlacedFrom : TimeParts → ℕ → MarkedAnswer → Type 0
PlacedFrom times low a = (a.tick % times.period ≡ times.send) × (low ≤ a.tick)

pub answers_placed : (s : Setting) (h : List Tick) → AreRegular h → (n low : ℕ) → low + n ≤ length h →
    EachAnswer (PlacedFrom s.cal.times low) (answers_in (take n (moments_of s h)))
unfolding moments_of answers_in PlacedFrom Each
answers_placed s h r zero low l = unfold EachAnswer in tt
answers_placed s [] r (suc n) low l = unfold EachAnswer in tt
answers_placed s (x ∷ h) r (suc n) low l =
    let past = moments_of s h in
    let m = moment s x.effects x.entry past in
    EachAnswer-with_answer (PlacedFrom s.cal.times low) m.tick m.mark (answers_in (take n past))
    (λ sent g is_good. (
      rw (fields s x.effects x.entry past).tick
          (sent_at_place s.cal.times x.effects m.trip past r.0
          (λ a. sent ((fields s x.effects x.entry past).mark ∙ a))),
      rw ((fields s x.effects x.entry past).tick, length-moments s h) (omega arith),
    ))
    (answers_placed s h r.1 n low (omega arith))

-- from the end of h on no good answer was sent
unfoldable pub NoGood : Setting → List Tick → List Tick → Type 0
NoGood s [] h = Unit {0}
NoGood s (x ∷ more) h = ((moment s x.effects x.entry
    (moments_of s (more ++ h))).mark ≢ Good) × NoGood s more h

-- a good answer came before tick s0
pub GoodBefore : ℕ → MarkedAnswer → Type 0
GoodBefore s0 a = a.good ≡ true → a.tick < s0

good_before_now : (s : Setting) (h : List Tick) (n s0 : ℕ) → length h ≤ s0 →
    EachAnswer (GoodBefore s0) (answers_in (take n (moments_of s h)))
unfolding moments_of answers_in GoodBefore
good_before_now s h zero s0 l = unfold EachAnswer in tt
good_before_now s [] (suc n) s0 l = unfold EachAnswer in tt
good_before_now s (x ∷ h) (suc n) s0 l =
    let past = moments_of s h in
    let m = moment s x.effects x.entry past in
    EachAnswer-with_answer (GoodBefore s0) m.tick m.mark (answers_in (take n past))
    (λ sent g is_good yes. rw ((fields s x.effects x.entry past).tick, length-moments s h) (omega arith))
    (good_before_now s h n s0 (omega arith))

pub good_before : (s : Setting) (more h : List Tick) (n : ℕ) → NoGood s more h →
    EachAnswer (GoodBefore (length h)) (answers_in (take n (moments_of s (more ++ h))))
unfolding moments_of answers_in GoodBefore NoGood
good_before s [] h n none = good_before_now s h n (length h) (omega arith)
good_before s (x ∷ more) h zero none = unfold EachAnswer in tt
good_before s (x ∷ more) h (suc n) none =
    let past = moments_of s (more ++ h) in
    let m = moment s x.effects x.entry past in
    EachAnswer-with_answer (GoodBefore (length h)) m.tick m.mark (answers_in (take n past))
    (λ sent g is_good yes. absurd (none.0 (is_good yes)))
    (good_before s more h n none.1)

-- a list of answers of which none is good is not right
pub not_right : (times : TimeParts) (these : List MarkedAnswer) → EachAnswer (λ a. a.good ≡ false) these →
    verdict_of times these ≡ Wrong
unfolding verdict_of EachAnswer
not_right times [] h = refl
not_right times (a ∷ []) h = wrong_one (is_in_window times a.tick) a.good h.0
  where
    wrong_one : (b g : Bool) → g ≡ false → (if b && g then Right else Wrong) ≡ Wrong
    wrong_one b g e = grind arith
not_right times (a ∷ b ∷ more) h = refl

none_good : (times : TimeParts) (p s0 : ℕ) (these : List MarkedAnswer) → 0 < times.period →
    s0 ≤ p * times.period + times.send → EachAnswer (PlacedFrom times (p * times.period)) these →
    EachAnswer (GoodBefore s0) these → EachAnswer (λ a. a.good ≡ false) these
unfolding EachAnswer PlacedFrom GoodBefore
none_good times p s0 [] h l placed before = tt
none_good times p s0 (a ∷ these) h l placed before = (
  false_from_ne_true a.good (λ e. let early : a.tick < s0 = before.0 e in
      let late = at_place times.period p a.tick times.send h placed.0.1 placed.0.0 in omega arith),
  none_good times p s0 these h l placed.1 before.1,
)

-- a number of newest bits that are all true
unfoldable pub TrueRun : ℕ → List Bool → Type 0
TrueRun zero bits = Unit {0}
TrueRun (suc n) [] = ⊥
TrueRun (suc n) (b ∷ bits) = (b ≡ true) × TrueRun n bits

-- ---- what the verdict of a tick is ----

-- a tick is the last of its period
ends-is : (times : TimeParts) (t : ℕ) → AreTimes times →
    is_last_tick times t ≡ ((t + 1) % times.period == 0)
unfolding is_last_tick place_of
ends-is times t are = last_tick times.period t (period_least times are)

pub verdict_none : (times : TimeParts) → AreTimes times →
    (x : Effects) (mark : AnswerMark) (past : List Moment) → 0 < (length past + 1) % times.period →
    verdict_at times x mark past ≡ None
unfolding verdict_at
verdict_none times are x mark past h =
    rw (
      ends-is times (length past) are,
      ne_eqb ((length past + 1) % times.period) 0 (λ e. omega arith),
    ) refl

pub verdict_some : (times : TimeParts) → AreTimes times →
    (x : Effects) (mark : AnswerMark) (past : List Moment) → x.wild ≡ None →
    (length past + 1) % times.period ≡ 0 →
    verdict_at times x mark past
    ≡ Some (verdict_of times (with_answer (length past) mark (answers_in (take (times.period - 1) past))))
unfolding verdict_at
verdict_some times are x mark past judged e = rw (ends-is times (length past) are, e, judged) refl

-- where the period's own send tick lies past s0 its verdict is wrong
closes_wrong : (s : Setting) → AreTimes s.cal.times → (x : Tick) (more h : List Tick) →
    AreRegular (x ∷ more ++ h) → NoGood s (x ∷ more) h → (length (more ++ h) + 1) % s.cal.times.period ≡ 0 →
    length h ≤ (length (more ++ h) / s.cal.times.period) * s.cal.times.period + s.cal.times.send →
    (moment s x.effects x.entry (moments_of s (more ++ h))).verdict ≡ Some Wrong
unfolding moments_of answers_in Each
closes_wrong s are x more h r none ends late =
    let times = s.cal.times in
    let past = moments_of s (more ++ h) in
    let t = length (more ++ h) in
    let m = moment s x.effects x.entry past in
    let p = t / times.period in
    let placed : EachAnswer (PlacedFrom times (p * times.period))
    (answers_in (take (suc (times.period - 1)) (moments_of s (x ∷ more ++ h)))) =
    answers_placed s (x ∷ more ++ h) r (suc (times.period - 1)) (p * times.period)
    (period_room times.period t (period_least times are) ends) in
    let before : EachAnswer (GoodBefore (length h))
    (answers_in (take (suc (times.period - 1)) (moments_of s (x ∷ more ++ h)))) =
    good_before s (x ∷ more) h (suc (times.period - 1)) none in
    let wrong = not_right times _
    (none_good times p (length h) _ (period_least times are) late placed before) in
    let wrong' = rw (fields s x.effects x.entry past).tick at wrong in
    (fields s x.effects x.entry past).verdict
    ∙ verdict_some times are x.effects m.mark past r.0.judged (rw (length-moments s (more ++ h)) ends)
    ∙ ap Some wrong'

-- ---- the wrong verdicts ----

-- the verdicts so far, a wrong one being true
unfoldable pub wrongs : List Moment → List Bool
wrongs past = map is_wrong (verdicts_in past)

unfoldable pub with_wrong : Option Verdict → List Bool → List Bool
with_wrong None others = others
with_wrong (Some verdict) others = is_wrong verdict ∷ others

pub wrongs-cons : (m : Moment) (past : List Moment) → wrongs (m ∷ past) ≡ with_wrong m.verdict (wrongs past)
unfolding wrongs verdicts_in
wrongs-cons m past = go m.verdict
  where
    go : (v : Option Verdict) →
        map is_wrong (with_verdict v (verdicts_in past)) ≡ with_wrong v (map is_wrong (verdicts_in past))
    go None = unfold with_verdict with_wrong in refl
    go (Some v) = unfold with_verdict with_wrong in refl

-- one tick more
pub runs_on : (n k : ℕ) (v : Option Verdict) (bits : List Bool) → TrueRun n bits →
    ((v ≡ None) × (k ≡ n)) ⊎ (((v ≡ Some Wrong) × (k ≡ suc n)) ⊎ (k ≡ 0)) → TrueRun k (with_wrong v bits)
unfolding TrueRun with_wrong is_wrong
runs_on n k v bits run (inl h) = rw (h.0, h.1) run
runs_on n k v bits run (inr (inl h)) = rw (h.0, h.1) (refl, run)
runs_on n k v bits run (inr (inr h)) = rw h tt

-- how many periods with their send tick at s or later are closed before tick t
unfoldable pub closed : TimeParts → ℕ → ℕ → ℕ
closed times s0 t = t / times.period - (s0 + times.period - 1 - times.send) / times.period

-- One tick more, where the count of closed periods begins at one: each that ends and counts has to be judged wrong.
pub runs_more : (s : Setting) → AreTimes s.cal.times → (x : Tick) (h : List Tick) (first : ℕ) →
    ((length h + 1) % s.cal.times.period ≡ 0 → first ≤ length h / s.cal.times.period →
    (moment s x.effects x.entry (moments_of s h)).verdict ≡ Some Wrong) →
    TrueRun (length h / s.cal.times.period - first) (wrongs (moments_of s h)) →
    TrueRun ((length h + 1) / s.cal.times.period - first) (wrongs (moments_of s (x ∷ h)))
unfolding moments_of
runs_more s are x h first wrong run = rw (wrongs-cons m past)
    (runs_on (length h / period - first) ((length h + 1) / period - first) m.verdict (wrongs past) run
    (go ((length h + 1) % period) refl))
  where
    period : ℕ
    period = s.cal.times.period

    past : List Moment
    past = moments_of s h

    m : Moment
    m = moment s x.effects x.entry past

    some : 0 < period
    some = period_least s.cal.times are

    go : (r : ℕ) → (length h + 1) % period ≡ r →
        ((m.verdict ≡ None) × ((length h + 1) / period - first ≡ length h / period - first))
        ⊎ (((m.verdict ≡ Some Wrong) × ((length h + 1) / period - first ≡ suc (length h / period - first)))
        ⊎ ((length h + 1) / period - first ≡ 0))
    go (suc r) inside = inl (
      (fields s x.effects x.entry past).verdict ∙ verdict_none s.cal.times are x.effects m.mark past
          (rw (length-moments s h) (omega (arith, inside))),
      ap (λ q. q - first) (period_open period (length h) some (omega (arith, inside))),
    )
    go zero ends =
        let one = period_closes period (length h) some ends in
        elim (cases_lt (length h / period) first) [
          | inl early ↦ inr (inr (omega (arith, one, early)))
          | inr counts ↦ inr (inl (wrong ends counts, omega (arith, one, counts)))
        ]

nothing_closed : (times : TimeParts) → AreTimes times → (s0 : ℕ) → closed times s0 s0 ≡ 0
unfolding closed
nothing_closed times are s0 = let f =
    none_counts times.period times.send s0 (period_least times are) (send_within times are) in omega arith

-- every period that counts was judged wrong
pub wrong_run : (s : Setting) → AreTimes s.cal.times → (more h : List Tick) → AreRegular (more ++ h) →
    NoGood s more h → TrueRun (closed s.cal.times (length h) (length (more ++ h)))
    (wrongs (moments_of s (more ++ h)))
unfolding NoGood Each closed
wrong_run s are [] h r none = rw (nothing_closed s.cal.times are (length h)) (unfold TrueRun in tt)
wrong_run s are (x ∷ more) h r none = rw (← add-one)
    (runs_more s are x (more ++ h) _ (λ ends counts. closes_wrong s are x more h r none ends
    (counts_from s.cal.times.period s.cal.times.send (length h) (length (more ++ h) / s.cal.times.period)
    (period_least s.cal.times are) (send_within s.cal.times are) counts)) (wrong_run s are more h r.1 none.1))

-- a run of true bits weighs as much
run_weighs : (w : WeightParts) (n : ℕ) (bits : List Bool) → TrueRun n bits → n * w.up ≤ greatest w bits
unfolding TrueRun
run_weighs w zero bits run = omega arith
run_weighs w (suc n) [] run = absurd run
run_weighs w (suc n) (b ∷ bits) run =
    rw (run.0, greatest-bad w bits) (let rest = run_weighs w n bits run.1 in omega arith)

-- and a list that weighs as much as the limit is confirmed
pub reached_confirms : (w : WeightParts) (bits : List Bool) → 0 < w.limit → w.limit ≤ greatest w bits →
    is_confirmed w bits ≡ true
reached_confirms w [] some enough = absurd (let none = greatest-nil w in omega arith)
reached_confirms w (b ∷ bits) some enough =
    is_reached_confirmed w b bits (is_reached-greatest w (b ∷ bits) some ∙ le-leb _ _ enough)

pub run_confirms : (w : WeightParts) (n : ℕ) (bits : List Bool) → 0 < w.limit → w.limit ≤ n * w.up →
    TrueRun n bits → is_confirmed w bits ≡ true
run_confirms w n bits h enough run = reached_confirms w bits h (let f = run_weighs w n bits run in omega arith)

-- ---- the latch of path 2 ----

pub latch2-cons : (m : Moment) (past : List Moment) →
    latch2 (m ∷ past) ≡ ((m.confirms || m.opens) || latch2 past)
unfolding latch2
latch2-cons m past = refl

-- one tick more: a list that is confirmed now, and was not before, is confirmed for the first time
confirmed_now : (times : TimeParts) (v : Option Verdict) (past : List Moment) →
    is_confirmed times.weights (wrongs past) ≡ false →
    is_confirmed times.weights (with_wrong v (wrongs past)) ≡ true → confirms_at times v past ≡ true
unfolding confirms_at with_wrong
confirmed_now times None past before now = absurd (cc)
confirmed_now times (Some v) past before now = unfold wrongs in
    is_first_from times.weights (is_wrong v) (wrongs past) now before

opens_step : (times : TimeParts) (m : Moment) (past : List Moment) → m.confirms ≡ confirms_at times m.verdict past →
    (is_confirmed times.weights (wrongs past) ≡ true → latch2 past ≡ true) →
    is_confirmed times.weights (wrongs (m ∷ past)) ≡ true → latch2 (m ∷ past) ≡ true
opens_step times m past confirms ih now = latch2-cons m past
    ∙ elim (cases_Bool (is_confirmed times.weights (wrongs past))) [
      | inl c ↦ or_right _ _ (ih c)
      | inr c ↦ or_left _ _ (or_left _ _ (confirms ∙ confirmed_now times m.verdict past c (rw (wrongs-cons m past) at now)))
    ]

pub confirmed_nothing : (w : WeightParts) → is_confirmed w (wrongs []) ≡ true → ⊥
unfolding is_confirmed wrongs verdicts_in
confirmed_nothing w c = false≢true c

-- where the list of verdicts is confirmed path 2 was ordered open, in a span of either kind
pub opens_when_confirmed : (kind : SpanKind) (s : Setting) (h : List Tick) →
    is_confirmed s.cal.times.weights (wrongs (moments_in kind s h)) ≡ true → latch2 (moments_in kind s h) ≡ true
unfolding moments_in
opens_when_confirmed kind s [] c = absurd (confirmed_nothing s.cal.times.weights c)
opens_when_confirmed kind s (x ∷ h) c =
    opens_step s.cal.times (moment_in kind s x.effects x.entry (moments_in kind s h)) (moments_in kind s h)
    (fields_in kind s x.effects x.entry (moments_in kind s h)).confirms (opens_when_confirmed kind s h) c

-- where it is open, and no fault makes it conduct, the stages are off
pub off_by_latch2 : (s : Setting) (x : Effects) (e : Entry) (past : List Moment) → x.conducts PATH_2 true ≡ false →
    latch2 past ≡ true → (moment s x e past).on ≡ false
unfolding both_conduct path2_at
off_by_latch2 s x e past opens u = (fields s x e past).on ∙ and_right _ _ (ap (x.conducts PATH_2) u ∙ opens)

pub enough_weight : (w : WeightParts) → 0 < w.up → w.limit ≤ feeds_to_confirm w * w.up
unfolding feeds_to_confirm
enough_weight w h = go w.limit w.up h
  where
    go : (l u : ℕ) → 0 < u → l ≤ ((l + (u - 1)) / u) * u
    go l u h = let f = lt-div-mul-add {a = l + (u - 1)} h in omega arith

pub longer_run : (n k : ℕ) (bits : List Bool) → n ≤ k → TrueRun k bits → TrueRun n bits
unfolding TrueRun
longer_run zero k bits l run = tt
longer_run (suc n) zero bits l run = absurd (omega arith)
longer_run (suc n) (suc k) [] l run = run
longer_run (suc n) (suc k) (b ∷ bits) l run = (run.0, longer_run n k bits (omega arith) run.1)

-- where no answer is good from the end of h on, the stages are off from R ticks after it
pub off_after_silence : (s : Setting) → AreTimes s.cal.times → 0 < s.cal.times.weights.up →
    0 < s.cal.times.weights.limit →
    (more h : List Tick) → AreRegular (more ++ h) → NoGood s more h →
    reaction_of s.cal.times ≤ length more →
    (x : Tick) → x.effects.conducts PATH_2 true ≡ false → is_on_after s (more ++ h) x ≡ false
unfolding reaction_of closed is_on_after moments_of
off_after_silence s are up limit more h r none long x opens =
    let times = s.cal.times in
    let n = feeds_to_confirm times.weights in
    let sum : length (more ++ h) ≡ length more + length h = length-append more h in
    let whole = enough_periods times.period times.send (length h) n (length (more ++ h))
    (period_least times are) (send_within times are) (omega arith) in
    let run = longer_run n (closed times (length h) (length (more ++ h)))
    (wrongs (moments_of s (more ++ h))) (many whole) (wrong_run s are more h r none) in
    let c = run_confirms times.weights n (wrongs (moments_of s (more ++ h))) limit
    (enough_weight times.weights up) run in
    off_by_latch2 s x.effects x.entry (moments_of s (more ++ h)) opens (opens_when_confirmed Drive s (more ++ h) c)
  where
    many :
        (length h + s.cal.times.period - 1 - s.cal.times.send) / s.cal.times.period + feeds_to_confirm s.cal.times.weights ≤ length
        (more ++ h) / s.cal.times.period →
        feeds_to_confirm s.cal.times.weights ≤ closed s.cal.times (length h) (length (more ++ h))
    many f = omega arith
