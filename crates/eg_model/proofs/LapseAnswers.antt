-- Under lapses each good answer takes a whole period of runs, and each right verdict a good answer.
use Rattle.std.proofs.Common.{inl, inr, ◌≡◌, ℕ, zero, suc, ◌+◌, ◌*◌, ◌/◌, ◌%◌, ◌≤◌, ◌<◌, Bool, true, false, ◌||◌, ◌&&◌, List, [], ◌∷◌, length, take, refl, sym, ap, ◌∙◌, arith, ◌-◌, not}
use Rattle.std.specs.Prelude.{if◌then◌else◌, ◌==◌}
use Rattle.std.specs.List.{count_by}
use Rattle.std.proofs.lemmas.Bool.{cases_Bool, true≢false, false≢true, and_left, and_parts, eqb-true}
use Rattle.eg_answer.specs.Times.{TimeParts, AreTimes}
use Rattle.eg_answer.specs.Periods.{place_of, is_send_tick, is_in_window, MarkedAnswer, verdict_of, is_wrong}
use Rattle.eg_answer.specs.declared.marks.AnswerMark.{AnswerMark}
use Rattle.eg_answer.specs.declared.marks.AnswerMark.TheVariants.{Absent, Good, Bad}
use Rattle.eg_fault.specs.Effects.{Effects, sends_in, sends_at}
use Rattle.eg_fault.specs.Classes.{IsRegular}
use Rattle.eg_model.specs.History.{Setting, Tick, Moment}
use Rattle.eg_model.specs.Answers.{is_whole, is_undisturbed, is_answer, whole_since_answer, is_sent, is_good, mark_at, with_answer, answers_in}
use Rattle.eg_model.specs.Moments.{moment, moments_of}
use Rattle.eg_model.proofs.TickLemmas.{Each, length-moments, fields}
use Rattle.eg_model.proofs.Silence.{period_least, verdict_none, verdict_some, wrongs, with_wrong, wrongs-cons}
use Rattle.eg_model.proofs.LapseRuns.{AllOrNoneEach, count-cons, runs_in, runs_in-cons}
use Rattle.std.proofs.lemmas.Nat.{mod-mul-add}
use Rattle.eg_answer.specs.declared.marks.Verdict.TheVariants.{Right, Wrong}
use Rattle.eg_answer.specs.declared.modules.TheConstants.{REACT}

-- ---- a good answer takes a whole period of runs ----

unfoldable pub is_good_mark : AnswerMark → Bool
is_good_mark Absent = false
is_good_mark Good = true
is_good_mark Bad = false

-- how many good answers were sent at the newest n ticks
unfoldable pub goods_in : ℕ → List Moment → ℕ
goods_in n ms = count_by (λ m. is_good_mark m.mark) (take n ms)

pub goods_in-cons : (n : ℕ) (m : Moment) (past : List Moment) →
    goods_in (suc n) (m ∷ past) ≡ (if is_good_mark m.mark then suc (goods_in n past) else goods_in n past)
unfolding goods_in
goods_in-cons n m past = count-cons (λ x. is_good_mark x.mark) m (take n past)

-- a good answer is sent where all modules run, and did since the answer before it
pub whole_where_good : (times : TimeParts) (x : Effects) (trip : Bool) (past : List Moment) →
    is_good_mark (mark_at times x trip past) ≡ true →
    (is_whole x ≡ true) × (whole_since_answer past ≡ true)
unfolding mark_at is_good is_good_mark
whole_where_good times x trip past good =
    go (is_sent times x trip past) (is_whole x) (whole_since_answer past) (is_undisturbed x) good
  where
    go : (sent whole since calm : Bool) →
        is_good_mark (if sent then (if whole && since && calm then Good else Bad) else Absent) ≡ true →
        (whole ≡ true) × (since ≡ true)
    go true true true calm h = (refl, refl)
    go true true false calm h = absurd (false≢true h)
    go true false since calm h = absurd (false≢true h)
    go false whole since calm h = absurd (false≢true h)

-- whether a tick is a send tick, where nothing moves it
sends-is : (times : TimeParts) (x : Effects) (tick : ℕ) → IsRegular x →
    sends_at x times tick ≡ (tick % times.period == times.send)
unfolding sends_at sends_in is_send_tick place_of
sends-is times x tick regular = rw regular.sends refl

pub absent_off_place : (times : TimeParts) (x : Effects) (trip : Bool) (past : List Moment) → IsRegular x →
    (length past % times.period == times.send) ≡ false → mark_at times x trip past ≡ Absent
unfolding mark_at is_sent
absent_off_place times x trip past regular e =
    let off = sends-is times x (length past) regular ∙ e in
    ap (λ sent. if sent then (if is_good x past then Good else Bad) else Absent)
    (and_left _ _ (and_left _ (x.ran REACT) off))

-- where no answer is sent, all modules ran since the last one only where they ran now
pub whole_before : (m : Moment) (past : List Moment) → m.mark ≡ Absent → whole_since_answer (m ∷ past) ≡ true →
    (m.whole ≡ true) × (whole_since_answer past ≡ true)
unfolding whole_since_answer is_answer
whole_before m past absent h = and_parts _ _ (parts m.mark (m.whole && whole_since_answer past) absent h)
  where
    parts : (mark : AnswerMark) (rest : Bool) → mark ≡ Absent → (is_answer mark || rest) ≡ true →
        rest ≡ true
    parts Absent rest e h = h
    parts Good rest e h = absurd (cc)
    parts Bad rest e h = absurd (cc)

-- Of the newest n ticks, before tick `now`: the number of the last period whose send tick has come, how
-- many ticks came since, and at how many of them level 2 ran. Each good answer among them took a period of
-- runs of its own.
pub record Sent (times : TimeParts) (ms : List Moment) (now n : ℕ) : Type 0 where
  pub period : ℕ
  pub since : ℕ
  pub runs : ℕ
  pub at : now ≡ period * times.period + times.send + 1 + since
  pub whole : whole_since_answer ms ≡ true → runs ≡ since
  pub enough : times.period * goods_in n ms + runs ≤ runs_in n ms

-- two send ticks stand a period apart
pub apart : (q k period send since t : ℕ) → t ≡ q * period + send → t ≡ k * period + send + 1 + since →
    period ≤ since + 1
apart q k period send since t e f =
    more q k period since (less q k period since (omega arith)) (omega arith)
  where
    less : (q k period since : ℕ) → q * period ≡ k * period + 1 + since → k < q
    less q k period since e = grind arith

    more : (q k period since : ℕ) → k < q → q * period ≡ k * period + 1 + since → period ≤ since + 1
    more q k period since l e = grind arith

-- one tick more that isn't a send tick
sent_between : (times : TimeParts) (m : Moment) (past : List Moment) (t n : ℕ) → m.mark ≡ Absent →
    Sent times past t n → Sent times (m ∷ past) (suc t) (suc n)
unfolding is_good_mark
sent_between times m past t n absent sent = record {
  period = sent.period;
  since = suc sent.since;
  runs = (if m.whole then suc sent.runs else sent.runs);
  at = (let f = sent.at in omega arith);
  whole = λ w. (let p = whole_before m past absent w in rw (p.0, sent.whole p.1) refl);
  enough = rw (runs_in-cons n m past, goods_in-cons n m past, absent)
      (more m.whole (times.period * goods_in n past) sent.runs (runs_in n past) sent.enough);
}
  where
    more : (b : Bool) (g k r : ℕ) → g + k ≤ r → g + (if b then suc k else k) ≤ (if b then suc r else r)
    more b g k r h = grind arith

-- one tick more that is one
sent_now : (s : Setting) (x : Tick) (past : List Moment) (t n : ℕ) → 0 < s.cal.times.period →
    t % s.cal.times.period ≡ s.cal.times.send →
    Sent s.cal.times past t n → Sent s.cal.times (moment s x.effects x.entry past ∷ past) (suc t) (suc n)
sent_now s x past t n positive here before = record {
  period = t / times.period;
  since = 0;
  runs = 0;
  at = (let f = place in omega arith);
  whole = λ w. refl;
  enough = rw (runs_in-cons n now past, goods_in-cons n now past) (enough_now (is_good_mark now.mark) refl);
}
  where
    times : TimeParts
    times = s.cal.times

    now : Moment
    now = moment s x.effects x.entry past

    place : t ≡ (t / times.period) * times.period + times.send
    place = placed t times.period times.send positive here
      where
        placed : (t period send : ℕ) → 0 < period → t % period ≡ send → t ≡ (t / period) * period + send
        placed t period send l e = omega arith

    low : (b : Bool) (r : ℕ) → r ≤ (if b then suc r else r)
    low b r = grind arith

    sums : (q g b c r : ℕ) → q ≤ c + 1 → b ≡ c → q * g + b ≤ r → q * suc g + 0 ≤ suc r
    sums q g b c r h e i = grind arith

    enough_now : (good : Bool) → is_good_mark now.mark ≡ good →
        times.period * (if good then suc (goods_in n past) else goods_in n past) + 0 ≤
        (if now.whole then suc (runs_in n past) else runs_in n past)
    enough_now false e = let z = low now.whole (runs_in n past) in let y = before.enough in omega arith
    enough_now true e =
        let parts = whole_where_good times x.effects now.trip past
        (ap is_good_mark (sym (fields s x.effects x.entry past).mark) ∙ e) in
        let full =
        apart (t / times.period) before.period times.period times.send before.since t place before.at in
        rw ((fields s x.effects x.entry past).whole, parts.0)
        (sums times.period (goods_in n past) before.runs before.since (runs_in n past) full
        (before.whole parts.1) before.enough)

-- so it is over the ticks since the send tick of any period
pub sent_since : (s : Setting) → AreTimes s.cal.times → (h : List Tick) → AllOrNoneEach h → (p n : ℕ) →
    length h ≡ p * s.cal.times.period + s.cal.times.send + 1 + n →
    Sent s.cal.times (moments_of s h) (length h) n
unfolding Each moments_of
sent_since s are h each p zero at =
    record {
      period = p;
      since = 0;
      runs = 0;
      at = at;
      whole = λ w. refl;
      enough =
          unfold goods_in runs_in in omega arith;
    }
sent_since s are [] each p (suc n) at = absurd (omega arith)
sent_since s are (x ∷ h) each p (suc n) at =
    let past = moments_of s h in
    let now = moment s x.effects x.entry past in
    let before = sent_since s are h each.1 p n (omega arith) in
    elim (cases_Bool (length h % s.cal.times.period == s.cal.times.send)) [
      | inl e ↦ sent_now s x past (length h) n (period_least s.cal.times are) (eqb-true _ _ e) before
      | inr e ↦ (let off = ap (λ t. t % s.cal.times.period == s.cal.times.send) (length-moments s h) ∙ e in
          sent_between s.cal.times now past (length h) n ((fields s x.effects x.entry past).mark
          ∙ absent_off_place s.cal.times x.effects now.trip past each.0.regular off) before)
    ]

-- ---- a right verdict takes a good answer ----

-- how many answers of a list are good
unfoldable pub good_answers : List MarkedAnswer → ℕ
good_answers these = count_by (λ a. a.good) these

good_answers-with_answer : (t : ℕ) (mark : AnswerMark) (these : List MarkedAnswer) →
    good_answers (with_answer t mark these)
    ≡ (if is_good_mark mark then suc (good_answers these) else good_answers these)
unfolding with_answer good_answers is_good_mark
good_answers-with_answer t Absent these = refl
good_answers-with_answer t Good these = count-cons (λ a. a.good) (record { tick = t; good = true }) these
good_answers-with_answer t Bad these = count-cons (λ a. a.good) (record { tick = t; good = false }) these

-- the good answers among the newest ticks, with one tick more
good_answers-cons : (n : ℕ) (m : Moment) (past : List Moment) →
    let before = good_answers (answers_in (take n past)) in
    good_answers (answers_in (take (suc n) (m ∷ past)))
    ≡ (if is_good_mark m.mark then suc before else before)
unfolding answers_in
good_answers-cons n m past = good_answers-with_answer m.tick m.mark (answers_in (take n past))

-- a right verdict has a good answer
right_has_good : (times : TimeParts) (these : List MarkedAnswer) →
    is_wrong (verdict_of times these) ≡ false → 1 ≤ good_answers these
unfolding verdict_of is_wrong good_answers
right_has_good times [] h = absurd (true≢false h)
right_has_good times (a ∷ []) h = let e = count-cons (λ b. b.good) a []
    ∙ ap (λ b. if b then 1 else 0) (good (is_in_window times a.tick) a.good h) in omega arith
  where
    good : (b g : Bool) → is_wrong (if b && g then Right else Wrong) ≡ false → g ≡ true
    good true true h = refl
    good true false h = absurd (true≢false h)
    good false g h = absurd (true≢false h)
right_has_good times (a ∷ b ∷ more) h = absurd (true≢false h)

-- The newest q verdicts, and the period that has none yet, of which n ticks have passed; together g ticks.
-- For each right verdict, and each good answer of that period, a good answer was sent at one of these
-- ticks.
pub record Judged (ms : List Moment) (q n g : ℕ) : Type 0 where
  pub many : q ≤ length (wrongs ms)
  pub few : count_by not (take q (wrongs ms)) + good_answers (answers_in (take n ms)) ≤ goods_in g ms

-- one tick more inside a period
judged_inside : (m : Moment) (past : List Moment) (q n g : ℕ) → wrongs (m ∷ past) ≡ wrongs past →
    Judged past q n g → Judged (m ∷ past) q (suc n) (suc g)
judged_inside m past q n g same judged = record {
  many = (let f = ap length same in let z = judged.many in omega arith);
  few = sums (is_good_mark m.mark) _ _ _ _ _ _ (ap (λ bits. count_by not (take q bits)) same)
      (good_answers-cons n m past) (goods_in-cons g m past) judged.few;
}
  where
    sums : (b : Bool) (f f' c c' g g' : ℕ) → f' ≡ f → c' ≡ (if b then suc c else c) →
        g' ≡ (if b then suc g else g) → f + c ≤ g → f' + c' ≤ g'
    sums b f f' c c' g g' e1 e2 e3 h = grind arith

-- one tick more that closes a period
judged_closing : (m : Moment) (past : List Moment) (q n g : ℕ) (wrong : Bool) →
    wrongs (m ∷ past) ≡ wrong ∷ wrongs past →
    (wrong ≡ false → 1 ≤ good_answers (answers_in (take (suc n) (m ∷ past)))) → Judged past q n g →
    Judged (m ∷ past) (suc q) 0 (suc g)
unfolding good_answers answers_in
judged_closing m past q n g wrong bits good judged = record {
  many = (let f = ap length bits in let z = judged.many in omega arith);
  few = sums wrong (is_good_mark m.mark) _ _ _ _ _ _ newest good (good_answers-cons n m past)
      (goods_in-cons g m past) judged.few;
}
  where
    newest : count_by not (take (suc q) (wrongs (m ∷ past)))
        ≡ (if not wrong then suc (count_by not (take q (wrongs past))) else count_by not
        (take q (wrongs past)))
    newest = ap (λ l. count_by not (take (suc q) l)) bits ∙ count-cons not wrong (take q (wrongs past))

    sums : (wrong b : Bool) (f f' c c' g g' : ℕ) → f' ≡ (if not wrong then suc f else f) →
        (wrong ≡ false → 1 ≤ c') →
        c' ≡ (if b then suc c else c) → g' ≡ (if b then suc g else g) → f + c ≤ g → f' + 0 ≤ g'
    sums wrong b f f' c c' g g' e1 h e2 e3 l = grind arith

-- a tick that closes a period, by its place
judged_end : (s : Setting) → AreTimes s.cal.times → (x : Tick) (h : List Tick) → AllOrNoneEach (x ∷ h) →
    (q g : ℕ) →
    (length h + 1) % s.cal.times.period ≡ 0 → Judged (moments_of s h) q (s.cal.times.period - 1) g →
    Judged (moments_of s (x ∷ h)) (suc q) 0 (suc g)
unfolding Each moments_of
judged_end s are x h each q g ends judged =
    judged_closing now past q (times.period - 1) g (is_wrong (verdict_of times these)) closed
    (λ right. one_good (right_has_good times these right)) judged
  where
    times : TimeParts
    times = s.cal.times

    past : List Moment
    past = moments_of s h

    now : Moment
    now = moment s x.effects x.entry past

    these : List MarkedAnswer
    these = with_answer (length past) now.mark (answers_in (take (times.period - 1) past))

    closed : wrongs (now ∷ past) ≡ is_wrong (verdict_of times these) ∷ wrongs past
    closed =
        let last = ap (λ t. (t + 1) % times.period) (length-moments s h) ∙ ends in
        let verdict = (fields s x.effects x.entry past).verdict
        ∙ verdict_some times are x.effects now.mark past each.0.regular.judged last in
        wrongs-cons now past ∙ ap (λ v. with_wrong v (wrongs past)) verdict ∙ (unfold with_wrong in refl)

    one_good : 1 ≤ good_answers these →
        1 ≤ good_answers (answers_in (take (suc (times.period - 1)) (now ∷ past)))
    one_good h = unfold answers_in in rw (fields s x.effects x.entry past).tick h

-- so it is at each tick of the newest q periods and of the one after them
pub judged : (s : Setting) → AreTimes s.cal.times → (h : List Tick) → AllOrNoneEach h → (j q n g : ℕ) →
    length h ≡ (j + q) * s.cal.times.period + n → n < s.cal.times.period → g ≡ q * s.cal.times.period + n →
    Judged (moments_of s h) q n g
unfolding Each moments_of
judged s are h each j zero zero g at room size =
    record { many = omega arith; few = unfold good_answers answers_in in omega arith }
judged s are h each j q (suc n) zero at room size = absurd (omega arith)
judged s are [] each j q (suc n) (suc g) at room size = absurd (omega arith)
judged s are (x ∷ h) each j q (suc n) (suc g) at room size =
    let past = moments_of s h in
    let now = moment s x.effects x.entry past in
    let next = next_place (length past) (length h) (length-moments s h) at in
    let place = ap (λ k. k % s.cal.times.period) next
    ∙ mod-mul-add (j + q) s.cal.times.period (suc n) room in
    let none = (fields s x.effects x.entry past).verdict
    ∙ verdict_none s.cal.times are x.effects now.mark past (omega arith) in
    judged_inside now past q n g
    (wrongs-cons now past ∙ ap (λ v. with_wrong v (wrongs past)) none ∙ (unfold with_wrong in refl))
    (judged s are h each.1 j q n g (omega arith) (omega arith) (omega arith))
  where
    next_place : (k t : ℕ) {r : ℕ} → k ≡ t → suc t ≡ r → k + 1 ≡ r
    next_place k t e f = omega arith
judged s are h each j (suc q) zero zero at room size =
    absurd (no_room s.cal.times.period q room (omega arith))
  where
    no_room : (period q : ℕ) → 0 < period → suc q * period ≡ 0 → ⊥
    no_room period q l e = omega arith
judged s are [] each j (suc q) zero (suc g) at room size =
    absurd (no_room s.cal.times.period j q room (omega arith))
  where
    no_room : (period j q : ℕ) → 0 < period → (j + suc q) * period ≡ 0 → ⊥
    no_room period j q l e = omega arith
judged s are (x ∷ h) each j (suc q) zero (suc g) at room size =
    let ends : (length h + 1) % s.cal.times.period ≡ 0 =
    ap (λ k. k % s.cal.times.period) (next_place (length h) at)
    ∙ mod-mul-add (j + suc q) s.cal.times.period 0 room in
    judged_end s are x h each q g ends
    (judged s are h each.1 j q (s.cal.times.period - 1) g
    (earlier (length h) j q s.cal.times.period room at) (omega arith)
    (less g q s.cal.times.period room size))
  where
    next_place : (t : ℕ) {r : ℕ} → suc t ≡ r → t + 1 ≡ r
    next_place t f = omega arith

    earlier : (t j q period : ℕ) → 0 < period → suc t ≡ (j + suc q) * period + 0 →
        t ≡ (j + q) * period + (period - 1)
    earlier t j q period l e = omega arith

    less : (g q period : ℕ) → 0 < period → suc g ≡ suc q * period + 0 → g ≡ q * period + (period - 1)
    less g q period l e = omega arith
