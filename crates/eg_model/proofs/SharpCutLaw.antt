-- The sharp cut: while nothing is out of order, the stages go off one tick after the first confirmed
-- full-efficiency excess, and at no other time.
use Rattle.std.proofs.Common.{◌≡◌, ℕ, zero, suc, ◌+◌, ◌-◌, ◌*◌, ◌/◌, ◌%◌, ◌≤◌, ◌<◌, Bool, true, false, not, ◌||◌, ◌&&◌, List, [], ◌∷◌, map, length, take, refl, sym, ap, ap₂, ◌∙◌, arith, inl, inr, ◌⊎◌, Option, Some, None, nat_lt, subst, true≢false}
use Rattle.std.specs.Prelude.{if◌then◌else◌, ◌==◌}
use Rattle.std.proofs.lemmas.Nat.{mod-mul-add}
use Rattle.std.proofs.lemmas.Bool.Decides.{nat_tests}
use Rattle.std.proofs.lemmas.Bool.{false≢true, cases_Bool, and_from, or_left, or_right, or_from, or_parts, and_right, and_left, le-ltb, lt-ltb, le-leb, lt-leb, eqb-true}
use Rattle.eg_num.specs.Windows.{WeightParts, is_reached, is_confirmed, is_first, greatest}
use Rattle.eg_num.proofs.CounterLemmas.{greatest-nil, greatest-good, is_reached-greatest}
use Rattle.eg_num.proofs.FirstIndexLemmas.{is_first_from}
use Rattle.eg_answer.specs.Times.{TimeParts, AreTimes}
use Rattle.eg_answer.specs.Periods.{place_of, is_send_tick, is_in_window, MarkedAnswer, verdict_of, is_wrong}
use Rattle.eg_answer.specs.declared.marks.AnswerMark.{AnswerMark}
use Rattle.eg_answer.specs.declared.marks.AnswerMark.TheVariants.{Absent, Good, Bad}
use Rattle.eg_answer.specs.declared.marks.Verdict.{Verdict}
use Rattle.eg_answer.specs.declared.marks.Verdict.TheVariants.{Right}
use Rattle.eg_answer.specs.declared.modules.TheConstants.{REACT}
use Rattle.eg_values.specs.Calibration.{IsAccepted}
use Rattle.eg_fault.specs.Effects.{no_effects, sends_in, sends_at}
use Rattle.eg_fault.specs.declared.paths.TheConstants.{PATH_1}
use Rattle.eg_record.specs.Excess.{full_excess}
use Rattle.eg_model.specs.History.{Setting, Entry, Tick, Moment, Signals}
use Rattle.eg_model.specs.Signals.{tripped, is_limited, no_signals, last_signals}
use Rattle.eg_model.specs.Detection.{fed_bits, finds, torque_bit, feeds_at}
use Rattle.eg_answer.specs.Modules.{modules_before_react, modules}
use Rattle.eg_model.specs.Answers.{is_whole, is_undisturbed, is_answer, whole_since_answer, is_sent, is_good, mark_at, with_answer, answers_in, verdict_at, verdicts_in, confirms_at}
use Rattle.eg_model.specs.Paths.{latch1, latch2, both_conduct, path1_at, path2_at}
use Rattle.eg_model.specs.Moments.{last_limit, moment, moments_of}
use Rattle.eg_model.specs.Rows.{row_of, rows_of}
use Rattle.eg_model.specs.Premises.{IsProper, AreProper, is_on_after, full_excesses}
use Rattle.eg_model.specs.SharpCut.{IsPlain, ArePlain, CutsSharply}
use Rattle.eg_model.specs.Engines.{IsOneLoad}
use Rattle.eg_model.proofs.PeriodLemmas.{period_closes}
use Rattle.eg_model.proofs.TickLemmas.{Each, length-moments, Pair, Pedal, bit_of, found_by, fields, no_trip, moment-orders, moment-feeds, trip_from_torque, tripped-cons, untripped_before}
use Rattle.eg_model.proofs.TripLemmas.{fed_bits-cons, latch1-cons, off_after_trip, ReactsAll}
use Rattle.eg_model.proofs.Silence.{latch2-cons, wrongs, with_wrong, wrongs-cons, period_least, send_within, verdict_none, verdict_some}
use Rattle.eg_model.proofs.PlainTick.{plain, plain_runs, allowed-same, torque_bit-is, pair_good}

-- ---- lists without a bad bit ----

unfoldable pub AllGood : List Bool → Type 0
AllGood [] = Unit {0}
AllGood (b ∷ bits) = (b ≡ false) × AllGood bits

pub greatest-AllGood : (w : WeightParts) (bits : List Bool) → AllGood bits → greatest w bits ≡ 0
unfolding AllGood
greatest-AllGood w [] h = greatest-nil w
greatest-AllGood w (b ∷ bits) h =
    rw (h.0, greatest-good w bits) (let r = greatest-AllGood w bits h.1 in omega arith)

pub not_reached : (w : WeightParts) (bits : List Bool) → 0 < w.limit → AllGood bits → is_reached w bits ≡ false
not_reached w bits l h = rw (is_reached-greatest w bits l, greatest-AllGood w bits h) (lt-leb w.limit 0 l)

pub none_first : (w : WeightParts) (bits : List Bool) → 0 < w.limit → AllGood bits → is_first w bits ≡ false
unfolding is_first
none_first w [] l h = refl
none_first w (b ∷ bits) l h = and_left _ _ (not_reached w (b ∷ bits) l h)

-- ---- the answers of a period ----

-- the mark of a tick at which all is well
abbrev pub usual_mark : TimeParts → ℕ → AnswerMark
usual_mark times t = if t % times.period == times.send then Good else Absent

-- each answer that was sent is good, and stands at its period's send tick
unfoldable pub AreUsual : Setting → List Tick → Type 0
AreUsual s [] = Unit {0}
AreUsual s (x ∷ h) = ((moment s x.effects x.entry (moments_of s h)).mark
    ≡ usual_mark s.cal.times (length h)) × AreUsual s h

-- the right answer of the period that begins p periods after the start
abbrev pub right_answer : TimeParts → ℕ → MarkedAnswer
right_answer times p = record { tick = p * times.period + times.send; good = true }

-- the answers of its first n ticks
abbrev pub one_answer : TimeParts → ℕ → ℕ → List MarkedAnswer
one_answer times p n = if nat_lt times.send n then right_answer times p ∷ [] else []

still : (a n : ℕ) → (n == a) ≡ false → nat_lt a n ≡ nat_lt a (suc n)
still a n e = grind (arith, nat_tests)

pub sent_now : (times : TimeParts) (p n t : ℕ) → n < times.period → t ≡ p * times.period + n →
    with_answer t (usual_mark times t) (one_answer times p n) ≡ one_answer times p (suc n)
unfolding with_answer
sent_now times p n t room at = elim (cases_Bool (n == times.send)) [
  | inl e ↦ (let same : n ≡ times.send = eqb-true _ _ e in
      rw (place, e, le-ltb times.send n (omega arith), lt-ltb times.send (suc n) (omega arith))
      (ap (λ k. record { tick = k; good = true } ∷ []) (at ∙ ap (λ k. p * times.period + k) same)))
  | inr e ↦ rw (place, e) (ap (λ b. if b then right_answer times p ∷ [] else []) (still times.send n e))
]
  where
    place : t % times.period ≡ n
    place = ap (λ k. k % times.period) at ∙ mod-mul-add p times.period n room

answers_are : (s : Setting) (h : List Tick) → AreUsual s h → (p n : ℕ) →
    length h ≡ p * s.cal.times.period + n → n ≤ s.cal.times.period →
    answers_in (take n (moments_of s h)) ≡ one_answer s.cal.times p n
unfolding moments_of answers_in AreUsual
answers_are s h sent p zero at room = rw (le-ltb s.cal.times.send 0 (omega arith)) refl
answers_are s [] sent p (suc n) at room = absurd (omega arith)
answers_are s (x ∷ h) sent p (suc n) at room =
    let m = moment s x.effects x.entry (moments_of s h) in
    let before : answers_in (take n (moments_of s h)) ≡ one_answer s.cal.times p n =
    answers_are s h sent.1 p n (omega arith) (omega arith) in
    ap₂ (λ t others. with_answer t m.mark others)
    ((fields s x.effects x.entry (moments_of s h)).tick ∙ length-moments s h) before
    ∙ ap (λ mark. with_answer (length h) mark (one_answer s.cal.times p n)) sent.0
    ∙ sent_now s.cal.times p n (length h) (omega arith) (omega arith)

-- ---- what holds as long as the full-efficiency excess isn't confirmed ----

-- no trip came, the pedal isn't limited, and each pair was fed good bits alone
pub record Untouched (past : List Moment) : Type 0 where
  pub untripped : tripped past ≡ false
  pub unlimited : is_limited past ≡ false
  pub pairs : (p : Pair) → AllGood (fed_bits (bit_of p) past)

pub untouched_at_first : Untouched []
unfolding fed_bits AllGood tripped is_limited
untouched_at_first = record { untripped = refl; unlimited = refl; pairs = λ p. tt }

pub record Calm (s : Setting) (h : List Tick) : Type 0 where
  pub untouched : Untouched (moments_of s h)
  pub level : (last_signals (moments_of s h)).permitted ≡ last_limit (moments_of s h)
  pub torque : fed_bits torque_bit (moments_of s h) ≡ full_excesses s h
  pub closed : latch2 (moments_of s h) ≡ false
  pub right : AllGood (wrongs (moments_of s h))
  pub whole : whole_since_answer (moments_of s h) ≡ true
  pub answers : AreUsual s h

calm_at_first : (s : Setting) → Calm s []
unfolding moments_of no_signals last_signals last_limit fed_bits AllGood wrongs verdicts_in whole_since_answer latch2 AreUsual full_excesses rows_of
calm_at_first s = record {
  untouched = untouched_at_first;
  level = refl;
  torque = refl;
  closed = refl;
  right = tt;
  whole = refl;
  answers = tt;
}

-- a watch whose bits are good isn't found
pub unfound_now : (w : WeightParts) (b : Signals → Bool) (feeds : Bool) (now : Signals) (past : List Moment) →
    0 < w.limit → b now ≡ false → AllGood (fed_bits b past) → finds w b feeds now past ≡ false
unfolding finds AllGood
unfound_now w b feeds now past l e none = and_right _ _ (none_first w (b now ∷ fed_bits b past) l (e, none))

pub whole_plain : is_whole no_effects ≡ true
unfolding is_whole modules modules_before_react no_effects
whole_plain = refl

pub undisturbed_plain : is_undisturbed no_effects ≡ true
unfolding is_undisturbed modules modules_before_react no_effects
undisturbed_plain = refl

mark_law : (a b t u w past still_ p : Bool) → a ≡ p → b ≡ true → t ≡ false → u ≡ false → w ≡ true →
    past ≡ true → still_ ≡ true →
    (if a && b && not (t || u) then (if w && past && still_ then Good else Bad) else Absent)
    ≡ (if p then Good else Absent)
mark_law a b t u w past still_ p e1 e2 e3 e4 e5 e6 e7 = grind arith

pub send_plain : (times : TimeParts) (t : ℕ) → sends_at no_effects times t ≡ (t % times.period == times.send)
unfolding sends_at sends_in is_send_tick place_of no_effects
send_plain times t = refl

pub reacts_plain : no_effects.ran REACT ≡ true
unfolding no_effects
reacts_plain = refl

-- the mark of a plain tick
pub mark_plain : (times : TimeParts) (trip : Bool) (past : List Moment) → trip ≡ false → tripped past ≡ false →
    whole_since_answer past ≡ true → mark_at times no_effects trip past ≡ usual_mark times (length past)
unfolding mark_at is_sent is_good
mark_plain times trip past t u w =
    mark_law _ _ _ _ _ _ _ _ (send_plain times
    (length past)) reacts_plain t u whole_plain w undisturbed_plain

pub whole-cons : (m : Moment) (past : List Moment) → m.whole ≡ true → whole_since_answer past ≡ true →
    whole_since_answer (m ∷ past) ≡ true
unfolding whole_since_answer
whole-cons m past w p = or_right (is_answer m.mark) (m.whole && whole_since_answer past) (and_from _ _ w p)

-- ---- verdicts ----

-- one good answer at the send tick is right
pub right_alone : (times : TimeParts) (p : ℕ) → AreTimes times →
    verdict_of times (right_answer times p ∷ []) ≡ Right
unfolding verdict_of is_in_window place_of
right_alone times p are = rw (
  mod-mul-add p times.period times.send (send_within times are),
  le-leb times.first times.send are.from_first,
  le-leb times.send times.last are.to_last,
) refl

last_of_period : (period t : ℕ) → 0 < period → (t + 1) % period ≡ 0 →
    t ≡ (t / period) * period + (period - 1)
last_of_period period t h ends =
    go ((t + 1) / period) (t / period) (period_closes period t h ends) (omega arith)
  where
    go : (q p : ℕ) → q ≡ p + 1 → q * period ≡ t + 1 → t ≡ p * period + (period - 1)
    go q p f e = let g : (p + 1) * period ≡ t + 1 = ap (λ k. k * period) (sym f) ∙ e in omega arith

right_ones : (s : Setting) → AreTimes s.cal.times → (x : Tick) (h : List Tick) → AreUsual s (x ∷ h) →
    (length (moments_of s h) + 1) % s.cal.times.period ≡ 0 →
    with_answer (length (moments_of s h)) (moment s x.effects x.entry (moments_of s h)).mark
    (answers_in (take (s.cal.times.period - 1) (moments_of s h)))
    ≡ right_answer s.cal.times (length h / s.cal.times.period) ∷ []
unfolding AreUsual
right_ones s are x h sent ends =
    let times = s.cal.times in
    let p = length h / times.period in
    let size : length (moments_of s h) ≡ length h = length-moments s h in
    let ends' : (length h + 1) % times.period ≡ 0 = subst (λ n. (n + 1) % times.period ≡ 0) size ends in
    let at : length h ≡ p * times.period + (times.period - 1) =
    last_of_period times.period (length h) (period_least times are) ends' in
    let room : times.period - 1 < times.period = (let z = period_least times are in omega arith) in
    let high : times.send < suc (times.period - 1) = (let z = send_within times are in omega arith) in
    ap₂ (λ t others. with_answer t (moment s x.effects x.entry (moments_of s h)).mark others) size
    (answers_are s h sent.1 p (times.period - 1) at (omega arith))
    ∙ ap (λ mark. with_answer (length h) mark (one_answer times p (times.period - 1))) sent.0
    ∙ sent_now times p (times.period - 1) (length h) room at
    ∙ rw (lt-ltb times.send (suc (times.period - 1)) high) refl

-- a verdict, where there is one, is right
abbrev pub IsNotWrong : Option Verdict → Type 0
IsNotWrong v = (v ≡ None) ⊎ (v ≡ Some Right)

pub verdict_usual : (s : Setting) → AreTimes s.cal.times → (x : Tick) (h : List Tick) → x.effects.wild ≡ None →
    AreUsual s (x ∷ h) →
    IsNotWrong (verdict_at s.cal.times x.effects (moment s x.effects x.entry (moments_of s h)).mark
    (moments_of s h))
verdict_usual s are x h judged sent = go ((length (moments_of s h) + 1) % s.cal.times.period) refl
  where
    go : (n : ℕ) → (length (moments_of s h) + 1) % s.cal.times.period ≡ n → IsNotWrong (verdict_at s.cal.times x.effects
        (moment s x.effects x.entry (moments_of s h)).mark (moments_of s h))
    go zero ends = inr (verdict_some s.cal.times are x.effects _ (moments_of s h) judged ends
        ∙ ap (λ these. Some (verdict_of s.cal.times these)) (right_ones s are x h sent ends)
        ∙ ap Some (right_alone s.cal.times (length h / s.cal.times.period) are))
    go (suc n) inside = inl (verdict_none s.cal.times are x.effects _ (moments_of s h) (omega arith))

-- ---- one tick more ----

pub right_bits : (v : Option Verdict) (bits : List Bool) → IsNotWrong v → AllGood bits →
    AllGood (with_wrong v bits)
unfolding with_wrong AllGood is_wrong
right_bits v bits (inl e) none = rw e none
right_bits v bits (inr e) none = rw e (refl, none)

no_answers : (times : TimeParts) (v : Option Verdict) (past : List Moment) → 0 < times.weights.limit →
    IsNotWrong v → AllGood (wrongs past) → confirms_at times v past ≡ false
unfolding confirms_at AllGood wrongs is_wrong
no_answers times v past l (inl e) none = rw e refl
no_answers times v past l (inr e) none =
    rw e (none_first times.weights (false ∷ map is_wrong (verdicts_in past)) l (refl, none))

-- what isn't confirmed now isn't found first now, and wasn't confirmed before
pub not_yet : (w : WeightParts) (b : Bool) (bits : List Bool) → is_confirmed w (b ∷ bits) ≡ false →
    (is_first w (b ∷ bits) ≡ false) × (is_confirmed w bits ≡ false)
unfolding is_confirmed is_first
not_yet w b bits h =
    let parts = or_parts (is_reached w (b ∷ bits)) (is_confirmed w bits) h in (and_left _ _ parts.0, parts.1)

pub none-cons : (b : Signals → Bool) (m : Moment) (past : List Moment) → m.feeds ≡ true → b m.signals ≡ false →
    AllGood (fed_bits b past) → AllGood (fed_bits b (m ∷ past))
unfolding AllGood
none-cons b m past f e none = rw (fed_bits-cons b m past f) (e, none)

pub unlimited-cons : (m : Moment) (past : List Moment) → m.found.pedal ≡ false → is_limited past ≡ false →
    is_limited (m ∷ past) ≡ false
unfolding is_limited
unlimited-cons m past e f = or_from _ _ e f

pub full_excesses-cons : (s : Setting) (x : Tick) (h : List Tick) →
    full_excesses s (x ∷ h) ≡ full_excess s.cal.rules.kt s.cal.rules.threshold
    (row_of (length (moments_of s h)) (moment s x.effects x.entry (moments_of s h))) ∷ full_excesses s h
unfolding full_excesses moments_of rows_of
full_excesses-cons s x h = refl

-- where the full-efficiency excess is confirmed, and where it first is
abbrev pub IsFullBy : Setting → List Tick → Bool
IsFullBy s h = is_confirmed s.cal.rules.torque (full_excesses s h)

abbrev IsFullFirst : Setting → List Tick → Bool
IsFullFirst s h = is_first s.cal.rules.torque (full_excesses s h)

not_full_yet : (s : Setting) (x : Tick) (h : List Tick) → IsFullBy s (x ∷ h) ≡ false →
    (IsFullFirst s (x ∷ h) ≡ false) × (IsFullBy s h ≡ false)
unfolding full_excesses moments_of rows_of
not_full_yet s x h quiet = not_yet s.cal.rules.torque _ _ quiet

-- what is found at the tick x after h: the full-efficiency excess as it is first confirmed, and nothing else
pub record FoundSharply (s : Setting) (x : Tick) (h : List Tick) : Type 0 where
  pub torque : (moment s x.effects x.entry (moments_of s h)).found.torque ≡ is_first s.cal.rules.torque (full_excesses s (x ∷ h))
  pub answers : is_confirmed s.cal.rules.torque (full_excesses s (x ∷ h)) ≡ false →
      (moment s x.effects x.entry (moments_of s h)).found.answers ≡ false
  pub mirror : (moment s x.effects x.entry (moments_of s h)).found.mirror ≡ false
  pub pairs : (p : Pair) → found_by p (moment s x.effects x.entry (moments_of s h)).found ≡ false

-- a plain tick after untouched ones touches nothing but the torque
module _ (s : Setting) (a : IsAccepted s.cal) (e : Entry) (past : List Moment)
    (proper : IsProper s (both_conduct no_effects past) e) (loads : IsOneLoad e.shown) (u : Untouched past) where
  abbrev now : Moment
  now = moment s no_effects e past

  pub feeds-is : now.feeds ≡ true
  feeds-is = moment-feeds s no_effects e past plain_runs u.untripped

  pub unflipped : now.found.mirror ≡ false
  unflipped = (fields s no_effects e past).mirror ∙ (unfold no_effects in refl)

  pub pairs_unfound : (p : Pair) → found_by p now.found ≡ false
  pairs_unfound p = (fields s no_effects e past).pair p
      ∙ unfound_now s.cal.rules.pair (bit_of p) now.feeds now.signals past (let l = a.pair.3 in omega arith)
      (pair_good s e past proper loads u.untripped u.unlimited p) (u.pairs p)

  pub trip_by_torque : now.found.torque ≡ false → now.trip ≡ false
  trip_by_torque none = no_trip (fields s no_effects e past) unflipped pairs_unfound none

  pub still_untouched : now.found.torque ≡ false → Untouched (now ∷ past)
  unfolding found_by
  still_untouched none = record {
    untripped = tripped-cons now past ∙ or_from _ _ (trip_by_torque none) u.untripped;
    unlimited = unlimited-cons now past (pairs_unfound Pedal) u.unlimited;
    pairs = λ p. none-cons (bit_of p) now past feeds-is (pair_good s e past proper loads u.untripped u.unlimited p) (u.pairs p);
  }

module _ (s : Setting) (a : IsAccepted s.cal) (e : Entry) (h : List Tick)
    (proper : IsProper s (both_conduct no_effects (moments_of s h)) e) (loads : IsOneLoad e.shown)
    (calm : Calm s h) where
  abbrev past : List Moment
  past = moments_of s h

  abbrev m : Moment
  m = moment s no_effects e past

  fed : m.feeds ≡ true
  fed = feeds-is s a e past proper loads calm.untouched

  torque_list : fed_bits torque_bit (m ∷ past) ≡ full_excesses s (plain e ∷ h)
  torque_list = fed_bits-cons torque_bit m past fed
      ∙ ap₂ (λ b bits. b ∷ bits)
      (torque_bit-is s e past proper loads calm.untouched.untripped calm.untouched.unlimited (inr calm.level)) calm.torque
      ∙ sym (full_excesses-cons s (plain e) h)

  -- the torque watch is found where the full-efficiency excess is first reached
  torque_found : m.found.torque ≡ IsFullFirst s (plain e ∷ h)
  unfolding finds
  torque_found = (fields s no_effects e past).torque ∙ ap (λ f. f && is_first s.cal.rules.torque (torque_bit m.signals ∷ fed_bits torque_bit past)) fed
      ∙ ap (is_first s.cal.rules.torque) (sym (fed_bits-cons torque_bit m past fed) ∙ torque_list)

  no_torque : IsFullBy s (plain e ∷ h) ≡ false → m.found.torque ≡ false
  no_torque quiet = torque_found ∙ (not_full_yet s (plain e) h quiet).0

  mark-is : IsFullBy s (plain e ∷ h) ≡ false → m.mark ≡ usual_mark s.cal.times (length h)
  mark-is quiet = (fields s no_effects e past).mark
      ∙ mark_plain s.cal.times m.trip past
      (trip_by_torque s a e past proper loads calm.untouched (no_torque quiet)) calm.untouched.untripped calm.whole
      ∙ ap (usual_mark s.cal.times) (length-moments s h)

  not_wrong : IsFullBy s (plain e ∷ h) ≡ false → IsNotWrong m.verdict
  not_wrong quiet = subst IsNotWrong (sym (fields s no_effects e past).verdict)
      (verdict_usual s a.times (plain e) h (unfold no_effects in refl) (unfold AreUsual in (mark-is quiet, calm.answers)))

  unconfirmed : IsFullBy s (plain e ∷ h) ≡ false → m.confirms ≡ false
  unconfirmed quiet = (fields s no_effects e past).confirms
      ∙ no_answers s.cal.times m.verdict past (let l = a.answers.3 in omega arith) (not_wrong quiet) calm.right

  pub step_calm : IsFullBy s (plain e ∷ h) ≡ false → Calm s (plain e ∷ h)
  unfolding moments_of AreUsual last_signals last_limit
  step_calm quiet = record {
    untouched = still_untouched s a e past proper loads calm.untouched (no_torque quiet);
    level = allowed-same s e past proper loads calm.untouched.untripped calm.untouched.unlimited (inr calm.level);
    torque = torque_list;
    closed = latch2-cons m past ∙ or_from _ _ (or_from _ _ (unconfirmed quiet)
        ((fields s no_effects e past).opens ∙ (unfold no_effects in refl))) calm.closed;
    right = rw (wrongs-cons m past) (right_bits m.verdict (wrongs past) (not_wrong quiet) calm.right);
    whole = whole-cons m past ((fields s no_effects e past).whole ∙ whole_plain) calm.whole;
    answers = (mark-is quiet, calm.answers);
  }

  pub step_found : FoundSharply s (plain e) h
  step_found = record {
    torque = torque_found;
    answers = λ quiet. (fields s no_effects e past).answers ∙ unconfirmed quiet;
    mirror = unflipped s a e past proper loads calm.untouched;
    pairs = pairs_unfound s a e past proper loads calm.untouched;
  }

  pub step_trip : IsFullFirst s (plain e ∷ h) ≡ true → tripped (m ∷ past) ≡ true
  step_trip first = tripped-cons m past ∙ or_left _ _ (trip_from_torque s no_effects e past (torque_found ∙ first))

-- ---- all ticks ----

-- a tick by its entry, where nothing is out of order
as_plain : (P : Tick → Type 0) (x : Tick) → x.effects ≡ no_effects → P (plain x.entry) → P x
as_plain P x none p = subst (λ g. P (record { effects = g; entry = x.entry })) (sym none) p

-- what holds of a proper tick after h, if it is plain
of_plain : (P : Tick → Type 0) (s : Setting) (h : List Tick) (x : Tick) → IsPlain x →
    IsProper s (both_conduct x.effects (moments_of s h)) x.entry →
    ((e : Entry) → IsProper s (both_conduct no_effects (moments_of s h)) e → IsOneLoad e.shown → P (plain e)) → P x
of_plain P s h x is proper each = as_plain (λ y. IsProper s (both_conduct y.effects (moments_of s h)) y.entry → P y) x
    is.effects (λ p. each x.entry p is.loads) proper

pub calm_until : (s : Setting) → IsAccepted s.cal → (h : List Tick) → ArePlain h → AreProper s h →
    is_confirmed s.cal.rules.torque (full_excesses s h) ≡ false → Calm s h
unfolding ArePlain AreProper
calm_until s a [] each proper quiet = calm_at_first s
calm_until s a (x ∷ h) each proper quiet =
    of_plain (λ y. IsFullBy s (y ∷ h) ≡ false → Calm s (y ∷ h)) s h x each.0 proper.0
    (λ e p loads q. step_calm s a e h p loads (calm_until s a h each.1 proper.1 (not_full_yet s (plain e) h q).1) q) quiet

pub trip_once_confirmed : (s : Setting) → IsAccepted s.cal → (h : List Tick) → ArePlain h → AreProper s h →
    is_confirmed s.cal.rules.torque (full_excesses s h) ≡ true → tripped (moments_of s h) ≡ true
unfolding ArePlain AreProper moments_of
trip_once_confirmed s a [] each proper c = absurd (false≢true (unfold is_confirmed full_excesses rows_of in c))
trip_once_confirmed s a (x ∷ h) each proper c = elim (cases_Bool (IsFullBy s h)) [
  | inl before ↦ tripped-cons _ _ ∙ or_right _ _ (trip_once_confirmed s a h each.1 proper.1 before)
  | inr quiet ↦ of_plain (λ y. IsFullFirst s (y ∷ h) ≡ true → tripped (moments_of s (y ∷ h)) ≡ true) s h x each.0 proper.0
      (λ e p loads. step_trip s a e h p loads (calm_until s a h each.1 proper.1 quiet))
      (unfold full_excesses rows_of in is_first_from s.cal.rules.torque _ _ c quiet)
]

-- after a trip nothing is fed, and so nothing is found
module _ (s : Setting) (e : Entry) (h : List Tick) (trips : tripped (moments_of s h) ≡ true) (late : IsFullBy s h ≡ true) where
  abbrev tripped_past : List Moment
  tripped_past = moments_of s h

  abbrev later : Moment
  later = moment s no_effects e tripped_past

  unfound : (w : WeightParts) (bit : Signals → Bool) → finds w bit later.feeds later.signals tripped_past ≡ false
  unfolding finds feeds_at no_effects
  unfound w bit = and_left _ _ ((fields s no_effects e tripped_past).feeds ∙ ap (λ t. true && not t && not false) trips)

  not_anew : IsFullFirst s (plain e ∷ h) ≡ false
  unfolding is_first full_excesses moments_of rows_of
  not_anew = and_right _ _ (ap not late)

  found_late : FoundSharply s (plain e) h
  found_late = record {
    torque = (fields s no_effects e tripped_past).torque ∙ unfound s.cal.rules.torque torque_bit ∙ sym not_anew;
    answers = λ quiet. absurd (true≢false (sym late ∙ (not_full_yet s (plain e) h quiet).1));
    mirror = (fields s no_effects e tripped_past).mirror ∙ (unfold no_effects in refl);
    pairs = λ p. (fields s no_effects e tripped_past).pair p ∙ unfound s.cal.rules.pair (bit_of p);
  }

pub found_sharply : (s : Setting) → IsAccepted s.cal → (x : Tick) (h : List Tick) → ArePlain (x ∷ h) → AreProper s (x ∷ h) →
    FoundSharply s x h
unfolding ArePlain AreProper
found_sharply s a x h each proper = of_plain (λ y. FoundSharply s y h) s h x each.0 proper.0 (λ e p loads. elim (cases_Bool (IsFullBy s h)) [
  | inl late ↦ found_late s e h (trip_once_confirmed s a h each.1 proper.1 late) late
  | inr quiet ↦ step_found s a e h p loads (calm_until s a h each.1 proper.1 quiet)
])

-- no trip, no order
pub latch1_shut : (s : Setting) (h : List Tick) → tripped (moments_of s h) ≡ false →
    latch1 (moments_of s h) ≡ false
unfolding moments_of
latch1_shut s [] u = unfold latch1 in refl
latch1_shut s (x ∷ h) u =
    let past = moments_of s h in
    latch1-cons (moment s x.effects x.entry past) past
    ∙ or_from _ _ (moment-orders s x.effects x.entry past ∙ and_right _ _ u)
    (latch1_shut s h (untripped_before _ past u))

on_law : (s : Setting) (e : Entry) (ms : List Moment) →
    (moment s no_effects e ms).on ≡ (not (latch1 ms) && not (latch2 ms))
unfolding both_conduct path1_at path2_at no_effects
on_law s e ms = (fields s no_effects e ms).on

plain_reacts : (h : List Tick) → ArePlain h → ReactsAll h
unfolding ArePlain Each
plain_reacts [] each = tt
plain_reacts (x ∷ h) each = (
  ap (λ g. g.ran REACT) each.0.effects
      ∙ (unfold no_effects in refl),
  plain_reacts h each.1,
)

pub cuts_sharply : CutsSharply
unfolding is_on_after
cuts_sharply s a h each proper x none = elim (cases_Bool (IsFullBy s h)) [
  | inl c ↦ off_after_trip s h [] (plain_reacts h each) (trip_once_confirmed s a h each proper c) x
      (ap (λ g. g.conducts PATH_1 true) none ∙ (unfold no_effects in refl)) ∙ ap not (sym c)
  | inr c ↦ (let calm = calm_until s a h each proper c in
      as_plain (λ y. (moment s y.effects y.entry (moments_of s h)).on ≡ true) x none
      (on_law s x.entry (moments_of s h)
      ∙ ap₂ (λ p q. not p && not q) (latch1_shut s h calm.untouched.untripped) calm.closed) ∙ ap not (sym c))
]
