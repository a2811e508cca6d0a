-- What the good answers in a stretch of ticks cost in runs of level 2, under lapses: up to the first send tick of it at
-- which none is sent each of its ticks, and from there a period for each, and one for the answer before the first of them.
use Rattle.std.proofs.Common.{inl, inr, ◌⊎◌, ◌≡◌, ℕ, zero, suc, ◌+◌, ◌-◌, ◌*◌, ◌/◌, ◌%◌, ◌≤◌, ◌<◌, Bool, true, false, ◌&&◌, List, [], ◌∷◌, length, refl, sym, ap, ◌∙◌, arith}
use Rattle.std.specs.Prelude.{if◌then◌else◌, ◌==◌}
use Rattle.std.proofs.lemmas.Nat.{mod-mul-add}
use Rattle.std.proofs.lemmas.Bool.{cases_lt, cases_Bool, true≢false, and_left, eq-eqb, ne_eqb, eqb-true}
use Rattle.eg_answer.specs.Times.{TimeParts, AreTimes}
use Rattle.eg_answer.specs.declared.marks.AnswerMark.TheVariants.{Absent, Good, Bad}
use Rattle.eg_answer.specs.declared.modules.TheConstants.{REACT}
use Rattle.eg_model.specs.History.{Setting, Tick, Moment}
use Rattle.eg_model.specs.Answers.{is_answer, whole_since_answer, is_sent, is_good, mark_at}
use Rattle.eg_model.specs.Moments.{moment, moments_of}
use Rattle.eg_model.proofs.TickLemmas.{Each, length-moments, fields}
use Rattle.eg_model.proofs.Silence.{period_least, send_within}
use Rattle.eg_model.proofs.LapseRuns.{AllOrNone, AllOrNoneEach, whole-is, runs_in, runs_in-cons}
use Rattle.eg_model.proofs.LapseAnswers.{is_good_mark, goods_in, goods_in-cons, whole_where_good, absent_off_place, whole_before, apart}

-- Of the newest m ticks, before tick t, those that are send ticks had good answers. `since` ticks came after the last
-- send tick; if that is one of the m, level 2 ran at each of these up to it, and these are `seen`.
pub record Full (times : TimeParts) (ms : List Moment) (t m : ℕ) : Type 0 where
  pub period : ℕ
  pub since : ℕ
  pub seen : ℕ
  pub at : t + times.period ≡ period * times.period + times.send + 1 + since
  pub room : since < times.period
  pub size : m ≤ seen + since
  pub ran : seen ≤ runs_in m ms
  pub whole : whole_since_answer ms ≡ true → runs_in m ms ≡ m

-- One of them had none, the first being that of period `first`, n ticks after whose begin t is.
pub record Cut (times : TimeParts) (ms : List Moment) (t m : ℕ) : Type 0 where
  pub first : ℕ
  pub n : ℕ
  pub seen : ℕ
  pub at : t ≡ first * times.period + n
  pub late : times.send < n
  pub size : m + times.send + 1 ≤ seen + times.period + n
  pub period : ℕ
  pub since : ℕ
  pub runs : ℕ
  pub last : t ≡ period * times.period + times.send + 1 + since
  pub whole : whole_since_answer ms ≡ true → runs ≡ since
  pub enough : (seen + times.period * goods_in n ms + runs + 1 ≤ runs_in m ms)
      ⊎ ((goods_in n ms ≡ 0) × (whole_since_answer ms ≡ false) × (seen ≤ runs_in m ms))

full_at_first : (times : TimeParts) (ms : List Moment) (t : ℕ) → AreTimes times → Full times ms t 0
full_at_first times ms t are = record {
  period = (t + times.period - times.send - 1) / times.period;
  since = (t + times.period - times.send - 1) % times.period;
  seen = 0;
  at = (let inside = send_within times are in let some = period_least times are in omega (arith, inside, some));
  room = (let some = period_least times are in omega (arith, some));
  size = omega arith;
  ran = omega arith;
  whole = λ w. (unfold runs_in in refl);
}

-- no answer before the send tick of a period
none_before : (s : Setting) → AreTimes s.cal.times → (h : List Tick) → AllOrNoneEach h → (k j : ℕ) →
    length h ≡ k * s.cal.times.period + j → j ≤ s.cal.times.send → goods_in j (moments_of s h) ≡ 0
unfolding Each moments_of
none_before s are h each k zero at early = unfold goods_in in refl
none_before s are [] each k (suc j) at early = absurd (omega (arith, at))
none_before s are (x ∷ h) each k (suc j) at early =
    goods_in-cons j m past
    ∙ ap (λ b. if b then suc (goods_in j past) else goods_in j past) bad
    ∙ none_before s are h each.1 k j (omega (arith, at)) (omega (arith, early))
  where
    past : List Moment
    past = moments_of s h

    m : Moment
    m = moment s x.effects x.entry past

    place : length past % s.cal.times.period ≡ j
    place = ap (λ t. t % s.cal.times.period) (length-moments s h ∙ (let e : length h ≡ k * s.cal.times.period + j = omega (arith, at) in e))
        ∙ mod-mul-add k s.cal.times.period j (let inside = send_within s.cal.times are in omega (arith, early, inside))

    bad : is_good_mark m.mark ≡ false
    bad = ap is_good_mark ((fields s x.effects x.entry past).mark
        ∙ absent_off_place s.cal.times x.effects m.trip past each.0.regular
        (ap (λ t. t == s.cal.times.send) place ∙ ne_eqb j s.cal.times.send (λ e. omega (arith, e, early))))
        ∙ (unfold is_good_mark in refl)

-- ---- one tick more ----

module _ (s : Setting) (are : AreTimes s.cal.times) (x : Tick) (h : List Tick) (each : AllOrNoneEach (x ∷ h)) where
  abbrev times : TimeParts
  times = s.cal.times

  abbrev past : List Moment
  past = moments_of s h

  abbrev now : Moment
  now = moment s x.effects x.entry past

  one : AllOrNone x.effects
  one = unfold Each in each.0

  some : 0 < times.period
  some = period_least times are

  inside : times.send < times.period
  inside = send_within times are

  low : (m : ℕ) → runs_in m past ≤ runs_in (suc m) (now ∷ past)
  low m = rw (runs_in-cons m now past) (least now.whole (runs_in m past))
    where
      least : (b : Bool) (r : ℕ) → r ≤ (if b then suc r else r)
      least b r = grind arith

  more : (m : ℕ) → now.whole ≡ true → runs_in (suc m) (now ∷ past) ≡ suc (runs_in m past)
  more m whole = runs_in-cons m now past ∙ ap (λ b. if b then suc (runs_in m past) else runs_in m past) whole

  same_goods : (n : ℕ) → is_good_mark now.mark ≡ false → goods_in (suc n) (now ∷ past) ≡ goods_in n past
  same_goods n bad = goods_in-cons n now past ∙ ap (λ b. if b then suc (goods_in n past) else goods_in n past) bad

  one_good : (n : ℕ) → is_good_mark now.mark ≡ true → goods_in (suc n) (now ∷ past) ≡ suc (goods_in n past)
  one_good n good = goods_in-cons n now past ∙ ap (λ b. if b then suc (goods_in n past) else goods_in n past) good

  no_good : now.mark ≡ Absent → is_good_mark now.mark ≡ false
  no_good absent = ap is_good_mark absent ∙ (unfold is_good_mark in refl)

  -- where level 2 doesn't run no answer is sent, and the next isn't good
  out_absent : one.runs ≡ false → now.mark ≡ Absent
  unfolding mark_at is_sent
  out_absent out = (fields s x.effects x.entry past).mark
      ∙ ap (λ sent. if sent then (if is_good x.effects past then Good else Bad) else Absent)
      (and_left _ _ (none _ (x.effects.ran REACT) (one.ran REACT ∙ out)))
    where
      none : (a b : Bool) → b ≡ false → (a && b) ≡ false
      none a b e = grind arith

  out_since : one.runs ≡ false → whole_since_answer (now ∷ past) ≡ false
  unfolding whole_since_answer is_answer
  out_since out = rw (out_absent out, whole-is s x past one ∙ out) refl

  -- ---- no send tick ----

  module _ (off : (length h % times.period == times.send) ≡ false) where
    absent : now.mark ≡ Absent
    absent = (fields s x.effects x.entry past).mark ∙ absent_off_place times x.effects now.trip past one.regular
        (ap (λ t. t % times.period == times.send) (length-moments s h) ∙ off)

    both : whole_since_answer (now ∷ past) ≡ true → (now.whole ≡ true) × (whole_since_answer past ≡ true)
    both w = whole_before now past absent w

    full_on : (m : ℕ) → Full times past (length h) m → Full times (now ∷ past) (suc (length h)) (suc m)
    full_on m full = record {
      period = full.period;
      since = suc full.since;
      seen = full.seen;
      at = omega (arith, full.at);
      room = room;
      size = omega (arith, full.size);
      ran = omega (arith, full.ran, low m);
      whole = λ w. more m (both w).0 ∙ ap suc (full.whole (both w).1);
    }
      where
        room : suc full.since < times.period
        room = elim (cases_lt (suc full.since) times.period) [
          | inl less ↦ less
          | inr last ↦ absurd (true≢false (sym (eq-eqb _ _ (place (omega (arith, last, full.room, full.at)))) ∙ off))
        ]
          where
            place : length h ≡ full.period * times.period + times.send → length h % times.period ≡ times.send
            place e = ap (λ t. t % times.period) e ∙ mod-mul-add full.period times.period times.send inside

    cut_on : (m : ℕ) → Cut times past (length h) m → Cut times (now ∷ past) (suc (length h)) (suc m)
    cut_on m cut = record {
      first = cut.first;
      n = suc cut.n;
      seen = cut.seen;
      at = omega (arith, cut.at);
      late = omega (arith, cut.late);
      size = omega (arith, cut.size);
      period = cut.period;
      since = suc cut.since;
      runs = (if now.whole then suc cut.runs else cut.runs);
      last = omega (arith, cut.last);
      whole = λ w. (let b = both w in ap (λ c. if c then suc cut.runs else cut.runs) b.0 ∙ ap suc (cut.whole b.1));
      enough = elim cut.enough [
        | inl paid ↦ inl (rw (same_goods cut.n (no_good absent), runs_in-cons m now past)
            (sums now.whole (cut.seen + times.period * goods_in cut.n past) cut.runs (runs_in m past) paid))
        | inr free ↦ inr (same_goods cut.n (no_good absent) ∙ free.0, still free.1, omega (arith, free.2, low m))
      ];
    }
      where
        sums : (b : Bool) (g k r : ℕ) → g + k + 1 ≤ r → g + (if b then suc k else k) + 1 ≤ (if b then suc r else r)
        sums b g k r l = grind arith

        still : whole_since_answer past ≡ false → whole_since_answer (now ∷ past) ≡ false
        still none = elim (cases_Bool (whole_since_answer (now ∷ past))) [
          | inl w ↦ absurd (true≢false (sym (both w).1 ∙ none))
          | inr n ↦ n
        ]

  -- ---- a send tick ----

  module _ (here : length h % times.period ≡ times.send) where
    abbrev number : ℕ
    number = length h / times.period

    place : length h ≡ number * times.period + times.send
    place = placed (length h) times.period times.send some here
      where
        placed : (t period send : ℕ) → 0 < period → t % period ≡ send → t ≡ (t / period) * period + send
        placed t period send l e = omega arith

    whole_good : is_good_mark now.mark ≡ true → (now.whole ≡ true) × (whole_since_answer past ≡ true)
    whole_good good =
        let parts = whole_where_good times x.effects now.trip past (ap is_good_mark (sym (fields s x.effects x.entry past).mark) ∙ good) in
        ((fields s x.effects x.entry past).whole ∙ parts.0, parts.1)

    full_good : (m : ℕ) → is_good_mark now.mark ≡ true → Full times past (length h) m →
        Full times (now ∷ past) (suc (length h)) (suc m)
    full_good m good full = record {
      period = number + 1;
      since = 0;
      seen = suc m;
      at = omega (arith, place);
      room = some;
      size = omega arith;
      ran = omega (arith, all);
      whole = λ w. all;
    }
      where
        all : runs_in (suc m) (now ∷ past) ≡ suc m
        all = more m (whole_good good).0 ∙ ap suc (full.whole (whole_good good).1)

    cut_now : (m : ℕ) → is_good_mark now.mark ≡ false → Full times past (length h) m →
        Cut times (now ∷ past) (suc (length h)) (suc m)
    cut_now m bad full = record {
      first = number;
      n = suc times.send;
      seen = full.seen;
      at = omega (arith, place);
      late = omega arith;
      size = omega (arith, full.size, full.room);
      period = number;
      since = 0;
      runs = 0;
      last = omega (arith, place);
      whole = λ w. refl;
      enough = elim (cases_Bool one.runs) [
        | inl runs ↦ inl (rw (none, more m (whole-is s x past one ∙ runs)) (omega (arith, full.ran)))
        | inr out ↦ inr (none, out_since out, omega (arith, full.ran, low m))
      ];
    }
      where
        none : goods_in (suc times.send) (now ∷ past) ≡ 0
        none = same_goods times.send bad ∙ none_before s are h (unfold Each in each.1) number times.send place (omega arith)

    cut_good : (m : ℕ) → is_good_mark now.mark ≡ true → Cut times past (length h) m →
        Cut times (now ∷ past) (suc (length h)) (suc m)
    cut_good m good cut = record {
      first = cut.first;
      n = suc cut.n;
      seen = cut.seen;
      at = omega (arith, cut.at);
      late = omega (arith, cut.late);
      size = omega (arith, cut.size);
      period = number;
      since = 0;
      runs = 0;
      last = omega (arith, place);
      whole = λ w. refl;
      enough = elim cut.enough [
        | inl paid ↦ inl (rw (one_good cut.n good, more m (whole_good good).0)
            (sums times.period cut.seen (goods_in cut.n past) cut.runs cut.since (runs_in m past)
            (apart number cut.period times.period times.send cut.since (length h) place cut.last) (cut.whole (whole_good good).1) paid))
        | inr free ↦ absurd (true≢false (sym (whole_good good).1 ∙ free.1))
      ];
    }
      where
        sums : (q seen g runs since r : ℕ) → q ≤ since + 1 → runs ≡ since → seen + q * g + runs + 1 ≤ r →
            seen + q * suc g + 0 + 1 ≤ suc r
        sums q seen g runs since r full e l = omega (arith, full, e, l)

    cut_bad : (m : ℕ) → is_good_mark now.mark ≡ false → Cut times past (length h) m →
        Cut times (now ∷ past) (suc (length h)) (suc m)
    cut_bad m bad cut = record {
      first = cut.first;
      n = suc cut.n;
      seen = cut.seen;
      at = omega (arith, cut.at);
      late = omega (arith, cut.late);
      size = omega (arith, cut.size);
      period = number;
      since = 0;
      runs = 0;
      last = omega (arith, place);
      whole = λ w. refl;
      enough = elim cut.enough [
        | inl paid ↦ inl (rw (same_goods cut.n bad) (omega (arith, paid, low m)))
        | inr free ↦ elim (cases_Bool one.runs) [
          | inl runs ↦ inl (rw (same_goods cut.n bad, free.0, more m (whole-is s x past one ∙ runs)) (omega (arith, free.2)))
          | inr out ↦ inr (same_goods cut.n bad ∙ free.0, out_since out, omega (arith, free.2, low m))
        ]
      ];
    }

-- ---- all ticks of the stretch ----

walk_on : (s : Setting) → AreTimes s.cal.times → (x : Tick) (h : List Tick) → AllOrNoneEach (x ∷ h) → (m : ℕ) →
    Full s.cal.times (moments_of s h) (length h) m ⊎ Cut s.cal.times (moments_of s h) (length h) m →
    Full s.cal.times (moments_of s (x ∷ h)) (suc (length h)) (suc m) ⊎ Cut s.cal.times (moments_of s (x ∷ h)) (suc (length h)) (suc m)
unfolding moments_of
walk_on s are x h each m before = elim (cases_Bool (length h % s.cal.times.period == s.cal.times.send)) [
  | inr off ↦ elim before [
    | inl full ↦ inl (full_on s are x h each off m full)
    | inr cut ↦ inr (cut_on s are x h each off m cut)
  ]
  | inl at ↦ (let here = eqb-true _ _ at in elim (cases_Bool (is_good_mark (moment s x.effects x.entry (moments_of s h)).mark)) [
    | inl good ↦ elim before [
      | inl full ↦ inl (full_good s are x h each here m good full)
      | inr cut ↦ inr (cut_good s are x h each here m good cut)
    ]
    | inr bad ↦ elim before [
      | inl full ↦ inr (cut_now s are x h each here m bad full)
      | inr cut ↦ inr (cut_bad s are x h each here m bad cut)
    ]
  ])
]

pub walk : (s : Setting) → AreTimes s.cal.times → (h : List Tick) → AllOrNoneEach h → (m : ℕ) → m ≤ length h →
    Full s.cal.times (moments_of s h) (length h) m ⊎ Cut s.cal.times (moments_of s h) (length h) m
unfolding Each
walk s are h each zero within = inl (full_at_first s.cal.times (moments_of s h) (length h) are)
walk s are [] each (suc m) within = absurd (omega (arith, within))
walk s are (x ∷ h) each (suc m) within = walk_on s are x h each m (walk s are h each.1 m (omega (arith, within)))
