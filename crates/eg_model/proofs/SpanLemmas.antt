-- A run span by span: the ticks of the span that it ends in are a history that stands by itself, and what one
-- tick more makes of them.
use Rattle.std.proofs.Common.{inl, inr, ◌≡◌, ◌∙◌, refl, sym, ap, ap₂, subst, ℕ, zero, suc, ◌+◌, ◌-◌, ◌≤◌, Bool, true, false, ◌||◌, List, [], ◌∷◌, take, length, arith}
use Rattle.std.specs.Prelude.{◌==◌, if◌then◌else◌}
use Rattle.std.proofs.lemmas.Bool.{cases_Bool, or_parts, ne_eqb}
use Rattle.std.proofs.lemmas.List.{length-take-le}
use Rattle.eg_num.specs.Drive.{DriveRow}
use Rattle.eg_fault.specs.Faults.{effects}
use Rattle.eg_model.specs.History.{Setting, Entry, Tick, SpanKind, Drive, drives, Moment}
use Rattle.eg_model.specs.Level1.{last_world}
use Rattle.eg_model.specs.Paths.{both_conduct}
use Rattle.eg_model.specs.Moments.{moment_in, moments_in, moments_of}
use Rattle.eg_model.specs.Spans.{span_so_far, span_kind, has_passed, kind_at, before_at, moment_at, next_after, moments, next, ticks, span_ticks}
use Rattle.eg_model.specs.Premises.{IsProper, AreProper, IsProperRun, Follows}
use Rattle.eg_model.specs.SpanHistories.{SpansAreHistories}

-- ---- how many there are ----

pub length-run_moments : (s : Setting) (h : List Entry) → length (moments s h) ≡ length h
unfolding moments
length-run_moments s [] = refl
length-run_moments s (e ∷ h) = ap suc (length-run_moments s h)

pub length-ticks : (s : Setting) (h : List Entry) → length (ticks s h) ≡ length h
unfolding ticks
length-ticks s [] = refl
length-ticks s (e ∷ h) = ap suc (length-ticks s h)

length-span : (past : List Moment) → length (span_so_far past) ≤ length past
unfolding span_so_far
length-span [] = omega arith
length-span (m ∷ past) = go m.fresh (length-span past)
  where
    go : (b : Bool) → length (span_so_far past) ≤ length past →
        suc (length (if b then [] else span_so_far past)) ≤ suc (length past)
    go true l = omega arith
    go false l = omega arith

pub length-span_ticks : (s : Setting) (h : List Entry) → length (span_ticks s h) ≡ length (span_so_far (moments s h))
length-span_ticks s h = unfold span_ticks in
    length-take-le (length (span_so_far (moments s h))) (ticks s h) (within (length-span (moments s h)) (length-run_moments s h) (length-ticks s h))
  where
    within : {a b c d : ℕ} → a ≤ b → b ≡ c → d ≡ c → a ≤ d
    within l e f = omega arith

-- ---- the span of one tick more ----

-- the drive row begins a span, or else the span goes on
pub before-begins : (drive : DriveRow) (past : List Moment) → (drive.reset || has_passed past) ≡ true → before_at drive past ≡ []
before-begins drive past e = unfold before_at in rw e refl

pub before-goes_on : (drive : DriveRow) (past : List Moment) → (drive.reset || has_passed past) ≡ false →
    before_at drive past ≡ span_so_far past
before-goes_on drive past e = unfold before_at in rw e refl

pub kind-goes_on : (drive : DriveRow) (past : List Moment) → (drive.reset || has_passed past) ≡ false →
    kind_at drive past ≡ span_kind past
kind-goes_on drive past e =
    let parts = or_parts drive.reset (has_passed past) e in unfold kind_at in rw (parts.0, parts.1) refl

-- at the first tick of a span nothing is commanded yet, and else it is what the tick before left
pub commands : (drive : DriveRow) (past : List Moment) →
    last_world (if length (before_at drive past) == 0 then [] else past) ≡ last_world (before_at drive past)
unfolding span_so_far last_world
commands drive past = go (drive.reset || has_passed past) refl past refl
  where
    none : (before : List Moment) → before ≡ [] → last_world (if length before == 0 then [] else past) ≡ last_world before
    none before is = rw is refl

    some : (m : Moment) (rest : List Moment) → past ≡ m ∷ rest →
        last_world (if length (span_so_far (m ∷ rest)) == 0 then [] else past) ≡ last_world (span_so_far (m ∷ rest))
    some m rest is = ap (λ b. last_world (if b then [] else past)) (ne_eqb (length (span_so_far (m ∷ rest))) 0 (λ f. omega arith)) ∙ ap last_world is

    go : (b : Bool) → (drive.reset || has_passed past) ≡ b → (all : List Moment) → past ≡ all →
        last_world (if length (before_at drive past) == 0 then [] else past) ≡ last_world (before_at drive past)
    go true begins all is = none (before_at drive past) (before-begins drive past begins)
    go false on [] is = none (before_at drive past) (before-goes_on drive past on ∙ ap span_so_far is)
    go false on (m ∷ rest) is = subst (λ before. last_world (if length before == 0 then [] else past) ≡ last_world before)
        (sym (before-goes_on drive past on ∙ ap span_so_far is)) (some m rest is)

-- the span with a moment that comes next
pub span_so_far-next : (s : Setting) (e : Entry) (past : List Moment) →
    span_so_far (next_after s e past ∷ past) ≡ next_after s e past ∷ before_at e.drive past
unfolding span_so_far
span_so_far-next s e past = ap (λ rest. next_after s e past ∷ rest) (elim (cases_Bool (e.drive.reset || has_passed past)) [
  | inl begins ↦ rw (fresh, before-begins e.drive past begins) refl
  | inr goes_on ↦ ap (λ b. if b then [] else span_so_far past) fresh
      ∙ some (before_at e.drive past) (before-goes_on e.drive past goes_on)
])
  where
    fresh : (next_after s e past).fresh ≡ (length (before_at e.drive past) == 0)
    fresh = unfold next_after moment_at moment_in in refl

    some : (before : List Moment) → before ≡ span_so_far past → (if length before == 0 then [] else span_so_far past) ≡ before
    some [] is = refl
    some (m ∷ before) is = rw (ne_eqb (length (m ∷ before)) 0 (λ f. omega arith)) (sym is)

-- the tick of an entry that comes next, and the ticks of its span before it
unfoldable pub tick_after : Setting → Entry → List Entry → Tick
tick_after s e h = record { effects = effects s.fault (length h); entry = e }

unfoldable pub ticks_before : Setting → Entry → List Entry → List Tick
ticks_before s e h = if e.drive.reset || has_passed (moments s h) then [] else span_ticks s h

pub ticks_before-begins : (s : Setting) (e : Entry) (h : List Entry) → (e.drive.reset || has_passed (moments s h)) ≡ true →
    ticks_before s e h ≡ []
ticks_before-begins s e h begins = unfold ticks_before in rw begins refl

pub ticks_before-goes_on : (s : Setting) (e : Entry) (h : List Entry) → (e.drive.reset || has_passed (moments s h)) ≡ false →
    ticks_before s e h ≡ span_ticks s h
ticks_before-goes_on s e h goes_on = unfold ticks_before in rw goes_on refl

ticks_before-are : (s : Setting) (e : Entry) (h : List Entry) →
    ticks_before s e h ≡ take (length (before_at e.drive (moments s h))) (ticks s h)
unfolding ticks_before
ticks_before-are s e h = elim (cases_Bool (e.drive.reset || has_passed (moments s h))) [
  | inl begins ↦ rw (begins, before-begins e.drive (moments s h) begins) refl
  | inr goes_on ↦ rw (goes_on, before-goes_on e.drive (moments s h) goes_on) (unfold span_ticks in refl)
]

-- ---- a span of a run is a history ----

-- What one entry more does: its tick is the next of the span that goes on, or the first of a span that begins
-- with it.
pub record Continues (s : Setting) (e : Entry) (h : List Entry) (kind : SpanKind) (before : List Tick) : Type 0 where
  pub kind_is : span_kind (moments s (e ∷ h)) ≡ kind
  pub ticks_are : span_ticks s (e ∷ h) ≡ tick_after s e h ∷ before
  pub before_are : before_at e.drive (moments s h) ≡ moments_in kind s before
  pub moment_is : next s e h ≡ moment_in kind s (effects s.fault (length h)) e (moments_in kind s before)

module _ (s : Setting) where
  -- the moments of a span, as those of its ticks
  abbrev pub ByTicks : List Entry → Type 0
  ByTicks h = span_so_far (moments s h) ≡ moments_in (span_kind (moments s h)) s (span_ticks s h)

  before_from : (e : Entry) (h : List Entry) → ByTicks h →
      before_at e.drive (moments s h) ≡ moments_in (kind_at e.drive (moments s h)) s (ticks_before s e h)
  before_from e h is = elim (cases_Bool (e.drive.reset || has_passed (moments s h))) [
    | inl begins ↦ before-begins e.drive (moments s h) begins
        ∙ (unfold moments_in in rw (ticks_before-begins s e h begins) refl)
    | inr goes_on ↦ before-goes_on e.drive (moments s h) goes_on ∙ is
        ∙ ap₂ (λ kind before. moments_in kind s before) (sym (kind-goes_on e.drive (moments s h) goes_on))
        (sym (ticks_before-goes_on s e h goes_on))
  ]

  pub kind-next : (e : Entry) (h : List Entry) → span_kind (moments s (e ∷ h)) ≡ kind_at e.drive (moments s h)
  unfolding moments span_kind next_after moment_at moment_in
  kind-next e h = refl

  ticks-next : (e : Entry) (h : List Entry) → span_ticks s (e ∷ h) ≡ tick_after s e h ∷ ticks_before s e h
  unfolding span_ticks moments ticks tick_after
  ticks-next e h = ap (λ past. take (length past) (tick_after s e h ∷ ticks s h)) (span_so_far-next s e (moments s h))
      ∙ ap (λ before. tick_after s e h ∷ before) (sym (ticks_before-are s e h))

  moment-next : (e : Entry) (h : List Entry) → ByTicks h →
      next s e h ≡ moment_in (kind_at e.drive (moments s h)) s (effects s.fault (length h)) e
      (moments_in (kind_at e.drive (moments s h)) s (ticks_before s e h))
  unfolding next next_after moment_at
  moment-next e h is =
      ap₂ (λ n past. moment_in (kind_at e.drive (moments s h)) s (effects s.fault n) e past) (length-run_moments s h)
      (before_from e h is)

  pub by_ticks : (h : List Entry) → ByTicks h
  by_ticks [] = unfold moments span_so_far span_ticks ticks moments_in in refl
  by_ticks (e ∷ h) = step (by_ticks h)
    where
      step : ByTicks h → ByTicks (e ∷ h)
      step is = grown ∙ ap₂ (λ m past. m ∷ past) (moment-next e h is) (before_from e h is) ∙ folded
          ∙ ap₂ (λ kind span. moments_in kind s span) (sym (kind-next e h)) (sym (ticks-next e h))
        where
          grown : span_so_far (moments s (e ∷ h)) ≡ next s e h ∷ before_at e.drive (moments s h)
          grown = unfold moments next in span_so_far-next s e (moments s h)

          folded : moment_in (kind_at e.drive (moments s h)) s (effects s.fault (length h)) e
              (moments_in (kind_at e.drive (moments s h)) s (ticks_before s e h))
              ∷ moments_in (kind_at e.drive (moments s h)) s (ticks_before s e h)
              ≡ moments_in (kind_at e.drive (moments s h)) s (tick_after s e h ∷ ticks_before s e h)
          folded = unfold moments_in tick_after in refl

  pub continues : (e : Entry) (h : List Entry) →
      Continues s e h (kind_at e.drive (moments s h)) (ticks_before s e h)
  continues e h = record {
    kind_is = kind-next e h;
    ticks_are = ticks-next e h;
    before_are = before_from e h (by_ticks h);
    moment_is = moment-next e h (by_ticks h);
  }

  -- the newest ticks of a run follow its fault from the tick at which they begin
  follows_from : (h : List Entry) (n begin : ℕ) → begin + n ≡ length h → Follows s.fault begin (take n (ticks s h))
  unfolding ticks Follows
  follows_from h zero begin e = tt
  follows_from [] (suc n) begin e = absurd (omega (arith, e))
  follows_from (x ∷ h) (suc n) begin e = (
    ap (effects s.fault) (now (length (take n (ticks s h))) (length h) begin n
        (length-take-le n (ticks s h) (let l = length-ticks s h in omega (arith, e, l))) e),
    follows_from h n begin (omega (arith, e)),
  )
    where
      now : (a b begin n : ℕ) → a ≡ n → begin + suc n ≡ suc b → b ≡ begin + a
      now a b begin n same e = omega arith

  -- and so do those of the span that it ends in
  pub follows_at : (h : List Entry) (begin : ℕ) → begin + length (span_ticks s h) ≡ length h →
      Follows s.fault begin (span_ticks s h)
  unfolding span_ticks
  follows_at h begin e = follows_from h (length (span_so_far (moments s h))) begin
      (ap (λ n. begin + n) (sym (length-span_ticks s h)) ∙ (unfold span_ticks in e))

  -- ---- where the engine is driven, what comes in is proper ----

  pub proper_drive : (h : List Entry) → IsProperRun s h → span_kind (moments s h) ≡ Drive → AreProper s (span_ticks s h)
  proper_drive [] proper driven = unfold span_ticks moments span_so_far ticks AreProper in tt
  proper_drive (e ∷ h) proper driven =
      subst (AreProper s) (sym c.ticks_are) (with_tick (elim (cases_Bool (e.drive.reset || has_passed (moments s h))) [
        | inl begins ↦ subst (AreProper s) (sym (ticks_before-begins s e h begins)) (unfold AreProper in tt)
        | inr goes_on ↦ subst (AreProper s) (sym (ticks_before-goes_on s e h goes_on))
            (proper_drive h (earlier proper) (sym (kind-goes_on e.drive (moments s h) goes_on) ∙ kind_is))
      ]))
    where
      c : Continues s e h (kind_at e.drive (moments s h)) (ticks_before s e h)
      c = continues e h

      kind_is : kind_at e.drive (moments s h) ≡ Drive
      kind_is = sym c.kind_is ∙ driven

      on_is : (next s e h).on ≡ both_conduct (effects s.fault (length h)) (moments_of s (ticks_before s e h))
      on_is = ap (λ (m : Moment). m.on) (c.moment_is ∙ ap (λ kind. moment_in kind s (effects s.fault (length h)) e
          (moments_in kind s (ticks_before s e h))) kind_is) ∙ (unfold moment_in drives moments_of in refl)

      now : IsProperRun s (e ∷ h) → IsProper s (both_conduct (effects s.fault (length h)) (moments_of s (ticks_before s e h))) e
      now p = subst (λ on. IsProper s on e) on_is (unfold IsProperRun in p.0)

      earlier : IsProperRun s (e ∷ h) → IsProperRun s h
      earlier p = unfold IsProperRun in p.1

      with_tick : AreProper s (ticks_before s e h) → AreProper s (tick_after s e h ∷ ticks_before s e h)
      with_tick before = unfold AreProper tick_after in (now proper, before)

-- ---- the law ----

-- where the span that a run ends in begins
begin_of : Setting → List Entry → ℕ
begin_of s h = length h - length (span_ticks s h)

pub spans_are_histories : SpansAreHistories
spans_are_histories s h = record {
  moments_are = by_ticks s h;
  begin = begin_of s h;
  size = size;
  follows = follows_at s h (begin_of s h) size;
  proper = proper_drive s h;
}
  where
    sum : (n a : ℕ) → a ≤ n → (n - a) + a ≡ n
    sum n a l = omega arith

    within : length (span_ticks s h) ≤ length h
    within = let a = length-span_ticks s h in let b = length-span (moments s h) in let c = length-run_moments s h in
        omega (arith, a, b, c)

    size : begin_of s h + length (span_ticks s h) ≡ length h
    size = unfold begin_of in sum (length h) (length (span_ticks s h)) within
