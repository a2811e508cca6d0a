-- The rows of a history in which the engine is driven, and that begins at any tick of a run: what is said of
-- parts of the rows is said of parts of the history.
use Rattle.std.proofs.Common.{◌≡◌, ◌∙◌, refl, sym, ap, ap₂, subst, ℕ, suc, ◌+◌, ◌≤◌, Bool, true, false, List, [], ◌∷◌, ◌++◌, All, map, take, length, length-append, arith, inl, inr, Option, Some, None, is_some}
use Rattle.std.proofs.lemmas.Bool.{cases_lt, true≢false, false_from_ne_true}
use Rattle.std.specs.List.{list_all}
use Rattle.std.proofs.lemmas.List.Elements.{All-cons, All-nil}
use Rattle.std.proofs.lemmas.Option.{none-some, same_Some}
use Rattle.eg_num.specs.Windows.{WeightParts, is_confirmed, is_first, first_index}
use Rattle.eg_num.proofs.FirstIndexLemmas.{is_first-parts, first_index-first, first_index-other, is_some-first_index, is_reached_confirmed, is_confirmed-cons}
use Rattle.eg_fault.specs.declared.class.Fault.{Fault}
use Rattle.eg_record.specs.declared.row.Row.{Row}
use Rattle.eg_record.specs.Excess.{true_excess, full_excess}
use Rattle.eg_model.specs.History.{Setting, Tick, Test, drives, Moment}
use Rattle.eg_model.specs.Moments.{moment, moment_in, moments_in, moments_of}
use Rattle.eg_model.specs.Rows.{row_of, rows_of}
use Rattle.eg_model.specs.Premises.{AreProper, Follows, is_on_after, true_excesses}
use Rattle.eg_model.specs.Records.{ExceedLast}
use Rattle.eg_model.specs.Lapses.{Exceeds}
use Rattle.eg_model.proofs.TickLemmas.{parts_of, nothing, length-moments}

-- ---- parts of lists ----

-- where one list ends with d, and with b, which is no shorter: so does b
pub record Between {X : Type 0} (a b c d : List X) : Type 0 where
  pub more : List X
  pub ends : b ≡ more ++ d
  pub front : c ≡ a ++ more

pub between : {X : Type 0} (a b c d : List X) → a ++ b ≡ c ++ d → length d ≤ length b → Between a b c d
between [] b c d e l = record { more = c; ends = e; front = refl }
between (y ∷ a) b [] d e l = absurd (let long = ap length e in let sum = length-append a b in omega (arith, long, sum, l))
between (y ∷ a) b (z ∷ c) d e l =
    let rest = between a b c d (parts_of e).1 l in
    record { more = rest.more; ends = rest.ends; front = ap₂ (λ x xs. x ∷ xs) (sym (parts_of e).0) rest.front }

-- a list has an end of any length up to its own
pub record EndOf {X : Type 0} (all : List X) (n : ℕ) : Type 0 where
  pub more : List X
  pub rest : List X
  pub whole : all ≡ more ++ rest
  pub size : length rest ≡ n

pub end_of : {X : Type 0} (all : List X) (n : ℕ) → n ≤ length all → EndOf all n
end_of [] n l = record { more = []; rest = []; whole = refl; size = omega (arith, l) }
end_of (x ∷ all) n l = elim (cases_lt (length all) n) [
  | inl now ↦ record { more = []; rest = x ∷ all; whole = refl; size = omega (arith, now, l) }
  | inr before ↦ (let e = end_of all n before in record {
    more = x ∷ e.more;
    rest = e.rest;
    whole = ap (λ k. x ∷ k) e.whole;
    size = e.size;
  })
]

-- ---- what an end of a history keeps ----

pub follows-end : (fault : Option Fault) (start : ℕ) (newer h : List Tick) → Follows fault start (newer ++ h) → Follows fault start h
unfolding Follows
follows-end fault start [] h follows = follows
follows-end fault start (x ∷ newer) h follows = follows-end fault start newer h follows.1

pub proper-end : (s : Setting) (newer h : List Tick) → AreProper s (newer ++ h) → AreProper s h
unfolding AreProper
proper-end s [] h proper = proper
proper-end s (x ∷ newer) h proper = proper-end s newer h proper.1

-- ---- the rows of a history ----

-- the rows of these moments, where the first of them is that of tick `start`
unfoldable pub rows_after : (start : ℕ) → List Moment → List Row
rows_after start [] = []
rows_after start (m ∷ past) = row_of (start + length past) m ∷ rows_after start past

pub length-rows_after : (start : ℕ) (past : List Moment) → length (rows_after start past) ≡ length past
unfolding rows_after
length-rows_after start [] = refl
length-rows_after start (m ∷ past) = ap suc (length-rows_after start past)

abbrev pub SpanRows : Setting → (start : ℕ) → List Tick → List Row
SpanRows s start h = rows_after start (moments_of s h)

-- the row of the tick x after these
abbrev pub RowAfter : Setting → (start : ℕ) → Tick → List Tick → Row
RowAfter s start x before = row_of (start + length (moments_of s before)) (moment s x.effects x.entry (moments_of s before))

pub row_on : (s : Setting) (start : ℕ) (x : Tick) (before : List Tick) → (RowAfter s start x before).on ≡ is_on_after s before x
unfolding row_of is_on_after
row_on s start x before = refl

pub row_found : (s : Setting) (start : ℕ) (x : Tick) (before : List Tick) →
    (RowAfter s start x before).found ≡ (moment s x.effects x.entry (moments_of s before)).found
unfolding row_of
row_found s start x before = refl

pub row_tick : (s : Setting) (start : ℕ) (x : Tick) (before : List Tick) → (RowAfter s start x before).tick ≡ start + length before
unfolding row_of
row_tick s start x before = ap (λ n. start + n) (length-moments s before)

-- P of each row, by the ticks
pub all_rows : (P : Row → Type 0) (s : Setting) (start : ℕ) (h : List Tick) →
    ((newer : List Tick) (x : Tick) (before : List Tick) → h ≡ newer ++ x ∷ before → P (RowAfter s start x before)) →
    All P (SpanRows s start h)
unfolding rows_after moments_of
all_rows P s start [] p = All-nil P
all_rows P s start (x ∷ h) p = All-cons P (RowAfter s start x h) (SpanRows s start h) (p [] x h refl)
    (all_rows P s start h (λ newer y before e. p (x ∷ newer) y before (ap (λ k. x ∷ k) e)))

-- The rows up to a tick are those of the history up to it; and the stages are off at the rows after it where
-- they are at its ticks.
pub record Split (s : Setting) (start : ℕ) (h : List Tick) (later before : List Row) : Type 0 where
  pub more : List Tick
  pub rest : List Tick
  pub whole : h ≡ more ++ rest
  pub rows_are : before ≡ SpanRows s start rest
  pub off :
      ((newer : List Tick) (x : Tick) (mid : List Tick) → h ≡ newer ++ x ∷ (mid ++ rest) → is_on_after s (mid ++ rest) x ≡ false) →
      All (λ row. row.on ≡ false) later

pub split : (s : Setting) (start : ℕ) (h : List Tick) (later before : List Row) → SpanRows s start h ≡ later ++ before →
    Split s start h later before
split s start h [] before e = record {
  more = [];
  rest = h;
  whole = refl;
  rows_are = sym e;
  off = λ p. All-nil (λ row. row.on ≡ false);
}
split s start [] (row ∷ later) before e = absurd (unfold rows_after moments_of in nothing e)
split s start (x ∷ h) (row ∷ later) before e = one_more (split s start h later before (parts_of parted).1)
  where
    parted : RowAfter s start x h ∷ SpanRows s start h ≡ row ∷ (later ++ before)
    parted = unfold rows_after moments_of in e

    one_more : Split s start h later before → Split s start (x ∷ h) (row ∷ later) before
    one_more c = record {
      more = x ∷ c.more;
      rest = c.rest;
      whole = ap (λ k. x ∷ k) c.whole;
      rows_are = c.rows_are;
      off = λ p. All-cons (λ row. row.on ≡ false) row later
          (ap (λ (r : Row). r.on) (sym (parts_of parted).0) ∙ row_on s start x h
          ∙ subst (λ g. is_on_after s g x ≡ false) (sym c.whole) (p [] x c.more (ap (λ k. x ∷ k) c.whole)))
          (c.off (λ newer y mid f. p (x ∷ newer) y mid (ap (λ k. x ∷ k) f)));
    }

-- the last of these rows is that of the last tick of h, and those before it are the rows of the ticks before it
pub record LastOf (s : Setting) (start : ℕ) (h : List Tick) (row : Row) (before : List Row) : Type 0 where
  pub tick : Tick
  pub past : List Tick
  pub is : h ≡ tick ∷ past
  pub row_is : row ≡ RowAfter s start tick past
  pub before_are : before ≡ SpanRows s start past

pub last_of : (s : Setting) (start : ℕ) (h : List Tick) (row : Row) (before : List Row) → row ∷ before ≡ SpanRows s start h →
    LastOf s start h row before
unfolding rows_after moments_of
last_of s start [] row before e = absurd (nothing (sym e))
last_of s start (x ∷ h) row before e =
    record { tick = x; past = h; is = refl; row_is = (parts_of e).0; before_are = (parts_of e).1 }

-- The last of these rows is that of a tick of the history, and those before it are the rows of the ticks before
-- that one.
pub record LastTick (s : Setting) (start : ℕ) (row : Row) (before : List Row) : Type 0 where
  pub tick : Tick
  pub past : List Tick
  pub follows : Follows s.fault start (tick ∷ past)
  pub row_is : row ≡ RowAfter s start tick past
  pub before_are : before ≡ SpanRows s start past

pub last_tick : (s : Setting) (start : ℕ) (h : List Tick) → Follows s.fault start h → (later before : List Row) (row : Row) →
    SpanRows s start h ≡ later ++ row ∷ before → LastTick s start row before
last_tick s start h follows later before row e =
    let parts = split s start h later (row ∷ before) e in
    let last = last_of s start parts.rest row before parts.rows_are in
    record {
      tick = last.tick;
      past = last.past;
      follows = subst (Follows s.fault start) last.is
          (follows-end s.fault start parts.more parts.rest (subst (Follows s.fault start) parts.whole follows));
      row_is = last.row_is;
      before_are = last.before_are;
    }

-- ---- bits of the rows, one a tick ----

-- such a bit doesn't depend on the tick's number
abbrev pub IsUnnumbered : (Row → Bool) → Type 0
IsUnnumbered bit = (a b : ℕ) (m : Moment) → bit (row_of a m) ≡ bit (row_of b m)

pub true_unnumbered : (threshold : ℕ) → IsUnnumbered (true_excess threshold)
unfolding true_excess row_of
true_unnumbered threshold a b m = refl

pub full_unnumbered : (kt threshold : ℕ) → IsUnnumbered (full_excess kt threshold)
unfolding full_excess row_of
full_unnumbered kt threshold a b m = refl

-- the bits of a history
abbrev pub BitsOf : (Row → Bool) → Setting → List Tick → List Bool
BitsOf bit s h = map bit (rows_of (moments_of s h))

pub bits_after : (bit : Row → Bool) → IsUnnumbered bit → (s : Setting) (start : ℕ) (h : List Tick) →
    map bit (SpanRows s start h) ≡ BitsOf bit s h
unfolding rows_after rows_of moments_of
bits_after bit same s start [] = refl
bits_after bit same s start (x ∷ h) = ap₂ (λ b bits. b ∷ bits)
    (same (start + length (moments_of s h)) (length (moments_of s h)) (moment s x.effects x.entry (moments_of s h)))
    (bits_after bit same s start h)

-- the bit of the tick x after these
abbrev pub BitAfter : (Row → Bool) → Setting → Tick → List Tick → Bool
BitAfter bit s x h = bit (row_of (length (moments_of s h)) (moment s x.effects x.entry (moments_of s h)))

bits-cons : (bit : Row → Bool) (s : Setting) (x : Tick) (h : List Tick) → BitsOf bit s (x ∷ h) ≡ BitAfter bit s x h ∷ BitsOf bit s h
unfolding rows_of moments_of
bits-cons bit s x h = refl

length-bits : (bit : Row → Bool) (s : Setting) (h : List Tick) → length (BitsOf bit s h) ≡ length h
unfolding rows_of moments_of
length-bits bit s [] = refl
length-bits bit s (x ∷ h) = ap suc (length-bits bit s h)

-- what is confirmed stays so
pub confirmed_later : (w : WeightParts) (bit : Row → Bool) (s : Setting) (more h : List Tick) →
    is_confirmed w (BitsOf bit s h) ≡ true → is_confirmed w (BitsOf bit s (more ++ h)) ≡ true
confirmed_later w bit s [] h c = c
confirmed_later w bit s (x ∷ more) h c = subst (λ k. is_confirmed w k ≡ true) (sym (bits-cons bit s x (more ++ h)))
    (is_confirmed-cons w (BitAfter bit s x (more ++ h)) (BitsOf bit s (more ++ h)) (confirmed_later w bit s more h c))

pub quiet_earlier : (w : WeightParts) (bit : Row → Bool) (s : Setting) (more h : List Tick) →
    is_confirmed w (BitsOf bit s (more ++ h)) ≡ false → is_confirmed w (BitsOf bit s h) ≡ false
quiet_earlier w bit s more h quiet =
    false_from_ne_true _ (λ c. true≢false (sym (confirmed_later w bit s more h c) ∙ quiet))

-- the tick by which it is first confirmed
pub record IsFirstAt (w : WeightParts) (bit : Row → Bool) (s : Setting) (h : List Tick) (c : ℕ) : Type 0 where
  pub more : List Tick
  pub at : Tick
  pub before : List Tick
  pub whole : h ≡ more ++ at ∷ before
  pub size : length before ≡ c
  pub confirmed : is_confirmed w (BitsOf bit s (at ∷ before)) ≡ true
  pub quiet : is_confirmed w (BitsOf bit s before) ≡ false

pub first_confirms : (w : WeightParts) (bit : Row → Bool) (s : Setting) (h : List Tick) (c : ℕ) →
    first_index w (BitsOf bit s h) ≡ Some c → IsFirstAt w bit s h c
first_confirms w bit s [] c first = absurd (none-some c (unfold first_index rows_of moments_of in first))
first_confirms w bit s (x ∷ h) c first = go (is_first w (b ∷ BitsOf bit s h)) refl (first_confirms w bit s h c)
  where
    b : Bool
    b = BitAfter bit s x h

    first' : first_index w (b ∷ BitsOf bit s h) ≡ Some c
    first' = subst (λ l. first_index w l ≡ Some c) (bits-cons bit s x h) first

    go : (is : Bool) → is_first w (b ∷ BitsOf bit s h) ≡ is →
        (first_index w (BitsOf bit s h) ≡ Some c → IsFirstAt w bit s h c) → IsFirstAt w bit s (x ∷ h) c
    go true now before =
        let parts = is_first-parts w b (BitsOf bit s h) now in
        record {
          more = [];
          at = x;
          before = h;
          whole = refl;
          size = same_Some _ c (ap Some (sym (length-bits bit s h)) ∙ sym (first_index-first w b (BitsOf bit s h) now) ∙ first');
          confirmed = subst (λ l. is_confirmed w l ≡ true) (sym (bits-cons bit s x h))
              (is_reached_confirmed w b (BitsOf bit s h) parts.0);
          quiet = parts.1;
        }
    go false later before =
        let rest = before (sym (first_index-other w b (BitsOf bit s h) later) ∙ first') in
        record {
          more = x ∷ rest.more;
          at = rest.at;
          before = rest.before;
          whole = ap (λ k. x ∷ k) rest.whole;
          size = rest.size;
          confirmed = rest.confirmed;
          quiet = rest.quiet;
        }

-- where no first place is, it is confirmed at no tick
pub never_confirms : (w : WeightParts) (bit : Row → Bool) (s : Setting) (more h : List Tick) →
    first_index w (BitsOf bit s (more ++ h)) ≡ None → is_confirmed w (BitsOf bit s h) ≡ false
never_confirms w bit s more h none = quiet_earlier w bit s more h
    (sym (is_some-first_index w (BitsOf bit s (more ++ h))) ∙ ap is_some none)

-- a stretch of the rows is one of the history
pub exceed : (s : Setting) (start n : ℕ) (h : List Tick) → ExceedLast s.cal.rules.threshold n (SpanRows s start h) → Exceeds s n h
unfolding true_excesses
exceed s start n h last = record {
  within = subst (λ k. n ≤ k) (length-rows_after start (moments_of s h) ∙ length-moments s h) last.within;
  each = subst (λ bits. list_all (λ excess. excess) (take n bits) ≡ true)
      (bits_after (true_excess s.cal.rules.threshold) (true_unnumbered s.cal.rules.threshold) s start h) last.each;
}

-- ---- the rows of a history in which the paths are tested ----

pub rows_off : (s : Setting) (start : ℕ) (h : List Tick) → All (λ row. row.on ≡ false) (rows_after start (moments_in Test s h))
unfolding rows_after moments_in
rows_off s start [] = All-nil (λ row. row.on ≡ false)
rows_off s start (x ∷ h) = All-cons (λ row. row.on ≡ false)
    (row_of (start + length (moments_in Test s h)) (moment_in Test s x.effects x.entry (moments_in Test s h)))
    (rows_after start (moments_in Test s h)) (unfold row_of moment_in drives in refl) (rows_off s start h)
