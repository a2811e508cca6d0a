-- The law of windows: the words of `Windows`, on the feeds up to a place newest first, say what the rule says by places in the order of time.
use Rattle.std.proofs.Common.{◌≡◌, ℕ, zero, suc, ◌+◌, ◌-◌, ◌*◌, ◌≤◌, ◌<◌, inl, inr, Bool, true, false, not, List, [], ◌∷◌, ◌++◌, length, take, drop, get_or, reverse, refl, sym, ap, ap₂, ◌∙◌, subst, arith, nat_le, add-one}
use Rattle.std.specs.Prelude.{Option, Some, None, is_some, slice_range, count_by}
use Rattle.std.specs.List.{list_any}
use Rattle.std.proofs.lemmas.List.{reverse-append, length-reverse, take-append-drop, length-drop, length-take-le, take_at, take_all, take_more, drop-take}
use Rattle.std.proofs.lemmas.List.Sorted.{sum_by-IsPermutation, IsPermutation-reverse}
use Rattle.std.proofs.lemmas.Option.{same_Some, none-some}
use Rattle.std.proofs.lemmas.Bool.{cases_Bool, cases_order, or_cases, or_left, or_right, leb-true, le-leb, false≢true, true≢false, false_from_ne_true}
use Rattle.eg_num.specs.Windows.{WeightParts, weight, windows, is_reached, is_confirmed, is_first, first_index, greatest}
use Rattle.eg_num.specs.Counting.{fed_all}
use Rattle.eg_num.specs.Places.{WeighsAtLeast, IsReachedAt, IsConfirmedBy, IsFirstAt, IsFirst, IsGreatestAt, up_to, PlaceLaw}
use Rattle.eg_num.proofs.WindowLemmas.{list_any-map}
use Rattle.eg_num.proofs.FirstIndexLemmas.{is_reached_confirmed, is_confirmed-cons, is_first-parts, is_first_from, is_some-first_index, first_index-first, first_index-other}
use Rattle.eg_num.proofs.CounterLemmas.{list_any-windows, is_reached-greatest, counted-confirmed, counted-unconfirmed, fed_all-counted}

-- a window that passes a test, by its size less one
record Passes (passes : List Bool → Bool) (bits : List Bool) : Type 0 where
  pub more : ℕ
  pub fits : more < length bits
  pub ok : passes (take (suc more) bits) ≡ true

-- some window passes where one of some size does
passing : (passes : List Bool → Bool) (bits : List Bool) → list_any passes (windows bits) ≡ true → Passes passes bits
unfolding windows
passing passes [] some = absurd (false≢true some)
passing passes (b ∷ bits) some = elim (or_cases (passes (b ∷ [])) (list_any (λ us. passes (b ∷ us)) (windows bits)) (simp list_any-map at some)) [
  | inl shortest ↦ record { more = 0; fits = omega arith; ok = shortest }
  | inr longer ↦ (let r = passing (λ us. passes (b ∷ us)) bits longer in record { more = suc r.more; fits = (let f = r.fits in omega arith); ok = r.ok })
]

passes_some : (passes : List Bool → Bool) (bits : List Bool) (more : ℕ) → more < length bits → passes (take (suc more) bits) ≡ true → list_any passes (windows bits) ≡ true
unfolding windows
passes_some passes [] more fits ok = absurd (omega arith)
passes_some passes (b ∷ bits) zero fits ok = or_left _ _ ok
passes_some passes (b ∷ bits) (suc more) fits ok =
    or_right _ _ (list_any-map passes (λ us. b ∷ us) (windows bits) ∙ passes_some (λ us. passes (b ∷ us)) bits more (omega arith) ok)

-- a window weighs the same in either order
count-reverse : (p : Bool → Bool) (us : List Bool) → count_by p (reverse us) ≡ count_by p us
count-reverse p us = sum_by-IsPermutation _ us (reverse us) (IsPermutation-reverse us)

weight-reverse : (w : WeightParts) (us : List Bool) → weight w (reverse us) ≡ weight w us
unfolding weight
weight-reverse w us = ap₂ (λ bad good. w.up * bad - w.down * good) (count-reverse (λ bad. bad) us) (count-reverse not us)

-- the newest feeds are the end of the list in the order of time
take-reverse : (n : ℕ) (bits : List Bool) → n ≤ length bits → take n (reverse bits) ≡ reverse (drop (length bits - n) bits)
take-reverse n bits fits =
    ap (take n) whole ∙ take_at (reverse (drop m bits)) (reverse (take m bits)) n (length-reverse (drop m bits) ∙ length-drop m bits ∙ (omega arith))
  where
    m : ℕ
    m = length bits - n

    whole : reverse bits ≡ reverse (drop m bits) ++ reverse (take m bits)
    whole = ap reverse (sym (take-append-drop m bits)) ∙ reverse-append (take m bits) (drop m bits)

-- the places a to t are the end of the places up to t
range-end : (bits : List Bool) (a t : ℕ) → a ≤ t → slice_range bits a (t + 1) ≡ drop a (take (t + 1) bits)
range-end bits a t before =
    let whole : a + (t + 1 - a) ≡ t + 1 = omega arith in
    let P : ℕ → Type 0 = λ n. take (t + 1 - a) (drop a bits) ≡ drop a (take n bits) in
    subst P whole (sym (drop-take a (t + 1 - a) bits))

length-up_to : (bits : List Bool) (t : ℕ) → t < length bits → length (up_to t bits) ≡ t + 1
length-up_to bits t within = length-reverse (take (t + 1) bits) ∙ length-take-le (t + 1) bits (omega arith)

-- the window of the newest k + 1 feeds up to place t is that of the places t - k to t
window-places : (bits : List Bool) (t k : ℕ) → t < length bits → k ≤ t → take (suc k) (up_to t bits) ≡ reverse (slice_range bits (t - k) (t + 1))
window-places bits t k within fits =
    let size : length (take (t + 1) bits) ≡ t + 1 = length-take-le (t + 1) bits (omega arith) in
    let from : length (take (t + 1) bits) - suc k ≡ t - k = omega arith in
    take-reverse (suc k) (take (t + 1) bits) (omega arith)
    ∙ ap (λ a. reverse (drop a (take (t + 1) bits))) from
    ∙ ap reverse (sym (range-end bits (t - k) t (omega arith)))

-- some window that ends at place t weighs at least n
abbrev SomeWeighs : WeightParts → List Bool → ℕ → ℕ → Type 0
SomeWeighs w bits t n = (a : ℕ) × (a ≤ t) × WeighsAtLeast w bits a t n

-- a weight of at least n, said without a difference
weighs_from : (w : WeightParts) (us : List Bool) (n : ℕ) → 1 ≤ n → n ≤ weight w us → n + w.down * count_by not us ≤ w.up * count_by (λ bad. bad) us
unfolding weight
weighs_from w us n positive heavy = moved n (w.up * count_by (λ bad. bad) us) (w.down * count_by not us) positive heavy
  where
    moved : (n x y : ℕ) → 1 ≤ n → n ≤ x - y → n + y ≤ x
    moved n x y positive h = omega arith

weight_from : (w : WeightParts) (us : List Bool) (n : ℕ) → n + w.down * count_by not us ≤ w.up * count_by (λ bad. bad) us → n ≤ weight w us
unfolding weight
weight_from w us n heavy = moved n (w.up * count_by (λ bad. bad) us) (w.down * count_by not us) heavy
  where
    moved : (n x y : ℕ) → n + y ≤ x → n ≤ x - y
    moved n x y h = omega arith

-- where the greatest weight is at least n, some window by places weighs it
some_from_greatest : (w : WeightParts) (bits : List Bool) (t n : ℕ) → t < length bits → 1 ≤ n → n ≤ greatest w (up_to t bits) → SomeWeighs w bits t n
some_from_greatest w bits t n within positive heavy =
    let r = passing (λ us. nat_le n (weight w us)) (up_to t bits) (list_any-windows w n (up_to t bits) positive ∙ le-leb _ _ heavy) in
    let fits : r.more ≤ t = (let f = r.fits in let size = length-up_to bits t within in omega arith) in
    let range = slice_range bits (t - r.more) (t + 1) in
    let same : weight w (take (suc r.more) (up_to t bits)) ≡ weight w range = ap (weight w) (window-places bits t r.more within fits) ∙ weight-reverse w range in
    (t - r.more, omega arith, weighs_from w range n positive (let low = leb-true _ _ r.ok in omega arith))

-- and the other way
greatest_from_some : (w : WeightParts) (bits : List Bool) (t n : ℕ) → t < length bits → 1 ≤ n → SomeWeighs w bits t n → n ≤ greatest w (up_to t bits)
greatest_from_some w bits t n within positive some =
    let k = t - some.0 in
    let fits : k ≤ t = omega arith in
    let back : t - k ≡ some.0 = (let before = some.1 in omega arith) in
    let same : weight w (take (suc k) (up_to t bits)) ≡ weight w (slice_range bits some.0 (t + 1))
    = ap (weight w) (window-places bits t k within fits ∙ ap (λ a. reverse (slice_range bits a (t + 1))) back) ∙ weight-reverse w (slice_range bits some.0 (t + 1)) in
    let heavy : n ≤ weight w (slice_range bits some.0 (t + 1)) = weight_from w (slice_range bits some.0 (t + 1)) n some.2 in
    let size = length-up_to bits t within in
    leb-true _ _ (sym (list_any-windows w n (up_to t bits) positive) ∙ passes_some (λ us. nat_le n (weight w us)) (up_to t bits) k (omega arith) (le-leb _ _ (omega arith)))

-- reached, in words and by places
pub reached_at : (w : WeightParts) (bits : List Bool) (t : ℕ) → 1 ≤ w.limit → t < length bits → is_reached w (up_to t bits) ≡ true → IsReachedAt w bits t
reached_at w bits t positive within reached =
    let some = some_from_greatest w bits t w.limit within positive (leb-true _ _ (sym (is_reached-greatest w (up_to t bits) positive) ∙ reached)) in
    (within, some.0, some.1, some.2)

pub reached_from : (w : WeightParts) (bits : List Bool) (t : ℕ) → 1 ≤ w.limit → IsReachedAt w bits t → is_reached w (up_to t bits) ≡ true
reached_from w bits t positive at = is_reached-greatest w (up_to t bits) positive ∙ le-leb _ _ (greatest_from_some w bits t w.limit at.0 positive (at.1, at.2, at.3))

-- the greatest weight, by places
greatest_at : (w : WeightParts) (bits : List Bool) (t : ℕ) → t < length bits → IsGreatestAt w bits t (greatest w (up_to t bits))
greatest_at w bits t within = record {
  none_above = λ a before heavy. (let low = greatest_from_some w bits t (greatest w (up_to t bits) + 1) within (omega arith) (a, before, heavy) in omega arith);
  some_window = elim (cases_order (greatest w (up_to t bits)) 0) [
    | inl none ↦ inl none
    | inr other ↦ inr (some_from_greatest w bits t (greatest w (up_to t bits)) within (omega arith) (omega arith))
  ];
}

-- one place further, the feeds newest first go on by one
front-suc : (bits : List Bool) (n : ℕ) → n < length bits → reverse (take (suc n) bits) ≡ get_or bits n false ∷ reverse (take n bits)
front-suc bits n within = ap (λ m. reverse (take m bits)) (sym (add-one n)) ∙ ap reverse (take_more bits n false within) ∙ reverse-append (take n bits) (get_or bits n false ∷ [])

up_to-front : (bits : List Bool) (t : ℕ) → t < length bits → up_to t bits ≡ get_or bits t false ∷ reverse (take t bits)
up_to-front bits t within = ap reverse (take_more bits t false within) ∙ reverse-append (take t bits) (get_or bits t false ∷ [])

-- the first n feeds are confirmed exactly if some place below n is reached
place_from_confirmed : (w : WeightParts) (bits : List Bool) (n : ℕ) → 1 ≤ w.limit → n ≤ length bits → is_confirmed w (reverse (take n bits)) ≡ true →
    (s : ℕ) × (s < n) × IsReachedAt w bits s
unfolding is_confirmed
place_from_confirmed w bits zero positive fits confirmed = absurd (false≢true confirmed)
place_from_confirmed w bits (suc n) positive fits confirmed =
    let within : n < length bits = omega arith in
    let front = reverse (take n bits) in
    let now : is_confirmed w (get_or bits n false ∷ front) ≡ true = sym (ap (is_confirmed w) (front-suc bits n within)) ∙ confirmed in
    elim (or_cases (is_reached w (get_or bits n false ∷ front)) (is_confirmed w front) now) [
      | inl here ↦ (n, omega arith, reached_at w bits n positive within (ap (is_reached w) (up_to-front bits n within) ∙ here))
      | inr before ↦ (let r = place_from_confirmed w bits n positive (omega arith) before in (r.0, (let low = r.1 in omega arith), r.2))
    ]

confirmed_from_place : (w : WeightParts) (bits : List Bool) (n s : ℕ) → 1 ≤ w.limit → n ≤ length bits → s < n → IsReachedAt w bits s → is_confirmed w (reverse (take n bits)) ≡ true
confirmed_from_place w bits zero s positive fits low at = absurd (omega arith)
confirmed_from_place w bits (suc n) s positive fits low at =
    let within : n < length bits = omega arith in
    ap (is_confirmed w) (front-suc bits n within) ∙ elim (cases_order s n) [
      | inl last ↦ is_reached_confirmed w _ _ (sym (ap (is_reached w) (up_to-front bits n within)) ∙ reached_from w bits n positive (subst (IsReachedAt w bits) last at))
      | inr other ↦ is_confirmed-cons w _ _ (confirmed_from_place w bits n s positive (omega arith) (omega arith) at)
    ]

-- confirmed, in words and by places
pub confirmed_at : (w : WeightParts) (bits : List Bool) (t : ℕ) → 1 ≤ w.limit → t < length bits → is_confirmed w (up_to t bits) ≡ true → IsConfirmedBy w bits t
confirmed_at w bits t positive within confirmed =
    let r = place_from_confirmed w bits (t + 1) positive (omega arith) confirmed in
    let low : r.0 ≤ t = (let below = r.1 in omega arith) in
    (r.0, low, r.2)

pub confirmed_from : (w : WeightParts) (bits : List Bool) (t : ℕ) → 1 ≤ w.limit → t < length bits → IsConfirmedBy w bits t → is_confirmed w (up_to t bits) ≡ true
confirmed_from w bits t positive within by =
    let low : by.0 < t + 1 = (let before = by.1 in omega arith) in
    confirmed_from_place w bits (t + 1) by.0 positive (omega arith) low by.2

-- where feed n is the first of the feeds up to it, it is the least place
first_front : (w : WeightParts) (bits : List Bool) (n : ℕ) → 1 ≤ w.limit → n < length bits → is_first w (get_or bits n false ∷ reverse (take n bits)) ≡ true → IsFirstAt w bits n
first_front w bits n positive within first =
    let parts = is_first-parts w (get_or bits n false) (reverse (take n bits)) first in
    record {
      reached = reached_at w bits n positive within (ap (is_reached w) (up_to-front bits n within) ∙ parts.0);
      least = λ s low at. true≢false (sym (confirmed_from_place w bits n s positive (omega arith) low at) ∙ parts.1);
    }

-- the first place, in words and by places
pub first_at : (w : WeightParts) (bits : List Bool) (t : ℕ) → 1 ≤ w.limit → t < length bits → is_first w (up_to t bits) ≡ true → IsFirstAt w bits t
first_at w bits t positive within first = first_front w bits t positive within (sym (ap (is_first w) (up_to-front bits t within)) ∙ first)

pub first_from : (w : WeightParts) (bits : List Bool) (t : ℕ) → 1 ≤ w.limit → t < length bits → IsFirstAt w bits t → is_first w (up_to t bits) ≡ true
first_from w bits t positive within first =
    ap (is_first w) (up_to-front bits t within)
    ∙ is_first_from w (get_or bits t false) (reverse (take t bits))
    (is_reached_confirmed w _ _ (sym (ap (is_reached w) (up_to-front bits t within)) ∙ reached_from w bits t positive first.reached))
    (false_from_ne_true _ (λ before. (let r = place_from_confirmed w bits t positive (omega arith) before in first.least r.0 r.1 r.2)))

-- the first place of the first n feeds is the least place
least_front : (w : WeightParts) (bits : List Bool) (n t : ℕ) → 1 ≤ w.limit → n ≤ length bits → first_index w (reverse (take n bits)) ≡ Some t → IsFirstAt w bits t
unfolding first_index
least_front w bits zero t positive fits place = absurd (none-some t place)
least_front w bits (suc n) t positive fits place =
    let within : n < length bits = omega arith in
    let front = reverse (take n bits) in
    let here : first_index w (get_or bits n false ∷ front) ≡ Some t = sym (ap (first_index w) (front-suc bits n within)) ∙ place in
    let size : length front ≡ n = length-reverse (take n bits) ∙ length-take-le n bits (omega arith) in
    elim (cases_Bool (is_first w (get_or bits n false ∷ front))) [
      | inl first ↦
          (let same : n ≡ t = sym size ∙ same_Some (length front) t (sym (first_index-first w (get_or bits n false) front first) ∙ here) in
          subst (IsFirstAt w bits) same (first_front w bits n positive within first))
      | inr other ↦ least_front w bits n t positive (omega arith) (sym (first_index-other w (get_or bits n false) front other) ∙ here)
    ]

-- `first_place` is the least place of the list, or there is none
least_of : (w : WeightParts) (bits : List Bool) (place : Option ℕ) → 1 ≤ w.limit → first_index w (reverse bits) ≡ place → IsFirst w bits place
least_of w bits None positive is = λ t at.
    let whole : take (length bits) bits ≡ bits = take_all (length bits) bits (omega arith) in
    let confirmed : is_confirmed w (reverse bits) ≡ true
    = sym (ap (λ front. is_confirmed w (reverse front)) whole) ∙ confirmed_from_place w bits (length bits) t positive (omega arith) at.0 at in
    false≢true (sym (ap is_some is) ∙ is_some-first_index w (reverse bits) ∙ confirmed)
least_of w bits (Some t) positive is =
    let whole : take (length bits) bits ≡ bits = take_all (length bits) bits (omega arith) in
    least_front w bits (length bits) t positive (omega arith) (ap (λ front. first_index w (reverse front)) whole ∙ is)

-- there is one least place at most
pub IsFirst-same : (w : WeightParts) (bits : List Bool) (first other : Option ℕ) → IsFirst w bits first → IsFirst w bits other → first ≡ other
IsFirst-same w bits None None never never' = refl
IsFirst-same w bits None (Some t) never at = absurd (never t at.reached)
IsFirst-same w bits (Some s) None at never = absurd (never s at.reached)
IsFirst-same w bits (Some s) (Some t) at at' = elim (cases_order s t) [
  | inl same ↦ ap Some same
  | inr other ↦ elim other [ inl below ↦ absurd (at'.least s below at.reached) | inr above ↦ absurd (at.least t above at'.reached) ]
]

-- a counter fed from 0 up to place t, before it is confirmed and from then on
counter_unconfirmed : (w : WeightParts) (bits : List Bool) (t : ℕ) → 1 ≤ w.limit → t < length bits → ¬ IsConfirmedBy w bits t → IsGreatestAt w bits t (fed_all w (up_to t bits))
counter_unconfirmed w bits t positive within never =
    let unconfirmed = false_from_ne_true (is_confirmed w (up_to t bits)) (λ confirmed. never (confirmed_at w bits t positive within confirmed)) in
    let value : fed_all w (up_to t bits) ≡ greatest w (up_to t bits) = fed_all-counted w (up_to t bits) positive ∙ counted-unconfirmed w (up_to t bits) unconfirmed in
    subst (IsGreatestAt w bits t) (sym value) (greatest_at w bits t within)

counter_confirmed : (w : WeightParts) (bits : List Bool) (t : ℕ) → 1 ≤ w.limit → t < length bits → IsConfirmedBy w bits t → fed_all w (up_to t bits) ≡ w.limit
counter_confirmed w bits t positive within by =
    fed_all-counted w (up_to t bits) positive ∙ counted-confirmed w (up_to t bits) (confirmed_from w bits t positive within by)

pub place_law : PlaceLaw
place_law w weights bits = record {
  each = λ t within. record {
    reached = (λ h. reached_at w bits t weights.3 within h, λ at. reached_from w bits t weights.3 at);
    confirmed = (λ h. confirmed_at w bits t weights.3 within h, λ by. confirmed_from w bits t weights.3 within by);
    first = (λ h. first_at w bits t weights.3 within h, λ at. first_from w bits t weights.3 within at);
    counter_before = λ never. counter_unconfirmed w bits t weights.3 within never;
    counter_after = λ by. counter_confirmed w bits t weights.3 within by;
  };
  least = least_of w bits (first_index w (reverse bits)) weights.3 refl;
  one = λ first is. IsFirst-same w bits first (first_index w (reverse bits)) is (least_of w bits (first_index w (reverse bits)) weights.3 refl);
}
