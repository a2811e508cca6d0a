-- What one byte more adds to a document's weight and to what is counted.
use Rattle.std.proofs.Common.{◌≡◌, ◌≢◌, ℕ, zero, suc, refl, take, ◌+◌, ◌-◌, ◌<◌, ◌≤◌, ◌==◌, nat_lt, if◌then◌else◌, Bool, true, false, List, [], ◌∷◌, All, length, drop, slice_index, slice_index_or, ap, sym, subst, ◌∙◌, arith}
use Rattle.std.specs.Prelude.{fold}
use Rattle.std.specs.Str.{byte, chars}
use Rattle.std.proofs.lemmas.Bool.Decides.{nat_tests}
use Rattle.std.proofs.lemmas.List.{length-drop, drop_more, take_all}
use Rattle.std.proofs.lemmas.List.Elements.{All-nil, All-cons, All-append, All-take}
use Rattle.eg_toml.specs.declared.places.Place.TheVariants.{Outside, Comment}
use Rattle.eg_toml.specs.declared.weight.Counts.{Counts}
use Rattle.eg_toml.specs.declared.weight.Due.{Due}
use Rattle.eg_toml.specs.Places.{settled, is_outside}
use Rattle.eg_toml.specs.Weight.{Weighed, deepest, heaviest, names_behind, begins_heading, begins_item, is_opening, is_closing, with_item, with_sign, no_counts, opened, closed, with_lists, with_place, weighed_outside, weighed_on, unweighed, weight_of, is_too_heavy}
use Rattle.eg_toml.proofs.WeightLawLemmas.{on_hash}

-- what holds of both cases holds of the choice
either : {A : Type 0} (P : A → Type 0) (b : Bool) (x y : A) → P x → P y → P (if b then x else y)
either P true x y p q = p
either P false x y p q = q

-- ---- counts ----

-- no more is counted than this
abbrev pub UpTo : ℕ → Counts → Type 0
UpTo most counts = (counts.values ≤ most) × (counts.names ≤ most)

-- nothing that is counted is more than this
abbrev pub CountsUpTo : ℕ → Weighed → Type 0
CountsUpTo most w = UpTo most w.counts × All (UpTo most) w.around

up : (most more : ℕ) (counts : Counts) → most ≤ more → UpTo most counts → UpTo more counts
up most more counts under h = let values = h.0 in let names = h.1 in (omega arith, omega arith)

rises : (most more : ℕ) (xs : List Counts) → most ≤ more → All (UpTo most) xs → All (UpTo more) xs
rises most more xs under h i d below = up most more _ under (h i d below)

-- behind an item, names are counted up to what they were
abbrev AfterItem : ℕ → Weighed → Type 0
AfterItem most w = (w.counts.values ≤ most + 1) × (w.counts.names ≤ most) × All (UpTo (most + 1)) w.around

item-counts : (most c : ℕ) (w : Weighed) → CountsUpTo most w → AfterItem most (with_item w c)
item-counts most c w h =
    let values = h.0.0 in let around = rises most (most + 1) w.around (omega arith) h.1 in
    either (AfterItem most) (begins_item w.due c) _ w
    (omega arith, h.0.1, around) (omega arith, h.0.1, around)

names-within : (due : Due) (names most c : ℕ) → names ≤ most → names_behind due names c ≤ most + 1
names-within due names most c h =
    either (λ n. n ≤ most + 1) (begins_heading due c) 0 _ (omega arith)
    (either (λ n. n ≤ most + 1) (c == byte "=") (names + 1) names (omega arith) (omega arith))

sign-counts : (most c : ℕ) (w : Weighed) → AfterItem most w → CountsUpTo (most + 1) (with_sign w c)
sign-counts most c w h = ((h.0, names-within w.due w.counts.names most c h.1), h.2)

none : (most : ℕ) → UpTo most no_counts
none most = (omega arith, omega arith)

-- the last of a list, or nothing
last-within : (most : ℕ) (xs : List Counts) → All (UpTo most) xs → UpTo most (slice_index_or xs (length xs - 1) no_counts)
last-within most [] h = none most
last-within most (x ∷ xs) h = h (length (x ∷ xs) - 1) no_counts (omega arith)

opened-counts : (most : ℕ) (w : Weighed) → CountsUpTo most w → CountsUpTo most (opened w)
opened-counts most w h = (
  none most,
  either (All (UpTo most)) (nat_lt (length w.around) deepest) _ w.around
      (All-append (UpTo most) w.around (w.counts ∷ []) h.1 (All-cons (UpTo most) w.counts [] h.0 (All-nil (UpTo most)))) h.1,
)

lists-counts : (most c : ℕ) (w : Weighed) → CountsUpTo most w → CountsUpTo most (with_lists w c)
lists-counts most c w h =
    either (CountsUpTo most) (is_opening w.due c) (opened w) _ (opened-counts most w h)
    (either (CountsUpTo most) (is_closing c) (closed w) w
    (last-within most w.around h.1, All-take (UpTo most) (length w.around - 1) w.around h.1) h)

outside-counts : (most c : ℕ) (w : Weighed) → CountsUpTo most w → CountsUpTo (most + 1) (weighed_outside w c)
outside-counts most c w h =
    lists-counts (most + 1) c (with_sign (with_item w c) c) (sign-counts most c (with_item w c) (item-counts most c w h))

counts_on : (most c : ℕ) (w : Weighed) → CountsUpTo most w → CountsUpTo (most + 1) (weighed_on w c)
counts_on most c w h =
    either (CountsUpTo (most + 1)) (is_outside (settled w.place c)) (weighed_outside w c) w
    (outside-counts most c w h) (up most (most + 1) w.counts (omega arith) h.0, rises most (most + 1) w.around (omega arith) h.1)

-- ---- weights ----

-- behind a byte the weight is no less
abbrev Least : ℕ → Weighed → Type 0
Least least w = least ≤ w.weight

item-least : (least c : ℕ) (w : Weighed) → Least least w → Least least (with_item w c)
item-least least c w h = either (Least least) (begins_item w.due c) _ w (omega arith) h

sign-least : (least c : ℕ) (w : Weighed) → Least least w → Least least (with_sign w c)
sign-least least c w h = omega arith

lists-least : (least c : ℕ) (w : Weighed) → Least least w → Least least (with_lists w c)
lists-least least c w h =
    either (Least least) (is_opening w.due c) (opened w) _ h (either (Least least) (is_closing c) (closed w) w h h)

least_on : (least c : ℕ) (w : Weighed) → Least least w → Least least (weighed_on w c)
least_on least c w h =
    either (Least least) (is_outside (settled w.place c)) (weighed_outside w c) w
    (lists-least least c (with_sign (with_item w c) c) (sign-least least c (with_item w c) (item-least least c w h))) h

least_all : (least : ℕ) (w : Weighed) (cs : List ℕ) → Least least w → Least least (fold weighed_on w cs)
least_all least w [] h = h
least_all least w (c ∷ cs) h = least_all least (weighed_on w c) cs (least_on least c w h)

over : (n : ℕ) → heaviest < n → nat_lt heaviest n ≡ true
over n h = grind (arith, nat_tests)

-- what weighs too much stays so, whatever follows
pub stays_heavy : (w : Weighed) (rest bytes : List ℕ) → fold weighed_on w rest ≡ fold weighed_on unweighed bytes → heaviest < w.weight
    → is_too_heavy bytes ≡ true
stays_heavy w rest bytes whole heavy =
    let more = least_all (heaviest + 1) w rest (omega arith) in
    let same : (fold weighed_on w rest).weight ≡ weight_of bytes = ap (λ v. v.weight) whole in
    over (weight_of bytes) (omega arith)

-- ---- one byte more of the loop ----

pub whole_on : (w after : Weighed) (bytes rest behind left : List ℕ) (c : ℕ)
    → rest ≡ c ∷ behind → after ≡ weighed_on w c
    → fold weighed_on after left ≡ fold weighed_on after behind → fold weighed_on w rest ≡ fold weighed_on unweighed bytes
    → fold weighed_on after left ≡ fold weighed_on unweighed bytes
whole_on w after bytes rest behind left c here is same whole =
    same ∙ ap (λ v. fold weighed_on v behind) is ∙ ap (fold weighed_on w) (sym here) ∙ whole

pub counted_on : (w after : Weighed) (most more c : ℕ)
    → most + 1 ≤ more → after ≡ weighed_on w c → CountsUpTo most w → CountsUpTo more after
counted_on w after most more c under is h =
    let (counts, around) = subst (CountsUpTo (most + 1)) (sym is) (counts_on most c w h) in
    (up (most + 1) more after.counts under counts, rises (most + 1) more after.around under around)

-- ---- the rest of a comment ----

pub in_comment : (w : Weighed) (c : ℕ) → w.place ≡ Comment → c ≢ 10 → weighed_on w c ≡ w
unfolding chars
in_comment w c e other = let feed : (c == 10) ≡ false = grind (arith, nat_tests) in rw (e, feed) (refl {a = with_place w Comment})

-- a slice from this place on
pub slice_from : (n : ℕ) (bytes : List ℕ) → take (length bytes - n) (drop n bytes) ≡ drop n bytes
slice_from n bytes = take_all (length bytes - n) (drop n bytes) (omega (arith, length-drop n bytes))

abbrev pub slice : ℕ → List ℕ → List ℕ
slice n bytes = take (length bytes - n) (drop n bytes)

pub slice-within : (n : ℕ) (bytes : List ℕ) → length (slice n bytes) ≤ length bytes
slice-within n bytes = subst (λ cs. length cs ≤ length bytes) (sym (slice_from n bytes)) (omega (arith, length-drop n bytes))

comment_run : (w : Weighed) (end : ℕ) (bytes : List ℕ) → w.place ≡ Comment → All (λ c. c ≢ 10) (take end bytes)
    → fold weighed_on w (drop end bytes) ≡ fold weighed_on w bytes
comment_run w zero bytes e plain = refl
comment_run w (suc end) [] e plain = refl
comment_run w (suc end) (c ∷ cs) e plain =
    comment_run w end cs e (λ i d below. plain (suc i) d (omega arith))
    ∙ ap (λ v. fold weighed_on v cs) (sym (in_comment w c e (plain 0 c (omega arith))))

-- what stands in a comment before its line feed adds nothing,
pub comment_over : (w : Weighed) (end : ℕ) (bytes : List ℕ) → w.place ≡ Comment → All (λ c. c ≢ 10) (take end bytes)
    → fold weighed_on w (slice end bytes) ≡ fold weighed_on w bytes
comment_over w end bytes e plain = ap (fold weighed_on w) (slice_from end bytes) ∙ comment_run w end bytes e plain

next_comment : (w : Weighed) → w.place ≡ Comment → weighed_on (weighed_on w 10) 35 ≡ w
next_comment w e =
    let ends : weighed_on w 10 ≡ with_place w Outside = rw e refl in
    ap (λ v. weighed_on v 35) ends ∙ on_hash (with_place w Outside) refl ∙ ap (with_place w) (sym e)

-- nor does a comment on the line below
pub comment_below : (w : Weighed) (rest : List ℕ) → w.place ≡ Comment → 2 ≤ length rest → slice_index rest 0 ≡ 10 → slice_index rest 1 ≡ 35
    → fold weighed_on w (slice 2 rest) ≡ fold weighed_on w rest
comment_below w rest e long feed hash =
    let front : rest ≡ slice_index rest 0 ∷ slice_index rest 1 ∷ drop 2 rest =
    drop_more rest 0 0 (omega arith) ∙ ap (λ cs. slice_index rest 0 ∷ cs) (drop_more rest 1 0 (omega arith)) in
    let here : rest ≡ 10 ∷ 35 ∷ drop 2 rest = front ∙ rw (feed, hash) refl in
    ap (fold weighed_on w) (slice_from 2 rest)
    ∙ ap (λ v. fold weighed_on v (drop 2 rest)) (sym (next_comment w e)) ∙ ap (fold weighed_on w) (sym here)
