-- Cutting a text at a byte.
use Rattle.std.proofs.Common.{◌≡◌, ◌∙◌, sym, ap, refl, ℕ, ◌+◌, ◌-◌, ◌<◌, List, [], ◌∷◌, ◌++◌, length, take, drop, get_or, true, false, Some, None, arith, length-append, take-append-drop}
use Rattle.std.specs.Prelude.{All, ◌==◌, nat_lt}
use Rattle.std.specs.List.{list_any, position_or_len, before_first, after_first, slice_split, join_with_byte}
use Rattle.std.specs.Str.{bytes_eq}
use Rattle.std.proofs.lemmas.Bool.Decides.{nat_tests}
use Rattle.std.proofs.lemmas.List.{take_all}
use Rattle.std.proofs.lemmas.List.Elements.{All-nil, All-cons, All-tail}
use Rattle.std.proofs.lemmas.List.Folds.{list_any-append}
use Rattle.std.proofs.lemmas.List.Splits.{slice_split_at, slice_split_none}
use Rattle.std.proofs.lemmas.List.Sums.{split_at_first, passes_at_first}
use Rattle.std.proofs.lemmas.Slice.Eq.{bytes_eq-Decides}
use Rattle.std.proofs.Math.Seq.{take-append_seam, drop-append_seam, drop-append-add}
use Rattle.std.proofs.lemmas.Bool.{or_parts}
use Rattle.std.proofs.lemmas.Option.{cond_some}
use Rattle.eg_asm.specs.Reading.{is_byte, behind_first, before_last_byte}
use Rattle.eg_asm.proofs.FormLemmas.{none_if}

-- a text has no such byte
abbrev pub Lacks : ℕ → List ℕ → Type 0
Lacks c text = list_any (is_byte c) text ≡ false

-- this byte stands neither in the front nor in the rest
pub lacks_parts : (c : ℕ) (xs ys : List ℕ) → Lacks c (xs ++ ys) → Lacks c xs × Lacks c ys
lacks_parts c xs ys h = or_parts (list_any (is_byte c) xs) (list_any (is_byte c) ys) (sym (list_any-append (is_byte c) xs ys) ∙ h)

pub lacks-append : (c : ℕ) (xs ys : List ℕ) → Lacks c xs → Lacks c ys → Lacks c (xs ++ ys)
lacks-append c xs ys x y = list_any-append (is_byte c) xs ys ∙ rw (x, y) refl

pub lacks-all : (c : ℕ) (xs : List ℕ) → Lacks c xs → All (λ b. is_byte c b ≡ false) xs
lacks-all c [] h = All-nil (λ b. is_byte c b ≡ false)
lacks-all c (x ∷ xs) h = let parts = or_parts (x == c) (list_any (is_byte c) xs) h in All-cons (λ b. is_byte c b ≡ false) x xs parts.0 (lacks-all c xs parts.1)

-- ---- the first such byte ----

-- where it stands behind a front that lacks it
place-there : (c : ℕ) (xs ys : List ℕ) → Lacks c xs → position_or_len (is_byte c) (xs ++ c ∷ ys) ≡ length xs
place-there c [] ys h = let same : (c == c) ≡ true = grind (arith, nat_tests) in rw same refl
place-there c (x ∷ xs) ys h = grind (arith, place-there c xs ys)

-- where there is none
place-nowhere : (c : ℕ) (xs : List ℕ) → Lacks c xs → position_or_len (is_byte c) xs ≡ length xs
place-nowhere c [] h = refl
place-nowhere c (x ∷ xs) h = grind (arith, place-nowhere c xs)

-- what stands before it and behind it
pub cut-there : (c : ℕ) (xs ys : List ℕ) → Lacks c xs → (before_first (is_byte c) (xs ++ c ∷ ys) ≡ xs) × (behind_first c (xs ++ c ∷ ys) ≡ Some ys)
unfolding behind_first
cut-there c xs ys h =
    let place = place-there c xs ys h in
    let inside : nat_lt (length xs) (length (xs ++ c ∷ ys)) ≡ true = (let long = length-append xs (c ∷ ys) in grind (arith, nat_tests)) in
    let behind : drop (length xs + 1) (xs ++ c ∷ ys) ≡ ys = drop-append-add xs (c ∷ ys) 1 in
    (rw place (take-append_seam xs (c ∷ ys)), rw (place, inside, behind) refl)

pub cut-nowhere : (c : ℕ) (xs : List ℕ) → Lacks c xs → (before_first (is_byte c) xs ≡ xs) × (behind_first c xs ≡ None)
unfolding behind_first
cut-nowhere c xs h =
    let place = place-nowhere c xs h in
    let past : nat_lt (length xs) (length xs) ≡ false = grind (arith, nat_tests) in
    (rw place (take_all (length xs) xs (omega arith)), rw (place, past) refl)

-- a text that is cut is what stands before the byte, the byte, and what stands behind it
pub cut-back : (c : ℕ) (text rest : List ℕ) → behind_first c text ≡ Some rest → text ≡ before_first (is_byte c) text ++ c ∷ rest
unfolding behind_first
cut-back c text rest is =
    let cut = cond_some (nat_lt (position_or_len (is_byte c) text) (length text)) (after_first (is_byte c) text) rest is in
    let room : position_or_len (is_byte c) text < length text = grind (arith, nat_tests) in
    let here = passes_at_first (is_byte c) text 0 room in
    let byte_is : get_or text (position_or_len (is_byte c) text) 0 ≡ c = grind (arith, nat_tests) in
    split_at_first (is_byte c) text 0 room ∙ rw (byte_is, cut.1) refl

pub cut-back_none : (c : ℕ) (text : List ℕ) → behind_first c text ≡ None → before_first (is_byte c) text ≡ text
unfolding behind_first
cut-back_none c text is = take_all (position_or_len (is_byte c) text) text (grind (arith, nat_tests))

-- ---- parts ----

-- texts that lack the byte, joined by it and cut at it
pub split-joined : (c : ℕ) (text : List ℕ) (texts : List (List ℕ)) → All (Lacks c) (text ∷ texts) → slice_split (is_byte c) (join_with_byte c (text ∷ texts)) ≡ text ∷ texts
split-joined c text [] h = slice_split_none (is_byte c) text (lacks-all c text (h 0 [] (omega arith)))
split-joined c text (next ∷ texts) h =
    let same : (c == c) ≡ true = grind (arith, nat_tests) in
    slice_split_at (is_byte c) text c (join_with_byte c (next ∷ texts)) (lacks-all c text (h 0 [] (omega arith))) same
    ∙ ap (λ (rest : List (List ℕ)). text ∷ rest) (split-joined c next texts (All-tail (Lacks c) text (next ∷ texts) h))

-- ---- the last byte ----

pub before_last-there : (c : ℕ) (xs : List ℕ) → before_last_byte c (xs ++ c ∷ []) ≡ Some xs
unfolding before_last_byte
before_last-there c xs =
    let long : length (xs ++ c ∷ []) - 1 ≡ length xs = omega (arith, length-append xs (c ∷ [])) in
    let same = (bytes_eq-Decides (c ∷ []) (c ∷ [])).1 refl in
    rw (long, drop-append_seam xs (c ∷ []), same, take-append_seam xs (c ∷ [])) refl

pub before_last-back : (c : ℕ) (text front : List ℕ) → before_last_byte c text ≡ Some front → text ≡ front ++ c ∷ []
unfolding before_last_byte
before_last-back c text front is =
    let cut = cond_some (bytes_eq (drop (length text - 1) text) (c ∷ [])) (take (length text - 1) text) front is in
    let last = (bytes_eq-Decides (drop (length text - 1) text) (c ∷ [])).0 cut.0 in
    sym (take-append-drop (length text - 1) text) ∙ rw (last, cut.1) refl

pub before_last-nowhere : (c : ℕ) (text : List ℕ) → Lacks c text → before_last_byte c text ≡ None
before_last-nowhere c text h = none_if (before_last_byte c text) (λ front is.
    let none = (lacks_parts c front (c ∷ []) (ap (list_any (is_byte c)) (sym (before_last-back c text front is)) ∙ h)).1 in
    grind (arith, nat_tests))
