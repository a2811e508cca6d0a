-- Lists of one length that are joined: which place of the whole is which place of which list.
use Rattle.std.proofs.Common.{◌≡◌, ◌∙◌, ap, ℕ, zero, suc, ◌+◌, ◌-◌, ◌*◌, ◌<◌, ◌≤◌, List, [], ◌∷◌, ◌++◌, length, get_or, slice_index, slice_set, replicate, arith}
use Rattle.std.specs.List.{concat, AllByRecursion}
use Rattle.std.proofs.lemmas.List.{get_or_append_left, get_or-append-add, set-append_left, set-append_right, replicate-append-replicate}

-- the list has this length
abbrev pub HasLength : ℕ → List ℕ → Type 0
HasLength size xs = length xs ≡ size

-- a place of the whole, by the list and the place in it
pub index-joined : (size : ℕ) (lists : List (List ℕ)) (i j : ℕ) → AllByRecursion (HasLength size) lists → i < length lists → j < size
    → slice_index (concat lists) (i * size + j) ≡ slice_index (get_or lists i []) j
index-joined size [] i j sizes within inside = absurd (omega arith)
index-joined size (xs ∷ lists) zero j sizes within inside =
    let here : zero * size + j ≡ j = omega arith in
    let room : j < length xs = omega (arith, sizes.0) in
    ap (slice_index (xs ++ concat lists)) here ∙ get_or_append_left xs (concat lists) 0 j room
index-joined size (xs ∷ lists) (suc i) j sizes within inside =
    let further : suc i * size + j ≡ length xs + (i * size + j) = omega (arith, sizes.0) in
    let left : i < length lists = omega arith in
    ap (slice_index (xs ++ concat lists)) further ∙ get_or-append-add xs (concat lists) (i * size + j) 0
    ∙ index-joined size lists i j sizes.1 left inside

-- to put a number at a place of the whole is to put it at its place in its list
pub set-joined : (size : ℕ) (lists : List (List ℕ)) (i j word : ℕ) → AllByRecursion (HasLength size) lists → i < length lists → j < size
    → slice_set (concat lists) (i * size + j) word ≡ concat (slice_set lists i (slice_set (get_or lists i []) j word))
set-joined size [] i j word sizes within inside = absurd (omega arith)
set-joined size (xs ∷ lists) zero j word sizes within inside =
    let here : zero * size + j ≡ j = omega arith in
    let room : j < length xs = omega (arith, sizes.0) in
    ap (λ k. slice_set (xs ++ concat lists) k word) here ∙ set-append_left xs (concat lists) j word room
set-joined size (xs ∷ lists) (suc i) j word sizes within inside =
    let beyond : size ≤ suc i * size + j = omega arith in
    let further : suc i * size + j - size ≡ i * size + j = omega arith in
    let left : i < length lists = omega arith in
    set-append_right xs (concat lists) size (suc i * size + j) word sizes.0 beyond
    ∙ ap (λ k. xs ++ slice_set (concat lists) k word) further
    ∙ ap (λ rest. xs ++ rest) (set-joined size lists i j word sizes.1 left inside)

-- equal lists of one number are one list of that number
pub joined-replicate : (size count word : ℕ) → concat (replicate count (replicate size word)) ≡ replicate (count * size) word
joined-replicate size zero word =
    let none : 0 ≡ zero * size = omega arith in
    ap (λ n. replicate n word) none
joined-replicate size (suc count) word =
    let more : size + count * size ≡ suc count * size = omega arith in
    ap (λ rest. replicate size word ++ rest) (joined-replicate size count word)
    ∙ replicate-append-replicate size (count * size) word ∙ ap (λ n. replicate n word) more
