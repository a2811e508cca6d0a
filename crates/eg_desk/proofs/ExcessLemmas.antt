-- The excess of a file's rows, in the order of the file and newest first.
use Rattle.std.proofs.Common.{◌≡◌, ◌∙◌, ◌++◌, ◌∷◌, [], ◌+◌, ◌<◌, ◌≤◌, List, ℕ, Bool, suc, take, drop, length, reverse, refl, sym, ap, get_or, add-one}
use Rattle.std.proofs.Math.Seq.{take-suc}
use Rattle.std.proofs.lemmas.List.{take-append-drop, drop_more, length-take-le, length-reverse, reverse-append, take_all}
use Rattle.eg_torque.specs.Excess.{is_excess}
use Rattle.eg_input.specs.CheckFile.{CheckRow}
use Rattle.eg_answer.specs.declared.rules.Rules.{Rules}
use Rattle.eg_desk.specs.Check.{row_permits, excesses_from, excesses}

-- ---- bits so far

-- the first `i` bits, newest first
unfoldable pub bits_so_far : List Bool → ℕ → List Bool
bits_so_far bits i = reverse (take i bits)

pub length-bits_so_far : (bits : List Bool) (i : ℕ) → i ≤ length bits → length (bits_so_far bits i) ≡ i
unfolding bits_so_far
length-bits_so_far bits i within = length-reverse (take i bits) ∙ length-take-le i bits within

pub bits_so_far-all : (bits : List Bool) (i : ℕ) → length bits ≤ i → bits_so_far bits i ≡ reverse bits
unfolding bits_so_far
bits_so_far-all bits i all = ap reverse (take_all i bits all)

-- all bits go on from those so far
pub reverse-bits_so_far : (bits : List Bool) (i : ℕ) → reverse bits ≡ reverse (drop i bits) ++ bits_so_far bits i
unfolding bits_so_far
reverse-bits_so_far bits i = sym (ap reverse (take-append-drop i bits)) ∙ reverse-append (take i bits) (drop i bits)

-- the next bit, and what stands behind it
pub next-bit : (bits : List Bool) (i : ℕ) (b : Bool) (more : List Bool) → i < length bits → drop i bits ≡ b ∷ more
    → (bits_so_far bits (i + 1) ≡ b ∷ bits_so_far bits i) × (drop (i + 1) bits ≡ more)
unfolding bits_so_far
next-bit bits i b more below rest =
    let split : get_or bits i b ∷ drop (i + 1) bits ≡ b ∷ more = sym (drop_more bits i b below) ∙ rest in
    let here : get_or bits i b ≡ b = cc in
    let behind : drop (i + 1) bits ≡ more = cc in (
      rw (add-one i, take-suc bits i b below) (reverse-append (take i bits) (get_or bits i b ∷ []) ∙ ap (λ c. c ∷ reverse (take i bits)) here),
      behind,
    )

-- ---- the bits of rows

-- there is one for each row
pub length-excesses : (rules : Rules) (before : ℕ) (rows : List CheckRow) → length (excesses_from rules before rows) ≡ length rows
unfolding excesses_from
length-excesses rules before [] = refl
length-excesses rules before (row ∷ rows) = ap suc (length-excesses rules (row_permits rules before row.0) rows)

-- The bits from row i on are those of the rest of the rows, `before` being the permitted torque of the row before.
abbrev pub GoesOn : Rules → List CheckRow → (i before : ℕ) → Type 0
GoesOn rules rows i before = drop i (excesses rules rows) ≡ excesses_from rules before (drop i rows)

-- row i and its bit are one more
pub next-row : (rules : Rules) (rows : List CheckRow) (i before limit : ℕ) (row : CheckRow) (b : Bool) → i < length rows → row ≡ get_or rows i row
    → limit ≡ row_permits rules before row.0 → b ≡ is_excess row.1 limit rules.threshold → GoesOn rules rows i before
    → (bits_so_far (excesses rules rows) (i + 1) ≡ b ∷ bits_so_far (excesses rules rows) i) × GoesOn rules rows (i + 1) limit
unfolding excesses_from
next-row rules rows i before limit row b below stands permits bit rest =
    let here : drop i rows ≡ row ∷ drop (i + 1) rows = drop_more rows i row below ∙ ap (λ r. r ∷ drop (i + 1) rows) (sym stands) in
    let split : drop i (excesses rules rows) ≡ b ∷ excesses_from rules limit (drop (i + 1) rows) =
    rest ∙ ap (excesses_from rules before) here ∙ sym (rw (bit, permits) refl) in
    next-bit (excesses rules rows) i b (excesses_from rules limit (drop (i + 1) rows)) (rw (length-excesses rules 0 rows) below) split
