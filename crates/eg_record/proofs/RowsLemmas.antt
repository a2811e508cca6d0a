-- The rows of a run so far, newest first, where the whole of them stands in the order of time; and what the first of them gives.
use Rattle.std.proofs.Common.{◌≡◌, ◌∙◌, ◌++◌, ◌∷◌, [], ◌+◌, ◌<◌, ◌≤◌, List, ℕ, take, drop, length, reverse, refl, sym, ap, subst, get_or, add-one, arith, None, Some}
use Rattle.std.proofs.Math.Seq.{take-suc}
use Rattle.std.proofs.lemmas.List.{take-append-drop, length-take-le, length-reverse, reverse-append, take_all}
use Rattle.std.specs.Prelude.{Option}
use Rattle.std.specs.Option.{option_or}
use Rattle.eg_record.specs.declared.row.Row.{Row}
use Rattle.eg_record.specs.Rows.{AreRows, first_given}

-- ---- the rows so far ----

-- the first i rows, newest first
unfoldable pub so_far : List Row → ℕ → List Row
so_far rows i = reverse (take i rows)

-- one row more
pub so_far-more : (rows : List Row) (i : ℕ) (row : Row) → row ≡ get_or rows i row → i < length rows → so_far rows (i + 1) ≡ row ∷ so_far rows i
unfolding so_far
so_far-more rows i row stands below =
    rw (add-one i, take-suc rows i row below)
    (reverse-append (take i rows) (get_or rows i row ∷ []) ∙ ap (λ (r : Row). r ∷ reverse (take i rows)) (sym stands))

pub length-so_far : (rows : List Row) (i : ℕ) → i ≤ length rows → length (so_far rows i) ≡ i
unfolding so_far
length-so_far rows i within = length-reverse (take i rows) ∙ length-take-le i rows within

-- all rows
pub so_far-all : (rows : List Row) (i : ℕ) → length rows ≤ i → so_far rows i ≡ reverse rows
unfolding so_far
so_far-all rows i all = ap reverse (take_all i rows all)

-- all rows go on from those so far
pub reverse-so_far : (rows : List Row) (i : ℕ) → reverse rows ≡ reverse (drop i rows) ++ so_far rows i
unfolding so_far
reverse-so_far rows i = sym (ap reverse (take-append-drop i rows)) ∙ reverse-append (take i rows) (drop i rows)

-- ---- the rows of a whole run ----

-- what came before is a whole run too
pub AreRows-append : (more rows : List Row) → AreRows (more ++ rows) → AreRows rows
AreRows-append [] rows whole = whole
AreRows-append (row ∷ more) rows whole = AreRows-append more rows whole.1

-- the tick of a row is its place
pub AreRows-tick : (rows : List Row) (i : ℕ) (row : Row) → row ≡ get_or rows i row → i < length rows → AreRows (reverse rows) → row.tick ≡ i
AreRows-tick rows i row stands below whole =
    let upto = AreRows-append (reverse (drop (i + 1) rows)) (so_far rows (i + 1)) (subst AreRows (reverse-so_far rows (i + 1)) whole) in
    (subst AreRows (so_far-more rows i row stands below) upto).0 ∙ length-so_far rows i (omega arith)

-- ---- what the first row gives ----

pub option_or-None : {X : Type 0} (o : Option X) → option_or o None ≡ o
option_or-None None = refl
option_or-None (Some x) = refl

option_or_assoc : {X : Type 0} (o p q : Option X) → option_or (option_or o p) q ≡ option_or o (option_or p q)
option_or_assoc None p q = refl
option_or_assoc (Some x) p q = refl

-- what the earlier rows give counts first
pub first_given-append : {X : Type 0} (gives : Row → Option X) (more rows : List Row) → first_given gives (more ++ rows) ≡ option_or (first_given gives rows) (first_given gives more)
unfolding first_given
first_given-append gives [] rows = sym (option_or-None (first_given gives rows))
first_given-append gives (row ∷ more) rows =
    ap (λ o. option_or o (gives row)) (first_given-append gives more rows)
    ∙ option_or_assoc (first_given gives rows) (first_given gives more) (gives row)

-- one row more, where those so far give nothing
pub first_given-more : {X : Type 0} (gives : Row → Option X) (rows : List Row) (i : ℕ) (row : Row) → row ≡ get_or rows i row → i < length rows → first_given gives (so_far rows i) ≡ None →
    first_given gives (so_far rows (i + 1)) ≡ gives row
unfolding first_given
first_given-more gives rows i row stands below none =
    ap (first_given gives) (so_far-more rows i row stands below) ∙ ap (λ o. option_or o (gives row)) none

-- where those so far give nothing and the row at hand something, that is what all rows give
pub first_given-here : {X : Type 0} (gives : Row → Option X) (rows : List Row) (i : ℕ) (row : Row) (x : X) → row ≡ get_or rows i row → i < length rows → first_given gives (so_far rows i) ≡ None → gives row ≡ Some x →
    first_given gives (reverse rows) ≡ Some x
first_given-here gives rows i row x stands below none here =
    let now = first_given-more gives rows i row stands below none ∙ here in
    ap (first_given gives) (reverse-so_far rows (i + 1))
    ∙ first_given-append gives (reverse (drop (i + 1) rows)) (so_far rows (i + 1))
    ∙ ap (λ o. option_or o (first_given gives (reverse (drop (i + 1) rows)))) now
