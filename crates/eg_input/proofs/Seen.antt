-- What the reader of the records below the header has seen.
use Rattle.std.proofs.Common.{◌≡◌, ◌∙◌, sym, refl, subst, ℕ, ◌+◌, ◌<◌, ◌≤◌, List, [], ◌∷◌, ◌++◌, length, take, Bool, true, false, arith, Option, Some, None, Ok, Err, append-nil, append_assoc, length-append, inr}
use Rattle.std.specs.Prelude.{Result, All, is_none, if◌then◌else◌, filter_map, nat_lt}
use Rattle.std.specs.Bool.{MatchBool}
use Rattle.std.specs.declared.vec.Vec.{Vec}
use Rattle.std.specs.declared.alloc.Global.{Global}
use Rattle.std.proofs.lemmas.Bool.Decides.{nat_tests}
use Rattle.std.proofs.lemmas.List.Elements.{All-push, filter_map-append}
use Rattle.std.proofs.Math.Seq.{take-append_seam}
use Rattle.std.proofs.lemmas.Slice.Zip.{AllZip-long}
use Rattle.eg_input.specs.Records.{Record, RowRule}
use Rattle.eg_input.specs.Rows.{rows_below, IsRead}
use Rattle.eg_input.specs.declared.fault.TraceFault.{TraceFault}
use Rattle.eg_input.specs.declared.fault.TraceFault.TheVariants as fault
use Rattle.eg_input.proofs.RowsLemmas.{below-empty, below-rows, below-bad, below-long, written-filter_map}

-- the records before the rest each write a row, and these are the rows
pub record Seen {A X : Type 0} (row_of : A → Option X) (left rest : List A) (rows : List X) (count : ℕ) : Type 0 where
  pub seen : List A
  pub parts : left ≡ seen ++ rest
  pub clean : All (λ r. is_none (row_of r) ≡ false) seen
  pub rows_are : rows ≡ filter_map row_of seen
  pub counted : length seen ≡ count

-- a record that writes a row was seen
pub seen-more : {A X : Type 0} (row_of : A → Option X) (left rest : List A) (r : A) (rows : List X) (count : ℕ) (row : X)
    → Seen row_of left (r ∷ rest) rows count → row_of r ≡ Some row
    → Seen row_of left rest (rows ++ row ∷ []) (count + 1)
seen-more row_of left rest r rows count row s is = record {
  seen = s.seen ++ r ∷ [];
  parts = s.parts ∙ sym (append_assoc s.seen (r ∷ []) rest);
  clean = All-push (λ r. is_none (row_of r) ≡ false) s.seen r s.clean (rw is refl);
  rows_are = rw (filter_map-append, is, ← s.rows_are) refl;
  counted = omega (arith, length-append s.seen (r ∷ []), s.counted);
}

-- a record that writes no row, behind records that were seen, is the first one
pub seen-bad : {X : Type 0} (most : ℕ) (row_of : RowRule X) (left rest : List Record) (r : Record) (rows : List X) (count : ℕ)
    → Seen row_of left (r ∷ rest) rows count → count < most → row_of r ≡ None
    → rows_below most row_of left ≡ Err (fault.Row (count + 2))
seen-bad most row_of left rest r rows count s room bad =
    let counted = s.counted in
    let P : List Record → Type 0 = λ l. rows_below most row_of l ≡ Err (fault.Row (length s.seen + 2)) in
    let Q : ℕ → Type 0 = λ n. rows_below most row_of left ≡ Err (fault.Row (n + 2)) in
    subst Q s.counted (subst P (sym s.parts) (below-bad most row_of s.seen r rest (omega arith) s.clean bad))

-- a record behind `most` records that were seen makes the file too long
pub seen-long : {X : Type 0} (most : ℕ) (row_of : RowRule X) (left rest : List Record) (r : Record) (rows : List X)
    → Seen row_of left (r ∷ rest) rows most → rows_below most row_of left ≡ Err fault.Long
seen-long most row_of left rest r rows s =
    let P : ℕ → Type 0 = λ n. take n (s.seen ++ r ∷ rest) ≡ s.seen in
    let front : P most = subst P s.counted (take-append_seam s.seen (r ∷ rest)) in
    let Q : List Record → Type 0 = All (λ r. is_none (row_of r) ≡ false) in
    let counted = s.counted in
    rw s.parts (below-long most row_of (s.seen ++ r ∷ rest) (omega (arith, length-append s.seen (r ∷ rest))) (subst Q (sym front) s.clean))

-- where all records were seen, these are the rows, if there is one
all-seen : {X : Type 0} (most : ℕ) (row_of : RowRule X) (seen : List Record) → length seen ≤ most → All (λ r. is_none (row_of r) ≡ false) seen
    → rows_below most row_of seen ≡ (if nat_lt 0 (length (filter_map row_of seen)) then Ok (filter_map row_of seen) else Err fault.Empty)
all-seen most row_of [] room clean = below-empty most row_of
all-seen most row_of (r ∷ rs) room clean =
    let written = written-filter_map row_of (r ∷ rs) clean in
    let as_many : length (filter_map row_of (r ∷ rs)) ≡ length (r ∷ rs) = AllZip-long {A = Record} (λ r row. row_of r ≡ Some row) (r ∷ rs) (filter_map row_of (r ∷ rs)) written in
    let some : nat_lt 0 (length (filter_map row_of (r ∷ rs))) ≡ true = rw as_many (grind (arith, nat_tests)) in
    below-rows most row_of (r ∷ rs) (omega arith) room clean ∙ rw some refl

-- what is handed back at the end
pub seen-read : {X : Type 0} (most : ℕ) (row_of : RowRule X) (left : List Record) (rows : Vec X Global) (count : ℕ) (result : Result (Vec X Global) TraceFault) → Seen row_of left [] rows.items count
    → count ≤ most → result ≡ (if nat_lt 0 (length rows.items) then Ok rows else Err fault.Empty) → IsRead (rows_below most row_of left) result
seen-read most row_of left rows count result s room e =
    let whole : left ≡ s.seen = s.parts ∙ append-nil s.seen in
    let counted = s.counted in
    rw (whole, all-seen most row_of s.seen (omega arith) s.clean, ← s.rows_are, e) (at (nat_lt 0 (length rows.items)))
  where
    at : (b : Bool) → IsRead (if b then Ok rows.items else Err fault.Empty) (if b then Ok rows else Err fault.Empty)
    at true = refl
    at false = inr refl

-- what a read showed, once the code has looked at its answer
pub was-none : (found : Bool) (A B : Type 0) → found ≡ false → MatchBool found A B → B
was-none found A B e m = let P : Bool → Type 0 = λ b. MatchBool b A B in subst P e m

pub was-some : (found : Bool) (A B : Type 0) → found ≡ true → MatchBool found A B → A
was-some found A B e m = let P : Bool → Type 0 = λ b. MatchBool b A B in subst P e m
