-- What `file_rows` says, in the words of the file: it answers each of its answers exactly if that answer's words hold.
use Rattle.std.proofs.Common.{◌≡◌, ◌≢◌, ◌∙◌, sym, ap, refl, subst, ℕ, ◌+◌, ◌<◌, ◌≤◌, List, [], ◌∷◌, ◌++◌, length, take, true, false, arith, Some, Ok, Err, inl, inr, length-append, drop, get_or, zero, suc}
use Rattle.std.specs.Prelude.{Result, All, Any, Contains, IfOk, is_none, slice_get, filter_map, ◌↔◌}
use Rattle.std.specs.List.{AllZip}
use Rattle.std.specs.declared.vec.Vec.{Vec}
use Rattle.std.specs.declared.alloc.Global.{Global}
use Rattle.std.proofs.lemmas.List.Elements.{All-nil, All-cons}
use Rattle.std.proofs.lemmas.Slice.Zip.{AllZip-long}
use Rattle.std.proofs.lemmas.Bool.{cases_lt, cases_Bool}
use Rattle.std.proofs.lemmas.List.{take_all, length-take, get_or_default}
use Rattle.std.proofs.lemmas.List.Folds.{Any-from_list_any, list_any-from_Any}
use Rattle.eg_input.specs.Records.{Record, RowRule, is_same_record}
use Rattle.eg_input.specs.Rows.{is_header, rows_below, file_rows, IsRead, IsFileOf, HasNoRowAt, IsTooLong}
use Rattle.eg_input.specs.declared.fault.TraceFault.{TraceFault}
use Rattle.eg_input.specs.declared.fault.TraceFault.TheVariants as fault
use Rattle.eg_input.proofs.FieldLemmas.{is_same_record-Decides}
use Rattle.eg_input.proofs.RowsLemmas.{FirstIn, first_in, split-first, clean-from_writes, writes-from_clean, filter_map-written, written-filter_map, below-empty, below-rows, below-bad, below-long, is_missing}

-- a header that is known is one of the headers, and what holds of it holds of one of them
known-any : (headers : List Record) (P : Record → Type 0) (header : Record) → is_header headers header ≡ true → P header → Any P headers
unfolding is_header
known-any headers P header known p =
    let a = Any-from_list_any (is_same_record header) headers known in
    (a.0, a.1, a.2, a.3, subst P ((is_same_record-Decides header a.1).0 a.4) p)

any-known : (headers : List Record) (header : Record) → Contains headers header → is_header headers header ≡ true
unfolding is_header
any-known headers header h = list_any-from_Any (is_same_record header) headers (h.0, header, h.1, h.2, (is_same_record-Decides header header).1 refl)

-- a file that begins with a header is read by what stands below that
file_rows-known : {X : Type 0} (headers : List Record) (row_of : ℕ → RowRule X) (header : Record) (below : List Record) → is_header headers header ≡ true
    → file_rows headers row_of (header ∷ below) ≡ rows_below 20000 (row_of (length header)) below
unfolding file_rows
file_rows-known headers row_of header below known = rw known refl

-- what a file is that gets an answer
abbrev pub Gets : {X : Type 0} → List Record → (ℕ → RowRule X) → List Record → Result (List X) TraceFault → Type 0
Gets headers row_of file (Ok rows) = Any (λ header. IsFileOf header (row_of (length header)) file rows) headers
Gets headers row_of file (Err fault.Header) = All (λ header. slice_get file 0 ≢ Some header) headers
Gets headers row_of file (Err (fault.Row number)) = Any (λ header. HasNoRowAt header (row_of (length header)) file number) headers
Gets headers row_of file (Err fault.Empty) = Any (λ header. file ≡ header ∷ []) headers
Gets headers row_of file (Err fault.Long) = Any (λ header. IsTooLong header (row_of (length header)) file) headers
Gets headers row_of file (Err fault.Memory) = ⊥

-- such a file gets it
header-then : {X : Type 0} (headers : List Record) (row_of : ℕ → RowRule X) (file : List Record) → Gets headers row_of file (Err fault.Header)
    → file_rows headers row_of file ≡ Err fault.Header
unfolding file_rows
header-then headers row_of [] h = refl
header-then headers row_of (first ∷ below) h = elim (cases_Bool (is_header headers first)) [
  | inl known ↦ absurd (let a = known-any headers (λ header. header ≡ first) first known refl in
      h a.0 a.1 a.2 (ap (λ (r : Record). Some r) (sym (a.3 ∙ a.4))))
  | inr other ↦ rw other refl
]

file-then : {X : Type 0} (headers : List Record) (row_of : ℕ → RowRule X) (file : List Record) (answer : Result (List X) TraceFault) → Gets headers row_of file answer
    → file_rows headers row_of file ≡ answer
file-then headers row_of file (Ok rows) a =
    let h = a.4 in
    let written = filter_map-written (row_of (length a.1)) h.below rows h.written in
    rw h.parts (file_rows-known headers row_of a.1 h.below (any-known headers a.1 (a.0, a.2, a.3)) ∙ below-rows 20000 (row_of (length a.1)) h.below h.some h.most written.1
    ∙ ap (λ (rs : List _). Ok rs) written.0)
file-then headers row_of file (Err fault.Header) h = header-then headers row_of file h
file-then headers row_of file (Err (fault.Row number)) a =
    let h = a.4 in
    let room : length h.good < 20000 = (let at = h.at in let w = h.within in omega arith) in
    rw (h.parts, h.at) (file_rows-known headers row_of a.1 (h.good ++ h.bad ∷ h.rest) (any-known headers a.1 (a.0, a.2, a.3))
    ∙ below-bad 20000 (row_of (length a.1)) h.good h.bad h.rest room (clean-from_writes (row_of (length a.1)) h.good h.before) h.here)
file-then headers row_of file (Err fault.Empty) a =
    rw a.4 (file_rows-known headers row_of a.1 [] (any-known headers a.1 (a.0, a.2, a.3)) ∙ below-empty 20000 (row_of (length a.1)))
file-then headers row_of file (Err fault.Long) a =
    let h = a.4 in
    rw h.parts (file_rows-known headers row_of a.1 h.below (any-known headers a.1 (a.0, a.2, a.3))
    ∙ below-long 20000 (row_of (length a.1)) h.below h.more (clean-from_writes (row_of (length a.1)) (take 20000 h.below) h.before))
file-then headers row_of file (Err fault.Memory) h = absurd h

-- a file that gets some answer
abbrev Kind : {X : Type 0} → List Record → (ℕ → RowRule X) → List Record → Type 0
Kind {X} headers row_of file = (answer : Result (List X) TraceFault) × Gets headers row_of file answer

-- a file that begins with a header, by what stands below it
kind-clean : {X : Type 0} (headers : List Record) (row_of : ℕ → RowRule X) (header : Record) (below : List Record) → is_header headers header ≡ true
    → All (λ r. is_none (row_of (length header) r) ≡ false) (take 20000 below) → Kind headers row_of (header ∷ below)
kind-clean headers row_of header [] known clean = (Err fault.Empty, known-any headers (λ h. header ∷ [] ≡ h ∷ []) header known refl)
kind-clean headers row_of header (r ∷ rs) known clean = elim (cases_lt 20000 (length (r ∷ rs))) [
  | inl more ↦ (
    Err fault.Long,
    known-any headers (λ h. IsTooLong h (row_of (length h)) (header ∷ r ∷ rs)) header known
        (record { below = r ∷ rs; parts = refl; more = more; before = writes-from_clean (row_of (length header)) (take 20000 (r ∷ rs)) clean }),
  )
  | inr few ↦ (let rows = filter_map (row_of (length header)) (r ∷ rs) in
      let P : List Record → Type 0 = All (λ r. is_none (row_of (length header) r) ≡ false) in
      let written = written-filter_map (row_of (length header)) (r ∷ rs) (subst P (take_all 20000 (r ∷ rs) few) clean) in (
        Ok rows,
        known-any headers (λ h. IsFileOf h (row_of (length h)) (header ∷ r ∷ rs) rows) header known
            (record { below = r ∷ rs; parts = refl; some = omega arith; most = few; written = written }),
      ))
]

kind-bad : {X : Type 0} (headers : List Record) (row_of : ℕ → RowRule X) (header : Record) (below : List Record) → is_header headers header ≡ true
    → FirstIn (λ r. is_none (row_of (length header) r)) (take 20000 below) → Kind headers row_of (header ∷ below)
kind-bad headers row_of header below known f =
    let room : length f.good < 20000 = (let e = ap length f.parts in omega (arith, length-take 20000 below, length-append f.good (f.bad ∷ f.rest))) in
    let bad : HasNoRowAt header (row_of (length header)) (header ∷ below) (length f.good + 2) = record {
      good = f.good;
      bad = f.bad;
      rest = f.rest ++ drop 20000 below;
      parts = ap (λ (rs : List Record). header ∷ rs) (split-first 20000 below f);
      before = writes-from_clean (row_of (length header)) f.good f.before;
      here = is_missing (row_of (length header) f.bad) f.here;
      at = refl;
      within = omega arith;
    } in
    (Err (fault.Row (length f.good + 2)), known-any headers (λ h. HasNoRowAt h (row_of (length h)) (header ∷ below) (length f.good + 2)) header known bad)

-- each file gets some answer
kind : {X : Type 0} (headers : List Record) (row_of : ℕ → RowRule X) (file : List Record) → Kind headers row_of file
kind headers row_of [] = (Err fault.Header, λ k d within e. cc)
kind headers row_of (first ∷ below) = elim (cases_Bool (is_header headers first)) [
  | inl known ↦ elim (first_in (λ r. is_none (row_of (length first) r)) (take 20000 below)) [
    | inl clean ↦ kind-clean headers row_of first below known clean
    | inr f ↦ kind-bad headers row_of first below known f
  ]
  | inr other ↦ (
    Err fault.Header,
    λ k d within e.
        let this : first ≡ get_or headers k d = cc in
        let same : get_or headers k first ≡ first = get_or_default headers k first d within ∙ sym this in
        let known : is_header headers first ≡ true = any-known headers first (k, within, same) in
        absurd cc,
  )
]

-- an answer comes exactly of a file that gets it
pub file-law : {X : Type 0} (headers : List Record) (row_of : ℕ → RowRule X) (file : List Record) (answer : Result (List X) TraceFault)
    → (file_rows headers row_of file ≡ answer) ↔ Gets headers row_of file answer
file-law {X} headers row_of file answer = (λ is. subst P (sym (file-then headers row_of file is_of.0 is_of.1) ∙ is) is_of.1, file-then headers row_of file answer)
  where
    is_of : Kind headers row_of file
    is_of = kind headers row_of file

    P : Result (List X) TraceFault → Type 0
    P a = Gets headers row_of file a

-- rows of records that write only rows with a property have it
AllZip-All : {X : Type 0} (row_of : RowRule X) (P : X → Type 0) → ((r : Record) (row : X) → row_of r ≡ Some row → P row)
    → (rs : List Record) (rows : List X)
    → AllZip (λ r row. row_of r ≡ Some row) rs rows → All P rows
AllZip-All row_of P each rs [] h = All-nil P
AllZip-All row_of P each [] (row ∷ rows) h = absurd h
AllZip-All row_of P each (r ∷ rs) (row ∷ rows) h = All-cons P row rows (each r row h.0) (AllZip-All row_of P each rs rows h.1)

-- where all rows that records write have a property, so have the rows that were read
pub read-All : {X : Type 0} (headers : List Record) (row_of : ℕ → RowRule X) (P : X → Type 0) → ((width : ℕ) (r : Record) (row : X) → row_of width r ≡ Some row → P row)
    → (file : List Record)
    (result : Result (Vec X Global) TraceFault) → IsRead (file_rows headers row_of file) result → IfOk result (λ rows. All P rows.items)
read-All headers row_of P each file (Ok rows) is =
    let a = (file-law headers row_of file (Ok rows.items)).0 is in
    AllZip-All (row_of (length a.1)) P (each (length a.1)) a.4.below rows.items a.4.written
read-All headers row_of P each file (Err e) is = tt

-- and there are 1 to 20,000 of them
pub read-some : {X : Type 0} (headers : List Record) (row_of : ℕ → RowRule X) (file : List Record) (result : Result (Vec X Global) TraceFault)
    → IsRead (file_rows headers row_of file) result → IfOk result (λ rows. (1 ≤ length rows.items) × (length rows.items ≤ 20000))
read-some headers row_of file (Ok rows) is =
    let a = (file-law headers row_of file (Ok rows.items)).0 is in
    let h = a.4 in
    let same = AllZip-long (λ r row. row_of (length a.1) r ≡ Some row) h.below rows.items h.written in
    let some = h.some in
    let most = h.most in
    (omega arith, omega arith)
read-some headers row_of file (Err e) is = tt

-- what holds of some or of each header of a list of one header
pub only-any : {A : Type 0} (P : Record → Type 0) (header : Record) → A ↔ Any P (header ∷ []) → A ↔ P header
only-any P header law = (λ a. one (law.0 a), λ p. law.1 (0, header, omega arith, refl, p))
  where
    one : Any P (header ∷ []) → P header
    one (zero, x, within, is, p) = subst P (sym is) p
    one (suc k, x, within, is, p) = absurd (omega arith)

pub only-all : {A : Type 0} (P : Record → Type 0) (header : Record) → A ↔ All P (header ∷ []) → A ↔ P header
only-all P header law = (λ a. law.0 a 0 header (omega arith), λ p. law.1 (All-cons P header [] p (All-nil P)))
