-- A name that is put byte by byte.
use Rattle.std.proofs.Common.{◌≡◌, ◌∙◌, ◌++◌, [], ◌+◌, ◌<◌, ◌≤◌, List, ℕ, drop, length, get_or, subst, refl, sym, ap, arith, append_assoc, append-nil}
use Rattle.std.proofs.lemmas.List.{at_drop_more, at_drop_all}
use Rattle.std.specs.Bool.{IsTrue}
use Rattle.std.specs.Prelude.{Some, option_map, unwrap_or, Result, Ok, Err, IsErr, IsErrOf, OnOk, OnErr}
use Rattle.std.proofs.lemmas.Result.{IfOk-from_err, on_ok_weaker, on_err_weaker}
use Rattle.eg_base.specs.declared.sink.PutRefusal.{PutRefusal}
use Rattle.eg_base.specs.declared.sink.PutRefusal.TheVariants.{Failed, Memory}
use Rattle.eg_base.specs.Outside.{ShownSink, Rose, Appends, AppendsPrefix}
use Rattle.eg_base.proofs.AppendLemmas.{Appends-append, Appends-nil, AppendsPrefix-append, Rose-earlier, fault_of_refusal}
use Rattle.eg_base.proofs.ResultLemmas.{at_err}
use Rattle.eg_outcome.specs.Shown.{shown_byte, shown_behind, shown_name, Puts}
use Rattle.eg_outcome.specs.Changes.{change}
use Rattle.eg_outcome.specs.Notes.{PutsNote}

-- the byte of a name at this place, as it is shown behind this one
abbrev pub shown_at : (before : ℕ) → List ℕ → (i : ℕ) → List ℕ
shown_at before name i = shown_byte before (get_or name i 0) (get_or (drop (i + 1) name) 0 0)

-- the first i bytes of a name were put as they are shown, the last of them being `before`
pub record HasPut (start now : ShownSink) (name : List ℕ) (before i : ℕ) : Type 0 where
  pub so_far : List ℕ
  pub put : Appends start now so_far
  pub rest : so_far ++ shown_behind before (drop i name) ≡ shown_name name
  pub count : start.faults ≤ now.faults
  pub sure : now.sure ≡ start.sure

pub begins : (start : ShownSink) (name : List ℕ) → HasPut start start name 0 0
unfolding shown_name shown_behind
begins start name = record { so_far = []; put = Appends-nil start; rest = refl; count = omega arith; sure = refl }

one_more : (name : List ℕ) (before i : ℕ) → i < length name →
    shown_behind before (drop i name) ≡ shown_at before name i ++ shown_behind (get_or name i 0) (drop (i + 1) name)
unfolding shown_byte shown_behind
one_more name before i below = at_drop_more (shown_behind before) name i 0 below

pub goes_on : (start mid now : ShownSink) (name : List ℕ) (before i behind : ℕ) → i < length name →
    behind ≡ get_or (drop (i + 1) name) 0 0 → HasPut start mid name before i →
    Appends mid now (shown_byte before (get_or name i 0) behind) → mid.faults ≤ now.faults →
    now.sure ≡ mid.sure → HasPut start now name (get_or name i 0) (i + 1)
goes_on start mid now name before i behind below is has put count sure =
    let counted = has.count in
    let shown : Appends mid now (shown_at before name i) =
    subst (λ b. Appends mid now (shown_byte before (get_or name i 0) b)) is put in record {
      so_far = has.so_far ++ shown_at before name i;
      put = Appends-append start mid now has.so_far (shown_at before name i) has.put shown;
      rest = append_assoc has.so_far (shown_at before name i) (shown_behind (get_or name i 0) (drop (i + 1) name))
          ∙ ap (λ rest. has.so_far ++ rest) (sym (one_more name before i below)) ∙ has.rest;
      count = omega (arith, counted, count);
      sure = sure ∙ has.sure;
    }

-- where the next byte is refused, a front of the name was put
pub stops : (start mid now : ShownSink) (name : List ℕ) (before i behind : ℕ) → i < length name →
    behind ≡ get_or (drop (i + 1) name) 0 0 → HasPut start mid name before i →
    AppendsPrefix mid now (shown_byte before (get_or name i 0) behind) → AppendsPrefix start now (shown_name name)
stops start mid now name before i behind below is has put =
    let front : AppendsPrefix mid now (shown_at before name i) =
    subst (λ b. AppendsPrefix mid now (shown_byte before (get_or name i 0) b)) is put in
    let rest = shown_behind (get_or name i 0) (drop (i + 1) name) in
    rw (sym has.rest ∙ ap (λ rest. has.so_far ++ rest) (one_more name before i below)
    ∙ sym (append_assoc has.so_far (shown_at before name i) rest))
    (AppendsPrefix-append start mid now has.so_far (shown_at before name i) rest has.put front)

-- behind the last byte all of it was put
pub ends : (start now : ShownSink) (name : List ℕ) (before i : ℕ) → length name ≤ i →
    HasPut start now name before i → Appends start now (shown_name name)
unfolding shown_behind shown_name
ends start now name before i above has =
    subst (λ bytes. Appends start now bytes)
    (sym (append-nil has.so_far)
    ∙ ap (λ rest. has.so_far ++ rest) (sym (at_drop_all (shown_behind before) name i above)) ∙ has.rest)
    has.put

-- ---- one after another ----

-- bytes that were put whole, and then others
pub then : {T U E F : Type 0} (a b c : ShownSink) (x y : List ℕ) (done : T) (result : Result U F) →
    (let first : Result T E = Ok done in Puts a b x first) → Puts b c y result → Puts a c (x ++ y) result
then a b c x y done result first second =
    let counted = first.count in
    let count = second.count in
    record {
      whole = on_ok_weaker result (Appends-append a b c x y first.whole) second.whole;
      front = on_err_weaker result
          (λ put. subst (AppendsPrefix a c) (append-nil (x ++ y)) (AppendsPrefix-append a b c x y [] first.whole put)) second.front;
      count = omega (arith, counted, count);
      stays_sure = second.stays_sure ∙ first.stays_sure;
      fault = on_err_weaker result
          (λ fault sure. Rose-earlier _ _ _ counted (fault (subst IsTrue (sym first.stays_sure) sure))) second.fault;
    }

-- where the first are refused nothing else is put
pub refused : {T U E F : Type 0} (a b : ShownSink) (x y : List ℕ) (why : E) (result : Result U F) → IsErr result →
    (let first : Result T E = Err why in Puts a b x first) → Puts a b (x ++ y) result
refused a b x y why result is first = record {
  whole = IfOk-from_err result _ is;
  front = at_err result (longer first.front);
  count = first.count;
  stays_sure = first.stays_sure;
  fault = at_err result first.fault;
}
  where
    longer : AppendsPrefix a b x → AppendsPrefix a b (x ++ y)
    longer (front, back, split, put) = (front, back ++ y, ap (λ bytes. bytes ++ y) split ∙ append_assoc front back y, put)

-- what was put up to the first refusal is put as a note
pub noted : {T E : Type 0} (a b : ShownSink) (line : List ℕ) (result : Result T E) → Puts a b line result → PutsNote (change a b) line
noted a b line (Ok done) puts = record {
  prefix = (line, [], sym (append-nil line), puts.whole);
  whole = λ sure no_fault. puts.whole;
}
noted a b line (Err why) puts = record {
  prefix = puts.front;
  whole = λ sure no_fault. absurd (no_fault (puts.fault sure));
}

-- a line that was put in memory is put as a note
pub noted_whole : {T U E F : Type 0} (a b : ShownSink) (empty full : ShownSink) (bytes line : List ℕ) (done : T) (result : Result U F) →
    empty.written ≡ Some [] → full.written ≡ Some bytes →
    (let put : Result T E = Ok done in Puts empty full line put) → Puts a b bytes result → PutsNote (change a b) line
noted_whole a b empty full bytes line done result none some whole put =
    noted a b line result (subst (λ bs. Puts a b bs result)
    (ap (λ w. unwrap_or w []) (sym some ∙ whole.whole ∙ ap (option_map (λ old. old ++ line)) none)) put)

-- what a put did
pub puts : (a b : ShownSink) (bytes : List ℕ) (result : Result (Unit {0}) PutRefusal) → OnOk result (Appends a b bytes) →
    OnErr result (AppendsPrefix a b bytes) → a.faults ≤ b.faults → b.sure ≡ a.sure →
    (IsErrOf result Failed → Rose a.faults b.faults) → (IsTrue a.sure → ¬ IsErrOf result Memory) → Puts a b bytes result
puts a b bytes (Ok done) whole front count stays cause sure =
    record { whole = whole; front = tt; count = count; stays_sure = stays; fault = tt }
puts a b bytes (Err why) whole front count stays cause sure =
    record { whole = tt; front = front; count = count; stays_sure = stays; fault = λ is. fault_of_refusal _ why cause (sure is) }
