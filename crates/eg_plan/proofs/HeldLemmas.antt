-- A key has no refusal exactly if it holds what it may.
use Rattle.std.proofs.Common.{◌≡◌, ◌↔◌, ◌⊎◌, inl, inr, ℕ, ℤ, pos, negsuc, ◌+◌, ◌≤◌, ◌==◌, ◌&&◌, nat_le, not, Bool, true, length, List, [], ◌∷◌, All, bytes_eq, codes, Option, Some, None, unwrap_or, subst, refl, sym, ap, ◌∙◌, arith}
use Rattle.std.specs.Bool.{⊤}
use Rattle.std.specs.List.{list_all, sum}
use Rattle.std.proofs.lemmas.Bool.{and_parts, and_from, le-leb, leb-true, or_cases, cases_Bool}
use Rattle.std.proofs.lemmas.Bool.Decides.{nat_tests}
use Rattle.std.proofs.lemmas.List.Elements.{All-nil, All-cons, All-head, All-tail, All-weaker}
use Rattle.std.proofs.lemmas.List.Sums.{AllPass-from_list_all, list_all-from_AllPass, sum_by-cons}
use Rattle.std.proofs.lemmas.Slice.Eq.{bytes_eq-Decides}
use Rattle.toml.specs.Data.{Data, string, integer, boolean, Members, get_member, as_str}
use Rattle.std.proofs.lemmas.Option.{cond_some, same_Some}
use Rattle.eg_toml.specs.Values.{◌>>=◌}
use Rattle.eg_toml.specs.Arrays.{is_rising}
use Rattle.eg_toml.specs.Refusals.{unless_some}
use Rattle.eg_toml.specs.Held.{HoldsValue, MayHoldValue, natural, array_of, AreMany}
use Rattle.eg_toml.proofs.RangeLemmas.{bind-some, if-some}
use Rattle.eg_toml.proofs.RisingLemmas.{true-rising, rising-true}
use Rattle.eg_toml.proofs.HeldLemmas.{IsExact, not_refused, kept, text-exact, integer-exact, truth-exact, number-exact, number-up, array-exact, numbers-exact}
use Rattle.eg_fault.specs.Faults.{IsOffset}
use Rattle.eg_plant.specs.declared.engine_kind.EngineKind.{EngineKind}
use Rattle.eg_plant.specs.declared.engine_kind.EngineKind.TheVariants.{Gasoline, Diesel}
use Rattle.eg_plan.specs.declared.key.CampaignFault.{CampaignFault}
use Rattle.eg_plan.specs.Keys.{Content, run_name, file_name, slice_rows, engine_name, number, optional, shift, words, ticks, truths}
use Rattle.eg_plan.specs.Checks.{content_refusal}
use Rattle.eg_plan.specs.Contents.{is_plain, is_in_name, is_run_name, is_file_name, when, text_at, is_budget, slice_row, slices_in, usual_slices, read_or, engine_named, engine_in, is_shift, shift_in, ticks_in, truths_in}
use Rattle.eg_plan.specs.Rules.{IsLetter, IsDigit, IsInName, IsRunName, IsFileName, IsSliceRow, IsSlicePlan}
use Rattle.eg_plan.specs.Accepted.{engine_word, AreTicks, Holds}

-- ---- a test behind a reader, and a reader of what may be absent

pub when-exact : {X : Type 0} {read : Data → Option X} {form : X → Data} {rule : X → Type 0} (exact : IsExact read form rule) (passes : X → Bool) (stricter : X → Type 0)
    → ((x : X) → rule x → passes x ≡ true → stricter x) → ((x : X) → stricter x → rule x × (passes x ≡ true)) → IsExact (λ d. read d >>= when passes) form stricter
when-exact {X = X} {read = read} {form = form} exact passes stricter to back = record {
  is = λ d x e. let found = bind-some (read d) (when passes) x e in exact.is d found.0 found.1.0 ∙ ap form (if-some (passes found.0) found.0 x found.1.1).1;
  keeps = λ d x e.
      let found = bind-some (read d) (when passes) x e in
      let passed = if-some (passes found.0) found.0 x found.1.1 in
      subst stricter passed.1 (to found.0 (exact.keeps d found.0 found.1.0) passed.0);
  reads = λ x h. let (rule, passed) = back x h in ap (λ o. o >>= when passes) (exact.reads x rule) ∙ rw passed refl;
}

may-held : {X : Type 0} {read : Data → Option X} {form : X → Data} {rule : X → Type 0} (exact : IsExact read form rule) (usual : X) (f : CampaignFault) (o : Option Data)
    → (unless_some f (read_or usual read o) ≡ None) ↔ MayHoldValue form rule o
may-held exact usual f None = (λ e. inl refl, λ h. refl)
may-held {read = read} {form = form} {rule = rule} exact usual f (Some d) = (λ e. inr ((not_refused exact f (Some d)).0 e), back)
  where
    back : MayHoldValue form rule (Some d) → unless_some f (read d) ≡ None
    back (inl e) = absurd (cc)
    back (inr h) = (not_refused exact f (Some d)).1 h

pub may-kept : {X : Type 0} {read : Data → Option X} {form : X → Data} {rule : X → Type 0} (exact : IsExact read form rule) (usual other : X) (o : Option Data)
    → rule usual → MayHoldValue form rule o → rule (unwrap_or (read_or usual read o) other)
may-kept exact usual other None keeps h = keeps
may-kept exact usual other (Some d) keeps (inl e) = absurd (cc)
may-kept exact usual other (Some d) keeps (inr h) = kept exact (Some d) other h

-- ---- names

plain : (c : ℕ) → is_plain c ≡ true → IsLetter c ⊎ IsDigit c
plain c e = elim (or_cases (nat_le 97 c && nat_le c 122) (nat_le 48 c && nat_le c 57) e) [
  | inl h ↦ (let p = and_parts (nat_le 97 c) (nat_le c 122) h in inl (leb-true 97 c p.0, leb-true c 122 p.1))
  | inr h ↦ (let p = and_parts (nat_le 48 c) (nat_le c 57) h in inr (leb-true 48 c p.0, leb-true c 57 p.1))
]

plain-true : (c : ℕ) → IsLetter c ⊎ IsDigit c → is_plain c ≡ true
plain-true c (inl h) = let (a, b) = h in grind (arith, nat_tests)
plain-true c (inr h) = let (a, b) = h in grind (arith, nat_tests)

in_name : (c : ℕ) → is_in_name c ≡ true → IsInName c
in_name c e = elim (or_cases (is_plain c) (c == 45) e) [ inl h ↦ inl (plain c h) | inr h ↦ inr (grind (arith, nat_tests)) ]

in_name-true : (c : ℕ) → IsInName c → is_in_name c ≡ true
in_name-true c (inl h) = rw (plain-true c h) refl
in_name-true c (inr e) = grind (arith, nat_tests)

no_dash : (c : ℕ) → IsLetter c ⊎ IsDigit c → c ≡ 45 → ⊥
no_dash c (inl h) e = let (a, b) = h in omega arith
no_dash c (inr h) e = let (a, b) = h in omega arith

first-true : (c : ℕ) → IsInName c → (c ≡ 45 → ⊥) → is_plain c ≡ true
first-true c (inl h) other = plain-true c h
first-true c (inr e) other = absurd (other e)

name-passed : (text : List ℕ) → is_run_name text ≡ true → IsRunName text
name-passed [] e = absurd (cc)
name-passed (c ∷ cs) e =
    let outer = and_parts (is_plain c && list_all is_in_name cs) (nat_le (length cs) 31) e in
    let inner = and_parts (is_plain c) (list_all is_in_name cs) outer.0 in
    let few : length cs ≤ 31 = leb-true _ _ outer.1 in
    let rest = All-weaker (λ c. is_in_name c ≡ true) IsInName in_name cs (AllPass-from_list_all is_in_name cs inner.1) in
    record {
      least = omega arith;
      most = omega arith;
      characters = All-cons IsInName c cs (inl (plain c inner.0)) rest;
      begins = no_dash c (plain c inner.0);
    }

name-true : (text : List ℕ) → IsRunName text → is_run_name text ≡ true
name-true [] h = let least = h.least in absurd (omega arith)
name-true (c ∷ cs) h =
    let most = h.most in
    let few : length cs ≤ 31 = omega arith in
    let rest = All-weaker IsInName (λ c. is_in_name c ≡ true) in_name-true cs (All-tail IsInName c cs h.characters) in
    let first = first-true c (All-head IsInName c cs h.characters) h.begins in
    and_from _ _ (and_from _ _ first (list_all-from_AllPass is_in_name cs rest)) (le-leb _ _ few)

other : (a b : ℕ) → not (a == b) ≡ true → a ≡ b → ⊥
other a b e same = grind (arith, nat_tests)

other-true : (a b : ℕ) → (a ≡ b → ⊥) → not (a == b) ≡ true
other-true a b h = grind (arith, nat_tests)

file-passed : (text : List ℕ) → is_file_name text ≡ true → IsFileName text
file-passed [] e = absurd (cc)
file-passed (c ∷ cs) e =
    let p = and_parts (not (c == 45)) (nat_le (length cs) 199) e in
    let few : length cs ≤ 199 = leb-true _ _ p.1 in
    record { least = omega arith; most = omega arith; begins = other c 45 p.0 }

file-true : (text : List ℕ) → IsFileName text → is_file_name text ≡ true
file-true [] h = let least = h.least in absurd (omega arith)
file-true (c ∷ cs) h =
    let most = h.most in
    let few : length cs ≤ 199 = omega arith in
    and_from _ _ (other-true c 45 h.begins) (le-leb _ _ few)

name-exact : IsExact (λ d. as_str d >>= when is_run_name) string IsRunName
name-exact = when-exact text-exact is_run_name IsRunName (λ text t passed. name-passed text passed) (λ text h. (tt, name-true text h))

file-exact : IsExact (λ d. as_str d >>= when is_file_name) string IsFileName
file-exact = when-exact text-exact is_file_name IsFileName (λ text t passed. file-passed text passed) (λ text h. (tt, file-true text h))

-- two steps are one
in-turn : (o : Option Data) (passes : List ℕ → Bool) → (o >>= as_str >>= when passes) ≡ (o >>= (λ d. as_str d >>= when passes))
in-turn None passes = refl
in-turn (Some d) passes = refl

text-held : {rule : List ℕ → Type 0} (passes : List ℕ → Bool) (exact : IsExact (λ d. as_str d >>= when passes) string rule) (f : CampaignFault) (key : List ℕ) (ms : Members)
    → (unless_some f (text_at passes key ms) ≡ None) ↔ HoldsValue string rule (get_member key ms)
text-held passes exact f key ms =
    let same = ap (unless_some f) (in-turn (get_member key ms) passes) in
    let held = not_refused exact f (get_member key ms) in
    (λ e. held.0 (sym same ∙ e), λ h. same ∙ held.1 h)

text-kept : {rule : List ℕ → Type 0} (passes : List ℕ → Bool) (exact : IsExact (λ d. as_str d >>= when passes) string rule) (key : List ℕ) (ms : Members)
    → HoldsValue string rule (get_member key ms) → rule (unwrap_or (text_at passes key ms) [])
text-kept {rule = rule} passes exact key ms h =
    subst rule (ap (λ o. unwrap_or o []) (sym (in-turn (get_member key ms) passes))) (kept exact (get_member key ms) [] h)

pub name-kept : (key : List ℕ) (ms : Members) → Holds run_name (get_member key ms) → IsRunName (unwrap_or (text_at is_run_name key ms) [])
name-kept key ms h = text-kept is_run_name name-exact key ms h

pub file-kept : (key : List ℕ) (ms : Members) → Holds file_name (get_member key ms) → IsFileName (unwrap_or (text_at is_file_name key ms) [])
file-kept key ms h = text-kept is_file_name file-exact key ms h

-- ---- slices and engines

none-above : (high : ℕ) (xs : List ℕ) → sum xs ≤ high → All (λ n. n ≤ high) xs
none-above high [] h = All-nil (λ n. n ≤ high)
none-above high (x ∷ xs) h =
    let both : sum (x ∷ xs) ≡ x + sum xs = sum_by-cons (λ n. n) x xs in
    All-cons (λ n. n ≤ high) x xs (omega arith) (none-above high xs (omega arith))

row-exact : IsExact slice_row (array_of natural) IsSliceRow
row-exact = when-exact (numbers-exact 9 9 1000) is_budget IsSliceRow (λ row many passed. let from = many.from in let to = many.to in (omega arith, leb-true _ _ passed))
    (λ row h. let nine = h.0 in (record { from = omega arith; to = omega arith; each = none-above 1000 row h.1 }, le-leb _ _ h.1))

pub slices-exact : IsExact slices_in (array_of (array_of natural)) IsSlicePlan
slices-exact = array-exact row-exact 1 64

pub usual-kept : IsSlicePlan usual_slices
usual-kept = record { from = omega arith; to = omega arith; each = All-cons IsSliceRow _ [] (refl, omega arith) (All-nil IsSliceRow) }

named-is : (text : List ℕ) (engine : EngineKind) → engine_named text ≡ Some engine → string text ≡ engine_word engine
named-is text engine e = elim (cases_Bool (bytes_eq text (codes "gasoline"))) [
  | inl is ↦ ap string ((bytes_eq-Decides text (codes "gasoline")).0 is) ∙ ap engine_word (same_Some Gasoline engine (rw is at e))
  | inr more ↦ (let is = cond_some (bytes_eq text (codes "diesel")) Diesel engine (rw more at e) in
      ap string ((bytes_eq-Decides text (codes "diesel")).0 is.0) ∙ ap engine_word is.1)
]

engine-exact : IsExact engine_in engine_word (λ engine. ⊤)
engine-exact = record {
  is = λ d engine e.
      let found = bind-some (as_str d) engine_named engine e in
      text-exact.is d found.0 found.1.0 ∙ named-is found.0 engine found.1.1;
  keeps = λ d engine e. tt;
  reads = read;
}
  where
    read : (engine : EngineKind) → ⊤ → engine_in (engine_word engine) ≡ Some engine
    read Gasoline h = refl
    read Diesel h = refl

-- ---- numbers and truth values of a fault

shift-valid : (z : ℤ) → is_shift z ≡ true → IsOffset z
shift-valid (pos n) e = let p = and_parts (nat_le 1 n) (nat_le n 65535) e in (leb-true _ _ p.0, leb-true _ _ p.1)
shift-valid (negsuc n) e = let most : n ≤ 65534 = leb-true _ _ e in (omega arith, omega arith)

shift-true : (z : ℤ) → IsOffset z → is_shift z ≡ true
shift-true (pos n) h = and_from _ _ (le-leb 1 n h.0) (le-leb n 65535 h.1)
shift-true (negsuc n) h = let most = h.1 in le-leb n 65534 (omega arith)

pub shift-exact : IsExact shift_in integer IsOffset
shift-exact = when-exact integer-exact is_shift IsOffset (λ z t passed. shift-valid z passed) (λ z h. (tt, shift-true z h))

pub ticks-exact : IsExact ticks_in (array_of natural) AreTicks
ticks-exact = when-exact (numbers-exact 1 64 19999) is_rising AreTicks (λ ns many passed. (many, true-rising ns passed)) (λ ns h. (h.0, rising-true ns h.1))

pub truths-exact : IsExact truths_in (array_of boolean) (AreMany 1 64 (λ truth. ⊤))
truths-exact = array-exact truth-exact 1 64

-- ---- contents

-- a key has no refusal exactly if it holds its content
pub content-held : (f : CampaignFault) (content : Content) (key : List ℕ) (ms : Members) → (content_refusal f content key ms ≡ None) ↔ Holds content (get_member key ms)
content-held f run_name key ms = text-held is_run_name name-exact f key ms
content-held f file_name key ms = text-held is_file_name file-exact f key ms
content-held f slice_rows key ms = may-held slices-exact usual_slices f (get_member key ms)
content-held f engine_name key ms = may-held engine-exact Gasoline f (get_member key ms)
content-held f (number low high) key ms = not_refused (number-exact low high) f (get_member key ms)
content-held f (optional high) key ms = may-held (number-up high) 0 f (get_member key ms)
content-held f shift key ms = not_refused shift-exact f (get_member key ms)
content-held f words key ms = not_refused (numbers-exact 1 64 65535) f (get_member key ms)
content-held f ticks key ms = not_refused ticks-exact f (get_member key ms)
content-held f truths key ms = not_refused truths-exact f (get_member key ms)
