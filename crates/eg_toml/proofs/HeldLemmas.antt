-- What a reader of values tells of what is written there.
use Rattle.std.proofs.Common.{◌≡◌, ◌↔◌, ℕ, suc, ℤ, pos, negsuc, ◌≤◌, nat_le, Bool, ◌&&◌, length, List, [], ◌∷◌, All, Option, Some, None, option_map, unwrap_or, if◌then◌else◌, refl, sym, ap, ap₂, subst, ◌∙◌, arith}
use Rattle.std.specs.Bool.{⊤}
use Rattle.std.proofs.lemmas.Bool.{and_parts, le-leb, leb-true}
use Rattle.std.proofs.lemmas.List.Elements.{All-nil, All-cons, All-head, All-tail}
use Rattle.toml.specs.Data.{Data, string, integer, boolean, array, table, Members, Items, no_items, item, as_str, as_integer, as_bool, as_array, as_table}
use Rattle.eg_toml.specs.Values.{natural_in, number_in, ◌>>=◌}
use Rattle.eg_toml.specs.Arrays.{count, append_read, all_read, one, items_in, array_in, numbers_in}
use Rattle.eg_toml.specs.Refusals.{unless_some}
use Rattle.eg_toml.specs.Held.{HoldsValue, natural, items_of, array_of, IsBetween, AreMany}
use Rattle.eg_toml.proofs.RangeLemmas.{bind-some, if-some, natural_in-within}

-- ---- a reader and what it reads

-- what is read is written in this form and keeps the rule, and whatever is so is read
pub record IsExact {X : Type 0} (read : Data → Option X) (form : X → Data) (rule : X → Type 0) : Type 0 where
  pub is : (d : Data) (x : X) → read d ≡ Some x → d ≡ form x
  pub keeps : (d : Data) (x : X) → read d ≡ Some x → rule x
  pub reads : (x : X) → rule x → read (form x) ≡ Some x

pub unless_some-none : {F X : Type 0} (f : F) (o : Option X) → unless_some f o ≡ None → (x : X) × (o ≡ Some x)
unless_some-none f None e = absurd (cc)
unless_some-none f (Some x) e = (x, refl)

pub written-read : {X : Type 0} {read : Data → Option X} {form : X → Data} {rule : X → Type 0} (exact : IsExact read form rule) (o : Option Data)
    (h : HoldsValue form rule o) → (o >>= read) ≡ Some h.value
written-read {read = read} exact o h = ap (λ p. p >>= read) h.is ∙ exact.reads h.value h.keeps

-- there is no refusal exactly if it is written,
pub not_refused : {F X : Type 0} {read : Data → Option X} {form : X → Data} {rule : X → Type 0} (exact : IsExact read form rule) (f : F) (o : Option Data)
    → (unless_some f (o >>= read) ≡ None) ↔ HoldsValue form rule o
not_refused {read = read} {form = form} {rule = rule} exact f o = (written, λ h. ap (unless_some f) (written-read exact o h))
  where
    written : unless_some f (o >>= read) ≡ None → HoldsValue form rule o
    written e =
        let got = unless_some-none f (o >>= read) e in
        let found = bind-some o read got.0 got.1 in
        record { value = got.0; is = found.1.0 ∙ ap Some (exact.is found.0 got.0 found.1.1); keeps = exact.keeps found.0 got.0 found.1.1 }

-- and what is read keeps the rule
pub kept : {X : Type 0} {read : Data → Option X} {form : X → Data} {rule : X → Type 0} (exact : IsExact read form rule) (o : Option Data) (usual : X)
    → HoldsValue form rule o → rule (unwrap_or (o >>= read) usual)
kept {rule = rule} exact o usual h = subst rule (sym (ap (λ p. unwrap_or p usual) (written-read exact o h))) h.keeps

-- ---- single values

as_str-is : (d : Data) (text : List ℕ) → as_str d ≡ Some text → d ≡ string text
as_str-is (string s) text e = let same : s ≡ text = cc in ap string same
as_str-is _ text e = absurd (cc)

as_integer-is : (d : Data) (z : ℤ) → as_integer d ≡ Some z → d ≡ integer z
as_integer-is (integer y) z e = let same : y ≡ z = cc in ap integer same
as_integer-is _ z e = absurd (cc)

as_bool-is : (d : Data) (b : Bool) → as_bool d ≡ Some b → d ≡ boolean b
as_bool-is (boolean a) b e = let same : a ≡ b = cc in ap boolean same
as_bool-is _ b e = absurd (cc)

pub as_array-is : (d : Data) (ds : Items) → as_array d ≡ Some ds → d ≡ array ds
as_array-is (array es) ds e = let same : es ≡ ds = cc in ap array same
as_array-is _ ds e = absurd (cc)

pub as_table-is : (d : Data) (ms : Members) → as_table d ≡ Some ms → d ≡ table ms
as_table-is (table ns) ms e = let same : ns ≡ ms = cc in ap table same
as_table-is _ ms e = absurd (cc)

pub text-exact : IsExact as_str string (λ text. ⊤)
text-exact = record { is = as_str-is; keeps = λ d x e. tt; reads = λ x h. refl }

pub integer-exact : IsExact as_integer integer (λ z. ⊤)
integer-exact = record { is = as_integer-is; keeps = λ d x e. tt; reads = λ x h. refl }

pub truth-exact : IsExact as_bool boolean (λ b. ⊤)
truth-exact = record { is = as_bool-is; keeps = λ d x e. tt; reads = λ x h. refl }

natural_in-is : (low high : ℕ) (z : ℤ) (n : ℕ) → natural_in low high z ≡ Some n → z ≡ pos n
natural_in-is low high (pos m) n e = ap pos (if-some (nat_le low m && nat_le m high) m n e).1
natural_in-is low high (negsuc m) n e = absurd (cc)

pub natural_in-pos : (low high n : ℕ) → low ≤ n → n ≤ high → natural_in low high (pos n) ≡ Some n
natural_in-pos low high n least most = rw (le-leb low n least, le-leb n high most) refl

pub number-exact : (low high : ℕ) → IsExact (number_in low high) natural (IsBetween low high)
number-exact low high = record {
  is = λ d n e.
      let found = bind-some (as_integer d) (natural_in low high) n e in
      as_integer-is d found.0 found.1.0 ∙ ap integer (natural_in-is low high found.0 n found.1.1);
  keeps = λ d n e. let found = bind-some (as_integer d) (natural_in low high) n e in natural_in-within low high found.0 n found.1.1;
  reads = λ n h. natural_in-pos low high n h.0 h.1;
}

-- numbers from 0 on
pub number-up : (high : ℕ) → IsExact (number_in 0 high) natural (λ n. n ≤ high)
number-up high =
    let exact = number-exact 0 high in
    record { is = exact.is; keeps = λ d n e. (exact.keeps d n e).1; reads = λ n h. exact.reads n (omega arith, h) }

-- ---- arrays

-- the items of an array of least to most items
pub items_in-is : (least most : ℕ) (d : Data) (ds : Items) → items_in least most d ≡ Some ds → (d ≡ array ds) × ((least ≤ count ds) × (count ds ≤ most))
items_in-is least most d ds e =
    let got = bind-some (as_array d) (λ es. if nat_le least (count es) && nat_le (count es) most then Some es else None) ds e in
    let (passed, same) = if-some (nat_le least (count got.0) && nat_le (count got.0) most) got.0 ds got.1.1 in
    let (from, to) = and_parts (nat_le least (count got.0)) (nat_le (count got.0) most) passed in
    let many : count got.0 ≡ count ds = ap count same in
    (as_array-is d got.0 got.1.0 ∙ ap array same, (rw many at (leb-true _ _ from), rw many at (leb-true _ _ to)))

pub items-held : (least most : ℕ) (ds : Items) (n : ℕ) → count ds ≡ n → least ≤ n → n ≤ most → items_in least most (array ds) ≡ Some ds
items-held least most ds n many from to = rw (many, le-leb least n from, le-leb n most to) refl

pub items_of-count : {X : Type 0} (form : X → Data) (xs : List X) → count (items_of form xs) ≡ length xs
items_of-count form [] = refl
items_of-count form (x ∷ xs) = ap suc (items_of-count form xs)

-- an item that was read, and those after it
one-step : {X : Type 0} (o : Option X) (b : Option (List X)) (xs : List X) → append_read (option_map (λ x. x ∷ []) o) b ≡ Some xs
    → (y : X) × ((rest : List X) × ((o ≡ Some y) × ((b ≡ Some rest) × (xs ≡ y ∷ rest))))
one-step None b xs e = absurd (cc)
one-step (Some y) None xs e = absurd (cc)
one-step (Some y) (Some rest) xs e = let same : xs ≡ y ∷ rest = cc in (y, (rest, (refl, (refl, same))))

all-are : {X : Type 0} {read : Data → Option X} {form : X → Data} {rule : X → Type 0} (exact : IsExact read form rule) (ds : Items) (xs : List X)
    → all_read (one read) ds ≡ Some xs → (ds ≡ items_of form xs) × All rule xs
all-are {form = form} {rule = rule} exact no_items xs e = let same : [] ≡ xs = cc in (ap (items_of form) same, subst (All rule) same (All-nil rule))
all-are {read = read} {form = form} {rule = rule} exact (item d ds) xs e =
    let step = one-step (read d) (all_read (one read) ds) xs e in
    let here = step.1.1.0 in
    let more = all-are exact ds step.1.0 step.1.1.1.0 in
    let same = sym step.1.1.1.1 in
    (ap₂ item (exact.is d step.0 here) more.0 ∙ ap (items_of form) same, subst (All rule) same (All-cons rule step.0 step.1.0 (exact.keeps d step.0 here) more.1))

all-read : {X : Type 0} {read : Data → Option X} {form : X → Data} {rule : X → Type 0} (exact : IsExact read form rule) (xs : List X)
    → All rule xs → all_read (one read) (items_of form xs) ≡ Some xs
all-read exact [] all = refl
all-read {rule = rule} exact (x ∷ xs) all =
    ap₂ append_read (ap (option_map (λ y. y ∷ [])) (exact.reads x (All-head rule x xs all))) (all-read exact xs (All-tail rule x xs all))

pub array-exact : {X : Type 0} {read : Data → Option X} {form : X → Data} {rule : X → Type 0} (exact : IsExact read form rule) (least most : ℕ)
    → IsExact (array_in least most (one read)) (array_of form) (AreMany least most rule)
array-exact {X = X} {read = read} {form = form} {rule = rule} exact least most = record {
  is = λ d xs e. (parts d xs e).0;
  keeps = λ d xs e. (parts d xs e).1;
  reads = λ xs h. ap (λ o. o >>= all_read (one read)) (items-held least most (items_of form xs) (length xs) (items_of-count form xs) h.from h.to) ∙ all-read exact xs h.each;
}
  where
    parts : (d : Data) (xs : List X) → array_in least most (one read) d ≡ Some xs → (d ≡ array_of form xs) × AreMany least most rule xs
    parts d xs e =
        let found = bind-some (items_in least most d) (all_read (one read)) xs e in
        let got = items_in-is least most d found.0 found.1.0 in
        let items = all-are exact found.0 xs found.1.1 in
        let many : count found.0 ≡ length xs = ap count items.0 ∙ items_of-count form xs in
        (got.0 ∙ ap array items.0, record { from = rw many at got.1.0; to = rw many at got.1.1; each = items.1 })

pub numbers-exact : (least most high : ℕ) → IsExact (numbers_in least most high) (array_of natural) (AreMany least most (λ n. n ≤ high))
numbers-exact least most high = array-exact (number-up high) least most
