-- The onsets of a grid, and its faults.
use Rattle.std.proofs.Common.{◌≡◌, ◌∙◌, refl, sym, ap, subst, ℕ, zero, suc, ◌+◌, ◌*◌, ◌/◌, ◌%◌, ◌≤◌, ◌<◌, Bool, true, false, List, [], ◌∷◌, ◌++◌, All, map, length, get_or, arith, inl, inr}
use Rattle.std.specs.Prelude.{◌↔◌, ◌||◌, nat_lt, min}
use Rattle.std.specs.List.{Contains, flat_map, range_with_len}
use Rattle.std.specs.Int.{div_ceil}
use Rattle.std.proofs.Math.Nat.{div-add-mod, mul-mod_left, mul-le-mul_left}
use Rattle.std.proofs.lemmas.Bool.{cases_lt, ltb-false}
use Rattle.std.proofs.lemmas.List.{length-map, length-append, map-append}
use Rattle.std.proofs.lemmas.List.Elements.{All-nil, All-head, All-tail, All-append, All-map}
use Rattle.std.proofs.lemmas.List.FromFn.{length-map-range_with_len, get_or-map-range_with_len, map-range_with_len_more}
use Rattle.eg_fault.specs.declared.class.Class.{Class}
use Rattle.eg_fault.specs.declared.class.Fault.{Fault}
use Rattle.eg_fault.specs.declared.class_name.TheConstants.{CLASSES}
use Rattle.eg_table.specs.Grid.{swept_classes, onset_count, onsets, faults_of, swept_faults, is_too_large}

-- ---- the onsets ----

-- where a run of t ticks is q steps of s ticks and r ticks more, a multiple of s lies within it exactly if its place is below the count of onsets
place-within : (q r s i t : ℕ) → 1 ≤ s → s * q + r ≡ t → i < q + min 1 r → i * s < t
place-within q zero s i t some whole below = let h : s * (i + 1) ≤ s * q = mul-le-mul_left s (omega arith) in omega (arith, h)
place-within q (suc r) s i t some whole below = let h : s * i ≤ s * q = mul-le-mul_left s (omega arith) in omega (arith, h)

within-place : (q r s i t : ℕ) → s * q + r ≡ t → r < s → i * s < t → i < q + min 1 r
within-place q zero s i t whole part within = elim (cases_lt i q) [
  | inl low ↦ omega arith
  | inr high ↦ absurd (let h : s * q ≤ s * i = mul-le-mul_left s high in omega (arith, h))
]
within-place q (suc r) s i t whole part within = elim (cases_lt i (q + 1)) [
  | inl low ↦ omega arith
  | inr high ↦ absurd (let h : s * (q + 1) ≤ s * i = mul-le-mul_left s high in omega (arith, h))
]

pub multiple-within : (ticks step i : ℕ) → 1 ≤ step → i < div_ceil ticks step → i * step < ticks
multiple-within ticks step i some below = place-within (ticks / step) (ticks % step) step i ticks some (div-add-mod ticks step) below

multiple-below : (ticks step i : ℕ) → 1 ≤ step → i * step < ticks → i < div_ceil ticks step
multiple-below ticks step i some within = within-place (ticks / step) (ticks % step) step i ticks (div-add-mod ticks step) (omega arith) within

-- the first n multiples, from 0 on
unfoldable pub multiples : (step n : ℕ) → List ℕ
multiples step n = map (λ i. i * step) (range_with_len 0 n)

pub multiples-none : (step : ℕ) → multiples step 0 ≡ []
unfolding multiples
multiples-none step = refl

pub multiples-more : (step n : ℕ) → multiples step (n + 1) ≡ multiples step n ++ n * step ∷ []
unfolding multiples
multiples-more step n = map-range_with_len_more (λ i. i * step) 0 n n (omega arith)

pub onsets-multiples : (ticks step : ℕ) → onsets ticks step ≡ multiples step (div_ceil ticks step)
unfolding onsets onset_count multiples
onsets-multiples ticks step = refl

length-onsets : (ticks step : ℕ) → length (onsets ticks step) ≡ onset_count ticks step
unfolding onsets
length-onsets ticks step = length-map-range_with_len (λ i. i * step) 0 (onset_count ticks step)

onset_at : (ticks step i d : ℕ) → i < onset_count ticks step → get_or (onsets ticks step) i d ≡ i * step
unfolding onsets
onset_at ticks step i d below = get_or-map-range_with_len (λ i. i * step) 0 (onset_count ticks step) i i d below (omega arith)

onsets_within : (ticks step : ℕ) → 1 ≤ step → All (λ onset. onset < ticks) (onsets ticks step)
unfolding onset_count
onsets_within ticks step some i d below =
    let place : i < onset_count ticks step = subst (λ n. i < n) (length-onsets ticks step) below in
    subst (λ onset. onset < ticks) (sym (onset_at ticks step i d place)) (multiple-within ticks step i some place)

-- they are the multiples of the step within the run
pub onsets_law : (ticks step : ℕ) → 1 ≤ step → (n : ℕ) → Contains (onsets ticks step) n ↔ ((n < ticks) × (n % step ≡ 0))
unfolding onset_count
onsets_law ticks step some n = (
  λ (i, below, is).
      let place : i < onset_count ticks step = subst (λ n. i < n) (length-onsets ticks step) below in
      let multiple : i * step ≡ n = sym (onset_at ticks step i n place) ∙ is in (
        subst (λ n. n < ticks) multiple (multiple-within ticks step i some place),
        ap (λ n. n % step) (sym multiple) ∙ mul-mod_left i step,
      ),
  λ (within, whole).
      let multiple : n / step * step ≡ n = no_rest (n / step) (n % step) step n (div-add-mod n step) whole in
      let place : n / step < onset_count ticks step = multiple-below ticks step (n / step) some (subst (λ m. m < ticks) (sym multiple) within) in (
        n / step,
        subst (λ m. n / step < m) (sym (length-onsets ticks step)) place,
        onset_at ticks step (n / step) n place ∙ multiple,
      ),
)
  where
    no_rest : (q r s n : ℕ) → s * q + r ≡ n → r ≡ 0 → q * s ≡ n
    no_rest q r s n whole none = omega arith

-- ---- the faults ----

pub faults_of-none : (class : Class) → faults_of [] class ≡ []
unfolding faults_of
faults_of-none class = refl

pub faults_of-more : (onsets : List ℕ) (onset : ℕ) (class : Class) →
    faults_of (onsets ++ onset ∷ []) class ≡ faults_of onsets class ++ record { onset = onset; class = class } ∷ []
unfolding faults_of
faults_of-more onsets onset class = map-append (λ (onset : ℕ). record { onset = onset; class = class }) onsets (onset ∷ [])

length-faults_of : (onsets : List ℕ) (class : Class) → length (faults_of onsets class) ≡ length onsets
unfolding faults_of
length-faults_of onsets class = length-map onsets (λ (onset : ℕ). record { onset = onset; class = class })

length-faults : (onsets : List ℕ) (classes : List Class) → length (flat_map (faults_of onsets) classes) ≡ length classes * length onsets
length-faults onsets [] = omega arith
length-faults onsets (class ∷ classes) =
    let both = length-append (faults_of onsets class) (flat_map (faults_of onsets) classes) in
    let one = length-faults_of onsets class in
    let others = length-faults onsets classes in
    omega (arith, both, one, others)

pub length-classes : length swept_classes ≡ CLASSES
unfolding swept_classes
length-classes = refl

pub length-swept_faults : (ticks step : ℕ) → length (swept_faults ticks step) ≡ CLASSES * onset_count ticks step
unfolding swept_faults
length-swept_faults ticks step = length-faults (onsets ticks step) swept_classes
    ∙ ap (λ n. n * length (onsets ticks step)) length-classes ∙ ap (λ n. CLASSES * n) (length-onsets ticks step)

-- what follows for each fault from its onset and its class
each_fault : (P : Fault → Type 0) (Begins : ℕ → Type 0) (Does : Class → Type 0) →
    ((onset : ℕ) (class : Class) → Begins onset → Does class → P (record { onset = onset; class = class })) →
    (onsets : List ℕ) → All Begins onsets → (classes : List Class) → All Does classes → All P (flat_map (faults_of onsets) classes)
each_fault P Begins Does gives onsets begin [] acts = All-nil P
each_fault P Begins Does gives onsets begin (class ∷ classes) acts =
    All-append P (faults_of onsets class) (flat_map (faults_of onsets) classes) (here (All-head Does class classes acts))
    (each_fault P Begins Does gives onsets begin classes (All-tail Does class classes acts))
  where
    here : Does class → All P (faults_of onsets class)
    here effects_of = unfold faults_of in All-map P (λ (onset : ℕ). record { onset = onset; class = class }) onsets
        (λ k d below. gives _ class (begin k d below) effects_of)

pub each_swept : (P : Fault → Type 0) (Does : Class → Type 0) (ticks step : ℕ) → 1 ≤ step →
    ((onset : ℕ) (class : Class) → onset < ticks → Does class → P (record { onset = onset; class = class })) →
    All Does swept_classes → All P (swept_faults ticks step)
unfolding swept_faults
each_swept P Does ticks step some gives acts =
    each_fault P (λ onset. onset < ticks) Does gives (onsets ticks step) (onsets_within ticks step some) swept_classes acts

-- ---- how large a grid is ----

-- one that isn't too large has at most 1,000 runs
pub small-runs : (ticks step : ℕ) → is_too_large ticks step ≡ false → CLASSES * onset_count ticks step ≤ 1000
unfolding is_too_large
small-runs ticks step small = ltb-false 1000 (CLASSES * onset_count ticks step) (first_false (nat_lt 1000 (CLASSES * onset_count ticks step)) _ small)
  where
    first_false : (a b : Bool) → (a || b) ≡ false → a ≡ false
    first_false true b none = absurd cc
    first_false false b none = refl
