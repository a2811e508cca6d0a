-- The greatest of some numbers.
use Rattle.std.proofs.Common.{◌≡◌, ◌∙◌, refl, sym, ap, ℕ, ◌≤◌, ◌<◌, ◌==◌, Bool, true, false, List, [], ◌∷◌, ◌++◌, All, Some, None, arith}
use Rattle.std.specs.Prelude.{Option, max, nat_lt, IfSome, if◌then◌else◌}
use Rattle.std.specs.Option.{option_cmp}
use Rattle.std.specs.Ordering.{ord_max, nat_cmp, is_lt}
use Rattle.std.specs.declared.cmp.Ordering.TheVariants.{Less, Equal, Greater}
use Rattle.std.specs.List.{fold, filter_map, cons_option}
use Rattle.std.proofs.lemmas.List.Elements.{All-nil, All-cons, All-head, All-tail, filter_map-append}
use Rattle.std.proofs.lemmas.Bool.{ltb-true, ltb-false}
use Rattle.std.proofs.lemmas.List.{append-nil}
use Rattle.std.proofs.lemmas.List.Sums.{fold-append}
use Rattle.eg_table.specs.Sweep.{greatest_number}

-- ---- one number more ----

-- the greater of two numbers, either of which may be missing
unfoldable pub greater : Option ℕ → Option ℕ → Option ℕ
greater None other = other
greater (Some n) None = Some n
greater (Some n) (Some m) = Some (max n m)

greatest-append : (ns : List ℕ) (n : ℕ) → greatest_number (ns ++ n ∷ []) ≡ greater (greatest_number ns) (Some n)
unfolding greatest_number greater
greatest-append [] n = refl
greatest-append (m ∷ ns) n = ap Some (fold-append max m ns (n ∷ []))

greater-none : (o : Option ℕ) → greater o None ≡ o
unfolding greater
greater-none None = refl
greater-none (Some n) = refl

pub greatest-more : {X : Type 0} (tells : X → Option ℕ) (xs : List X) (x : X) →
    greatest_number (filter_map tells (xs ++ x ∷ [])) ≡ greater (greatest_number (filter_map tells xs)) (tells x)
greatest-more tells xs x = ap greatest_number (filter_map-append tells xs (x ∷ [])) ∙ last (tells x) (filter_map tells xs)
  where
    last : (o : Option ℕ) (ns : List ℕ) → greatest_number (ns ++ filter_map (λ (m : Option ℕ). m) (o ∷ [])) ≡ greater (greatest_number ns) o
    last None ns = ap greatest_number (append-nil ns) ∙ sym (greater-none (greatest_number ns))
    last (Some n) ns = greatest-append ns n

pub greatest-none : greatest_number [] ≡ None
unfolding greatest_number
greatest-none = refl

-- it is what the greater of two Options is, where None comes before each number
pub greater-max : (o p : Option ℕ) → ord_max (option_cmp nat_cmp) o p ≡ greater o p
unfolding greater
greater-max None None = refl
greater-max None (Some m) = refl
greater-max (Some n) None = refl
greater-max (Some n) (Some m) = picked (nat_lt m n) (m == n) (ltb-true m n) (ltb-false m n)
  where
    picked : (less same : Bool) → (less ≡ true → m < n) → (less ≡ false → n ≤ m) →
        (if is_lt (if less then Less else if same then Equal else Greater) then Some n else Some m) ≡ Some (max n m)
    picked true same low high = ap Some (let l = low refl in omega arith)
    picked false true low high = ap Some (let h = high refl in omega arith)
    picked false false low high = ap Some (let h = high refl in omega arith)

-- ---- a bound ----

fold-most : (ns : List ℕ) (n bound : ℕ) → n ≤ bound → All (λ m. m ≤ bound) ns → fold max n ns ≤ bound
fold-most [] n bound here most = here
fold-most (m ∷ ns) n bound here most =
    fold-most ns (max n m) bound (greater_most (All-head (λ m. m ≤ bound) m ns most)) (All-tail (λ m. m ≤ bound) m ns most)
  where
    greater_most : m ≤ bound → max n m ≤ bound
    greater_most other = omega (arith, here, other)

greatest-most : (ns : List ℕ) (bound : ℕ) → All (λ n. n ≤ bound) ns → IfSome (greatest_number ns) (λ n. n ≤ bound)
unfolding greatest_number
greatest-most [] bound most = tt
greatest-most (n ∷ ns) bound most = fold-most ns n bound (All-head (λ n. n ≤ bound) n ns most) (All-tail (λ n. n ≤ bound) n ns most)

told-most : {X : Type 0} (tells : X → Option ℕ) (xs : List X) (bound : ℕ) →
    All (λ x. IfSome (tells x) (λ n. n ≤ bound)) xs → All (λ n. n ≤ bound) (filter_map tells xs)
told-most tells [] bound most = All-nil (λ n. n ≤ bound)
told-most tells (x ∷ xs) bound most = one (tells x) (All-head (λ x. IfSome (tells x) (λ n. n ≤ bound)) x xs most)
    (told-most tells xs bound (All-tail (λ x. IfSome (tells x) (λ n. n ≤ bound)) x xs most))
  where
    one : (o : Option ℕ) → IfSome o (λ n. n ≤ bound) →
        All (λ n. n ≤ bound) (filter_map tells xs) → All (λ n. n ≤ bound) (cons_option o (filter_map tells xs))
    one None here others = others
    one (Some n) here others = All-cons (λ n. n ≤ bound) n (filter_map tells xs) here others

-- where what each tells is at most the bound, so is the greatest
pub greatest-within : {X : Type 0} (tells : X → Option ℕ) (xs : List X) (bound : ℕ) →
    All (λ x. IfSome (tells x) (λ n. n ≤ bound)) xs → IfSome (greatest_number (filter_map tells xs)) (λ n. n ≤ bound)
greatest-within tells xs bound most = greatest-most (filter_map tells xs) bound (told-most tells xs bound most)
