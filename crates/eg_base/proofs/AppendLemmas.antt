-- Pieces that are put one after another.
use Rattle.std.proofs.Common.{◌≡◌, ◌∙◌, ◌++◌, ◌∷◌, [], ◌+◌, ◌<◌, ◌≤◌, List, ℕ, Option, Some, None, take, drop, map, length, refl, sym, ap}
use Rattle.std.proofs.Common.{suc, get_or, append_assoc, append-nil, add-one, arith}
use Rattle.std.specs.Prelude.{option_map}
use Rattle.std.specs.List.{concat}
use Rattle.std.proofs.Math.Seq.{drop-cons, take-suc}
use Rattle.std.proofs.lemmas.List.{take-append-drop, map-append}
use Rattle.std.proofs.lemmas.List.Folds.{concat-append}
use Rattle.std.specs.Prelude.{IsErrOf, Err}
use Rattle.eg_base.specs.declared.sink.PutRefusal.{PutRefusal}
use Rattle.eg_base.specs.declared.sink.PutRefusal.TheVariants.{Failed, Memory}
use Rattle.eg_base.specs.Outside.{ShownSink, Rose, Appends, AppendsPrefix}

appended : (before : Option (List ℕ)) (x y : List ℕ) → option_map (λ old. old ++ y) (option_map (λ old. old ++ x) before) ≡ option_map (λ old. old ++ (x ++ y)) before
appended None x y = refl
appended (Some old) x y = ap (λ new. Some new) (append_assoc old x y)

-- one put after another
pub Appends-append : (before mid now : ShownSink) (x y : List ℕ) → Appends before mid x → Appends mid now y → Appends before now (x ++ y)
Appends-append before mid now x y first second = second ∙ ap (option_map (λ old. old ++ y)) first ∙ appended before.written x y

-- before the first piece nothing was put
pub Appends-nil : (shown : ShownSink) → Appends shown shown []
Appends-nil shown = none shown.written
  where
    none : (written : Option (List ℕ)) → written ≡ option_map (λ old. old ++ []) written
    none None = refl
    none (Some old) = ap (λ new. Some new) (sym (append-nil old))

-- a front of a piece, after whole pieces, is a front of all
pub AppendsPrefix-append : (before mid now : ShownSink) (whole piece rest : List ℕ) → Appends before mid whole →
    AppendsPrefix mid now piece → AppendsPrefix before now ((whole ++ piece) ++ rest)
AppendsPrefix-append before mid now whole piece rest p (front, back, split, q) =
    (whole ++ front, back ++ rest, rw split (simp append_assoc), Appends-append before mid now whole front p q)

-- the pieces up to one, that one, and those after it
pub concat-cut : {X : Type 0} (f : X → List ℕ) (xs : List X) (i : ℕ) (d : X) → i < length xs →
    concat (map f xs) ≡ (concat (map f (take i xs)) ++ f (get_or xs i d)) ++ concat (map f (drop (suc i) xs))
concat-cut f xs i d below =
    let parts : take i xs ++ (get_or xs i d ∷ drop (suc i) xs) ≡ xs = ap (λ ys. take i xs ++ ys) (sym (drop-cons xs i d below)) ∙ take-append-drop i xs in
    sym (ap (λ ys. concat (map f ys)) parts)
    ∙ ap concat (map-append f (take i xs) (get_or xs i d ∷ drop (suc i) xs))
    ∙ concat-append (map f (take i xs)) (f (get_or xs i d) ∷ map f (drop (suc i) xs))
    ∙ sym (append_assoc (concat (map f (take i xs))) (f (get_or xs i d)) (concat (map f (drop (suc i) xs))))

-- one piece more
pub concat-take_more : {X : Type 0} (f : X → List ℕ) (xs : List X) (i : ℕ) (d : X) → i < length xs →
    concat (map f (take (i + 1) xs)) ≡ concat (map f (take i xs)) ++ f (get_or xs i d)
concat-take_more f xs i d below =
    rw (add-one i, take-suc xs i d below)
    (ap concat (map-append f (take i xs) (get_or xs i d ∷ []))
    ∙ concat-append (map f (take i xs)) (f (get_or xs i d) ∷ [])
    ∙ ap (λ ys. concat (map f (take i xs)) ++ ys) (append-nil (f (get_or xs i d))))

-- a refusal that isn't Memory is a fault
pub fault_of_refusal : (Fault : Type 0) (refusal : PutRefusal) →
    (IsErrOf {T = Unit {0}} (Err refusal) Failed → Fault) → ¬ IsErrOf {T = Unit {0}} (Err refusal) Memory → Fault
fault_of_refusal Fault Failed cause sure = cause refl
fault_of_refusal Fault Memory cause sure = absurd (sure refl)

-- a count that rose later rose since an earlier moment
pub Rose-earlier : (before mid now : ℕ) → before ≤ mid → Rose mid now → Rose before now
Rose-earlier before mid now later rose = omega arith
