-- Two lists that are gone through side by side.
use Rattle.std.proofs.Common.{◌≡◌, ◌⊎◌, inl, inr, refl, ap₂, List, [], ◌∷◌, length, arith}
use Rattle.std.specs.List.{zip}

-- one pair more is taken
pub zip-next : {A B : Type 0} (xs : List A) (ys : List B) (x : A) (y : B) (rest : List A) (others : List B) →
    xs ≡ x ∷ rest → ys ≡ y ∷ others → zip xs ys ≡ (x, y) ∷ zip rest others
zip-next xs ys x y rest others first second = ap₂ zip first second

-- none is left
pub zip-end : {A B : Type 0} (xs : List A) (ys : List B) → (length xs ≡ 0) ⊎ (length ys ≡ 0) → zip xs ys ≡ []
zip-end [] ys none = refl
zip-end (x ∷ xs) [] none = refl
zip-end (x ∷ xs) (y ∷ ys) (inl none) = absurd (omega arith)
zip-end (x ∷ xs) (y ∷ ys) (inr none) = absurd (omega arith)
