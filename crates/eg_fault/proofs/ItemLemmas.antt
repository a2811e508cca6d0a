-- Items that are written one after another.
use Rattle.std.proofs.Common.{◌≡◌, ◌∙◌, ◌<◌, ◌≤◌, ◌+◌, sym, ap, ℕ, List, [], ◌∷◌, ◌++◌, map, take, length, get_or, append_assoc, add-one}
use Rattle.std.specs.List.{concat}
use Rattle.std.proofs.Math.Seq.{take-suc}
use Rattle.std.proofs.lemmas.List.{append-nil, map-append, take_all}
use Rattle.std.proofs.lemmas.List.Folds.{concat-append}

module _ {X : Type 0} (item : X → List ℕ) (before : List ℕ) (xs : List X) where
  pub none_yet : before ≡ before ++ concat (map item (take 0 xs))
  none_yet = sym (append-nil before)

  one_more : (i : ℕ) (d : X) → i < length xs →
      concat (map item (take (i + 1) xs)) ≡ concat (map item (take i xs)) ++ item (get_or xs i d)
  one_more i d below = rw (add-one i, take-suc xs i d below)
      (ap concat (map-append item (take i xs) (get_or xs i d ∷ []))
      ∙ concat-append (map item (take i xs)) (item (get_or xs i d) ∷ [])
      ∙ ap (λ last. concat (map item (take i xs)) ++ last) (append-nil (item (get_or xs i d))))

  -- one item more
  pub next : (i : ℕ) (d : X) (now later : List ℕ) → i < length xs →
      now ≡ before ++ concat (map item (take i xs)) → later ≡ now ++ item (get_or xs i d) →
      later ≡ before ++ concat (map item (take (i + 1) xs))
  next i d now later below so more = more ∙ ap (λ text. text ++ item (get_or xs i d)) so
      ∙ append_assoc before (concat (map item (take i xs))) (item (get_or xs i d))
      ∙ ap (λ items. before ++ items) (sym (one_more i d below))

  -- and all of them
  pub all : (i : ℕ) (now : List ℕ) → length xs ≤ i → now ≡ before ++ concat (map item (take i xs)) →
      now ≡ before ++ concat (map item xs)
  all i now past so = so ∙ ap (λ ys. before ++ concat (map item ys)) (take_all i xs past)
