-- What is read of a file that was opened.
use Rattle.std.proofs.Common.{◌≡◌, ℕ, ◌≤◌, List, ◌++◌, length, take, arith, subst, sym, refl, true, false}
use Rattle.std.specs.Prelude.{Option, Some, None, IfSome, IsSomeAnd, Result, Ok, Err, OnOk}
use Rattle.std.proofs.lemmas.List.{length-take}
use Rattle.eg_base.specs.Outside.{Files, Reads}
use Rattle.eg_base.specs.Openers.{IsOpened}

-- the first `most` bytes of a list are at most `most`
taken : (most : ℕ) (bytes : List ℕ) → length (take most bytes) ≤ most
taken most bytes = let e = length-take most bytes in omega arith

first_bytes : (files : Option Files) (name : List ℕ) (most : ℕ) (old new : List ℕ) (left : Option (List ℕ)) → IsOpened files name left
    → (bytes : List ℕ) × (new ≡ old ++ bytes) × (length bytes ≤ most) → IfSome left (λ bytes. new ≡ old ++ take most bytes)
    → Reads files name most old new
first_bytes None name most old new left opened (bytes, e, few) first = (bytes, e, (few, tt))
first_bytes (Some m) name most old new None opened some first = absurd (let clash : false ≡ true = opened.1 in cc)
first_bytes (Some m) name most old new (Some bytes) opened some first =
    (take most bytes, first, (taken most bytes, subst (λ (found : Option (List ℕ)). IsSomeAnd found (λ file. take most bytes ≡ take most file)) (sym opened.0) refl))

pub reads_opened : {T E : Type 0} (result : Result T E) (files : Option Files) (name : List ℕ) (most : ℕ) (old new : List ℕ) (left : Option (List ℕ))
    → IsOpened files name left → OnOk result ((bytes : List ℕ) × (new ≡ old ++ bytes) × (length bytes ≤ most))
    → OnOk result (IfSome left (λ bytes. new ≡ old ++ take most bytes)) → OnOk result (Reads files name most old new)
reads_opened (Ok x) files name most old new left opened some first = first_bytes files name most old new left opened some first
reads_opened (Err x) files name most old new left opened some first = tt

pub ruleset opened = (reads_opened)
