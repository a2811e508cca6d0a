-- The numbers of a line, one after another.
use Rattle.std.proofs.Common.{◌≡◌, ◌∙◌, sym, ap, refl, ℕ, zero, suc, ◌+◌, ◌-◌, ◌<◌, List, [], ◌∷◌, ◌++◌, arith, Option, Some, None, append_assoc}
use Rattle.std.specs.Prelude.{option_map, option_and_then}
use Rattle.eg_input.specs.Fields.{number_of}
use Rattle.eg_input.specs.Recording.{first_number, numbers_of}

-- the numbers of a line of n fields are those of the first i, which were read, and those of the text behind
abbrev pub HasRead : ℕ → List ℕ → ℕ → List ℕ → List ℕ → Type 0
HasRead n line i done text = numbers_of n line ≡ option_map (λ more. done ++ more) (numbers_of (n - i) text)

-- from here on, where k fields more are left
with_fields : (n : ℕ) (line : List ℕ) (i : ℕ) (done text : List ℕ) (k : ℕ) → HasRead n line i done text → n - i ≡ k → numbers_of n line ≡ option_map (λ more. done ++ more) (numbers_of k text)
with_fields n line i done text k h left = h ∙ ap (λ k. option_map (λ more. done ++ more) (numbers_of k text)) left

-- the number that was found is one of those that were read
found : (k : ℕ) (done text : List ℕ) (number : ℕ) (rest : List ℕ) → Some (number, rest) ≡ first_number 65535 text
    → option_map (λ more. done ++ more) (numbers_of (suc (suc k)) text) ≡ option_map (λ more. (done ++ number ∷ []) ++ more) (numbers_of (suc k) rest)
unfolding numbers_of
found k done text number rest said = rw (sym said) (both (numbers_of (suc k) rest))
  where
    both : (o : Option (List ℕ))
        → option_map (λ more. done ++ more) (option_and_then (λ numbers. Some (number ∷ numbers)) o) ≡ option_map (λ more. (done ++ number ∷ []) ++ more) o
    both None = refl
    both (Some more) = ap Some (sym (append_assoc done (number ∷ []) more))

pub step : (n : ℕ) (line : List ℕ) (i : ℕ) (done text : List ℕ) (number : ℕ) (rest : List ℕ) → HasRead n line i done text → i + 1 < n
    → Some (number, rest) ≡ first_number 65535 text → HasRead n line (i + 1) (done ++ number ∷ []) rest
step n line i done text number rest h more said =
    let one : suc (n - (i + 2)) ≡ n - (i + 1) = omega arith in
    with_fields n line i done text (suc (suc (n - (i + 2)))) h (omega arith) ∙ found (n - (i + 2)) done text number rest said
    ∙ ap (λ k. option_map (λ more. (done ++ number ∷ []) ++ more) (numbers_of k rest)) one

pub spoiled : (n : ℕ) (line : List ℕ) (i : ℕ) (done text : List ℕ) → HasRead n line i done text → i + 1 < n → None ≡ first_number 65535 text → numbers_of n line ≡ None
unfolding numbers_of
spoiled n line i done text h more said = with_fields n line i done text (suc (suc (n - (i + 2)))) h (omega arith) ∙ rw (sym said) refl

-- from the last field
pub ended : (n : ℕ) (line : List ℕ) (i : ℕ) (done text : List ℕ) → HasRead n line i done text → i + 1 ≡ n → numbers_of n line ≡ option_map (λ number. done ++ number ∷ []) (number_of 65535 text)
unfolding numbers_of
ended n line i done text h last = with_fields n line i done text (suc zero) h (omega arith) ∙ alone (number_of 65535 text)
  where
    alone : (o : Option ℕ) → option_map (λ more. done ++ more) (option_and_then (λ number. Some (number ∷ [])) o) ≡ option_map (λ number. done ++ number ∷ []) o
    alone None = refl
    alone (Some number) = refl

-- no line has no field
pub numbers_of-none : (line : List ℕ) → numbers_of 0 line ≡ None
unfolding numbers_of
numbers_of-none line = refl
