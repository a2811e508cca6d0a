-- Columns that are put from the last to the first.
use Rattle.std.proofs.Common.{◌≡◌, ◌∙◌, ◌++◌, ◌+◌, ◌<◌, List, ℕ, refl, sym, ap, append_assoc, take, drop, length, get_or, ◌-◌, arith}
use Rattle.std.specs.Prelude.{codes, decimal}
use Rattle.std.proofs.lemmas.List.{length-drop, take_all, drop_more}
use Rattle.eg_record.specs.Texts.{numbers_text}

-- the number at a place, and those behind it
pub numbers-step : (numbers : List ℕ) (i j d : ℕ) → j ≡ i + 1 → i < length numbers
    → numbers_text (drop i numbers) ≡ (decimal (get_or numbers i d) ++ codes ",") ++ numbers_text (drop j numbers)
unfolding numbers_text
numbers-step numbers i j d next below = rw (drop_more numbers i d below, next) refl

-- a line that is put from the last number to the first goes on by one
pub numbers-more : (numbers : List ℕ) (i j d : ℕ) (tail line new : List ℕ) → j ≡ i + 1 → i < length numbers → line ≡ numbers_text (drop j numbers) ++ tail
    → new ≡ (decimal (get_or numbers i d) ++ codes ",") ++ line → new ≡ numbers_text (drop i numbers) ++ tail
numbers-more numbers i j d tail line new next below before now =
    let first = decimal (get_or numbers i d) ++ codes "," in
    now
    ∙ ap (λ (t : List ℕ). first ++ t) before
    ∙ sym (append_assoc first (numbers_text (drop j numbers)) tail)
    ∙ ap (λ (t : List ℕ). t ++ tail) (sym (numbers-step numbers i j d next below))

-- the bytes from a place on, all of them
pub rest-whole : (n start : ℕ) (line : List ℕ) → length line ≡ n → take (n - start) (drop start line) ≡ drop start line
rest-whole n start line long =
    let left = length-drop start line in
    take_all (n - start) (drop start line) (omega (arith, left, long))
