-- Numerals.
use Rattle.std.proofs.Common.{add-one, ◌≡◌, ◌∙◌, refl, ℕ, ◌+◌, ◌-◌, ◌*◌, ◌<◌, List, [], ◌∷◌, length, take, get_or, min, true, arith}
use Rattle.std.specs.Char.{is_ascii_digit}
use Rattle.std.specs.List.{list_all}
use Rattle.std.proofs.lemmas.List.Folds.{list_all_more}
use Rattle.std.proofs.lemmas.List.Sums.{fold-append}
use Rattle.std.proofs.Math.Seq.{take-suc}
use Rattle.eg_input.specs.Fields.{decimal_value}

-- a digit more
pub decimal_value-more : (text : List ℕ) (i d : ℕ) → i < length text → decimal_value (take (i + 1) text) ≡ 10 * decimal_value (take i text) + (get_or text i d - 48)
unfolding decimal_value
decimal_value-more text i d room = rw (add-one i, take-suc text i d room, fold-append (λ value digit. 10 * value + (digit - 48)) 0 (take i text) (get_or text i d ∷ [])) refl

pub digits-more : (text : List ℕ) (i d : ℕ) → i < length text → list_all is_ascii_digit (take i text) ≡ true → is_ascii_digit (get_or text i d) ≡ true
    → list_all is_ascii_digit (take (i + 1) text) ≡ true
digits-more text i d room before here = list_all_more is_ascii_digit text i d room ∙ rw (before, here) refl

-- and where numbers are told up to a limit
pub capped-more : (value whole digit more : ℕ) → value ≡ min 65536 whole → more ≡ min 65536 (10 * value + digit) → more ≡ min 65536 (10 * whole + digit)
capped-more value whole digit more is next = omega arith
