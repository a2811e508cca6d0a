-- The token is 2^k - 1 exactly if the modules 0 to k - 1 moved it, in their order.
use Rattle.std.proofs.Common.{◌≡◌, ◌≢◌, ℕ, zero, suc, ◌+◌, ◌-◌, ◌≤◌, ◌<◌, ◌^◌, Bool, true, false, nat_eq, List, [], ◌∷◌, refl, sym, ap, ◌∙◌, inl, inr, arith, add-one}
use Rattle.std.specs.Prelude.{All, if◌then◌else◌}
use Rattle.std.proofs.lemmas.Nat.{pow_pos, pow_below}
use Rattle.std.proofs.Math.Pow.{pow_mono}
use Rattle.std.proofs.lemmas.Bool.{cases_order, eqb-true, eq-eqb, ne_eqb, eqb-false}
use Rattle.std.proofs.lemmas.List.Elements.{All-head, All-tail}
use Rattle.eg_answer.specs.Modules.{modules_before_react, modules}
use Rattle.eg_answer.specs.Token.{next_token_of, token_after, TokenLaw}

-- the modules 0 to k - 1 in their order, newest first
unfoldable pub first_modules : ℕ → List ℕ
first_modules zero = []
first_modules (suc k) = k ∷ first_modules k

-- powers of 2 that are the same have the same exponent
pow_same : (i j : ℕ) → 2 ^ i ≡ 2 ^ j → i ≡ j
pow_same i j e = elim (cases_order i j) [
  | inl same ↦ same
  | inr (inl below) ↦ (let less = pow_below i j below in absurd (omega arith))
  | inr (inr above) ↦ (let less = pow_below j i above in absurd (omega arith))
]

-- numbers of only ones in binary that are the same are as long
ones_same : (i j : ℕ) → 2 ^ i - 1 ≡ 2 ^ j - 1 → i ≡ j
ones_same i j e = let a = pow_pos i in let b = pow_pos j in pow_same i j (omega arith)

-- a module whose turn it is adds its bit,
pub next_token_of-turn : (token number : ℕ) → token ≡ 2 ^ number - 1 → next_token_of token number ≡ 2 ^ (number + 1) - 1
unfolding next_token_of
next_token_of-turn token number e = ap (λ t. if t then 2 ^ (number + 1) - 1 else 32768) (eq-eqb token (2 ^ number - 1) e)

-- and any other loses the token
pub next_token_of-other : (token number : ℕ) → token ≢ 2 ^ number - 1 → next_token_of token number ≡ 32768
unfolding next_token_of
next_token_of-other token number e = ap (λ t. if t then 2 ^ (number + 1) - 1 else 32768) (ne_eqb token (2 ^ number - 1) e)

-- a move to the first k ones is that of the module k - 1 in its turn
moved_from : (token number k : ℕ) → k ≤ 8 → next_token_of token number ≡ 2 ^ k - 1 → (k ≡ suc number) × (token ≡ 2 ^ number - 1)
moved_from token number k within e = cases (nat_eq token (2 ^ number - 1)) refl
  where
    cases : (t : Bool) → nat_eq token (2 ^ number - 1) ≡ t → (k ≡ suc number) × (token ≡ 2 ^ number - 1)
    cases true t =
        let turn = eqb-true token (2 ^ number - 1) t in
        (sym (ones_same (number + 1) k (sym (next_token_of-turn token number turn) ∙ e)) ∙ add-one number, turn)
    cases false t =
        let lost = next_token_of-other token number (eqb-false token (2 ^ number - 1) t) in
        let small : 2 ^ k ≤ 256 = pow_mono within in
        absurd (omega arith)

-- the first k modules, in their order, leave 2^k - 1,
pub token_after-first_modules : (k : ℕ) → token_after (first_modules k) ≡ 2 ^ k - 1
unfolding token_after first_modules
token_after-first_modules zero = refl
token_after-first_modules (suc k) =
    next_token_of-turn (token_after (first_modules k)) k (token_after-first_modules k) ∙ ap (λ n. 2 ^ n - 1) (add-one k)

-- and no other modules do
pub first_modules_from : (numbers : List ℕ) (k : ℕ) → All (λ number. number < 8) numbers → k ≤ 8 → token_after numbers ≡ 2 ^ k - 1 → numbers ≡ first_modules k
unfolding token_after first_modules
first_modules_from [] k all within e = ap first_modules (ones_same 0 k e)
first_modules_from (number ∷ before) k all within e =
    let moved = moved_from (token_after before) number k within e in
    let small : number < 8 = All-head (λ number. number < 8) number before all in
    let rest = first_modules_from before number (All-tail (λ number. number < 8) number before all) (omega arith) moved.1 in
    ap (λ numbers. number ∷ numbers) rest ∙ ap first_modules (sym moved.0)

pub token_law : TokenLaw
unfolding first_modules modules_before_react modules
token_law numbers all = (λ e. first_modules_from numbers 8 all (omega arith) e, λ e. ap token_after e ∙ token_after-first_modules 8)
