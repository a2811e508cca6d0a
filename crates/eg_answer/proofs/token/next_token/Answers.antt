use Rattle.std.proofs.Common.{◌≡◌, ℕ, ◌+◌, ◌-◌, ◌*◌, ◌%◌, ◌^◌, ◌≤◌, ◌<◌, sym, ap, ◌∙◌, arith, add-one}
use Rattle.std.proofs.Math.Nat.{pow-succ'}
use Rattle.std.proofs.Math.Pow.{pow_mono}
use Rattle.std.proofs.lemmas.Nat.{pow_pos}
use Rattle.eg_answer.proofs.TokenLemmas.{next_token_of-turn, next_token_of-other}
use Rattle.eg_answer.proofs.token.next_token.Goals as goal

-- a module's bit is a word, so the code computes the ones below it,
ones-code : (number : ℕ) → number < 8 → 1 * 2 ^ number % 65536 - 1 ≡ 2 ^ number - 1
ones-code number h =
    let within : number ≤ 7 = omega arith in
    let small : 2 ^ number ≤ 128 = pow_mono within in
    omega arith

-- and with one bit more the ones up to it
ones-next : (number : ℕ) → 2 * (2 ^ number - 1) + 1 ≡ 2 ^ (number + 1) - 1
ones-next number =
    let next : 2 ^ (number + 1) ≡ 2 * 2 ^ number = ap (λ n. 2 ^ n) (add-one number) ∙ pow-succ' 2 number in
    let positive = pow_pos number in
    omega arith

pub returns-then-token-before : goal.returns-then-token-before
returns-then-token-before c =
    ap (λ n. 2 * n + 1) (ones-code c.args.number c.requires) ∙ ones-next c.args.number
    ∙ sym (next_token_of-turn c.args.token c.args.number (c.if-token-before.true ∙ ones-code c.args.number c.requires))

pub returns-else-token-before : goal.returns-else-token-before
returns-else-token-before c =
    sym (next_token_of-other c.args.token c.args.number (λ e. c.if-token-before.false (e ∙ sym (ones-code c.args.number c.requires))))
