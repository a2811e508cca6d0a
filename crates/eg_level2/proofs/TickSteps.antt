-- What a tick makes of the token, the flow, the last tick and the fold, module by module.
use Rattle.std.proofs.Common.{◌≡◌, ℕ, zero, suc, ◌+◌, ◌-◌, ◌^◌, ◌≤◌, ◌<◌, ◌⊎◌, inl, inr, Bool, true, false, ◌&&◌, refl, sym, ap, subst, ◌∙◌, take, get_or, arith, add-one}
use Rattle.std.specs.Prelude.{if◌then◌else◌, ◌==◌}
use Rattle.std.specs.List.{list_all}
use Rattle.std.proofs.lemmas.List.Folds.{list_all_more}
use Rattle.std.proofs.lemmas.List.FromFn.{get_or-range_with_len}
use Rattle.std.proofs.lemmas.Nat.{pow_pos, pow_below}
use Rattle.std.proofs.Math.Pow.{pow_mono}
use Rattle.eg_answer.specs.Token.{next_token_of}
use Rattle.eg_answer.proofs.TokenLemmas.{next_token_of-turn, next_token_of-other}
use Rattle.eg_level2.specs.Words.{Words}
use Rattle.eg_level2.specs.Modules.{check_step, pedal_step, permitted_step, actual_step, excess_step, pairs_step, debounce_step, module_step}
use Rattle.eg_level2.specs.Ticks.{Doing, after_module, after_modules}
use Rattle.eg_answer.specs.Modules.{modules_before_react}
use Rattle.eg_level2.specs.FlowLaws.{TokenTells}

-- a part of one of two words is one of two parts
pub part : {A B : Type 0} (f : A → B) (b : Bool) (x y : A) → f (if b then x else y) ≡ (if b then f x else f y)
part f true x y = refl
part f false x y = refl

-- ---- the token ----

-- module i moves it where it runs
unfoldable pub moved : Bool → ℕ → ℕ → ℕ
moved runs i token = if runs then next_token_of token i else token

-- the first n modules, from `token` on
unfoldable pub chain : (ℕ → Bool) → ℕ → ℕ → ℕ
chain ran zero token = token
chain ran (suc i) token = moved (ran i) i (chain ran i token)

token_step : (d : Doing) (i : ℕ) (w : Words) → d.differs ≡ false → i < 7 → (after_module d i w).token ≡ moved (d.ran i) i w.token
unfolding after_module module_step check_step pedal_step permitted_step actual_step excess_step pairs_step debounce_step moved
token_step d zero w e h = rw e (part (λ (w : Words). w.token) (d.ran 0) _ w)
token_step d (suc zero) w e h = part (λ (w : Words). w.token) (d.ran 1) _ w
token_step d (suc (suc zero)) w e h = part (λ (w : Words). w.token) (d.ran 2) _ w
token_step d (suc (suc (suc zero))) w e h = part (λ (w : Words). w.token) (d.ran 3) _ w
token_step d (suc (suc (suc (suc zero)))) w e h = part (λ (w : Words). w.token) (d.ran 4) _ w
token_step d (suc (suc (suc (suc (suc zero))))) w e h = part (λ (w : Words). w.token) (d.ran 5) _ w
token_step d (suc (suc (suc (suc (suc (suc zero)))))) w e h = part (λ (w : Words). w.token) (d.ran 6) _ w
token_step d (suc (suc (suc (suc (suc (suc (suc i))))))) w e h = absurd (omega arith)

pub token-chain : (d : Doing) (w : Words) (n : ℕ) → d.differs ≡ false → n ≤ 7 → (after_modules d n w).token ≡ chain d.ran n w.token
unfolding after_modules chain
token-chain d w zero e h = refl
token-chain d w (suc i) e h = token_step d i (after_modules d i w) e (omega arith) ∙ ap (moved (d.ran i) i) (token-chain d w i e (omega arith))

-- a token that can't become 2^n - 1 any more: it is lost, or it lies behind
Behind : ℕ → ℕ → Type 0
Behind n token = (token ≡ 32768) ⊎ (token + 1 < 2 ^ n)

behind_step : (i token : ℕ) (runs : Bool) → i ≤ 7 → Behind i token → Behind (suc i) (moved runs i token)
unfolding Behind moved
behind_step i token true h (inl lost) = inl (next_token_of-other token i (λ e. let small : 2 ^ i ≤ 128 = pow_mono h in omega arith))
behind_step i token true h (inr less) = inl (next_token_of-other token i (λ e. omega arith))
behind_step i token false h (inl lost) = inl lost
behind_step i token false h (inr less) = let more = pow_below i (suc i) (omega arith) in inr (omega arith)

-- the first n modules, from 0 on: each ran and the token is 2^n - 1, or one didn't and it lies behind
abbrev first_ran : (ℕ → Bool) → ℕ → Bool
first_ran ran n = list_all (λ i. ran i) (take n modules_before_react)

pub before-is : (i : ℕ) → i < 7 → get_or modules_before_react i 0 ≡ i
unfolding modules_before_react
before-is i h = get_or-range_with_len 0 7 i 0 h ∙ (omega arith)

Told : Bool → ℕ → ℕ → Type 0
Told true n token = token ≡ 2 ^ n - 1
Told false n token = Behind n token

told_step : (all runs : Bool) (i token : ℕ) → i ≤ 7 → Told all i token → Told (all && runs) (suc i) (moved runs i token)
unfolding Told
told_step true true i token h e = unfold moved in next_token_of-turn token i e ∙ ap (λ n. 2 ^ n - 1) (add-one i)
told_step true false i token h e = unfold moved Behind in let more = pow_below i (suc i) (omega arith) in let some = pow_pos i in inr (omega arith)
told_step false runs i token h b = behind_step i token runs h b

chain-told : (ran : ℕ → Bool) (n : ℕ) → n ≤ 7 → Told (first_ran ran n) n (chain ran n 0)
unfolding chain
chain-told ran zero h = unfold Told in refl
chain-told ran (suc i) h =
    let within : i < 7 = omega arith in
    let more : first_ran ran (suc i) ≡ (first_ran ran i && ran i) = ap (first_ran ran) (sym (add-one i)) ∙ list_all_more (λ i. ran i) modules_before_react i 0 (unfold modules_before_react in within)
    ∙ ap (λ k. first_ran ran i && ran k) (before-is i within) in
    subst (λ all. Told all (suc i) (chain ran (suc i) 0)) (sym more) (told_step (first_ran ran i) (ran i) i (chain ran i 0) (omega arith) (chain-told ran i (omega arith)))

whole_told : (all : Bool) (token : ℕ) → Told all 7 token → (next_token_of token 7 == 255) ≡ all
unfolding Told Behind
whole_told true token e = ap (λ t. next_token_of t 7 == 255) e ∙ unfold next_token_of in refl
whole_told false token (inl lost) = ap (λ t. next_token_of t 7 == 255) lost ∙ unfold next_token_of in refl
whole_told false token (inr less) = ap (λ t. t == 255) (next_token_of-other token 7 (λ e. omega arith))

pub token_tells : TokenTells
unfolding modules_before_react
token_tells d w e z =
    ap (λ t. next_token_of t 7 == 255) (token-chain d w 7 e (omega arith) ∙ ap (chain d.ran 7) z)
    ∙ whole_told (first_ran d.ran 7) (chain d.ran 7 0) (chain-told d.ran 7 (omega arith))
