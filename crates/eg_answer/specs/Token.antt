-- The token of the program flow check: in a tick the eight modules of level 2 move it one after another, from
-- 0 on. In the end it is 255 exactly if all eight moved it, in their order.
use Rattle.std.specs.Prelude.{◌≡◌, ◌↔◌, ℕ, ◌+◌, ◌-◌, ◌<◌, ◌^◌, ◌==◌, List, [], ◌∷◌, All, reverse, if◌then◌else◌}
use Rattle.eg_answer.specs.declared.modules.TheConstants.{MODULES}
use Rattle.eg_answer.specs.Modules.{modules}

-- the token as the module of this number leaves it: where all bits below the module's own are set, and no
-- others, its own is added; any other token is lost
unfoldable pub next_token_of : ℕ → ℕ → ℕ
next_token_of token number = if token == 2 ^ number - 1 then 2 ^ (number + 1) - 1 else 32768

-- from 0 on, moved by these modules, newest first
unfoldable pub token_after : List ℕ → ℕ
token_after [] = 0
token_after (number ∷ before) = next_token_of (token_after before) number

-- The law: whichever modules moved it, it is 255 exactly if they are all eight in their order.
abbrev pub TokenLaw : Type 0
TokenLaw = (numbers : List ℕ) → All (λ number. number < MODULES) numbers →
    (token_after numbers ≡ 255) ↔ (numbers ≡ reverse modules)
