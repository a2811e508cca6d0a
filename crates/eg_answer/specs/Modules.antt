-- The eight modules of level 2, by their numbers from 0 on (C24), and what is said of those that run at a
-- tick and of those that are disturbed.
use Rattle.std.specs.Prelude.{ℕ, ◌≡◌, ◌^◌, ◌≤◌, ◌<◌, ◌==◌, ◌⊎◌, Bool, true, false, not, List, [], ◌∷◌, ◌++◌, if◌then◌else◌}
use Rattle.eg_answer.specs.declared.modules.TheConstants.{CHECK, PEDAL, PERMITTED, ACTUAL, EXCESS, PAIRS, DEBOUNCE, REACT}

-- those before react
unfoldable pub modules_before_react : List ℕ
modules_before_react = CHECK ∷ PEDAL ∷ PERMITTED ∷ ACTUAL ∷ EXCESS ∷ PAIRS ∷ DEBOUNCE ∷ []

-- all eight
unfoldable pub modules : List ℕ
modules = modules_before_react ++ REACT ∷ []

-- ---- which of them run at a tick ----

-- all of them, if `ran i` says whether module i runs; none; or all but one
abbrev pub AllRun : (ran : ℕ → Bool) → Type 0
AllRun ran = (i : ℕ) → ran i ≡ true

abbrev pub NoneRuns : (ran : ℕ → Bool) → Type 0
NoneRuns ran = (i : ℕ) → ran i ≡ false

abbrev pub OthersRun : ℕ → (ran : ℕ → Bool) → Type 0
OthersRun one ran = (i : ℕ) → ran i ≡ not (i == one)

-- ---- which of them are disturbed at a tick ----

-- none of them, if module i mixes in `disturbance i`
abbrev pub NoneIsDisturbed : (disturbance : ℕ → ℕ) → Type 0
NoneIsDisturbed disturbance = (i : ℕ) → disturbance i ≡ 0

-- one of the modules 1 to 5, by some of the 16 bits, and no other
pub record OneIsDisturbed (disturbance : ℕ → ℕ) : Type 0 where
  pub one : ℕ
  pub mask : ℕ
  pub from_1 : PEDAL ≤ one
  pub to_5 : one ≤ PAIRS
  pub some : 1 ≤ mask
  pub word : mask < 2 ^ 16
  pub alone : (i : ℕ) → disturbance i ≡ (if i == one then mask else 0)

abbrev pub AtMostOneIsDisturbed : (disturbance : ℕ → ℕ) → Type 0
AtMostOneIsDisturbed disturbance = NoneIsDisturbed disturbance ⊎ OneIsDisturbed disturbance
