-- Debouncing (C9) in the order of time: the first feed of a list stands at place 0. The rule is that of
-- `Windows`, whose lists stand newest first.
use Rattle.std.specs.Prelude.{◌≡◌, ◌⊎◌, ◌↔◌, ℕ, ◌+◌, ◌*◌, ◌≤◌, ◌<◌, Bool, not, IsTrue, List, length, take, reverse, slice_range, count_by, Option, MatchOption}
use Rattle.eg_num.specs.Windows.{WeightParts, AreWeights, is_reached, is_confirmed, is_first, first_index}
use Rattle.eg_num.specs.Counting.{fed_all}

-- C9: the window of places a to b weighs at least n
abbrev pub WeighsAtLeast : WeightParts → List Bool → ℕ → ℕ → ℕ → Type 0
WeighsAtLeast w bits a b n =
    let window = slice_range bits a (b + 1) in
    n + w.down * count_by not window ≤ w.up * count_by (λ bad. bad) window

-- C9: the limit is reached at place t
abbrev pub IsReachedAt : WeightParts → List Bool → ℕ → Type 0
IsReachedAt w bits t = (t < length bits) × (a : ℕ) × (a ≤ t) × WeighsAtLeast w bits a t w.limit

-- C9: the bad bit is confirmed by place t
abbrev pub IsConfirmedBy : WeightParts → List Bool → ℕ → Type 0
IsConfirmedBy w bits t = (s : ℕ) × (s ≤ t) × IsReachedAt w bits s

-- t is the least place at which the limit is reached
pub record IsFirstAt (w : WeightParts) (bits : List Bool) (t : ℕ) : Type 0 where
  pub reached : IsReachedAt w bits t
  pub least : (s : ℕ) → s < t → ¬ IsReachedAt w bits s

-- the least place at which the limit is reached, or none
abbrev pub IsFirst : WeightParts → List Bool → Option ℕ → Type 0
IsFirst w bits first = MatchOption first ((t : ℕ) → ¬ IsReachedAt w bits t) (IsFirstAt w bits)

-- n is the greatest weight of a window that ends at place t, the empty window weighing 0
pub record IsGreatestAt (w : WeightParts) (bits : List Bool) (t n : ℕ) : Type 0 where
  pub none_above : (a : ℕ) → a ≤ t → ¬ WeighsAtLeast w bits a t (n + 1)
  pub some_window : (n ≡ 0) ⊎ ((a : ℕ) × (a ≤ t) × WeighsAtLeast w bits a t n)

-- the feeds up to place t, newest first
abbrev pub up_to : ℕ → List Bool → List Bool
up_to t bits = reverse (take (t + 1) bits)

-- at place t the definitions of `Windows`, and a counter fed from 0 up to t, say what the rule by places says
pub record AgreeAt (w : WeightParts) (bits : List Bool) (t : ℕ) : Type 0 where
  pub reached : IsTrue (is_reached w (up_to t bits)) ↔ IsReachedAt w bits t
  pub confirmed : IsTrue (is_confirmed w (up_to t bits)) ↔ IsConfirmedBy w bits t
  pub first : IsTrue (is_first w (up_to t bits)) ↔ IsFirstAt w bits t
  pub counter_before : ¬ IsConfirmedBy w bits t → IsGreatestAt w bits t (fed_all w (up_to t bits))
  pub counter_after : IsConfirmedBy w bits t → fed_all w (up_to t bits) ≡ w.limit

-- they agree at every place, and `first_index` is the least place
pub record Agree (w : WeightParts) (bits : List Bool) : Type 0 where
  pub each : (t : ℕ) → t < length bits → AgreeAt w bits t
  pub least : IsFirst w bits (first_index w (reverse bits))
  pub one : (first : Option ℕ) → IsFirst w bits first → first ≡ first_index w (reverse bits)

-- The law: the rules agree for all weights and all lists.
abbrev pub PlaceLaw : Type 0
PlaceLaw = (w : WeightParts) → AreWeights w → (bits : List Bool) → Agree w bits
