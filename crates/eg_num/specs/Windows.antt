-- Debouncing (C9) by windows. A list of feeds has a bit for each feed, true for a bad one, and stands newest
-- first: its head is the last feed. A window that ends at the last feed is a prefix of the list. There is no
-- counter here: `Counting` says what a counter keeps of this, and `Places` says the same in the order of
-- time.
use Rattle.std.specs.Prelude.{ℕ, ◌*◌, ◌-◌, ◌≤◌, Bool, false, not, ◌&&◌, ◌||◌, nat_le, List, [], ◌∷◌, length, map, max, count_by, Option, Some, None, if◌then◌else◌}
use Rattle.std.specs.List.{list_any}

-- C9
pub record WeightParts : Type 0 where
  pub up : ℕ
  pub down : ℕ
  pub limit : ℕ

-- C9
abbrev pub AreWeights : WeightParts → Type 0
AreWeights w = (1 ≤ w.up) × (w.up ≤ 100) × (w.down ≤ 100) × (1 ≤ w.limit) × (w.limit ≤ 10000)

-- C9; 0, if that would be less than 0
unfoldable pub weight : WeightParts → List Bool → ℕ
weight w window = w.up * count_by (λ bad. bad) window - w.down * count_by not window

-- the windows that end at the last feed, each of at least one feed
unfoldable pub windows : List Bool → List (List Bool)
windows [] = []
windows (bad ∷ before) = (bad ∷ []) ∷ map (λ window. bad ∷ window) (windows before)

-- C9
unfoldable pub is_reached : WeightParts → List Bool → Bool
is_reached w bits = list_any (λ window. nat_le w.limit (weight w window)) (windows bits)

-- C9
unfoldable pub is_confirmed : WeightParts → List Bool → Bool
is_confirmed w [] = false
is_confirmed w (bad ∷ before) = is_reached w (bad ∷ before) || is_confirmed w before

-- C9: the last feed is the first at which the limit was reached
unfoldable pub is_first : WeightParts → List Bool → Bool
is_first w [] = false
is_first w (bad ∷ before) = is_reached w (bad ∷ before) && not (is_confirmed w before)

-- C9: the number of the first feed at which the limit was reached, the oldest feed being 0, or none
unfoldable pub first_index : WeightParts → List Bool → Option ℕ
first_index w [] = None
first_index w (bad ∷ before) =
    if is_first w (bad ∷ before) then Some (length before) else first_index w before

-- the greatest of some numbers, or 0 if there are none
unfoldable pub greatest_of : List ℕ → ℕ
greatest_of [] = 0
greatest_of (n ∷ ns) = max n (greatest_of ns)

-- the greatest weight of a window that ends at the last feed, the empty window weighing 0
unfoldable pub greatest : WeightParts → List Bool → ℕ
greatest w bits = greatest_of (map (weight w) (windows bits))
