-- Debouncing on small lists, computed from the definitions. The lists here stand in the order of time.
use Rattle.std.proofs.Common.{◌≡◌, ℕ, Bool, true, false, List, [], ◌∷◌, ◌++◌, map, reverse, refl}
use Rattle.std.specs.Prelude.{Option, Some, None}
use Rattle.eg_num.specs.Windows.{WeightParts, weight, windows, is_reached, is_confirmed, is_first, first_index, greatest, greatest_of}
use Rattle.eg_num.specs.Counting.{fed, fed_all, counted}
use Rattle.eg_num.specs.Places.{up_to}

-- every definition of debouncing
unfoldable debouncing : ℕ
unfolding weight windows is_reached is_confirmed is_first first_index greatest_of greatest fed fed_all counted
debouncing = 0

abbrev weights : ℕ → ℕ → ℕ → WeightParts
weights up down limit = record { up = up; down = down; limit = limit }

-- the first place of a list in the order of time
abbrev first_in : WeightParts → List Bool → Option ℕ
unfolding debouncing
first_in w bits = first_index w (reverse bits)

-- what a counter shows at the first seven places
abbrev shown : WeightParts → List Bool → List ℕ
unfolding debouncing
shown w bits = map (λ t. fed_all w (up_to t bits)) (0 ∷ 1 ∷ 2 ∷ 3 ∷ 4 ∷ 5 ∷ 6 ∷ [])

-- four bad feeds, a good one, and two bad ones
abbrev broken : List Bool
broken = true ∷ true ∷ true ∷ true ∷ false ∷ true ∷ true ∷ []

abbrev five_bad : List Bool
five_bad = true ∷ true ∷ true ∷ true ∷ true ∷ []

abbrev five_good : List Bool
five_good = false ∷ false ∷ false ∷ false ∷ false ∷ []

-- a good feed puts the confirmation off, and doesn't begin it anew
first-broken : first_in (weights 1 1 5) broken ≡ Some 6
unfolding debouncing
first-broken = refl

shown-broken : shown (weights 1 1 5) broken ≡ 1 ∷ 2 ∷ 3 ∷ 4 ∷ 3 ∷ 4 ∷ 5 ∷ []
unfolding debouncing
shown-broken = refl

first-five_bad : first_in (weights 1 1 5) five_bad ≡ Some 4
unfolding debouncing
first-five_bad = refl

first-five_good : first_in (weights 1 1 5) five_good ≡ None
unfolding debouncing
first-five_good = refl

-- good feeds before count for nothing
first-good_bad : first_in (weights 1 1 5) (five_good ++ five_bad) ≡ Some 9
unfolding debouncing
first-good_bad = refl

-- good feeds after change nothing
shown-bad_good : shown (weights 1 1 5) (five_bad ++ five_good) ≡ 1 ∷ 2 ∷ 3 ∷ 4 ∷ 5 ∷ 5 ∷ 5 ∷ []
unfolding debouncing
shown-bad_good = refl

first-steep : first_in (weights 2 1 10) five_bad ≡ Some 4
unfolding debouncing
first-steep = refl

-- the counter is cut at the limit
shown-cut : shown (weights 3 2 5) (true ∷ false ∷ false ∷ true ∷ true ∷ true ∷ false ∷ []) ≡ 3 ∷ 1 ∷ 0 ∷ 3 ∷ 5 ∷ 5 ∷ 5 ∷ []
unfolding debouncing
shown-cut = refl
