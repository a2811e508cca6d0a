-- A debounce counter (C10): one number in place of all the feeds so far.
use Rattle.std.specs.Prelude.{◌≡◌, ℕ, ◌+◌, ◌-◌, ◌==◌, Bool, List, [], ◌∷◌, min, if◌then◌else◌}
use Rattle.eg_num.specs.Windows.{WeightParts, AreWeights, is_confirmed, greatest}

-- C10
unfoldable pub fed : WeightParts → ℕ → Bool → ℕ
fed w value bad =
    if value == w.limit then w.limit else if bad then min w.limit (value + w.up) else value - w.down

-- the number after these feeds, from 0 on
unfoldable pub fed_all : WeightParts → List Bool → ℕ
fed_all w [] = 0
fed_all w (bad ∷ before) = fed w (fed_all w before) bad

-- what the counter holds, by windows (C9): the limit once the bad bit is confirmed, and until then the
-- greatest weight
unfoldable pub counted : WeightParts → List Bool → ℕ
counted w bits = if is_confirmed w bits then w.limit else greatest w bits

abbrev pub StandsFor : WeightParts → ℕ → List Bool → Type 0
StandsFor w value bits = value ≡ counted w bits

-- Claim 31: fed any list from 0, the number stands for that list
abbrev pub CounterLaw : Type 0
CounterLaw = (w : WeightParts) → AreWeights w → (bits : List Bool) → StandsFor w (fed_all w bits) bits
