-- The times of the answers (C33), and the numbers of ticks that follow from them: the worst-case reaction
-- (C35), the bound for lapses (C71), the longest excess under lapses (C103), and the spacing of misses
-- (C73).
use Rattle.std.specs.Prelude.{◌≡◌, ℕ, ◌+◌, ◌*◌, ◌-◌, ◌/◌, ◌≤◌, ◌<◌, min}
use Rattle.eg_num.specs.Arithmetic.{quotient_up}
use Rattle.eg_num.specs.Windows.{WeightParts}

-- ticks of a period; first and last place of the window; the send tick's place; weights of the verdicts
pub record TimeParts : Type 0 where
  pub period : ℕ
  pub first : ℕ
  pub last : ℕ
  pub send : ℕ
  pub weights : WeightParts

-- the send tick lies inside the window, and the window inside the period
pub record AreTimes (t : TimeParts) : Type 0 where
  pub shortest : 2 ≤ t.period
  pub longest : t.period ≤ 100
  pub from_first : t.first ≤ t.send
  pub to_last : t.send ≤ t.last
  pub inside : t.last < t.period

-- The number of bad feeds in a row that confirm (C11): N by the weights of the answers, D by those of the
-- torque.
unfoldable pub feeds_to_confirm : WeightParts → ℕ
feeds_to_confirm w = quotient_up w.limit w.up

-- R (C35). It counts the ticks from the first one at which no answer is right any more, which is at worst
-- the tick after a send tick, to the first one at which path 2 is open.
unfoldable pub reaction_of : TimeParts → ℕ
reaction_of t = (feeds_to_confirm t.weights + 1) * t.period - t.send - 1

-- W: the number of the tick of a start-up test at which path 2 is open (C36, C41), counted from 0
unfoldable pub test_ticks_of : TimeParts → ℕ
test_ticks_of t = feeds_to_confirm t.weights * t.period

-- ---- the bound for lapses (C71) ----

-- `C` of C71: the periods that the D runs of level 2 fill. A right verdict takes the runs of a whole period,
-- so fewer verdicts than this are right before an excess is confirmed.
unfoldable pub periods_to_confirm : WeightParts → TimeParts → ℕ
periods_to_confirm torque times = quotient_up (feeds_to_confirm torque) times.period

-- one wrong verdict adds more than the right ones of C verdicts take
abbrev pub HasLapseBound : WeightParts → TimeParts → Type 0
HasLapseBound torque times = (periods_to_confirm torque times - 1) * times.weights.down < times.weights.up

-- the least weight of C verdicts in a row of which one or more are wrong
unfoldable pub worth_of : WeightParts → TimeParts → ℕ
worth_of torque times = times.weights.up - (periods_to_confirm torque times - 1) * times.weights.down

-- the rounds of C verdicts that confirm, if each has a wrong one
unfoldable pub rounds_to_confirm : WeightParts → TimeParts → ℕ
rounds_to_confirm torque times = quotient_up times.weights.limit (worth_of torque times)

-- The whole periods of excess after which a path is open: those of the rounds, and one before them, whose
-- verdict may be right by runs from before the excess.
unfoldable pub lapse_periods : WeightParts → TimeParts → ℕ
lapse_periods torque times = rounds_to_confirm torque times * periods_to_confirm torque times + 1

-- The bound in ticks: wherever so many ticks in a row begin, they contain those periods and a tick after
-- them.
unfoldable pub lapse_bound_of : WeightParts → TimeParts → ℕ
lapse_bound_of torque times = (lapse_periods torque times + 1) * times.period

-- ---- the longest excess under lapses (C103) ----

-- The most right verdicts between wrong ones in a stretch that isn't confirmed. A right verdict takes a
-- period of level 2's runs, and the wrong answer before it takes one run.
unfoldable pub rights_between : WeightParts → TimeParts → ℕ
rights_between torque times = (feeds_to_confirm torque - 2) / times.period

-- The most wrong verdicts that a counter takes with so many right ones between them, the confirming one
-- counted. Up to the last one the counter is below the limit, and fewer in a row than confirm stand before
-- each right one.
unfoldable pub most_wrong : WeightParts → ℕ → ℕ
most_wrong w rights =
    min ((w.limit - 1 + rights * w.down) / w.up + 1)
    (feeds_to_confirm w + rights * (feeds_to_confirm w - 1))

-- the ticks of the periods whose wrong verdicts a counter takes beyond those that confirm in a row
unfoldable pub further_ticks : WeightParts → TimeParts → ℕ
further_ticks torque times =
    (most_wrong times.weights (rights_between torque times) - feeds_to_confirm times.weights) * times.period

-- the number of `missed`: D - 1, R and those further ticks, less 1 if there are any
unfoldable pub longest_missed_of : WeightParts → TimeParts → ℕ
longest_missed_of torque times =
    feeds_to_confirm torque - 1 + reaction_of times + (further_ticks torque times - 1)

-- ---- misses after which wrong answers never cut (C73) ----

-- There is a spacing: two wrong verdicts in a row, the most that one missed run spoils, don't confirm, and a
-- right verdict takes something back.
pub record HasMissSpacing (times : TimeParts) : Type 0 where
  pub two_are_few : 2 * times.weights.up < times.weights.limit
  pub some_taken : 1 ≤ times.weights.down

-- With so many periods between two misses, the right verdicts between them, one less than these periods,
-- take back what the two wrong ones add.
abbrev pub TakesBack : TimeParts → ℕ → Type 0
TakesBack times periods = 2 * times.weights.up ≤ (periods - 1) * times.weights.down

-- the ticks are whole periods and one tick more, and enough of them to take that back
pub record TakesBackWithin (times : TimeParts) (ticks : ℕ) : Type 0 where
  pub periods : ℕ
  pub are : ticks ≡ periods * times.period + 1
  pub enough : TakesBack times periods

-- the least number of periods that take that back
unfoldable pub periods_between_misses : TimeParts → ℕ
periods_between_misses times = quotient_up (2 * times.weights.up) times.weights.down + 1

-- the number of `spacing`
unfoldable pub miss_spacing_of : TimeParts → ℕ
miss_spacing_of times = periods_between_misses times * times.period + 1

-- the number of misses that add less than the limit, wherever they lie
unfoldable pub silent_misses_of : TimeParts → ℕ
silent_misses_of times = (times.weights.limit - 1) / (2 * times.weights.up)
