-- The sixteen words that level 2 keeps in the guarded memory, each with its complement.
use Rattle.std.specs.Prelude.{◌≡◌, ◌≢◌, ℕ, ◌+◌, ◌-◌, ◌<◌, ◌≤◌, Bool, true, false, not, ◌==◌, nat_lt, if◌then◌else◌, List, [], ◌∷◌, slice_index, slice_set}
use Rattle.eg_guard.specs.declared.regions.Region.{Region}
use Rattle.eg_guard.specs.declared.regions.Region.TheVariants.{Results, Protected}
use Rattle.eg_guard.specs.declared.regions.TheConstants.{RESULTS, PROTECTED}
use Rattle.eg_guard.specs.Memory.{AreWords}
use Rattle.eg_answer.specs.declared.rules.Rules.{Rules}
use Rattle.eg_answer.specs.declared.words.TheConstants.{MIRRORED_WORDS, STORED_WORDS}
use Rattle.eg_level2.specs.declared.words.TheConstants.{SIGNALS, PEDAL, PERMITTED, ACTUAL, EXCESS, PAIRS, PEDAL_COUNTER, PLATE_COUNTER, LOAD_COUNTER, SPEED_COUNTER, TORQUE_COUNTER, LIMP, TRIP, TOKEN, FLOW, LAST, SIGN, WHOLE_FLOW}

-- The words by their names: the five signals; the five debounce counters; whether the pedal is limited, and
-- whether a trip came; and what tells that level 2 ran: the token, the high word of the next answer, the last
-- tick at which module 0 ran, and the fold so far.
pub record Words : Type 0 where
  pub pedal : ℕ
  pub permitted : ℕ
  pub actual : ℕ
  pub excess : ℕ
  pub pairs : ℕ
  pub pedal_counter : ℕ
  pub plate_counter : ℕ
  pub load_counter : ℕ
  pub speed_counter : ℕ
  pub torque_counter : ℕ
  pub limp : ℕ
  pub trip : ℕ
  pub token : ℕ
  pub flow : ℕ
  pub last : ℕ
  pub sign : ℕ

-- ---- where they stand ----

-- The table of places. The words have the numbers 0 to 15, in the order of their names, and the complement of
-- a word has its number and 16 more. The first five, the signals, stand among the results, all else in the
-- protected region.
unfoldable pub address_of : ℕ → ℕ
address_of number = if nat_lt number SIGNALS then RESULTS + number else PROTECTED + (number - SIGNALS)

-- the word of that number in a memory, and from 16 on the complement
unfoldable pub word_at : List ℕ → ℕ → ℕ
word_at memory number = slice_index memory (address_of number)

-- words that are given by their numbers, under their names
unfoldable pub named : (ℕ → ℕ) → Words
named word = record {
  pedal = word PEDAL;
  permitted = word PERMITTED;
  actual = word ACTUAL;
  excess = word EXCESS;
  pairs = word PAIRS;
  pedal_counter = word PEDAL_COUNTER;
  plate_counter = word PLATE_COUNTER;
  load_counter = word LOAD_COUNTER;
  speed_counter = word SPEED_COUNTER;
  torque_counter = word TORQUE_COUNTER;
  limp = word LIMP;
  trip = word TRIP;
  token = word TOKEN;
  flow = word FLOW;
  last = word LAST;
  sign = word SIGN;
}

-- words that are given by their names, in the order of their numbers
unfoldable pub in_order : Words → List ℕ
in_order words =
    words.pedal ∷ words.permitted ∷ words.actual ∷ words.excess ∷ words.pairs
    ∷ words.pedal_counter ∷ words.plate_counter ∷ words.load_counter ∷ words.speed_counter
    ∷ words.torque_counter ∷ words.limp ∷ words.trip ∷ words.token ∷ words.flow ∷ words.last
    ∷ words.sign ∷ []

-- the words that a memory has
abbrev pub words_of : List ℕ → Words
words_of memory = named (word_at memory)

-- every word and its complement add up to 65535
pub record AreMirrored (memory : List ℕ) : Type 0 where
  pub sums : (number : ℕ) → number < MIRRORED_WORDS →
      word_at memory number + word_at memory (number + MIRRORED_WORDS) ≡ 65535

-- The law: where one of the mirrored words changes alone, or one complement alone, they are mirrored no
-- longer.
abbrev pub ChangeLaw : Type 0
ChangeLaw = (memory : List ℕ) (number word : ℕ) → AreWords memory → number < STORED_WORDS →
    AreMirrored memory → word ≢ word_at memory number →
    ¬ AreMirrored (slice_set memory (address_of number) word)

-- the regions that level 2 may change
unfoldable pub is_level2_own : Region → Bool
is_level2_own Results = true
is_level2_own Protected = true
is_level2_own _ = false

-- ---- what they begin with, and what they keep ----

-- a word that says yes or no is set where it isn't 0
unfoldable pub is_set : ℕ → Bool
is_set word = not (word == 0)

-- the words after a reset: as if module 0 had last run just before tick 0
unfoldable pub start : Words
start = record {
  pedal = 0;
  permitted = 0;
  actual = 0;
  excess = 0;
  pairs = 0;
  pedal_counter = 0;
  plate_counter = 0;
  load_counter = 0;
  speed_counter = 0;
  torque_counter = 0;
  limp = 0;
  trip = 0;
  token = 0;
  flow = WHOLE_FLOW;
  last = 65535;
  sign = 0;
}

-- no counter has passed its limit
pub record AreWithin (rules : Rules) (words : Words) : Type 0 where
  pub pedal : words.pedal_counter ≤ rules.pair.limit
  pub plate : words.plate_counter ≤ rules.pair.limit
  pub load : words.load_counter ≤ rules.pair.limit
  pub speed : words.speed_counter ≤ rules.pair.limit
  pub torque : words.torque_counter ≤ rules.torque.limit
