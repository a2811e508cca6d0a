-- Beside `Stores`: what only proofs and private functions need.
use Rattle.std.specs.Prelude.{◌≡◌, ℕ, ◌+◌, ◌-◌, Bool, true, ◌&&◌, ◌==◌, if◌then◌else◌, List, ◌++◌, slice_index, Result, OnOk, OnErr, IfOk}
use Rattle.eg_guard.specs.Regions.{region_of}
use Rattle.eg_guard.specs.Memory.{ShownMemory, KeepsMemory}
use Rattle.eg_num.specs.declared.watches.Watches.{Watches}
use Rattle.eg_num.specs.Windows.{WeightParts}
use Rattle.eg_num.specs.Counting.{fed}
use Rattle.eg_sensor.specs.Readings.{used_pedal}
use Rattle.eg_sensor.specs.declared.readings.Readings.{Readings}
use Rattle.eg_torque.specs.Ramp.{ramped}
use Rattle.eg_answer.specs.declared.modules.TheConstants.{PEDAL, PERMITTED, ACTUAL, EXCESS}
use Rattle.eg_answer.specs.Formulas.{permitted_torque, estimated_torque, excess_number, disagreeing_pairs}
use Rattle.eg_answer.specs.Token.{next_token_of}
use Rattle.eg_answer.specs.declared.rules.Rules.{Rules}
use Rattle.eg_level2.specs.declared.words.TheConstants.{PEDAL_COUNTER, PLATE_COUNTER, LOAD_COUNTER, SPEED_COUNTER, TORQUE_COUNTER, LIMP, TRIP, TOKEN, SIGN}
use Rattle.eg_level2.specs.declared.debounce.Fed.{Fed}
use Rattle.eg_level2.specs.declared.debounce.Feeds.{Feeds}
use Rattle.eg_level2.specs.declared.step.Step.{Step}
use Rattle.eg_level2.specs.Words.{Words, named, is_set, word_at, is_level2_own, AreMirrored}
use Rattle.eg_level2.specs.Modules.{written, signed, pedal_bit, plate_bit, load_bit, speed_bit, torque_bit, is_found, no_watches, trips}
use Rattle.eg_level2.specs.Stores.{Store, both, both_where, after_stores, AreFirst}

-- ---- what the modules store ----

-- The signal that a module of number 1 to 5 works out. The permitted torque isn't looked up where a trip
-- stands, since 0 is written then.
unfoldable pub signal_of : Rules → Readings → ℕ → Words → ℕ
signal_of rules readings number words =
    if number == PEDAL then used_pedal readings.pedal (is_set words.limp)
    else if number == PERMITTED
    then (if is_set words.trip then 0
    else ramped rules.fall words.permitted (permitted_torque rules readings words.pedal))
    else if number == ACTUAL then estimated_torque rules readings
    else if number == EXCESS then excess_number rules words.permitted words.actual
    else disagreeing_pairs rules readings

-- a module of number 1 to 5: its signal, the token and the fold
unfoldable pub signalling : ℕ → ℕ → ℕ → ℕ → (ℕ → ℕ) → List Store
signalling number signal test disturbance word =
    both (number - 1) (written (named word) signal disturbance)
    ++ (both TOKEN (next_token_of (word TOKEN) number) ++ both SIGN (signed (named word) test disturbance))

-- a counter after a feed, and whether that feed brings it to its limit
unfoldable pub fed_of : WeightParts → ℕ → Bool → Fed
fed_of weights value bad = record {
  value = fed weights value bad;
  found = is_found true weights value bad;
}

-- all five counters, fed by the words
unfoldable pub feeds_of : Rules → Words → Feeds
feeds_of rules words = record {
  pedal = fed_of rules.pair words.pedal_counter (pedal_bit words);
  plate = fed_of rules.pair words.plate_counter (plate_bit words);
  load = fed_of rules.pair words.load_counter (load_bit words);
  speed = fed_of rules.pair words.speed_counter (speed_bit words);
  torque = fed_of rules.torque words.torque_counter (torque_bit words);
}

-- the watches that are found
unfoldable pub found_of : Feeds → Watches
found_of feeds = record no_watches {
  pedal = feeds.pedal.found;
  plate = feeds.plate.found;
  load = feeds.load.found;
  speed = feeds.speed.found;
  torque = feeds.torque.found;
}

-- all counters stand at 0, and nothing bad is fed: no feed changes one
unfoldable pub is_still : Words → Bool
is_still words =
    words.pairs == 0 && words.excess == 0 && words.pedal_counter == 0 && words.plate_counter == 0
    && words.load_counter == 0 && words.speed_counter == 0 && words.torque_counter == 0

-- the stores of the counters' values
unfoldable pub counting : Feeds → List Store
counting feeds =
    both PEDAL_COUNTER feeds.pedal.value ++ (both PLATE_COUNTER feeds.plate.value
    ++ (both LOAD_COUNTER feeds.load.value ++ (both SPEED_COUNTER feeds.speed.value
    ++ both TORQUE_COUNTER feeds.torque.value)))

-- what module 6 stores where it feeds: the trip and limp, if they are found, the counters and the token
unfoldable pub fed_stores : Feeds → ℕ → List Store
fed_stores feeds token =
    both_where (trips (found_of feeds)) TRIP 1
    ++ (both_where feeds.pedal.found LIMP 1 ++ (counting feeds ++ both TOKEN token))

-- the words outside level 2's own regions, by their addresses
unfoldable pub outside : List ℕ → ℕ → ℕ
outside memory address = if is_level2_own (region_of address) then 0 else slice_index memory address

-- What each of level 2's calls keeps, whatever it answers: the words outside level 2's own regions, what each
-- call keeps of a guarded memory, and where it is done that mirrored words are mirrored.
pub record Keeps {T E : Type 0} (old new : ShownMemory) (result : Result T E) : Type 0 where
  pub outside : outside new.words ≡ outside old.words
  pub memory : KeepsMemory old new result
  pub mirrored : AreMirrored old.words → OnOk result (AreMirrored new.words)

-- A call makes these stores, in their order: all of them where it is done, and where memory ran out those up
-- to some point.
pub record Makes {T E : Type 0} (stores : List Store) (old new : ShownMemory) (result : Result T E) : Type 0
  where
    pub stored : OnOk result (word_at new.words ≡ after_stores stores (word_at old.words))
    pub stopped : OnErr result (AreFirst stores (word_at old.words) (word_at new.words))
    pub keeps : Keeps old new result

-- A run of a module makes these stores, and answers this step where it is done.
pub record RunMakes {E : Type 0} (stores : List Store) (step : Step) (old new : ShownMemory)
    (result : Result Step E) : Type 0 where
  pub makes : Makes stores old new result
  pub answers : IfOk result (λ answer. answer ≡ step)
