-- The stores of a run of a module, in their order, and what the words tell still where memory ran out between
-- two of them.
use Rattle.std.specs.Prelude.{◌⊎◌, ℕ, ◌-◌, Bool, ◌==◌, if◌then◌else◌, List, ◌++◌, slice_index, IsTrue}
use Rattle.eg_answer.specs.declared.rules.Rules.{Rules}
use Rattle.eg_answer.specs.declared.modules.TheConstants.{CHECK, DEBOUNCE, REACT}
use Rattle.eg_level2.specs.declared.phase.Phase.{Phase}
use Rattle.eg_level2.specs.declared.words.TheConstants.{PEDAL_COUNTER, PLATE_COUNTER, LOAD_COUNTER, SPEED_COUNTER, TORQUE_COUNTER, LIMP, TRIP, TOKEN, FLOW, LAST, SIGN}
use Rattle.eg_level2.specs.Words.{Words, words_of, in_order, AreMirrored, is_set, start}
use Rattle.eg_level2.specs.Inputs.{Inputs}
use Rattle.eg_level2.specs.Modules.{given_up, feeds_now, debounced, limits, trips, debounce_step, module_step}
use Rattle.eg_level2.specs.Stores.{Store, both, both_where, both_from}

-- ---- where each word has its complement: the values of the words after the run (`after`) ----

-- module 0: the token, the flow, the tick, and the begin of the fold
unfoldable pub check_stores : Words → List Store
check_stores after =
    both TOKEN after.token ++ (both FLOW after.flow ++ (both LAST after.last ++ both SIGN after.sign))

-- modules 1 to 5: the signal of that number, the token and the fold
unfoldable pub signal_stores : ℕ → Words → List Store
signal_stores number after =
    both number (slice_index (in_order after) number) ++ (both TOKEN after.token ++ both SIGN after.sign)

-- the five counters
unfoldable pub counters_of : Words → List Store
counters_of after =
    both PEDAL_COUNTER after.pedal_counter ++ (both PLATE_COUNTER after.plate_counter
    ++ (both LOAD_COUNTER after.load_counter ++ (both SPEED_COUNTER after.speed_counter
    ++ both TORQUE_COUNTER after.torque_counter)))

-- module 6: where the counters are fed, first the trip and limp, if they are found, so that a counter never
-- stands at its limit without them; then the counters; and the token
unfoldable pub debounced_stores : Bool → Bool → Bool → Words → List Store
debounced_stores feeding trip limit after =
    if feeding
    then both_where trip TRIP 1 ++ (both_where limit LIMP 1 ++ (counters_of after ++ both TOKEN after.token))
    else both TOKEN after.token

-- module 6, by the words before its run: they say whether the counters are fed, and what is found
unfoldable pub debounce_stores : Rules → Phase → Words → List Store
debounce_stores rules phase words =
    let found = debounced rules phase words in
    debounced_stores (feeds_now phase words) (trips found) (limits found) (debounce_step rules phase words)

-- module 7: the token and the flow
unfoldable pub react_stores : Words → List Store
react_stores after = both TOKEN after.token ++ both FLOW after.flow

-- the stores of a run of the module of this number, 0 to 7
unfoldable pub stores_of : Inputs → ℕ → Words → List Store
stores_of inputs number words =
    let after = module_step inputs number words in
    if number == CHECK then check_stores after
    else if number == DEBOUNCE then debounce_stores inputs.rules inputs.phase words
    else if number == REACT then react_stores after
    else signal_stores (number - 1) after

-- ---- all sixteen words, in the order of their numbers ----

-- a reset
unfoldable pub reset_stores : List Store
reset_stores = both_from 0 (in_order start)

-- giving up: the trip goes first, so that after each store a trip stands or a word differs from its
-- complement
unfoldable pub given_up_stores : ℕ → List Store
given_up_stores tick = both TRIP 1 ++ both_from 0 (in_order (given_up tick))

-- ---- what is told ----

-- a trip stands, or a word differs from its complement, so that module 0 will trip
abbrev pub TellsTrip : List ℕ → Type 0
TellsTrip memory = IsTrue (is_set (words_of memory).trip) ⊎ ¬ AreMirrored memory
