-- The eight modules of level 2: what one run of a module makes of the words, what it answers and orders, and
-- which watches it finds. Each word after the run is one formula over the words before it.
use Rattle.std.specs.Prelude.{ℕ, ◌+◌, ◌*◌, ◌%◌, Bool, true, false, not, ◌&&◌, ◌||◌, ◌==◌, nat_lt, if◌then◌else◌, bit_or, bit_xor, Option, Some, None}
use Rattle.eg_num.specs.Windows.{WeightParts}
use Rattle.eg_num.specs.Counting.{fed}
use Rattle.eg_num.specs.declared.watches.Watches.{Watches}
use Rattle.eg_sensor.specs.Readings.{used_pedal}
use Rattle.eg_sensor.specs.declared.readings.Readings.{Readings}
use Rattle.eg_torque.specs.Ramp.{ramped}
use Rattle.eg_answer.specs.declared.modules.TheConstants.{CHECK, PEDAL, PERMITTED, ACTUAL, EXCESS, PAIRS, DEBOUNCE, REACT}
use Rattle.eg_answer.specs.declared.rules.Rules.{Rules}
use Rattle.eg_answer.specs.declared.rules.TestRow.{TestRow}
use Rattle.eg_answer.specs.Answers.{pedal_result, permitted_result, estimate_result, excess_result, pairs_result}
use Rattle.eg_answer.specs.Feeds.{pedal_feed, plate_feed, load_feed, speed_feed, torque_feed}
use Rattle.eg_answer.specs.Folds.{mixed}
use Rattle.eg_answer.specs.Formulas.{permitted_torque, estimated_torque, excess_number, disagreeing_pairs}
use Rattle.eg_answer.specs.Token.{next_token_of}
use Rattle.eg_level2.specs.declared.phase.Phase.{Phase}
use Rattle.eg_level2.specs.declared.step.Step.{Step}
use Rattle.eg_level2.specs.declared.words.TheConstants.{WHOLE_FLOW, BROKEN_FLOW}
use Rattle.eg_level2.specs.Words.{Words, is_set}
use Rattle.eg_level2.specs.Inputs.{Inputs, row_of}
use Rattle.eg_level2.specs.Phases.{feeds, sends, orders}

-- the high word of an answer with the mark that the program flow was broken
unfoldable pub marked : ℕ → ℕ
marked flow = bit_or flow BROKEN_FLOW

-- ---- module 0, check ----

-- Where each word has its complement, module 0 moves the token, marks the flow where its last run wasn't at
-- the tick before, notes the tick, and begins the fold with the seed of the question.
unfoldable pub check_step : ℕ → ℕ → Words → Words
check_step seed tick words = record words {
  token = next_token_of words.token CHECK;
  flow = if (words.last + 1) % 65536 == tick then words.flow else marked words.flow;
  last = tick;
  sign = seed;
}

-- Where a word differs from its complement, all words are given up: a trip stands, and the flow is marked.
unfoldable pub given_up : ℕ → Words
given_up tick = record {
  pedal = 0;
  permitted = 0;
  actual = 0;
  excess = 0;
  pairs = 0;
  pedal_counter = 0;
  plate_counter = 0;
  load_counter = 0;
  speed_counter = 0;
  torque_counter = 0;
  limp = 0;
  trip = 1;
  token = 1;
  flow = 0x80ff;
  last = tick;
  sign = 0;
}

-- ---- modules 1 to 5: a signal each, and the result of the question's row into the fold ----

-- the signal is disturbed on its way, and it is 0 where a trip stands
unfoldable pub written : Words → ℕ → ℕ → ℕ
written words signal disturbance = if is_set words.trip then 0 else bit_xor signal disturbance

-- the fold with one result more, which is disturbed too, even where a trip stands
unfoldable pub signed : Words → ℕ → ℕ → ℕ
signed words result disturbance = bit_xor (mixed words.sign result) disturbance

-- module 1, pedal: the lower of the two pedal values, and 0 in limited operation
unfoldable pub pedal_step : Readings → TestRow → ℕ → Words → Words
pedal_step readings row disturbance words = record words {
  pedal = written words (used_pedal readings.pedal (is_set words.limp)) disturbance;
  token = next_token_of words.token PEDAL;
  sign = signed words (pedal_result row) disturbance;
}

-- module 2, permitted torque: what the pedal word, and the speeds and the raise that are read, demand, or
-- down the ramp from the word for the permitted torque as it stands
unfoldable pub permitted_step : Rules → Readings → TestRow → ℕ → Words → Words
permitted_step rules readings row disturbance words = record words {
  permitted = written words
      (ramped rules.fall words.permitted (permitted_torque rules readings words.pedal)) disturbance;
  token = next_token_of words.token PERMITTED;
  sign = signed words (permitted_result rules row) disturbance;
}

-- module 3, actual torque: the estimate of the higher of the two loads
unfoldable pub actual_step : Rules → Readings → TestRow → ℕ → Words → Words
actual_step rules readings row disturbance words = record words {
  actual = written words (estimated_torque rules readings) disturbance;
  token = next_token_of words.token ACTUAL;
  sign = signed words (estimate_result rules row) disturbance;
}

-- module 4, excess: whether the actual torque exceeds the permitted torque, by the words
unfoldable pub excess_step : Rules → TestRow → ℕ → Words → Words
excess_step rules row disturbance words = record words {
  excess = written words (excess_number rules words.permitted words.actual) disturbance;
  token = next_token_of words.token EXCESS;
  sign = signed words (excess_result rules row) disturbance;
}

-- module 5, pairs of sensors: the bits of those that disagree
unfoldable pub pairs_step : Rules → Readings → TestRow → ℕ → Words → Words
pairs_step rules readings row disturbance words = record words {
  pairs = written words (disagreeing_pairs rules readings) disturbance;
  token = next_token_of words.token PAIRS;
  sign = signed words (pairs_result rules row) disturbance;
}

-- ---- module 6, debounce ----

-- what each of the five debouncers is fed with, of the words
unfoldable pub pedal_bit : Words → Bool
pedal_bit words = pedal_feed words.pairs

unfoldable pub plate_bit : Words → Bool
plate_bit words = plate_feed words.pairs

unfoldable pub load_bit : Words → Bool
load_bit words = load_feed words.pairs

unfoldable pub speed_bit : Words → Bool
speed_bit words = speed_feed words.pairs

unfoldable pub torque_bit : Words → Bool
torque_bit words = torque_feed words.excess

-- the counters are fed: not in a test, and not where a trip stands
unfoldable pub feeds_now : Phase → Words → Bool
feeds_now phase words = feeds phase && not (is_set words.trip)

-- a counter after the run, where the counters are fed or aren't
unfoldable pub counted : Bool → WeightParts → ℕ → Bool → ℕ
counted feeding weights value bad = if feeding then fed weights value bad else value

-- the watch of a counter is found: the feed brings the counter to its limit, for the first time
unfoldable pub is_found : Bool → WeightParts → ℕ → Bool → Bool
is_found feeding weights value bad =
    feeding && (nat_lt value weights.limit && fed weights value bad == weights.limit)

-- the watches that module 6 finds
unfoldable pub debounced : Rules → Phase → Words → Watches
debounced rules phase words =
    let feeding = feeds_now phase words in
    record {
      mirror = false;
      pedal = is_found feeding rules.pair words.pedal_counter (pedal_bit words);
      plate = is_found feeding rules.pair words.plate_counter (plate_bit words);
      load = is_found feeding rules.pair words.load_counter (load_bit words);
      speed = is_found feeding rules.pair words.speed_counter (speed_bit words);
      torque = is_found feeding rules.torque words.torque_counter (torque_bit words);
      answers = false;
      start = false;
    }

-- the watch of the pedal limits the operation where it is found
unfoldable pub limits : Watches → Bool
limits found = found.pedal

-- each of the other four watches trips where it is found
unfoldable pub trips : Watches → Bool
trips found = found.plate || found.load || found.speed || found.torque

-- Module 6 feeds the counters, sets limp and trip by what is found, and moves the token.
unfoldable pub debounce_step : Rules → Phase → Words → Words
debounce_step rules phase words =
    let feeding = feeds_now phase words in
    record words {
      pedal_counter = counted feeding rules.pair words.pedal_counter (pedal_bit words);
      plate_counter = counted feeding rules.pair words.plate_counter (plate_bit words);
      load_counter = counted feeding rules.pair words.load_counter (load_bit words);
      speed_counter = counted feeding rules.pair words.speed_counter (speed_bit words);
      torque_counter = counted feeding rules.torque words.torque_counter (torque_bit words);
      limp = if limits (debounced rules phase words) then 1 else words.limp;
      trip = if trips (debounced rules phase words) then 1 else words.trip;
      token = next_token_of words.token DEBOUNCE;
    }

-- ---- module 7, react ----

-- the high word of the answer: marked where the token isn't whole once it has been moved
unfoldable pub closed_flow : Words → ℕ
closed_flow words = if next_token_of words.token REACT == 255 then words.flow else marked words.flow

-- path 1 is ordered open where a trip stands, and in the phase `TestOrder`
unfoldable pub opens_now : Phase → Words → Bool
opens_now phase words = is_set words.trip || orders phase

-- an answer is sent in the phase `Send`, but never where a trip stands
unfoldable pub answers_now : Phase → Words → Bool
answers_now phase words = sends phase && not (is_set words.trip)

-- the number that is sent: the flow in the high word, the fold in the low word
unfoldable pub number_of : Words → ℕ
number_of words = closed_flow words * 65536 + words.sign

-- the answer, if one is sent
unfoldable pub answer_of : Phase → Words → Option ℕ
answer_of phase words = if answers_now phase words then Some (number_of words) else None

-- the token begins anew, and after an answer the flow does too
unfoldable pub react_step : Phase → Words → Words
react_step phase words = record words {
  token = 0;
  flow = if answers_now phase words then WHOLE_FLOW else closed_flow words;
}

-- ---- a module by its number ----

-- the words after a run of the module of this number, 0 to 7, where each word had its complement
unfoldable pub module_step : Inputs → ℕ → Words → Words
module_step inputs number words =
    let row = row_of inputs.questions inputs.asked in
    let disturbance = inputs.disturbance in
    if number == CHECK then check_step row.seed inputs.tick words
    else if number == PEDAL then pedal_step inputs.readings row disturbance words
    else if number == PERMITTED then permitted_step inputs.rules inputs.readings row disturbance words
    else if number == ACTUAL then actual_step inputs.rules inputs.readings row disturbance words
    else if number == EXCESS then excess_step inputs.rules row disturbance words
    else if number == PAIRS then pairs_step inputs.rules inputs.readings row disturbance words
    else if number == DEBOUNCE then debounce_step inputs.rules inputs.phase words
    else react_step inputs.phase words

-- the answer that the module sends, if any
unfoldable pub answer_after : Inputs → ℕ → Words → Option ℕ
answer_after inputs number words = if number == REACT then answer_of inputs.phase words else None

-- whether the module orders path 1 open: react does where a trip stands, and in the phase `TestOrder`
unfoldable pub order_after : Inputs → ℕ → Words → Bool
order_after inputs number words = number == REACT && opens_now inputs.phase words

-- no watch is found
unfoldable pub no_watches : Watches
no_watches = record {
  mirror = false;
  pedal = false;
  plate = false;
  load = false;
  speed = false;
  torque = false;
  answers = false;
  start = false;
}

-- what react orders and answers; it finds nothing
unfoldable pub reacted : Phase → Words → Step
reacted phase words = record {
  open_path = opens_now phase words;
  answer = answer_of phase words;
  found = no_watches;
}

-- the watch of the mirrored words alone is found
unfoldable pub mirror_alone : Watches
mirror_alone = record no_watches { mirror = true }

-- the watches that the module finds, where each word had its complement
unfoldable pub found_by : Inputs → ℕ → Words → Watches
found_by inputs number words =
    if number == DEBOUNCE then debounced inputs.rules inputs.phase words else no_watches

-- order, answer and watches, as a run answers them
unfoldable pub step_of : Inputs → ℕ → Words → Step
step_of inputs number words = record {
  open_path = order_after inputs number words;
  answer = answer_after inputs number words;
  found = found_by inputs number words;
}

-- a run that finds these watches and does no more
abbrev pub finding : Watches → Step
finding found = record { open_path = false; answer = None; found = found }

-- a run that finds nothing and does no more
abbrev pub quiet_step : Step
quiet_step = finding no_watches
