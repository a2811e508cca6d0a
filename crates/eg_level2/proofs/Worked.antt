-- Ticks of level 2 that were worked by hand, against the definitions.
use Rattle.std.proofs.Common.{◌≡◌, ℕ, true, false, List, [], ◌∷◌, ◌++◌, refl}
use Rattle.std.specs.Prelude.{fold, map, take, Some, None}
use Rattle.eg_num.specs.Interpolation.{value_at}
use Rattle.eg_num.specs.Counting.{fed}
use Rattle.eg_torque.specs.Permit.{permitted}
use Rattle.eg_torque.specs.Ramp.{ramped}
use Rattle.eg_torque.specs.Excess.{is_excess}
use Rattle.eg_sensor.specs.Readings.{has_bit, sound_readings}
use Rattle.eg_sensor.specs.declared.readings.Readings.{Readings}
use Rattle.eg_answer.specs.Formulas.{permitted_torque, estimated_torque, excess_number, disagreeing_pairs}
use Rattle.eg_answer.specs.Folds.{mixed}
use Rattle.eg_answer.specs.Answers.{pedal_result, permitted_result, estimate_result, excess_result, pairs_result}
use Rattle.eg_answer.specs.Token.{next_token_of}
use Rattle.eg_answer.specs.declared.rules.Rules.{Rules}
use Rattle.eg_answer.specs.declared.questions.Question.{Question}
use Rattle.eg_level2.specs.declared.phase.Phase.{Phase}
use Rattle.eg_level2.specs.declared.phase.Phase.TheVariants.{Quiet, Send, Test, TestOrder}
use Rattle.eg_level2.specs.Phases.{feeds, sends, orders}
use Rattle.eg_level2.specs.Words.{Words, is_set, start, address_of, named, in_order}
use Rattle.eg_level2.specs.Inputs.{Inputs, row_of}
use Rattle.eg_level2.specs.Modules.{feeds_now, opens_now, marked, check_step, written, signed, pedal_step, permitted_step, actual_step, excess_step, pairs_step, pedal_bit, plate_bit, load_bit, speed_bit, torque_bit, counted, is_found, debounced, limits, trips, debounce_step, closed_flow, answers_now, number_of, answer_of, react_step, module_step, answer_after, given_up, found_by, order_after, no_watches, mirror_alone}
use Rattle.eg_level2.specs.Stores.{Store, store, put, both, both_where, both_from, after_stores}
use Rattle.eg_level2.specs.Order.{check_stores, signal_stores, counters_of, debounced_stores, debounce_stores, react_stores, stores_of, reset_stores, given_up_stores}

-- pedals 0, 500, 1000; speeds 800, 3000, 6000
abbrev pub rules : Rules
rules = record {
  permit = record {
    rows = 0 ∷ 500 ∷ 1000 ∷ [];
    columns = 800 ∷ 3000 ∷ 6000 ∷ [];
    values = 200 ∷ 100 ∷ 0 ∷ 1000 ∷ 1200 ∷ 900 ∷ 2000 ∷ 2400 ∷ 1800 ∷ [];
  };
  fall = 65535;
  kt = 2500;
  threshold = 200;
  tolerances = 50 ∷ 50 ∷ 50 ∷ 50 ∷ [];
  pair = record { up = 2; down = 1; limit = 10 };
  torque = record { up = 1; down = 1; limit = 5 };
}

-- all tracks agree, and the row's estimate is an excess; its answer is 8842
abbrev pub question : Question
question = record {
  row = record {
    seed = 4660;
    readings = record {
      pedal = 500 ∷ 500 ∷ [];
      plate = 200 ∷ 800 ∷ [];
      load = 300 ∷ 300 ∷ [];
      speed = 800 ∷ 800 ∷ [];
      raise = 0;
      raise_check = 65535;
    };
    used = 500;
    estimate = 1400;
    allowed = 1000;
  };
  answer = 8842;
}

-- what goes in where the question is asked at a tick
abbrev inputs : Readings → ℕ → Phase → ℕ → Inputs
inputs readings tick phase disturbance = record {
  rules = rules;
  questions = question ∷ question ∷ [];
  readings = readings;
  asked = 2;
  tick = tick;
  phase = phase;
  disturbance = disturbance;
}

-- pedal 0, plate 0, both loads 40, speed 800, no raise
abbrev pub idle : Readings
idle = sound_readings 0 0 (40 ∷ 40 ∷ []) 800 0

-- runs of these modules, in this order, with all that they are made of opened
unfoldable run : Inputs → List ℕ → Words → Words
unfolding value_at permitted ramped is_excess mixed pedal_result permitted_result estimate_result excess_result pairs_result
    next_token_of fed
    is_set row_of permitted_torque estimated_torque excess_number disagreeing_pairs marked check_step written signed pedal_step permitted_step
    actual_step excess_step pairs_step has_bit pedal_bit plate_bit load_bit speed_bit torque_bit counted is_found debounced limits trips debounce_step
    closed_flow answers_now react_step module_step start feeds_now feeds sends
run given numbers words = fold (λ before number. module_step given number before) words numbers

abbrev to_react : List ℕ
to_react = 0 ∷ 1 ∷ 2 ∷ 3 ∷ 4 ∷ 5 ∷ 6 ∷ []

-- the words that a sound tick 0 leaves
abbrev pub after_tick_0 : Words
after_tick_0 = record {
  pedal = 0;
  permitted = 200;
  actual = 100;
  excess = 0;
  pairs = 0;
  pedal_counter = 0;
  plate_counter = 0;
  load_counter = 0;
  speed_counter = 0;
  torque_counter = 0;
  limp = 0;
  trip = 0;
  token = 0;
  flow = 255;
  last = 0;
  sign = 8842;
}

-- modules 0 to 7 at tick 0
tick_0 : run (inputs idle 0 Quiet 0) (to_react ++ 7 ∷ []) start ≡ after_tick_0
unfolding run
tick_0 = refl

-- the same at a send tick, and its answer
sends_0 : run (inputs idle 0 Send 0) (to_react ++ 7 ∷ []) start ≡ after_tick_0
unfolding run
sends_0 = refl

answers_0 : answer_after (inputs idle 0 Send 0) 7 (run (inputs idle 0 Send 0) to_react start) ≡ Some 16720522
unfolding run answer_after answer_of answers_now number_of closed_flow next_token_of is_set sends
answers_0 = refl

-- no answer at another tick, nor from another module
quiet_0 : answer_after (inputs idle 0 Quiet 0) 7 (run (inputs idle 0 Quiet 0) to_react start) ≡ None
unfolding run answer_after answer_of answers_now number_of closed_flow next_token_of is_set sends
quiet_0 = refl

-- ---- several ticks ----

abbrev all : List ℕ
all = to_react ++ 7 ∷ []

-- whole ticks with these readings, without a send tick, in this order
abbrev ticks : Readings → List ℕ → Words
ticks readings numbers = fold (λ before tick. run (inputs readings tick Quiet 0) all before) start numbers

-- two ticks at which level 2 didn't run don't cancel each other
two_gaps : (ticks idle (0 ∷ 2 ∷ 4 ∷ [])).flow ≡ 0x80ff
unfolding run
two_gaps = refl

-- a module that is left out, and one that is disturbed, each spoil the number that is sent
left_out : answer_after (inputs idle 0 Send 0) 7 (run (inputs idle 0 Send 0) (0 ∷ 1 ∷ 2 ∷ 3 ∷ 4 ∷ 5 ∷ []) start) ≡ Some 2164204170
unfolding run answer_after answer_of answers_now number_of closed_flow next_token_of is_set sends
left_out = refl

disturbed : answer_after (inputs idle 0 Send 0) 7 (run (inputs idle 0 Send 0) (4 ∷ 5 ∷ 6 ∷ []) (run (inputs idle 0 Send 1) (3 ∷ []) (run (inputs idle 0 Send 0) (0 ∷ 1 ∷ 2 ∷ []) start)))
    ≡ Some 16720586
unfolding run answer_after answer_of answers_now number_of closed_flow next_token_of is_set sends
disturbed = refl

-- the values of the pedal's tracks differ, 300 and 100
abbrev torn : Readings
torn = record idle { pedal = 300 ∷ 900 ∷ [] }

-- the pedal is found at the fifth such tick, which limits the operation, and from then on the pedal counts as 0
torn_five : ticks torn (0 ∷ 1 ∷ 2 ∷ 3 ∷ 4 ∷ [])
    ≡ record after_tick_0 { pedal = 100; permitted = 360; pairs = 1; pedal_counter = 10; limp = 1; last = 4 }
unfolding run
torn_five = refl

torn_found : found_by (inputs torn 4 Quiet 0) 6 (run (inputs torn 4 Quiet 0) (0 ∷ 1 ∷ 2 ∷ 3 ∷ 4 ∷ 5 ∷ []) (ticks torn (0 ∷ 1 ∷ 2 ∷ 3 ∷ [])))
    ≡ record { mirror = false; pedal = true; plate = false; load = false; speed = false; torque = false; answers = false; start = false }
unfolding run found_by debounced is_found fed is_set pedal_bit plate_bit load_bit speed_bit torque_bit has_bit feeds_now feeds
torn_found = refl

torn_six : (ticks torn (0 ∷ 1 ∷ 2 ∷ 3 ∷ 4 ∷ 5 ∷ [])).pedal ≡ 0
unfolding run
torn_six = refl

-- both loads 500: an estimate of 1250, where 200 is permitted and 200 more are let pass
abbrev heavy : Readings
heavy = record idle { load = 500 ∷ 500 ∷ [] }

-- the torque is found at the fifth such tick; path 1 is ordered open in that tick, and no answer is sent
heavy_five : ticks heavy (0 ∷ 1 ∷ 2 ∷ 3 ∷ 4 ∷ [])
    ≡ record after_tick_0 { actual = 1250; excess = 1; torque_counter = 5; trip = 1; last = 4 }
unfolding run
heavy_five = refl

heavy_order : order_after (inputs heavy 4 Send 0) 7 (run (inputs heavy 4 Send 0) to_react (ticks heavy (0 ∷ 1 ∷ 2 ∷ 3 ∷ []))) ≡ true
unfolding run order_after opens_now is_set orders
heavy_order = refl

heavy_answer : answer_after (inputs heavy 4 Send 0) 7 (run (inputs heavy 4 Send 0) to_react (ticks heavy (0 ∷ 1 ∷ 2 ∷ 3 ∷ []))) ≡ None
unfolding run answer_after answer_of answers_now number_of closed_flow next_token_of is_set sends
heavy_answer = refl

-- after a trip the signals are 0, also where the runs are disturbed
heavy_six : run (inputs heavy 5 Quiet 7) (to_react ++ 7 ∷ []) (ticks heavy (0 ∷ 1 ∷ 2 ∷ 3 ∷ 4 ∷ []))
    ≡ record after_tick_0 { pedal = 0; permitted = 0; actual = 0; torque_counter = 5; trip = 1; last = 5; sign = 23925 }
unfolding run
heavy_six = refl

-- ---- a ramp ----

-- a fall of 50 in a tick
unfoldable ramping : ℕ → Inputs
ramping tick = record (inputs idle tick Quiet 0) { rules = record rules { fall = 50 } }

-- from 1000 the word comes down to 950, where the idle pedal demands 200, and no excess shows
ramp_1 : run (ramping 1) all (record after_tick_0 { permitted = 1000 }) ≡ record after_tick_0 { permitted = 950; last = 1 }
unfolding run ramping
ramp_1 = refl

-- and tick by tick to the demand, which it doesn't fall below
abbrev ramped_down : List ℕ → Words
ramped_down = fold (λ before tick. run (ramping tick) all before) (record after_tick_0 { permitted = 320 })

ramp_down : map (λ n. (ramped_down (take n (1 ∷ 2 ∷ 3 ∷ 4 ∷ []))).permitted) (1 ∷ 2 ∷ 3 ∷ 4 ∷ [])
    ≡ 270 ∷ 220 ∷ 200 ∷ 200 ∷ []
unfolding run ramping
ramp_down = refl

-- from the words of the start on the demand is permitted at once
ramp_start : (run (ramping 0) all start).permitted ≡ 200
unfolding run ramping
ramp_start = refl

-- ---- a test of the shut-off paths ----

-- whole ticks with these readings while the paths are tested, in this order
abbrev tested : Readings → List ℕ → Words
tested readings numbers = fold (λ before tick. run (inputs readings tick Test 0) all before) start numbers

-- the counters aren't fed, so that nothing limits or trips, and the flow goes on
tested_torn : tested torn (0 ∷ 1 ∷ 2 ∷ 3 ∷ 4 ∷ [])
    ≡ record after_tick_0 { pedal = 100; permitted = 360; pairs = 1; last = 4 }
unfolding run
tested_torn = refl

tested_heavy : tested heavy (0 ∷ 1 ∷ 2 ∷ 3 ∷ 4 ∷ []) ≡ record after_tick_0 { actual = 1250; excess = 1; last = 4 }
unfolding run
tested_heavy = refl

-- path 1 is ordered open in the phase for it alone, and no answer is sent in either
tested_orders : map (λ phase. order_after (inputs idle 0 phase 0) 7 (run (inputs idle 0 phase 0) to_react start)) (Quiet ∷ Send ∷ Test ∷ TestOrder ∷ [])
    ≡ false ∷ false ∷ false ∷ true ∷ []
unfolding run order_after opens_now is_set orders
tested_orders = refl

tested_answers : map (λ phase. answer_after (inputs idle 0 phase 0) 7 (run (inputs idle 0 phase 0) to_react start)) (Test ∷ TestOrder ∷ []) ≡ None ∷ None ∷ []
unfolding run answer_after answer_of answers_now number_of closed_flow next_token_of is_set sends
tested_answers = refl

-- ---- a word that differs from its complement ----

-- the words that are given up
abbrev gave_up : Words
gave_up = record after_tick_0 { permitted = 0; actual = 0; trip = 1; token = 1; flow = 33023; sign = 0 }

flip_0 : given_up 0 ≡ gave_up
unfolding given_up
flip_0 = refl

flip_found : mirror_alone ≡ record { mirror = true; pedal = false; plate = false; load = false; speed = false; torque = false; answers = false; start = false }
unfolding mirror_alone no_watches
flip_found = refl

-- the other modules of that tick leave the signals 0, and order path 1 open
flip_later : run (inputs idle 0 Quiet 0) (1 ∷ 2 ∷ 3 ∷ 4 ∷ 5 ∷ 6 ∷ 7 ∷ []) (given_up 0) ≡ record gave_up { token = 0; sign = 11152 }
unfolding run given_up
flip_later = refl

-- ---- the order of the stores ----

-- the numbers of the words that a run stores, complements from 16 on
unfoldable order : Inputs → ℕ → Words → List ℕ
unfolding stores_of check_stores signal_stores counters_of debounced_stores debounce_stores react_stores both both_where store in_order fed has_bit is_set pedal_bit plate_bit load_bit speed_bit torque_bit
    is_found debounced limits trips feeds_now feeds start
order given number words = map (λ (one : Store). one.number) (stores_of given number words)

orders_by_module : map (λ number. order (inputs idle 0 Quiet 0) number start) (0 ∷ 1 ∷ 5 ∷ 7 ∷ [])
    ≡ (12 ∷ 28 ∷ 13 ∷ 29 ∷ 14 ∷ 30 ∷ 15 ∷ 31 ∷ []) ∷ (0 ∷ 16 ∷ 12 ∷ 28 ∷ 15 ∷ 31 ∷ []) ∷ (4 ∷ 20 ∷ 12 ∷ 28 ∷ 15 ∷ 31 ∷ []) ∷ (12 ∷ 28 ∷ 13 ∷ 29 ∷ []) ∷ []
unfolding order
orders_by_module = refl

-- debounce: in a test the token alone; else the counters before it; and before those a trip that is found
order_in_test : order (inputs idle 0 Test 0) 6 start ≡ 12 ∷ 28 ∷ []
unfolding order
order_in_test = refl

order_without_trip : order (inputs idle 0 Quiet 0) 6 start ≡ 5 ∷ 21 ∷ 6 ∷ 22 ∷ 7 ∷ 23 ∷ 8 ∷ 24 ∷ 9 ∷ 25 ∷ 12 ∷ 28 ∷ []
unfolding order
order_without_trip = refl

order_with_trip : order (inputs idle 0 Quiet 0) 6 (record start { pairs = 2; plate_counter = 9 }) ≡ 11 ∷ 27 ∷ 5 ∷ 21 ∷ 6 ∷ 22 ∷ 7 ∷ 23 ∷ 8 ∷ 24 ∷ 9 ∷ 25 ∷ 12 ∷ 28 ∷ []
unfolding order
order_with_trip = refl

-- giving up: the trip stands after one store, and after all of them the words are those that are given up; after
-- those of a reset they are those of the start
trip_first : after_stores (take 1 (given_up_stores 3)) (λ k. 0) 11 ≡ 1
unfolding after_stores given_up_stores both store put
trip_first = refl

all_given_up : named (after_stores (given_up_stores 3) (λ k. 7)) ≡ given_up 3
unfolding named after_stores given_up_stores both_from both store put in_order given_up
all_given_up = refl

all_reset : named (after_stores reset_stores (λ k. 7)) ≡ start
unfolding named after_stores reset_stores both_from both store put in_order start
all_reset = refl

-- ---- where the words stand, in numbers ----

-- the first and the last signal, the first and the last of the other words, and the first and the last complement
places : map address_of (0 ∷ 4 ∷ 5 ∷ 15 ∷ 16 ∷ 31 ∷ []) ≡ 2080 ∷ 2084 ∷ 2096 ∷ 2106 ∷ 2107 ∷ 2122 ∷ []
unfolding address_of
places = refl

-- the words by their names
names : named (λ k. k) ≡ record {
  pedal = 0;
  permitted = 1;
  actual = 2;
  excess = 3;
  pairs = 4;
  pedal_counter = 5;
  plate_counter = 6;
  load_counter = 7;
  speed_counter = 8;
  torque_counter = 9;
  limp = 10;
  trip = 11;
  token = 12;
  flow = 13;
  last = 14;
  sign = 15;
}
unfolding named
names = refl
