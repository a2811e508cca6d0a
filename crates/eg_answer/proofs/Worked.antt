-- Four questions with their results, the folds on the way and the numbers that are expected, the counts of level 2's
-- words and what they feed, the token of a tick, a worst-case reaction, bounds for lapses and distances of misses, computed from the definitions.
use Rattle.std.proofs.Common.{◌≡◌, ℕ, ◌≤◌, ◌<◌, true, false, ◌∷◌, List, [], map, take, reverse, refl, arith}
use Rattle.eg_num.specs.Windows.{WeightParts}
use Rattle.eg_num.specs.Interpolation.{value_at}
use Rattle.eg_sensor.specs.Readings.{has_bit}
use Rattle.eg_torque.specs.Permit.{permitted}
use Rattle.eg_torque.specs.Excess.{is_excess}
use Rattle.eg_answer.specs.Folds.{mixed, fold_of}
use Rattle.eg_answer.specs.Formulas.{permitted_torque, estimated_torque, excess_number, disagreeing_pairs}
use Rattle.eg_answer.specs.Feeds.{pedal_feed, plate_feed, load_feed, speed_feed, torque_feed}
use Rattle.eg_answer.specs.Modules.{modules_before_react, modules}
use Rattle.eg_answer.specs.Answers.{pedal_result, permitted_result, estimate_result, excess_result, pairs_result, results_of, expected_of, answer_number}
use Rattle.eg_answer.specs.Token.{next_token_of, token_after}
use Rattle.eg_answer.specs.Times.{TimeParts, feeds_to_confirm, reaction_of, test_ticks_of, periods_to_confirm, worth_of, rounds_to_confirm, lapse_periods, lapse_bound_of, HasLapseBound, rights_between, most_wrong, further_ticks, longest_missed_of, periods_between_misses, miss_spacing_of, silent_misses_of, HasMissSpacing}
use Rattle.eg_answer.specs.declared.words.TheConstants.{MIRRORED_WORDS, STORED_WORDS}
use Rattle.eg_answer.specs.declared.rules.Rules.{Rules}
use Rattle.eg_answer.specs.declared.rules.TestRow.{TestRow}

-- every definition that these rows need
unfoldable answering : ℕ
unfolding value_at permitted is_excess permitted_torque estimated_torque excess_number disagreeing_pairs mixed fold_of pedal_result permitted_result estimate_result excess_result pairs_result
    results_of expected_of answer_number next_token_of token_after modules_before_react modules feeds_to_confirm reaction_of test_ticks_of
    periods_to_confirm worth_of rounds_to_confirm lapse_periods lapse_bound_of rights_between most_wrong further_ticks longest_missed_of periods_between_misses miss_spacing_of silent_misses_of
answering = 0

-- pedals 0, 500, 1000; speeds 800, 3000, 6000
abbrev small : Rules
small = record {
  permit = record {
    rows = 0 ∷ 500 ∷ 1000 ∷ [];
    columns = 800 ∷ 3000 ∷ 6000 ∷ [];
    values = 200 ∷ 100 ∷ 0 ∷ 1000 ∷ 1200 ∷ 900 ∷ 2000 ∷ 2400 ∷ 1800 ∷ [];
  };
  fall = 65535;
  kt = 2500;
  threshold = 200;
  tolerances = 50 ∷ 50 ∷ 50 ∷ 50 ∷ [];
  pair = record { up = 2; down = 1; limit = 10 };
  torque = record { up = 1; down = 1; limit = 5 };
}

abbrev test_row : ℕ → List ℕ → List ℕ → List ℕ → List ℕ → ℕ → ℕ → ℕ → ℕ → ℕ → TestRow
test_row seed pedal plate load speed raise check used estimate allowed = record {
  seed = seed;
  readings = record { pedal = pedal; plate = plate; load = load; speed = speed; raise = raise; raise_check = check };
  used = used;
  estimate = estimate;
  allowed = allowed;
}

-- all tracks agree, and the row's estimate is an excess
abbrev row0 : TestRow
row0 = test_row 4660 (500 ∷ 500 ∷ []) (200 ∷ 800 ∷ []) (300 ∷ 300 ∷ []) (800 ∷ 800 ∷ []) 0 65535 500 1400 1000

-- the loads disagree, and the higher one is on track 2
abbrev row1 : TestRow
row1 = test_row 42435 (1000 ∷ 0 ∷ []) (0 ∷ 1000 ∷ []) (40 ∷ 120 ∷ []) (3000 ∷ 3000 ∷ []) 0 65535 1000 400 200

-- the plates disagree, the raise counts, and the numbers are near the end of a word
abbrev row2 : TestRow
row2 = test_row 3855 (250 ∷ 700 ∷ []) (100 ∷ 960 ∷ []) (500 ∷ 490 ∷ []) (1900 ∷ 1900 ∷ []) 600 64935 0 65535 65334

-- pedals and speeds disagree, the lower one is on track 2, and the raise's check word is wrong
abbrev row3 : TestRow
row3 = test_row 32769 (1000 ∷ 200 ∷ []) (1000 ∷ 0 ∷ []) (0 ∷ 0 ∷ []) (800 ∷ 6000 ∷ []) 300 300 750 0 0

-- the folds after one result, after two, and so on
abbrev folds : TestRow → List ℕ
unfolding answering
folds r = map (λ n. fold_of r.seed (take n (results_of small r))) (1 ∷ 2 ∷ 3 ∷ 4 ∷ 5 ∷ [])

results-row0 : results_of small row0 ≡ 500 ∷ 1000 ∷ 750 ∷ 1 ∷ 0 ∷ []
unfolding answering
results-row0 = refl

folds-row0 : folds row0 ≡ 36948 ∷ 33100 ∷ 2186 ∷ 17489 ∷ 8842 ∷ []
unfolding answering
folds-row0 = refl

results-row1 : results_of small row1 ≡ 1000 ∷ 2400 ∷ 300 ∷ 0 ∷ 4 ∷ []
unfolding answering
results-row1 = refl

folds-row1 : folds row1 ≡ 11765 ∷ 26313 ∷ 14183 ∷ 47929 ∷ 55753 ∷ []
unfolding answering
folds-row1 = refl

results-row2 : results_of small row2 ≡ 250 ∷ 600 ∷ 1250 ∷ 1 ∷ 2 ∷ []
unfolding answering
results-row2 = refl

folds-row2 : folds row2 ≡ 30850 ∷ 50763 ∷ 14012 ∷ 46560 ∷ 44807 ∷ []
unfolding answering
folds-row2 = refl

results-row3 : results_of small row3 ≡ 800 ∷ 1350 ∷ 0 ∷ 0 ∷ 9 ∷ []
unfolding answering
results-row3 = refl

folds-row3 : folds row3 ≡ 812 ∷ 7206 ∷ 57648 ∷ 2439 ∷ 19505 ∷ []
unfolding answering
folds-row3 = refl

-- the answers, and the number that is expected for the first
answers : map (expected_of small) (row0 ∷ row1 ∷ row2 ∷ row3 ∷ []) ≡ 8842 ∷ 55753 ∷ 44807 ∷ 19505 ∷ []
unfolding answering
answers = refl

number : answer_number (expected_of small row0) ≡ 16720522
unfolding answering
number = refl

-- an estimate that ties with what is allowed is no excess
tie : excess_result small (test_row 0 (0 ∷ 0 ∷ []) (0 ∷ 0 ∷ []) (0 ∷ 0 ∷ []) (0 ∷ 0 ∷ []) 0 0 0 1200 1000) ≡ 0
unfolding answering
tie = refl

-- the words of level 2, and those with their complements
counts : MIRRORED_WORDS ∷ STORED_WORDS ∷ [] ≡ 16 ∷ 32 ∷ []
counts = refl

-- a word of 21 feeds pedal, load and torque: its bits are 1, 4, and 16, which doesn't count
feeds : map (λ feed. feed 21) (pedal_feed ∷ plate_feed ∷ load_feed ∷ speed_feed ∷ torque_feed ∷ []) ≡ true ∷ false ∷ true ∷ false ∷ true ∷ []
unfolding has_bit
feeds = refl

-- the token of a tick, after each number of modules
tokens : map token_after ([] ∷ (0 ∷ []) ∷ (1 ∷ 0 ∷ []) ∷ reverse modules ∷ []) ≡ 0 ∷ 1 ∷ 3 ∷ 255 ∷ []
unfolding answering
tokens = refl

-- one module left out, two in the other order, one twice
lost : map token_after ((1 ∷ []) ∷ (0 ∷ 1 ∷ []) ∷ (0 ∷ 0 ∷ []) ∷ []) ≡ 32768 ∷ 32768 ∷ 32768 ∷ []
unfolding answering
lost = refl

abbrev times : ℕ → TimeParts
times up = record { period = 10; first = 4; last = 7; send = 5; weights = record { up = up; down = 1; limit = 9 } }

-- three wrong verdicts confirm, and so do five where the limit is no multiple
reaction-3 : reaction_of (times 3) ≡ 34
unfolding answering
reaction-3 = refl

reaction-2 : reaction_of (times 2) ≡ 54
unfolding answering
reaction-2 = refl

test-3 : test_ticks_of (times 3) ≡ 30
unfolding answering
test-3 = refl

test-2 : test_ticks_of (times 2) ≡ 50
unfolding answering
test-2 = refl

-- the weights of an excess, in which each counts 1 up and 1 down
abbrev torque : ℕ → WeightParts
torque limit = record { up = 1; down = 1; limit = limit }

-- five runs fill one period, so no verdict of it is right, and three rounds confirm
lapse-5 : lapse_bound_of (torque 5) (times 3) ≡ 50
unfolding answering
lapse-5 = refl

-- 25 runs fill three periods: two right verdicts leave 1 of 3, and nine rounds of three confirm
lapse-25 : map (λ f. f (torque 25) (times 3)) (periods_to_confirm ∷ worth_of ∷ rounds_to_confirm ∷ lapse_periods ∷ lapse_bound_of ∷ []) ≡ 3 ∷ 1 ∷ 9 ∷ 28 ∷ 290 ∷ []
unfolding answering
lapse-25 = refl

-- a hundred runs fill ten periods: nine right verdicts outweigh a wrong one
lapse-100 : ¬ HasLapseBound (torque 100) (times 3)
unfolding answering
lapse-100 h = absurd (omega (arith, h))

-- the longest excess under lapses, with runs that confirm below the period, at it, one above and further above:
-- twelve leave room for one right verdict, and then a limit of 9 takes four wrong ones (by threes, less 1)
missed-worked : map (λ runs. longest_missed_of (torque runs) (times 3)) (1 ∷ 5 ∷ 10 ∷ 11 ∷ 12 ∷ 22 ∷ 32 ∷ []) ≡ 34 ∷ 38 ∷ 43 ∷ 44 ∷ 54 ∷ 64 ∷ 74 ∷ []
unfolding answering
missed-worked = refl

-- the second bound is the lower one where a right verdict takes much: after two wrong verdicts, and a right one that
-- takes 100 away, three confirm
missed-second : longest_missed_of (torque 12) (record { period = 10; first = 2; last = 7; send = 5; weights = record { up = 3; down = 100; limit = 9 } }) ≡ 64
unfolding answering
missed-second = refl

-- two wrong verdicts add six of nine: where a right one takes two, three of them and so four periods of seven
-- ticks and a tick are enough; where it takes four, two of them are
abbrev sevens : ℕ → TimeParts
sevens down = record { period = 7; first = 1; last = 4; send = 3; weights = record { up = 3; down = down; limit = 9 } }

spacing-2 : (periods_between_misses (sevens 2)) ∷ miss_spacing_of (sevens 2) ∷ [] ≡ 4 ∷ 29 ∷ []
unfolding answering
spacing-2 = refl

spacing-4 : (periods_between_misses (sevens 4)) ∷ miss_spacing_of (sevens 4) ∷ [] ≡ 3 ∷ 22 ∷ []
unfolding answering
spacing-4 = refl

-- one miss adds six of nine at the most, and two may add the limit
silent-2 : silent_misses_of (sevens 2) ≡ 1
unfolding answering
silent-2 = refl

-- there is no distance where right verdicts take nothing, and none where two wrong ones add the whole limit
spacing-0 : ¬ HasMissSpacing (sevens 0)
spacing-0 h = absurd (let f : 1 ≤ 0 = h.some_taken in omega arith)

spacing-tie : ¬ HasMissSpacing (record { period = 7; first = 1; last = 4; send = 3; weights = record { up = 3; down = 1; limit = 6 } })
spacing-tie h = absurd (let f : 6 < 6 = h.two_are_few in omega arith)
